-- A loop that gathers 64 sets and counts, turn by turn: what it has after some of its turns.
--     gathered_none, gathered-in, gathered-out     no turn; one that counts and adds permissions to the sets of users; one that does neither
--     gathered-few                                 at most as many turns count as there were
-- Assumes nothing.
use Prim.Native.Nat.{ℕ, ◌+◌, ◌≤◌, ◌<◌}
use mathlib.Core.Path.{◌≡◌, refl, sym, ◌∙◌, ap, ap₂}
use mathlib.Core.Bool.{Bool, true, false, ◌&&◌, ◌||◌, or-false}
use mathlib.Core.List.{List}
use native.Mathlib.Nat.{add-zero}
use lib.ListN.{get_or, replicate, get_or-replicate}
use Rattle.ground.specs.Believed.Choice.{pick}
use Rattle.ground.specs.Believed.Search.{any_below, one, count_below}
use Rattle.ground.specs.Believed.Sequence.{list_of}
use Rattle.ground.proofs.SearchLaws.{any-turn, count_none, count_turn, count_most}
use Rattle.ground.proofs.SequenceLaws.{get-list_of, list_of-same, list_of-is}
use Rattle.bitset.specs.Believed.Sets.{has, set_of, union}
use Rattle.bitset.proofs.SetLaws.{set_of-same}
use Rattle.bitset.proofs.GatherLaws.{gather-start, gather-union}
use Rattle.table_board.specs.Rows.{added}

-- `grant u p k` says that turn k gives permission p to user u, and `on k` that it counts: so much do the first i turns give
pub record Gathered (grant : ℕ → ℕ → ℕ → Bool) (on : ℕ → Bool) (i : ℕ) (rights : List ℕ) (rows : ℕ) : Type 0 where
  pub sets : rights ≡ list_of 64 (λ u. set_of 64 (λ p. any_below i (grant u p)))
  pub count : rows ≡ count_below i on

module _ (grant : ℕ → ℕ → ℕ → Bool) (on : ℕ → Bool) where
  pub gathered_none : Gathered grant on 0 (replicate 64 0) 0
  gathered_none =
      record {
        sets = sym (list_of-is 64 _ (replicate 64 0) 0 refl (λ u l. sym (gather-start _) ∙ sym (get_or-replicate {A = ℕ} 64 u 0 0 l)));
        count = count_none _;
      }

  module _ (i : ℕ) (rights : List ℕ) (rows : ℕ) (g : Gathered grant on i rights rows) where
    pub gathered-few : rows ≤ i
    gathered-few = rw g.count (count_most _ i)

    counted : (b : Bool) → on i ≡ b → rows + one b ≡ count_below (i + 1) on
    counted b h = ap₂ ◌+◌ g.count (ap one (sym h)) ∙ sym (count_turn _ i)

    -- what user u had, and has where the turn gives nothing
    had : (u : ℕ) → u < 64 → get_or rights u 0 ≡ set_of 64 (λ p. any_below i (grant u p))
    had u l = ap (λ (x : List ℕ). get_or x u 0) g.sets ∙ get-list_of 64 _ 0 u l

    kept : (u : ℕ) → ((p : ℕ) → grant u p i ≡ false) → set_of 64 (λ p. any_below i (grant u p)) ≡ set_of 64 (λ p. any_below (i + 1) (grant u p))
    kept u h = set_of-same 64 _ _ (λ p l. sym (any-turn _ i ∙ ap (λ (b : Bool). any_below i (grant u p) || b) (h p) ∙ or-false _))

    pub gathered-out : on i ≡ false → ((u p : ℕ) → grant u p i ≡ false) → Gathered grant on (i + 1) rights rows
    gathered-out off h =
        record { sets = g.sets ∙ list_of-same 64 _ _ (λ u l. kept u (h u)); count = sym (add-zero rows) ∙ counted false off }

    module _ (users permissions : ℕ) (h : (u p : ℕ) → grant u p i ≡ (has users u && has permissions p)) where
      one-user : (u : ℕ) → u < 64
          → pick (has users u) (union (get_or rights u 0) permissions) (get_or rights u 0) ≡ set_of 64 (λ p. any_below (i + 1) (grant u p))
      one-user u l = go (has users u) refl
        where
          by : (b : Bool) → has users u ≡ b → (p : ℕ) → grant u p i ≡ (b && has permissions p)
          by b q p = h u p ∙ ap (λ (c : Bool). c && has permissions p) q

          go : (b : Bool) → has users u ≡ b
              → pick b (union (get_or rights u 0) permissions) (get_or rights u 0) ≡ set_of 64 (λ p. any_below (i + 1) (grant u p))
          go true q = gather-union (grant u) i (get_or rights u 0) _ permissions (had u l) (λ p d. by true q p) refl
          go false q = had u l ∙ kept u (by false q)

      pub gathered-in : on i ≡ true → Gathered grant on (i + 1) (added rights users permissions) (rows + 1)
      unfolding added
      gathered-in e = record { sets = list_of-same 64 _ _ one-user; count = counted true e }
