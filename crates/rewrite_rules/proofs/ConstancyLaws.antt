-- Two minutes of one era with their remainders in one cell: all hours judge them alike, and so does all that is said in terms of hours.
--     dates-alike, pairs-alike, alike                the hours: by their dates, by their pairs, and whole
--     alike-users .. alike-derived, alike-active     the sets that a role has, and the derived role that they make
-- Assumes nothing.
use Prim.Native.Nat.{ℕ, zero, suc, ◌+◌, ◌%◌, zero-le}
use mathlib.Core.Path.{◌≡◌, refl, sym, ap₂, ◌∙◌}
use mathlib.Core.Bool.{◌&&◌, ◌||◌}
use mathlib.Core.List.Memᴰ
use mathlib.Core.List.{List, [], ◌∷◌, Memᴰ}
use lib.ListN.{get_or}
use borrow.Author.Tests.{le-leb, le-ltb}
use Rattle.ground.specs.Believed.Search.{any}
use Rattle.bitset.proofs.SetLaws.{set_of-same}
use Rattle.minutes.specs.Believed.Minutes.{E, within}
use Rattle.hours.specs.Believed.Hours.{Pair, Hours, never, ref_holds}
use Rattle.hours.specs.Inside.{dates_hold, pairs_hold}
use Rattle.hours.proofs.HoldsLaws.{holds_parts}
use Rattle.hours.specs.declared.HoursRef.TheVariants.{Always, Numbered}
use Rattle.rota.specs.Believed.Rota.{Rota}
use Rattle.rota.specs.Alike.{Alike}
use Rattle.rota.proofs.AlikeLaws.{alike-enabled, alike-user, alike-permission}
use Rattle.rewrite_rules.specs.Believed.Cuts.{Gap, gaps}
use Rattle.rewrite_rules.specs.Believed.Rewriting.{hours_cuts, pair_cuts, pairs_cuts, era_cuts, cell_cuts, users_at, permissions_at, derived_at, active}
use Rattle.rewrite_rules.proofs.CutLaws.{Inside, Blind, blind}

-- hours by their dates, and by their pairs at a phase
module _ (x y : ℕ) where
  dates-same : (hs : List Hours) (k : ℕ) → ((z : ℕ) → Memᴰ z (hours_cuts hs) → Blind x y z)
      → dates_hold x (get_or hs k never) ≡ dates_hold y (get_or hs k never)
  unfolding hours_cuts dates_hold
  dates-same [] k f = ap₂ ◌&&◌ (le-leb 0 x zero-le ∙ sym (le-leb 0 y zero-le)) (le-ltb x 0 zero-le ∙ sym (le-ltb y 0 zero-le))
  dates-same (h ∷ hs) zero f = ap₂ ◌&&◌ (f h.begin (Memᴰ.head refl)).0 (f h.end (Memᴰ.tail (Memᴰ.head refl))).1
  dates-same (h ∷ hs) (suc k) f = dates-same hs k (λ z m. f z (Memᴰ.tail (Memᴰ.tail m)))

  spans-same : (ps : List Pair) → ((z : ℕ) → Memᴰ z (pair_cuts ps) → Blind x y z)
      → any (λ (p : Pair). within p.offset (p.offset + p.length) x) ps ≡ any (λ (p : Pair). within p.offset (p.offset + p.length) y) ps
  unfolding pair_cuts any
  spans-same [] f = refl
  spans-same (p ∷ ps) f =
      ap₂ ◌||◌ (ap₂ ◌&&◌ (f p.offset (Memᴰ.head refl)).0 (f (p.offset + p.length) (Memᴰ.tail (Memᴰ.head refl))).1)
      (spans-same ps (λ z m. f z (Memᴰ.tail (Memᴰ.tail m))))

  pairs-same : (hs : List Hours) (k : ℕ) → ((z : ℕ) → Memᴰ z (pairs_cuts hs) → Blind x y z)
      → pairs_hold x (get_or hs k never) ≡ pairs_hold y (get_or hs k never)
  unfolding pairs_cuts pairs_hold
  pairs-same [] k f = unfold any in refl
  pairs-same (h ∷ hs) zero f = spans-same h.pairs (λ z m. f z (Memᴰ.append_left (pairs_cuts hs) m))
  pairs-same (h ∷ hs) (suc k) f = pairs-same hs k (λ z m. f z (Memᴰ.append_right (pair_cuts h.pairs) m))

module _ (ρ : Rota) where
  -- the dates at two minutes of an era, and the pairs at two phases of a cell
  pub dates-alike : (era : Gap) → Memᴰ era (gaps (era_cuts ρ)) → (k s t : ℕ) → Inside era s → Inside era t
      → dates_hold s (get_or ρ.hours k never) ≡ dates_hold t (get_or ρ.hours k never)
  unfolding era_cuts
  dates-alike era m k s t a b = dates-same s t ρ.hours k (λ z w. blind _ era m z (Memᴰ.tail (Memᴰ.tail w)) s t a b)

  pub pairs-alike : (cell : Gap) → Memᴰ cell (gaps (cell_cuts ρ)) → (k x y : ℕ) → Inside cell x → Inside cell y
      → pairs_hold x (get_or ρ.hours k never) ≡ pairs_hold y (get_or ρ.hours k never)
  unfolding cell_cuts
  pairs-alike cell m k x y a b = pairs-same x y ρ.hours k (λ z w. blind _ cell m z (Memᴰ.tail (Memᴰ.tail w)) x y a b)

  pub alike : (era cell : Gap) → Memᴰ era (gaps (era_cuts ρ)) → Memᴰ cell (gaps (cell_cuts ρ)) → (s t : ℕ) → Inside era s
      → Inside era t → Inside cell (s % ρ.cycle) → Inside cell (t % ρ.cycle) → Alike ρ s t
  unfolding era_cuts ref_holds
  alike era cell m n s t a b a' b' Always = (blind _ era m E (Memᴰ.tail (Memᴰ.head refl)) s t a b).1
  alike era cell m n s t a b a' b' (Numbered k) =
      holds_parts _ _ s ∙ ap₂ ◌&&◌ (dates-alike era m k s t a b) (pairs-alike cell n k _ _ a' b') ∙ sym (holds_parts _ _ t)

-- ---- what follows for roles

module _ (ρ : Rota) (s t : ℕ) (same : Alike ρ s t) where
  pub alike-users : (r : ℕ) → users_at ρ r s ≡ users_at ρ r t
  unfolding users_at
  alike-users r = set_of-same ρ.users _ _ (λ u l. alike-user ρ s t same u r)

  pub alike-permissions : (r : ℕ) → permissions_at ρ r s ≡ permissions_at ρ r t
  unfolding permissions_at
  alike-permissions r = set_of-same ρ.permissions _ _ (λ p l. alike-permission ρ s t same p r)

  pub alike-derived : (r : ℕ) → derived_at ρ r s ≡ derived_at ρ r t
  alike-derived r = rw (alike-users r, alike-permissions r)

  pub alike-active : (r : ℕ) → active ρ r s ≡ active ρ r t
  unfolding active
  alike-active r = rw (alike-enabled ρ s t same r, alike-users r, alike-permissions r)
