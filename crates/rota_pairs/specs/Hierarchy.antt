-- Seniors and juniors (document 02, item 8): the strongly restricted inheritance of document 003, Table 4. A role has its own permissions and, while
-- both are enabled, those of its junior, through any chain of juniors; every role of the chain must be enabled at that minute. `Chain` says so in
-- these words and `reaches` as a test, and theorem `reaches-iff` that the two are one. Here `enabled` tests which roles are enabled at the minute.
use Rattle.std.specs.Prelude.{ℕ, zero, suc, ◌≤◌, ◌<◌, ◌≡◌, Bool, true, ◌&&◌, ◌||◌, eqb}
use mathlib.Core.List.{List, Memᴰ}
use Rattle.ground.specs.Believed.Search.{any}
use Rattle.ground.specs.Believed.Sequence.{All}

pub record Pairing : Type 0 where
  pub senior : ℕ
  pub junior : ℕ

-- each pair is of two of R roles, the junior below the senior
abbrev pub PairsWell : ℕ → List Pairing → Type 0
PairsWell R pairs = All (λ (x : Pairing). (x.junior < x.senior) × (x.senior < R)) pairs

-- role r has the permissions of role q by at most n steps from a senior to a junior: it is q; or some pair has r as its senior, both roles of the
-- pair are enabled, and its junior has the permissions of q by a step less
unfoldable pub reaches : List Pairing → (ℕ → Bool) → ℕ → ℕ → ℕ → Bool
reaches pairs enabled zero r q = eqb r q
reaches pairs enabled (suc n) r q =
    eqb r q
    || any (λ (x : Pairing). eqb x.senior r && enabled r && enabled x.junior && reaches pairs enabled n x.junior q) pairs

-- a chain from role r to role q: role 0, role 1, .., role steps, each next one the junior of a pair whose senior is the one before, and every one
-- of them enabled; only that for its own permissions a role need not be
pub record Chain (pairs : List Pairing) (enabled : ℕ → Bool) (r q : ℕ) : Type 0 where
  pub steps : ℕ
  pub role : ℕ → ℕ
  pub first : role 0 ≡ r
  pub last : role steps ≡ q
  pub linked : (i : ℕ) → i < steps → Memᴰ (record { senior = role i; junior = role (suc i) }) pairs
  pub each-enabled : 0 < steps → (i : ℕ) → i ≤ steps → enabled (role i) ≡ true
