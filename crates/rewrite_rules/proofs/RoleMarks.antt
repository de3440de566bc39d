-- One role as a loop over the masks of the fields derives it: its derived roles, and for each field a mark, which is 0 where the field is not
-- kept, or 1 + the place of its derived role. What a mask gives is any function g.
--     Agree, agree-masks                    the masks say of each field what the rules say
--     derived-entries, marked-rows          the loop finds the entries and the rows of the rules; for all fields: role-entries, role-rows
--     derived-length, marks-length, marks-most    how many, and that each mark names one of the derived roles
-- Assumes nothing.
use Prim.Native.Nat.{ℕ, suc, ◌+◌, ◌≤◌}
use mathlib.Core.Path.{◌≡◌, refl, ap, ap₂, ◌∙◌}
use Rattle.std.proofs.Common.{Option, None, Some}
use mathlib.Core.List.{List, [], ◌∷◌, map}
use native.Mathlib.Omega.{arith}
use lib.ListN.{length}
use Rattle.ground.specs.Believed.Sequence.{All}
use Rattle.minutes.specs.Believed.Minutes.{Window}
use Rattle.rota.specs.Believed.Rota.{Rota}
use Rattle.table.specs.Believed.Table.{Entry, Row}
use Rattle.rewrite_rules.specs.Believed.Distinct.{add_new, add_all, place_of}
use Rattle.rewrite_rules.specs.Believed.Rewriting.{fields, kept_as, keep, kept_of, same, entries_of}
use Rattle.rewrite_rules.specs.Roles.{entries_at, row_at, rows_at, next_entries, mark_of, derived_from, marks_from, marked, rows_marked}
use Rattle.rewrite_rules.proofs.TableDistinct.{add-length, add-there, place-add, place-below, place-stays}
use Rattle.rewrite_rules.proofs.TableKept.{entry, same_self}

module _ (g : ℕ → Option Entry) where
  -- how many derived roles and marks there are, and that each mark names one of them
  pub derived-length : (es : List Entry) (ms : List ℕ) → (length es ≤ length (derived_from g es ms)) × (length (derived_from g es ms) ≤ length es + length ms)
  unfolding derived_from next_entries
  derived-length es [] = (omega arith, omega arith)
  derived-length es (m ∷ ms) = go (g m) (λ q. derived-length q ms)
    where
      Bounds : List Entry → ℕ → List Entry → Type 0
      Bounds es n ds = (length es ≤ length ds) × (length ds ≤ length es + n)

      go : (o : Option Entry) → ((q : List Entry) → Bounds q (length ms) (derived_from g q ms)) → Bounds es (suc (length ms)) (derived_from g (next_entries es o) ms)
      go None ih = let h = ih es in (h.0, omega (arith, h.1))
      go (Some e) ih = let h = ih (add_new same es e) in let k = add-length same es e in (omega (arith, h.0, k.0), omega (arith, h.1, k.1))

  pub marks-length : (es : List Entry) (ms : List ℕ) → length (marks_from g es ms) ≡ length ms
  unfolding marks_from
  marks-length es [] = refl
  marks-length es (m ∷ ms) = ap suc (marks-length (next_entries es (g m)) ms)

  pub marks-most : (es : List Entry) (ms : List ℕ) → All (λ (k : ℕ). k ≤ length (derived_from g es ms)) (marks_from g es ms)
  unfolding marks_from derived_from mark_of next_entries
  marks-most es [] = tt
  marks-most es (m ∷ ms) = (go (g m), marks-most (next_entries es (g m)) ms)
    where
      go : (o : Option Entry) → mark_of es o ≤ length (derived_from g (next_entries es o) ms)
      go None = omega arith
      go (Some e) =
          let place = place-add same same_self es e in
          let below = place-below same e (add_new same es e) (add-there same same_self es e) in
          omega (arith, (derived-length (add_new same es e) ms).0)

-- the masks say of each field what the rules say
abbrev pub Agree : Rota → ℕ → (ℕ → Option Entry) → List Window → List ℕ → Type 0
Agree ρ r g [] [] = Unit {0}
Agree ρ r g [] (m ∷ ms) = ⊥
Agree ρ r g (f ∷ fs) [] = ⊥
Agree ρ r g (f ∷ fs) (m ∷ ms) = (kept_as ρ r f ≡ g m) × Agree ρ r g fs ms

module _ (ρ : Rota) (r : ℕ) (g : ℕ → Option Entry) where
  pub agree-masks : (mask : Window → ℕ) (fs : List Window) → All (λ (f : Window). kept_as ρ r f ≡ g (mask f)) fs → Agree ρ r g fs (map mask fs)
  agree-masks mask [] h = tt
  agree-masks mask (f ∷ fs) h = (h.0, agree-masks mask fs h.1)

  derived-more : (es : List Entry) (fs : List Window) (ms : List ℕ) → Agree ρ r g fs ms
      → add_all same es (map entry (kept_of ρ r fs)) ≡ derived_from g es ms
  unfolding derived_from next_entries add_all kept_of
  derived-more es [] [] a = refl
  derived-more es [] (m ∷ ms) a = absurd a
  derived-more es (f ∷ fs) [] a = absurd a
  derived-more es (f ∷ fs) (m ∷ ms) a = rw a.0 (go (g m) (λ q. derived-more q fs ms a.1))
    where
      go : (o : Option Entry) → ((q : List Entry) → add_all same q (map entry (kept_of ρ r fs)) ≡ derived_from g q ms)
          → add_all same es (map entry (keep o f (kept_of ρ r fs))) ≡ derived_from g (next_entries es o) ms
      go None ih = ih es
      go (Some e) ih = ih (add_new same es e)

  marked_more : (base : ℕ) (es : List Entry) (fs : List Window) (ms : List ℕ) → Agree ρ r g fs ms
      → map (row_at base (add_all same es (map entry (kept_of ρ r fs)))) (kept_of ρ r fs) ≡ rows_marked base fs (marks_from g es ms)
  unfolding marks_from mark_of next_entries rows_marked add_all kept_of
  marked_more base es [] [] a = refl
  marked_more base es [] (m ∷ ms) a = absurd a
  marked_more base es (f ∷ fs) [] a = absurd a
  marked_more base es (f ∷ fs) (m ∷ ms) a = rw a.0 (go (g m) (λ q. marked_more base q fs ms a.1))
    where
      later : List Entry
      later = map entry (kept_of ρ r fs)

      go : (o : Option Entry) → ((q : List Entry) → map (row_at base (add_all same q later)) (kept_of ρ r fs) ≡ rows_marked base fs (marks_from g q ms))
          → map (row_at base (add_all same es (map entry (keep o f (kept_of ρ r fs))))) (keep o f (kept_of ρ r fs))
          ≡ marked base f (mark_of es o) (rows_marked base fs (marks_from g (next_entries es o) ms))
      go None ih = ih es
      go (Some e) ih =
          let place : place_of same e (add_all same (add_new same es e) later) ≡ place_of same e es =
          place-stays same e (add_new same es e) later (add-there same same_self es e) ∙ place-add same same_self es e in
          ap₂ (λ (k : ℕ) (ws : List Row). record { derived = base + k; window = f } ∷ ws) place (ih (add_new same es e))

  module _ (fs : List Window) (ms : List ℕ) (a : Agree ρ r g fs ms) where
    pub derived-entries : entries_of (kept_of ρ r fs) ≡ derived_from g [] ms
    unfolding entries_of
    derived-entries = derived-more [] fs ms a

    pub marked-rows : (base : ℕ) → map (row_at base (entries_of (kept_of ρ r fs))) (kept_of ρ r fs) ≡ rows_marked base fs (marks_from g [] ms)
    unfolding entries_of
    marked-rows base = marked_more base [] fs ms a

  -- for a mask beside each field of the rota
  module _ (ms : List ℕ) (a : Agree ρ r g (fields ρ) ms) where
    pub role-entries : entries_at ρ r ≡ derived_from g [] ms
    unfolding entries_at
    role-entries = derived-entries (fields ρ) ms a

    pub role-rows : (base : ℕ) → rows_at ρ r base ≡ rows_marked base (fields ρ) (marks_from g [] ms)
    unfolding rows_at entries_at
    role-rows base = marked-rows (fields ρ) ms a base
