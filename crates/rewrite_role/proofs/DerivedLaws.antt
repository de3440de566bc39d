-- One role as `derive` derives it from the distinct masks is the role of the rules.
-- Assumes nothing.
use Prim.Native.Nat.{ℕ, ◌+◌, ◌*◌, ◌≤◌, ◌<◌}
use mathlib.Core.Path.{◌≡◌, refl, sym, ◌∙◌, ap}
use mathlib.Core.List.{List, [], ◌∷◌, map, Memᴰ}
use native.Mathlib.Omega.{arith}
use lib.ListN.{length, get_or, take}
use lib.Seq.{get_or-take}
use Rattle.ground.specs.Believed.Sequence.{All}
use Rattle.ground.proofs.ListLaws.{all-with, map_same}
use Rattle.ground.proofs.SequenceLaws.{list_of-same}
use Rattle.minutes.specs.Believed.Minutes.{Window}
use Rattle.rota.specs.Believed.RotaBytes.{roles_of, rota_of}
use Rattle.rota.specs.Believed.RotaRefusals.{rota_judged}
use Rattle.rota.proofs.RotaWellLaws.{roles-count}
use Rattle.rota.proofs.RotaTheorems.{accepted-well}
use Rattle.rewrite_rules.specs.Believed.Rewriting.{fields, kept_as}
use Rattle.rewrite_rules.specs.Masks.{mask_of, kept_in}
use Rattle.rewrite_rules.proofs.RewritingTheorems.{kept-mask}
use Rattle.rewrite_rules.specs.Kinds.{masks_from, kinds_from, by_kind, masks_in}
use Rattle.rewrite_rules.specs.Roles.{entries_at, derived_from, marks_from, rows_marked}
use Rattle.rewrite_rules.proofs.KindLaws.{derived-kinds, marks-kinds, kinds-most}
use Rattle.rewrite_rules.proofs.RoleMarks.{Agree, agree-masks, role-entries, role-rows}
use Rattle.rewrite_index.specs.Entries.{entry_at, entries_to}
use Rattle.rewrite_masks.specs.Kinds.{masks_of}
use Rattle.rewrite_sets.specs.declared.Role.{Role}
use Rattle.rewrite_sets.specs.Role.{kept_by, role_of}
use Rattle.rewrite_sets.proofs.RoleLaws.{kept-by}
use Rattle.rewrite_derive.specs.Derive.{Derived, DerivedTo}
use Rattle.rewrite_derive.proofs.DeriveLaws.{kept-nothing, masks-length}
use Rattle.rewrite_role.specs.Parts.{SetsAre, RoleDerived, RoleDerivedTo}

all-by : (P : Window → Type 0) (l : List Window) → ((f : Window) → Memᴰ f l → P f) → All P l
all-by P [] h = tt
all-by P (f ∷ l) h = (h f (Memᴰ.head refl), all-by P l (λ g m. h g (Memᴰ.tail m)))

module _ (s : List ℕ) (clear : rota_judged s ≡ 0) (r : ℕ) (few : r < roles_of s) (role : Role) (er : role ≡ role_of (rota_of s) r) where
  by-rules : (m : ℕ) → kept_by role m ≡ kept_in (rota_of s) r m
  by-rules m = ap (λ (x : Role). kept_by x m) er ∙ kept-by (rota_of s) (accepted-well s clear) r m

  agree : Agree (rota_of s) r (kept_by role) (fields (rota_of s)) (masks_of s)
  unfolding masks_of
  agree =
      agree-masks (rota_of s) r (kept_by role) (mask_of (rota_of s)) (fields (rota_of s))
      (all-by (λ (f : Window). kept_as (rota_of s) r f ≡ kept_by role (mask_of (rota_of s) f)) (fields (rota_of s))
      (λ f m. kept-mask (accepted-well s clear) r (rw (roles-count s) few) f m ∙ sym (by-rules (mask_of (rota_of s) f))))

  module _ (sets : List ℕ) (n : ℕ) (are : SetsAre s sets n) (room : n ≤ length sets) where
    entries-all : derived_from (kept_by role) [] (masks_in sets n) ≡ entries_at (rota_of s) r
    entries-all =
        ap (derived_from (kept_by role) []) are ∙ derived-kinds (kept_by role) (kept-nothing role) (masks_of s)
        ∙ sym (role-entries (rota_of s) r (kept_by role) (masks_of s) agree)

    -- the mark of each field is that of its kind
    field-marks : (marks : List ℕ) → take (n + 1) marks ≡ 0 ∷ marks_from (kept_by role) [] (masks_in sets n)
        → map (by_kind marks) (kinds_from [] (masks_of s)) ≡ marks_from (kept_by role) [] (masks_of s)
    field-marks marks e =
        map_same (by_kind marks) (by_kind all) (kinds_from [] (masks_of s)) (all-with at (kinds_from [] (masks_of s)) (kinds-most [] (masks_of s)))
        ∙ marks-kinds (kept_by role) (kept-nothing role) (masks_of s)
      where
        all : List ℕ
        all = 0 ∷ marks_from (kept_by role) [] (masks_from [] (masks_of s))

        at : (k : ℕ) → k ≤ length (masks_from [] (masks_of s)) → by_kind marks k ≡ by_kind all k
        at k h =
            let l : length (masks_from [] (masks_of s)) ≡ n = ap length (sym are) ∙ masks-length sets n room in
            sym (get_or-take (n + 1) marks k 0 (omega arith))
            ∙ ap (λ (q : List ℕ). get_or q k 0) (e ∙ ap (λ (ms : List ℕ). 0 ∷ marks_from (kept_by role) [] ms) are)

    role-derived : (pairs marks : List ℕ) (d : ℕ) → Derived role sets n pairs marks d → RoleDerived s r n pairs marks d
    unfolding role_of
    role-derived pairs marks d q =
        record {
          few = q.few;
          entries-are = ap (λ (x : Role). entries_to x.source d pairs) (sym er) ∙ q.entries-are ∙ entries-all;
          entry-count = q.count-is ∙ ap length entries-all;
          rows_are =
              λ base.
              ap (rows_marked base (fields (rota_of s))) (field-marks marks q.marks-are) ∙ sym (role-rows (rota_of s) r (kept_by role) (masks_of s) agree base);
        }

    pub role-derived-to : (limit : ℕ) (pairs marks : List ℕ) (d : ℕ) → DerivedTo limit role sets n pairs marks d → RoleDerivedTo limit s r n pairs marks d
    role-derived-to limit pairs marks d q =
        record { few = q.few; least = omega (arith, q.least, ap length entries-all); whole = λ h. role-derived pairs marks d (q.whole h) }

-- a role stands in the pairs of its derived roles and the marks of its kinds alone
pub role_same : {s pairs marks pairs' marks' : List ℕ} {r n d : ℕ} → length (masks_from [] (masks_of s)) ≤ n
    → ((k : ℕ) → k < 2 * d → get_or pairs' k 0 ≡ get_or pairs k 0) → ((k : ℕ) → k < n + 1 → get_or marks' k 0 ≡ get_or marks k 0)
    → RoleDerived s r n pairs marks d → RoleDerived s r n pairs' marks' d
unfolding entries_to
role_same {s} {pairs} {marks} {pairs'} {marks'} {r} {n} {d} most ep em q =
    record {
      few = q.few;
      entries-are =
          list_of-same d (entry_at r pairs') (entry_at r pairs) (λ k h. rw (ep (2 * k) (omega arith), ep (2 * k + 1) (omega arith)) refl)
          ∙ q.entries-are;
      entry-count = q.entry-count;
      rows_are =
          λ base.
          ap (rows_marked base (fields (rota_of s)))
          (map_same (by_kind marks') (by_kind marks) (kinds_from [] (masks_of s))
          (all-with (λ (k : ℕ) h. em k (omega arith)) (kinds_from [] (masks_of s)) (kinds-most [] (masks_of s))))
          ∙ q.rows_are base;
    }
