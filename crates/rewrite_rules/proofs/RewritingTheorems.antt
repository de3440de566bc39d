-- What the rewriting of a rota to a table gives (document 01, "Rewriting"), for every rota that keeps the layout.
--     constancy                           within a field nothing changes
--     field-there, field-one, field-once  each minute lies in exactly one field
--     kept-by-first, kept-mask            what a field is kept as: by its first minute, and by the hours that hold in it
--     active-means, means                 when a role is active, and what the table's derived roles of it are then
--     same-through, same_answer           the table answers as the rota does
--     fewest                              no other table of untimed users and permissions has fewer derived roles of a role
--     worked-field                        the worked field of document 01
--     fits, fits-as-told                  an area takes the table exactly where it is as long as the size that is told beforehand
--     always-enough, enough-told          35,212,336 bytes are enough for every table, so with them the rewriting tells the size
-- And of the rows that touch (document 02, item 4), in Joining.antt:
--     joined_same, joined-none, joined-fewer    joined, they enable the same at the same minutes, none touches the next, and there are no more
-- Assumes nothing.
use Prim.Native.Nat.{ℕ, zero, suc, ◌≤◌, ◌<◌}
use mathlib.Core.Path.{◌≡◌, refl, sym, ap, ◌∙◌}
use mathlib.Core.Logic.{◌↔◌}
use mathlib.Core.Bool.{true}
use Rattle.std.proofs.Common.{None, Some}
use mathlib.Core.List.{List, Memᴰ}
use native.Mathlib.Omega.{arith}
use lib.Dec.{ltb, eqb}
use lib.ListN.{length}
use borrow.Author.Tests.{le-ltb, ltb-false}
use Rattle.ground.specs.Believed.Search.{count_of}
use Rattle.ground.specs.Believed.Choice.{pick}
use Rattle.ground.specs.Believed.Judgement.{refuse, ◌or_else◌}
use Rattle.ground.specs.Believed.Outcome.{given, outcome}
use Rattle.ground.proofs.JudgementLaws.{or_else-zero, refuse-no, refuse-none}
use Rattle.ground.proofs.OutcomeLaws.{outcome-given, given_by}
use Rattle.minutes.specs.Believed.Minutes.{E, Window, covers}
use Rattle.minutes.specs.First.{minute_of}
use Rattle.rota.specs.Believed.Rota.{Rota}
use Rattle.rota.specs.Believed.Rota as rota
use Rattle.rota.specs.Believed.RotaBytes.{rota_of}
use Rattle.rota.specs.Believed.RotaRefusals.{rota_judged}
use Rattle.rota.specs.RotaWell.{RotaWell}
use Rattle.rota.proofs.RotaTheorems.{accepted-well}
use Rattle.rota.proofs.AlikeLaws.{alike-enabled, alike-user, alike-permission}
use Rattle.table.specs.Believed.Table.{Entry}
use Rattle.table.specs.Believed.Table as table
use Rattle.rewrite_rules.specs.Believed.Rewriting.{fields, derived_at, active, kept_as, Kept, kept, unjoined, rewrite, size_of, rewrite_judged, Written, written_of, rewrite_outcome, size_outcome}
use Rattle.rewrite_rules.specs.Masks.{mask_of, kept_in}
use Rattle.rewrite_rules.specs.Constancy.{SameAt}
use Rattle.rewrite_rules.specs.Worked.{example, field}
use Rattle.rewrite_rules.specs.Believed.Untimed.{Untimed, Rival}
use Rattle.rewrite_rules.specs.Believed.Meaning.{Acting, MeansAt}
use Rattle.rewrite_rules.proofs.ConstancyLaws.{alike-users, alike-permissions, alike-active}
use Rattle.rewrite_rules.proofs.FieldLaws.{field_alike, field-find, field-unique, field-count}
use Rattle.rewrite_rules.proofs.KeptLaws.{kept-closed}
use Rattle.rewrite_rules.proofs.MaskLaws.{mask-kept}
use Rattle.rewrite_rules.proofs.MeaningLaws.{Active, active-in, active-out, Found, complete, of-active, of_is, of-place, through_same, answer-same}
use Rattle.rewrite_rules.proofs.FewestLaws.{no-fewer}
use Rattle.rewrite_rules.proofs.Joining.{joined_same, joined-through, joined-answer, joined-rival}
use Rattle.rewrite_rules.proofs.TableRewritten.{size_few}
use Rattle.rewrite_rules.proofs.WorkedField.{field_in, not-kept, not-among}

-- `active` of the rules says just this
pub active-means : (ρ : Rota) (r t : ℕ) → (active ρ r t ≡ true) ↔ Acting ρ r t
active-means ρ r t = (
  (λ h. let a : Active ρ r t = active-out ρ r t h in (a.on, a.user, a.permission)),
  (λ h. active-in ρ r t (record { on = h.0; user = h.1; permission = h.2 })),
)

module _ {ρ : Rota} (w : RotaWell ρ) where
  -- within a field nothing changes
  pub constancy : (f : Window) → Memᴰ f (fields ρ) → (s t : ℕ) → covers ρ.cycle f s ≡ true → covers ρ.cycle f t ≡ true → SameAt ρ s t
  constancy f m s t a b =
      let same = field_alike ρ w m s t a b in
      record {
        hours-same = same;
        enabled-same = alike-enabled ρ s t same;
        user-same = alike-user ρ s t same;
        permission-same = alike-permission ρ s t same;
        users-same = alike-users ρ s t same;
        permissions-same = alike-permissions ρ s t same;
        active-same = alike-active ρ s t same;
      }

  -- each minute lies in a field, and in no other
  pub field-there : (t : ℕ) → t < E → (f : Window) × Memᴰ f (fields ρ) × (covers ρ.cycle f t ≡ true)
  field-there = field-find ρ w

  pub field-one : (f g : Window) (t : ℕ) → Memᴰ f (fields ρ) → Memᴰ g (fields ρ) → covers ρ.cycle f t ≡ true
      → covers ρ.cycle g t ≡ true → f ≡ g
  field-one = field-unique ρ w

  -- so of the list of the fields, in which none is twice, just one covers it
  pub field-once : (t : ℕ) → t < E → count_of (λ (f : Window). covers ρ.cycle f t) (fields ρ) ≡ 1
  field-once = field-count ρ w

  -- what a field is kept as for a role: "some minute of the era has its remainder in the cell" is settled by the first such minute
  pub kept-by-first : (r : ℕ) (f : Window) → Memᴰ f (fields ρ)
      → kept_as ρ r f
      ≡ pick (ltb (minute_of ρ.cycle f) f.end)
      (pick (active ρ r (minute_of ρ.cycle f)) (Some (derived_at ρ r (minute_of ρ.cycle f))) None) None
  kept-by-first r f m = kept-closed ρ r f w m

  -- and by the hours that hold in the field
  pub kept-mask : (r : ℕ) → r < length ρ.roles → (f : Window) → Memᴰ f (fields ρ) → kept_as ρ r f ≡ kept_in ρ r (mask_of ρ f)
  kept-mask = mask-kept ρ w

  -- the table has at each minute, of each role, the derived role that the role is then
  pub means : (r t : ℕ) → r < length ρ.roles → t < E → MeansAt ρ (rewrite ρ) r t
  unfolding rewrite
  means r t hr ht =
      record {
        at_most_one = λ i j a b. of-place ρ w i r t (before i a.on) a.source ∙ sym (of-place ρ w j r t (before j b.on) b.source);
        exactly = (
          (λ z. (active-means ρ r t).0 (of-active ρ w z.0 r t (before z.0 z.1.on) z.1.source)),
          (λ h.
              let k : Found ρ w r t = complete ρ w r t hr ht ((active-means ρ r t).1 h) in
              (k.index, record { below = k.below; source = ap (λ (x : Entry). x.source) k.is; on = joined_same ρ k.index t ∙ k.on })),
        );
        users = λ i a. ap (λ (x : Entry). x.users) (sym (of_is ρ w i r t (before i a.on) a.source));
        permissions = λ i a. ap (λ (x : Entry). x.permissions) (sym (of_is ρ w i r t (before i a.on) a.source));
      }
    where
      before : (i : ℕ) → table.enabled (rewrite ρ) i t ≡ true → table.enabled (unjoined ρ) i t ≡ true
      before i h = sym (joined_same ρ i t) ∙ h

  -- the table answers as the rota does, through each role and in all
  pub same-through : (u p t r : ℕ) → u < ρ.users → p < ρ.permissions → t < E → r < length ρ.roles
      → table.through (rewrite ρ) u p t r ≡ rota.through ρ u p t r
  same-through u p t r hu hp ht hr = joined-through ρ u p t r ∙ through_same ρ w u p t r hu hp ht hr

  pub same_answer : (u p t : ℕ) → u < ρ.users → p < ρ.permissions → t < E → table.answer (rewrite ρ) u p t ≡ rota.answer ρ u p t
  same_answer u p t hu hp ht = joined-answer ρ u p t ∙ answer-same ρ w u p t hu hp ht

  -- no list of untimed derived roles that grants the same and enables one of r at a time has fewer of r
  pub fewest : (r : ℕ) → r < length ρ.roles → (os : List Untimed) → Rival (rewrite ρ) r os
      → count_of (λ (e : Entry). eqb e.source r) (rewrite ρ).entries ≤ count_of (λ (o : Untimed). eqb o.source r) os
  unfolding rewrite
  fewest r hr os h = no-fewer ρ w r hr os (joined-rival ρ r os h)

-- with C 10, hours (3, 5, pair (0, 10)) and (0, E, pair (6, 2)): era 3 to 5 with cell 6 to 8 is a field, and no kept field
pub worked-field : Memᴰ field (fields example) × (kept_as example 0 field ≡ None) × ((k : Kept) → Memᴰ k (kept example) → k.field ≡ field → ⊥)
worked-field = (field_in, not-kept 0, not-among)

-- a second judgement that refuses nothing where the first does not
idle : (a b : ℕ) → (a ≡ 0 → b ≡ 0) → a or_else b ≡ a
unfolding ◌or_else◌
idle zero b h = h refl
idle (suc a) b h = refl

module _ (s : List ℕ) where
  no-20 : (room : ℕ) → (rota_judged s ≡ 0 → size_of (rewrite (rota_of s)) ≤ room) → rewrite_judged s room ≡ rota_judged s
  unfolding rewrite_judged
  no-20 room h = idle (rota_judged s) _ (λ a. refuse-none 20 _ (le-ltb room (size_of (rewrite (rota_of s))) (h a)))

  -- a rota is rewritten exactly into the areas that are as long as its table
  pub fits : (room : ℕ) → (rewrite_judged s room ≡ 0) ↔ ((rota_judged s ≡ 0) × (size_of (rewrite (rota_of s)) ≤ room))
  unfolding rewrite_judged
  fits room = (
    (λ h.
        let j = or_else-zero (rota_judged s) (refuse 20 (ltb room (size_of (rewrite (rota_of s))))) h in
        (j.0, ltb-false room (size_of (rewrite (rota_of s))) (refuse-no 19 (ltb room (size_of (rewrite (rota_of s)))) j.1))),
    (λ h. no-20 room (λ _. h.1) ∙ h.0),
  )

  -- and with the numbers that are told without an area
  pub fits-as-told : (room : ℕ) (w : Written) → (rewrite_outcome s room ≡ given w) ↔ ((size_outcome s ≡ given w) × (w.length ≤ room))
  unfolding rewrite_outcome size_outcome
  fits-as-told room w = (
    (λ h.
        let g = given_by w (rewrite_judged s room) (written_of (rewrite (rota_of s))) (sym h) in
        let f = (fits room).0 g.0 in
        (sym (outcome-given (rota_judged s) (written_of (rewrite (rota_of s))) f.0) ∙ ap given (sym g.1), omega (arith, f.1, long g.1))),
    (λ h.
        let g = given_by w (rota_judged s) (written_of (rewrite (rota_of s))) (sym h.0) in
        let f = (fits room).1 (g.0, omega (arith, h.1, long g.1)) in
        sym (outcome-given (rewrite_judged s room) (written_of (rewrite (rota_of s))) f) ∙ ap given (sym g.1)),
  )
    where
      long : w ≡ written_of (rewrite (rota_of s)) → w.length ≡ size_of (rewrite (rota_of s))
      long e = unfold written_of in ap (λ (x : Written). x.length) e

  -- so many bytes are enough for every table
  pub always-enough : rota_judged s ≡ 0 → size_of (rewrite (rota_of s)) ≤ 35212336
  always-enough a = size_few (rota_of s) (accepted-well s a)

  -- so with them the rewriting gives what is told without an area, refusals too
  pub enough-told : rewrite_outcome s 35212336 ≡ size_outcome s
  unfolding rewrite_outcome size_outcome
  enough-told = ap (λ (j : ℕ). outcome j (written_of (rewrite (rota_of s)))) (no-20 35212336 always-enough)
