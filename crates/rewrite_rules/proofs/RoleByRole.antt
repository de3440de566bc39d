-- The rewriting role by role, as a loop over the roles goes about it: the table's entries are those of the roles in order, and so are its rows,
-- with each role's derived roles counted on from those of the roles before.
--     entries-by-role, rows-by-role  they are the table's, before rows that touch are joined
--     joined-by-role, by-roles       the table is that of the roles from the first to the last
--     entries_next, rows_next        one role more; entries_none, rows_none where no role is left
--     entries_at-derived              what holds of one role's derived roles
-- Assumes nothing.
use Rattle.ground.proofs.ListLaws.{all_append, all_map, all-with, all_both, all-unit, map_same}
use Prim.Native.Nat.{ℕ, zero, suc, ◌+◌, ◌-◌, ◌≤◌, ◌<◌}
use mathlib.Core.Path.{◌≡◌, refl, sym, ap, ap₂, ◌∙◌}
use mathlib.Core.Bool.{true, false}
use mathlib.Core.List.{List, [], ◌++◌, map, map-append, append-nil, append_assoc}
use native.Mathlib.Numerals.{add-one}
use native.Mathlib.Omega.{arith}
use lib.ListN.{length, length-append}
use Rattle.ground.specs.Believed.Sequence.{All}
use Rattle.rota.specs.Believed.Rota.{Rota}
use Rattle.table.specs.Believed.Table.{Entry, Row}
use Rattle.rewrite_rules.specs.Believed.Distinct.{add_all, place_of}
use Rattle.rewrite_rules.specs.Believed.Joined.{join_rows}
use Rattle.rewrite_rules.specs.Believed.Rewriting.{fields, Kept, kept_of, kept_from, kept, same, entries_of, row_of, unjoined, rewrite}
use Rattle.rewrite_rules.specs.Roles.{entries_at, row_at, rows_at, entries_from, rows_from, joined_at, joined_from, rewrite_roles}
use Rattle.rewrite_rules.proofs.JoinLaws.{join-append}
use Rattle.rewrite_rules.proofs.TableDistinct.{there, add_all-append, add_all-skip, place-below, place-more, place-skip}
use Rattle.rewrite_rules.proofs.TableKept.{entry, other-source, entries-there, entries-all, DerivedOf, kept_of-entries, kept_from-source}

module _ (ρ : Rota) where
  -- the sources of one role's derived roles
  pub entries_at-derived : (r : ℕ) → All (DerivedOf ρ r) (entries_at ρ r)
  unfolding entries_at
  entries_at-derived r = entries-all (DerivedOf ρ r) (kept_of ρ r (fields ρ)) (kept_of-entries ρ r (fields ρ))

  -- none of the later roles' derived roles is among them
  later-others : (n r : ℕ) → All (λ (e : Entry). there same e (entries_at ρ r) ≡ false) (map entry (kept_from ρ n (suc r)))
  later-others n r =
      all_map (λ (e : Entry). there same e (entries_at ρ r) ≡ false) entry (kept_from ρ n (suc r))
      (all-with (λ k h. other-source k.entry (entries_at ρ r) (all-with (λ o d e. omega (arith, d.source)) (entries_at ρ r) (entries_at-derived r)))
      (kept_from ρ n (suc r)) (kept_from-source ρ n (suc r)))

  entries-split : (n r : ℕ) → entries_of (kept_from ρ (suc n) r) ≡ entries_at ρ r ++ entries_of (kept_from ρ n (suc r))
  unfolding entries_at entries_of kept_from
  entries-split n r =
      ap (add_all same []) (map-append entry (kept_of ρ r (fields ρ)) (kept_from ρ n (suc r)))
      ∙ add_all-append same [] (map entry (kept_of ρ r (fields ρ))) (map entry (kept_from ρ n (suc r)))
      ∙ ap (λ (l : List Entry). add_all same l (map entry (kept_from ρ n (suc r)))) (sym (append-nil (entries_at ρ r)))
      ∙ add_all-skip same (entries_at ρ r) [] (map entry (kept_from ρ n (suc r))) (later-others n r)

  entries-are : (n r : ℕ) → entries_of (kept_from ρ n r) ≡ entries_from ρ n r
  unfolding entries_from
  entries-are zero r = unfold entries_of kept_from add_all in refl
  entries-are (suc n) r = entries-split n r ∙ ap (λ (l : List Entry). entries_at ρ r ++ l) (entries-are n (suc r))

  -- a kept field's place among all derived roles
  row_here : (r : ℕ) (old rest : List Entry) → All (λ (o : Entry). o.source < r) old
      → All (λ (k : Kept). row_of (old ++ (entries_at ρ r ++ rest)) k ≡ row_at (length old) (entries_at ρ r) k) (kept_of ρ r (fields ρ))
  unfolding entries_at
  row_here r old rest h =
      all_both here (kept_of ρ r (fields ρ)) (kept_of-entries ρ r (fields ρ)) (entries-there (kept_of ρ r (fields ρ)))
    where
      here : (k : Kept) → DerivedOf ρ r k.entry → there same k.entry (entries_at ρ r) ≡ true
          → row_of (old ++ (entries_at ρ r ++ rest)) k ≡ row_at (length old) (entries_at ρ r) k
      here k d t =
          let e : place_of same k.entry (old ++ (entries_at ρ r ++ rest)) ≡ length old + place_of same k.entry (entries_at ρ r) =
          place-skip same k.entry old (entries_at ρ r ++ rest) (other-source k.entry old (all-with (λ o l q. omega (arith, d.source)) old h))
          ∙ ap (λ (i : ℕ). length old + i) (place-more same k.entry (entries_at ρ r) rest t) in
          λ i. record { derived = e i; window = k.field }

  rows_are : (n r : ℕ) (old : List Entry) → All (λ (o : Entry). o.source < r) old
      → map (row_of (old ++ entries_from ρ n r)) (kept_from ρ n r) ≡ rows_from ρ n r (length old)
  unfolding rows_from rows_at entries_from kept_from
  rows_are zero r old h = refl
  rows_are (suc n) r old h =
      let es = entries_at ρ r in
      let rest = entries_from ρ n (suc r) in
      let ks = kept_of ρ r (fields ρ) in
      let later = kept_from ρ n (suc r) in
      let below : All (λ (o : Entry). o.source < suc r) (old ++ es) =
      all_append (λ (o : Entry). o.source < suc r) old es (all-with (λ o l. omega arith) old h) (all-with (λ o d. omega (arith, d.source)) es (entries_at-derived r)) in
      map-append (row_of (old ++ (es ++ rest))) ks later
      ∙ ap₂ ◌++◌ (map_same (row_of (old ++ (es ++ rest))) (row_at (length old) es) ks (row_here r old rest h))
      (ap (λ (l : List Entry). map (row_of l) later) (sym (append_assoc old es rest)) ∙ rows_are n (suc r) (old ++ es) below
      ∙ ap (rows_from ρ n (suc r)) (length-append old es))

  -- the table's entries and rows
  pub entries-by-role : (unjoined ρ).entries ≡ entries_from ρ (length ρ.roles) 0
  unfolding unjoined kept
  entries-by-role = entries-are (length ρ.roles) 0

  pub rows-by-role : (unjoined ρ).rows ≡ rows_from ρ (length ρ.roles) 0 0
  unfolding unjoined kept
  rows-by-role =
      ap (λ (es : List Entry). map (row_of es) (kept_from ρ (length ρ.roles) 0)) (entries-are (length ρ.roles) 0)
      ∙ rows_are (length ρ.roles) 0 [] tt

  -- the rows of one role name its own derived roles, and those of later roles later ones
  rows-below : (r base : ℕ) → All (λ (w : Row). w.derived < base + length (entries_at ρ r)) (rows_at ρ r base)
  unfolding rows_at entries_at
  rows-below r base =
      all_map (λ (w : Row). w.derived < base + length (entries_at ρ r)) (row_at base (entries_at ρ r)) (kept_of ρ r (fields ρ))
      (all-with (λ k t. omega (arith, place-below same k.entry (entries_at ρ r) t)) (kept_of ρ r (fields ρ)) (entries-there (kept_of ρ r (fields ρ))))

  rows-from : (n r base : ℕ) → All (λ (w : Row). base ≤ w.derived) (rows_from ρ n r base)
  unfolding rows_from rows_at
  rows-from zero r base = tt
  rows-from (suc n) r base =
      all_append (λ (w : Row). base ≤ w.derived) (rows_at ρ r base) (rows_from ρ n (suc r) (base + length (entries_at ρ r)))
      (all_map (λ (w : Row). base ≤ w.derived) (row_at base (entries_at ρ r)) (kept_of ρ r (fields ρ))
      (all-with (λ k u. omega arith) (kept_of ρ r (fields ρ)) (all-unit (kept_of ρ r (fields ρ)))))
      (all-with (λ w h. omega arith) (rows_from ρ n (suc r) (base + length (entries_at ρ r))) (rows-from n (suc r) (base + length (entries_at ρ r))))

  -- so no row touches one of another role
  joined-from : (n r base : ℕ) → join_rows (rows_from ρ n r base) ≡ joined_from ρ n r base
  unfolding rows_from joined_from joined_at join_rows
  joined-from zero r base = refl
  joined-from (suc n) r base =
      let next = base + length (entries_at ρ r) in
      join-append (λ v w p q t. omega (arith, t.derived)) (rows_at ρ r base) (rows_from ρ n (suc r) next) (rows-below r base) (rows-from n (suc r) next)
      ∙ ap (λ (l : List Row). join_rows (rows_at ρ r base) ++ l) (joined-from n (suc r) next)

  pub joined-by-role : (rewrite ρ).rows ≡ joined_from ρ (length ρ.roles) 0 0
  unfolding rewrite
  joined-by-role = ap join_rows rows-by-role ∙ joined-from (length ρ.roles) 0 0

  pub by-roles : rewrite ρ ≡ rewrite_roles ρ 0 (length ρ.roles)
  unfolding rewrite_roles rewrite unjoined
  by-roles =
      let e : length ρ.roles ≡ length ρ.roles - 0 = omega arith in
      let es : (rewrite ρ).entries ≡ entries_from ρ (length ρ.roles - 0) 0 = entries-by-role ∙ ap (λ (k : ℕ). entries_from ρ k 0) e in
      let ws : (rewrite ρ).rows ≡ joined_from ρ (length ρ.roles - 0) 0 0 = joined-by-role ∙ ap (λ (k : ℕ). joined_from ρ k 0 0) e in
      λ i. record { cycle = ρ.cycle; users = ρ.users; permissions = ρ.permissions; roles = length ρ.roles; entries = es i; rows = ws i }

  -- one role more of `roles`, and none left: what a loop over the roles has still to do
  pub entries_next : (roles r : ℕ) → r < roles → entries_from ρ (roles - r) r ≡ entries_at ρ r ++ entries_from ρ (roles - (r + 1)) (r + 1)
  unfolding entries_from
  entries_next roles r h = let e : roles - r ≡ suc (roles - (r + 1)) = omega arith in rw (e, add-one r)

  pub entries_none : (roles r : ℕ) → roles ≤ r → entries_from ρ (roles - r) r ≡ []
  unfolding entries_from
  entries_none roles r h = let e : roles - r ≡ 0 = omega arith in rw e

  pub rows_next : (roles r base : ℕ) → r < roles
      → joined_from ρ (roles - r) r base ≡ joined_at ρ r base ++ joined_from ρ (roles - (r + 1)) (r + 1) (base + length (entries_at ρ r))
  unfolding joined_from
  rows_next roles r base h = let e : roles - r ≡ suc (roles - (r + 1)) = omega arith in rw (e, add-one r)

  pub rows_none : (roles r base : ℕ) → roles ≤ r → joined_from ρ (roles - r) r base ≡ []
  unfolding joined_from
  rows_none roles r base h = let e : roles - r ≡ 0 = omega arith in rw e
