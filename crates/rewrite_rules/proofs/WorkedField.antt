-- The worked field of document 01 ("Worked minutes"): era 3 to 5 keeps no field with cell 6 to 8. The field is there, and has no minute.
-- Assumes nothing.
use Prim.Native.Nat.{ℕ}
use mathlib.Core.Path.{◌≡◌, refl, sym, ap, ◌∙◌}
use Rattle.std.proofs.Common.{None, Some}
use mathlib.Core.List.{Memᴰ}
use native.Mathlib.Omega.{arith}
use Rattle.minutes.specs.Believed.Minutes.{E}
use Rattle.minutes.specs.First.{first_in}
use Rattle.rewrite_rules.specs.Believed.Cuts.{insert_cut, sort_into, gaps_from, gaps}
use Rattle.rewrite_rules.specs.Believed.Rewriting.{hours_cuts, pair_cuts, pairs_cuts, era_cuts, cell_cuts, fields_of, fields, kept_as, Kept, kept}
use Rattle.rewrite_rules.specs.Worked.{example, field}
use Rattle.rewrite_rules.proofs.KeptLaws.{kept-late}
use Rattle.rewrite_rules.proofs.KeptListLaws.{kept_out}

pub field_in : Memᴰ field (fields example)
unfolding E fields era_cuts cell_cuts hours_cuts pair_cuts pairs_cuts insert_cut sort_into gaps_from gaps fields_of
field_in = Memᴰ.tail (Memᴰ.tail (Memᴰ.tail (Memᴰ.tail (Memᴰ.head refl))))

pub not-kept : (r : ℕ) → kept_as example r field ≡ None
unfolding first_in
not-kept r = kept-late example r field (omega arith) (omega arith) (omega arith) (omega arith)

pub not-among : (k : Kept) → Memᴰ k (kept example) → k.field ≡ field → ⊥
not-among k m e =
    let z = kept_out example k m in
    let q : None ≡ Some k.entry = sym (ap (kept_as example z.0) e ∙ not-kept z.0) ∙ z.2.kept-as in
    let c : ◌≡◌ {A = ℕ} 0 1 = cc in
    omega arith
