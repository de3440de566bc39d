use Rattle.std.proofs.Common.{◌∙◌, refl}
use Rattle.std.proofs.lemmas.Bool.{le-leb, lt-leb}
use Rattle.ground.proofs.BoolLaws.{clash}
use Rattle.rota_rows.proofs.ScanLaws.{joined-some}
use Rattle.rota_rows.specs.Rows.{row_out}
use Rattle.rota_rows.proofs.row_out.Goals as goal
use Rattle.rota_rows.proofs.row_out.Goals.{then-top-s, else-top-s}

pub returns-then-roles-s : goal.returns-then-roles-s
unfolding row_out
returns-then-roles-s c =
    elim c.if-top-s.branch [
      | then-top-s w ↦ rw (w.value-is, le-leb _ _ w.if-top-s.true) refl
      | else-top-s w ↦ rw (lt-leb _ _ w.if-top-s.false, ← w.value-is, c.if-roles-s.true) refl
    ]

pub returns-else-roles-s : goal.returns-else-roles-s
unfolding row_out
returns-else-roles-s c =
    elim c.if-top-s.branch [
      | then-top-s w ↦ clash _ (w.value-is ∙ le-leb _ _ w.if-top-s.true) c.if-roles-s.false
      | else-top-s w ↦ rw (lt-leb _ _ w.if-top-s.false, ← w.value-is, c.if-roles-s.false) (joined-some _ _ c.between.ensures)
    ]
