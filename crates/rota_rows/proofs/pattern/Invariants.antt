use Rattle.rota_rows.proofs.ScanLaws.{Filled}
use Rattle.rota_rows.proofs.pattern.Given as goal

abbrev pub invariant-loop-i : goal.invariant-loop-i
invariant-loop-i l = Filled l.a l.b l.c l.i l.p
