-- One number after the other.
use mathlib.Core.Path.{ap, ◌∙◌}
use Prim.Native.Nat.{ℕ}
use Rattle.bitset.specs.Believed.Sets.{insert, intersection}
use Rattle.rota_holding.proofs.with_three.Goals as goal

pub returns : goal.returns
returns c = let a = c.args in c.both.ensures ∙ ap (intersection a.set) (c.with-3.ensures ∙ ap (λ (x : ℕ). insert x a.c) (c.with-2.ensures ∙ ap (λ (x : ℕ). insert x a.b) c.with.ensures))
