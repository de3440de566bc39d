-- The claim of demand 3 leaves no choice, and its bound is reached.
--     one_table      it holds of one list of bytes only: an accepted table is the bytes of what it spells, and the claim says what that is
--     own-rival      our table is itself one of the tables that `fewest` speaks of, so that the premise can be met
--     own-count      and it has as many derived roles of each role as `fewest` asks at least
-- Assumes nothing.
use Prim.Native.Nat.{ℕ, ◌<◌}
use mathlib.Core.Path.{◌≡◌, refl, sym, ap, ◌∙◌}
use mathlib.Core.Bool.{true}
use mathlib.Core.List.{List}
use borrow.Author.Tests.{eqb-true}
use lib.Dec.{eqb}
use lib.ListN.{length}
use Rattle.ground.specs.Believed.Search.{count_of}
use Rattle.ground.proofs.BoolLaws.{and_left, and_right}
use Rattle.endian.specs.Believed.Numbers.{Bytes}
use Rattle.rota.specs.Believed.Rota.{Rota}
use Rattle.rota.specs.RotaWell.{RotaWell}
use Rattle.table.specs.Believed.Table.{Entry, Table, entry_at, no_entry}
use Rattle.table.specs.Believed.TableBytes.{table_bytes}
use Rattle.table_reader.proofs.TableTheorems.{accepted-spelt}
use Rattle.rewrite_rules.specs.Believed.Rewriting.{rewrite}
use Rattle.rewrite_rules.specs.Believed.Meaning.{EnabledFor}
use Rattle.rewrite_rules.specs.Believed.Untimed.{Untimed, on_for, untimed_at, untimed_of, Rival}
use Rattle.rewrite_rules.proofs.CountingLaws.{count-single, count-like}
use Rattle.rewrite_rules.proofs.RewritingTheorems.{means}
use Rattle.claims.specs.Believed.Demand3.{Demand3}

pub one_table : (s bytes other : List ℕ) → Bytes bytes → Bytes other → Demand3 s bytes → Demand3 s other → bytes ≡ other
one_table s bytes other b o d e =
    sym (accepted-spelt bytes b d.table-accepted) ∙ ap table_bytes (d.table_is ∙ sym e.table_is) ∙ accepted-spelt other o e.table-accepted

pub own-rival : (ρ : Rota) → RotaWell ρ → (r : ℕ) → r < length ρ.roles → Rival (rewrite ρ) r (untimed_of (rewrite ρ))
own-rival ρ w r hr =
    record {
      same-pairs = λ t u p ht hu hp. refl;
      one-at-a-time = λ t ht.
          count-single (on_for r t) (length (rewrite ρ).entries) (untimed_at (rewrite ρ))
          (λ i j a b p q. (means w r t hr ht).at_most_one i j (enabled-for t i a p) (enabled-for t j b q));
    }
  where
    enabled-for : (t i : ℕ) → i < length (rewrite ρ).entries → on_for r t (untimed_at (rewrite ρ) i) ≡ true → EnabledFor (rewrite ρ) r t i
    enabled-for t i l h = record { below = l; source = eqb-true _ _ (and_left _ _ h); on = and_right (eqb (entry_at (rewrite ρ) i).source r) _ h }

pub own-count : (τ : Table) (r : ℕ) → count_of (λ (o : Untimed). eqb o.source r) (untimed_of τ) ≡ count_of (λ (e : Entry). eqb e.source r) τ.entries
own-count τ r = count-like (λ (o : Untimed). eqb o.source r) (λ (e : Entry). eqb e.source r) no_entry τ.entries (untimed_at τ) (λ i l. refl)
