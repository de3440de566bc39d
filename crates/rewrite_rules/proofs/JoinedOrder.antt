-- Rows that keep the reader's rules keep them when those that touch are joined.
--     join-well     each row in its range
--     join-order    each row after the one before
--     in_order      the same of rows of which each follows all before it
-- Assumes nothing.
use mathlib.Core.Path.{◌≡◌, ap, ◌∙◌}
use mathlib.Core.Logic.{inl, inr}
use mathlib.Core.List.{List, [], ◌∷◌}
use native.Mathlib.Omega.{arith}
use Rattle.ground.specs.Believed.Sequence.{All}
use Rattle.ground.proofs.ListLaws.{Pairwise}
use Rattle.table.specs.Believed.Table.{Row, Table, entry_at}
use Rattle.table.specs.TableWell.{RowWell, Follows, InOrder}
use Rattle.rewrite_rules.specs.Believed.Joined.{spanning, join_rows}
use Rattle.rewrite_rules.proofs.JoinLaws.{Touch, join-all, join-pairs}

module _ (τ : Table) where
  pub join-well : (ws : List Row) → All (RowWell τ) ws → All (RowWell τ) (join_rows ws)
  join-well =
      join-all (RowWell τ)
      (λ v w t p q. record {
        derived = p.derived;
        ordered = p.ordered;
        ends = p.ends;
        some-length = omega (arith, p.some-length);
        in-cycle = omega (arith, q.in-cycle, t.phase);
      })

  -- what follows the second of two rows follows their one row
  follows_both : (v w x : Row) → Touch v w → Follows τ w x → Follows τ (spanning v w) x
  follows_both v w x t h = go h
    where
      source : (entry_at τ v.derived).source ≡ (entry_at τ w.derived).source
      source = ap (λ d. (entry_at τ d).source) t.derived

      go : Follows τ w x → Follows τ (spanning v w) x
      go (inl l) = inl (omega (arith, source))
      go (inr (inl l)) = inr (inl (source ∙ l.0, t.begin ∙ l.1, t.end ∙ l.2, omega (arith, t.phase, l.3)))
      go (inr (inr l)) = inr (inr (source ∙ l.0, omega (arith, t.end, l.1)))

  -- rows of which each follows all before it follow one another
  pub in_order : (ws : List Row) → Pairwise (Follows τ) ws → InOrder τ ws
  in_order [] p = tt
  in_order (v ∷ []) p = tt
  in_order (v ∷ w ∷ ws) p = (p.0.0, in_order (w ∷ ws) p.1)

  pub join-order : (ws : List Row) → Pairwise (Follows τ) ws → InOrder τ (join_rows ws)
  join-order ws p = in_order (join_rows ws) (join-pairs (Follows τ) (λ u v w t h. h) follows_both ws p)
