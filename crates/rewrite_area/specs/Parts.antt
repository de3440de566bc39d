-- What the steps of the rewriting promise one another: a table put into an area.
use Rattle.std.specs.Prelude.{ℕ, ◌+◌, ◌*◌, ◌≤◌, ◌<◌, ltb}
use Rattle.ground.specs.Believed.Judgement.{refuse}
use Rattle.ground.specs.Believed.Outcome.{Outcome, outcome}
use Rattle.table.specs.Believed.Table.{Table}
use Rattle.rewrite_rules.specs.Believed.Rewriting.{size_of, Written, written_of}
use Rattle.rewrite_count.specs.Parts.{length_with}
use Rattle.rewrite_count.specs.declared.Count.{Count}

-- what is told of a table that is put into an area with so much room: 20 exactly where it is longer
unfoldable pub placed_outcome : Table → ℕ → Outcome Written
placed_outcome τ room = outcome (refuse 20 (ltb room (size_of τ))) (written_of τ)

-- what is told of a table by its counts
abbrev pub counts_of : Count → Written
counts_of k = record { derived = k.entries; rows = k.rows; length = length_with k.entries k.rows }

-- scratch of such sizes has a place for each of n fields and of nc cells, and for the links of an index with so many trees; and each array fits the
-- memory that there can be, as the language asks of arrays whose lengths are parameters
pub record Sizes (n nc cells fields pairs marks trees links : ℕ) : Type 0 where
  pub few-fields : n ≤ 33345
  pub for-cells : nc ≤ cells
  pub for-fields : n ≤ fields
  pub for-pairs : 2 * n ≤ pairs
  pub for-marks : n < marks
  pub for-links : trees + 2 * n ≤ links
  pub some : 0 < trees
  pub most : trees ≤ 65536
  pub fit : (cells < 1152921504606846976) × (fields < 1152921504606846976) × (pairs < 1152921504606846976) × (marks < 1152921504606846976) × (links < 1152921504606846976)
