-- What the steps of the printing promise one another.
use Rattle.std.specs.Prelude.{ℕ, ◌+◌, ◌*◌, ◌≤◌, List, length}
use Rattle.output.specs.declared.Output.{Output}
use Rattle.table.specs.Believed.TableBytes.{derived_of, rows_of}

-- the bytes hold as many entries and rows as their header says, and the buffer has room for a line for each and one more
pub record TableFits (t : List ℕ) (out : Output) : Type 0 where
  pub inside : 16 + 17 * derived_of t + 16 * rows_of t ≤ length t
  pub room : out.at + 61 + 61 * derived_of t + 61 * rows_of t ≤ length out.bytes.now
