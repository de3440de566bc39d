-- What the steps inside promise each other and the crates above, which no reader has to believe.
use Rattle.std.specs.Prelude.{ℕ, List, ◌≡◌}
use Rattle.std.proofs.Props.{props}
use Rattle.ground.specs.Believed.Outcome.{Outcome, outcome}
use Rattle.minutes.specs.Believed.Minutes.{Window}
use Rattle.table.specs.Believed.Table.{Entry, Row}
use Rattle.table.specs.Believed.TableRefusals.{header_judged, table_judged}
use Rattle.table.specs.Believed.Answers.{counts_of}
use Rattle.table.specs.declared.Counts.{Counts}
use Rattle.table.specs.declared.Window as declared

-- the header alone
unfoldable pub header_outcome : List ℕ → Outcome Counts
header_outcome s = outcome (header_judged s) (counts_of s)

-- n are the counts of a header that is not refused, and of a whole table that is not
pub record Headed (s : List ℕ) (n : Counts) : Type 0 where
  pub clear : header_judged s ≡ 0
  pub counts : n ≡ counts_of s

pub record Opened (s : List ℕ) (n : Counts) : Type 0 where
  pub clear : table_judged s ≡ 0
  pub counts : n ≡ counts_of s

-- two proofs of it are one, as the invariant of a type needs
pub Opened-prop : (s : List ℕ) (n : Counts) → IsProp (Opened s n)
Opened-prop s n = Prim.hlevel props

-- the window, the row and the entry of a call's values
abbrev pub window_made : ℕ → ℕ → ℕ → ℕ → Window
window_made begin end offset length = record { begin = begin; end = end; offset = offset; length = length }

abbrev pub window_given : declared.Window → Window
window_given w = window_made w.begin w.end w.offset w.length

abbrev pub row_made : ℕ → Window → Row
row_made d w = record { derived = d; window = w }

abbrev pub entry_made : ℕ → ℕ → ℕ → Entry
entry_made source users permissions = record { source = source; users = users; permissions = permissions }
