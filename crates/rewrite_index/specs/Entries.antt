-- Pairs of sets as the entries of a source, and one pair or one key more.
use Rattle.std.specs.Prelude.{ℕ, ◌+◌, ◌*◌, ◌≤◌, ◌≡◌, List, eqb, set, take}
use Rattle.ground.specs.Believed.Choice.{pick}
use Rattle.ground.specs.Believed.Sequence.{list_of}
use Rattle.table.specs.Believed.Table.{Entry}
use Rattle.table.specs.Inside.{entry_made}
use Rattle.rewrite_rules.specs.Believed.Distinct.{add_new, place_of}
use Rattle.rewrite_rules.specs.Believed.Rewriting.{same}
use Rattle.rewrite_trees.specs.Tree.{users_at, permissions_at}

-- pair k as an entry of a source, and the first n pairs
abbrev pub entry_at : ℕ → List ℕ → ℕ → Entry
entry_at source pairs k = entry_made source (users_at pairs k) (permissions_at pairs k)

unfoldable pub entries_to : ℕ → ℕ → List ℕ → List Entry
entries_to source n pairs = list_of n (entry_at source pairs)

-- with u and p as pair d
unfoldable pub with_pair : List ℕ → ℕ → ℕ → ℕ → List ℕ
with_pair pairs d u p = set (set pairs (2 * d) u) (2 * d + 1) p

-- with pair d linked at `hook`, and no children of it
unfoldable pub linked : List ℕ → ℕ → ℕ → ℕ → List ℕ
linked links w d hook = set (set (set links hook (d + 1)) (w + 2 * d) 0) (w + 2 * d + 1) 0

-- how many entries there are once one has come to stand at place k
abbrev pub after : ℕ → ℕ → ℕ
after d k = pick (eqb k d) (d + 1) d

-- entry e came to stand at place k: where it was, or after the d that there were
pub record Entered (source : ℕ) (e : Entry) (d : ℕ) (pairs pairs' : List ℕ) (k : ℕ) : Type 0 where
  pub place : k ≡ place_of same e (entries_to source d pairs)
  pub most : k ≤ d
  pub entries-then : entries_to source (after d k) pairs' ≡ add_new same (entries_to source d pairs) e

-- key m came to stand at place k: where it was, or after the d that there were
pub record KeyEntered (m d : ℕ) (keys keys' : List ℕ) (k : ℕ) : Type 0 where
  pub place : k ≡ place_of eqb m (take d keys)
  pub most : k ≤ d
  pub keys-then : take (after d k) keys' ≡ add_new eqb (take d keys) m
