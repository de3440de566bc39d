-- What a call leaves that writes into a lent buffer.
use Rattle.std.specs.Prelude.{ℕ, ◌+◌, ◌≡◌, List, length}
use Rattle.std.proofs.lemmas.List.Edits.{sets as stores}
use Rattle.output.specs.declared.Output.{Output}

-- these bytes from its place on, every other byte kept, and the place after them, of the same buffer (so it is as long as before)
pub record Put (bytes : List ℕ) (before after : Output) : Type 0 where
  pub same : after.bytes.ghost_name ≡ before.bytes.ghost_name
  pub stored : after.bytes.now ≡ stores before.bytes.now before.at bytes
  pub long : length after.bytes.now ≡ length before.bytes.now
  pub moved : after.at ≡ before.at + length bytes
