-- Parts of a line put one after the other.
--     put-with     a part with one byte after it, after what was put
-- Assumes nothing.
use Rattle.std.proofs.Common.{List, ◌++◌, ℕ, append_assoc}
use Rattle.output.specs.declared.Output.{Output}
use Rattle.output.specs.Put.{Put}
use Rattle.output.proofs.PutLaws.{put-more}

pub put-with : {vs : List ℕ} {b a c : Output} (ws us : List ℕ) → Put vs b a → Put (ws ++ us) a c → Put (vs ++ ws ++ us) b c
put-with {vs} ws us p q = rw (append_assoc vs ws us) (put-more p q)
