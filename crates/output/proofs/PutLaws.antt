-- Bytes put one after the other.
--     put_none                no byte is put
--     put-room                there is room for more bytes
--     put-more                more bytes after them
-- Assumes nothing.
use Rattle.std.proofs.Common.{ℕ, ◌+◌, ◌≤◌, ◌≡◌, refl, ◌∙◌, ap, List, [], ◌++◌, length, arith, length-append}
use Rattle.std.proofs.lemmas.List.Edits.{sets as stores}
use Rattle.endian.proofs.WrittenLaws.{sets-append}
use Rattle.output.specs.declared.Output.{Output}
use Rattle.output.specs.Put.{Put}

pub put_none : (b : Output) → Put [] b b
put_none b = record { same = refl; stored = refl; long = refl; moved = omega arith }

module _ {bytes : List ℕ} {b a : Output} (p : Put bytes b a) where
  -- where the bytes to come, with these, are no more than n
  pub put-room : (more : List ℕ) (n : ℕ) → length bytes + length more ≤ n → b.at + n ≤ length b.bytes.now → a.at + length more ≤ length a.bytes.now
  put-room more n h r = omega (arith, p.moved, p.long)

  pub put-more : {more : List ℕ} {c : Output} → Put more a c → Put (bytes ++ more) b c
  put-more {more} {c} q =
      record {
        same = q.same ∙ p.same;
        stored =
            q.stored
            ∙ ap (λ (l : List ℕ). stores l a.at more) p.stored
            ∙ ap (λ (i : ℕ). stores (stores b.bytes.now b.at bytes) i more) p.moved
            ∙ sets-append b.bytes.now b.at bytes more;
        long = q.long ∙ p.long;
        moved = omega (arith, q.moved, p.moved, length-append bytes more);
      }
