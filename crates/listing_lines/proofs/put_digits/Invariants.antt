-- The last digits are stored and the number is divided; what is left to store are the digits of what is left.
use Rattle.std.proofs.Common.{◌≡◌, length}
use Rattle.std.proofs.lemmas.List.Edits.{sets as stores}
use Rattle.listing_lines.specs.Believed.Lines.{digits}
use Rattle.listing_lines.proofs.put_digits.Given as goal

abbrev pub invariant-loop-i : goal.invariant-loop-i
invariant-loop-i l = record {
  long : length l.text ≡ 16;
  stored : stores l.text 0 (digits l.base l.i l.rest) ≡ stores l.initial.text 0 (digits l.base l.k l.n);
}
