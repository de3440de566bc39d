-- The text that is printed, by what happens to the input.
--     put-text                       what was put at the start is the text
--     long-line, refused-text        the line of too many bytes; of what rewriting refuses
--     table_fits, table-text         a table that is written has room for its text; its text
-- Assumes nothing.
use Prim.Native.Nat.{ℕ, ◌≤◌, ◌<◌}
use mathlib.Core.Path.{◌≡◌, sym, ap, ◌∙◌}
use mathlib.Core.List.{List, [], ◌++◌}
use native.Mathlib.Nat.{zero-add}
use native.Mathlib.Omega.{arith}
use lib.Dec.{ltb}
use lib.ListN.{length, take, drop}
use lib.Seq.{sets, sets-eq, take-append_seam, drop-append_seam}
use borrow.Author.Tests.{eq-eqb, ne_eqb, lt-ltb, le-ltb, ltb-false}
use Rattle.ground.specs.Believed.Judgement.{refuse, ◌or_else◌}
use Rattle.ground.specs.Believed.Outcome.{refused, given}
use Rattle.ground.proofs.BoolLaws.{pick_true}
use Rattle.ground.proofs.JudgementLaws.{or_else-zero, refuse-yes, refuse-none, refuse-no}
use Rattle.ground.proofs.OutcomeLaws.{refused-by, given_by}
use Rattle.endian.proofs.StandsLaws.{At, at_long}
use Rattle.rota.specs.Believed.RotaBytes.{rota_of}
use Rattle.rota.specs.Believed.RotaRefusals.{rota_judged}
use Rattle.table.specs.Believed.TableBytes.{table_bytes, table_of}
use Rattle.table_reader.proofs.ReadBackLaws.{bytes-length, header_is, spells}
use Rattle.rewrite_rules.specs.Believed.Rewriting.{rewrite, size_of, rewrite_judged, Written, written_of, rewrite_outcome, area_after}
use Rattle.listing_lines.specs.Believed.Lines.{refused_line}
use Rattle.output.specs.declared.Output.{Output}
use Rattle.output.specs.Put.{Put}
use Rattle.listing_table.specs.Believed.TableText.{table_text}
use Rattle.listing_print.specs.Believed.Listing.{listing_judged, listing_of, Text}
use Rattle.listing_table.specs.Parts.{TableFits}

-- what is left of the buffer is its new bytes
pub put-text : {text : List ℕ} {b a : Output} (m : List ℕ) → Put text b a → b.at ≡ 0 → m ≡ a.bytes.now → a.at ≤ length b.bytes.now
    → Text text b.bytes.now m a.at
put-text {text} {b} {a} m p z q h =
    let l = b.bytes.now in
    let n = a.at in
    let c : n ≡ length text = omega (arith, p.moved, z) in
    let w : m ≡ sets l 0 text = q ∙ p.stored ∙ ap (λ (k : ℕ). sets l k text) z in
    let e : m ≡ text ++ drop (length text) l = w ∙ sets-eq text l 0 (omega arith) ∙ ap (λ (k : ℕ). text ++ drop k l) (zero-add (length text)) in
    let f : length m ≡ length l = ap length q ∙ p.long in
    let t = ap (λ (k : ℕ). take k m) c ∙ ap (λ (x : List ℕ). take (length text) x) e ∙ take-append_seam text (drop (length text) l) in
    record {
      shown = t;
      kept =
          ap (λ (k : ℕ). drop k m) c ∙ ap (λ (x : List ℕ). drop (length text) x) e ∙ drop-append_seam text (drop (length text) l)
          ∙ ap (λ (k : ℕ). drop k l) (sym c);
      counted = c;
      whole = c ∙ ap length (sym t);
      fits = omega arith;
    }

module _ (s : List ℕ) where
  -- a refusal's line is what is printed
  stopped : (k : ℕ) → listing_judged s ≡ k → (k ≡ 0 → ⊥) → refused_line k ≡ listing_of s
  unfolding listing_of
  stopped k e ne = rw (e, ne_eqb k 0 ne)

  long : 8192 < length s → listing_judged s ≡ 9
  unfolding listing_judged ◌or_else◌
  long h = rw (refuse-yes 9 (ltb 8192 (length s)) (lt-ltb 8192 (length s) h))

  short : length s ≤ 8192 → listing_judged s ≡ rewrite_judged s 65536
  unfolding listing_judged ◌or_else◌
  short h = rw (refuse-none 9 (ltb 8192 (length s)) (le-ltb 8192 (length s) h))

  pub long-line : 8192 < length s → refused_line 9 ≡ listing_of s
  long-line h = stopped 9 (long h) (λ z. absurd (omega arith))

  pub refused-text : (area k : ℕ) → length s ≤ 8192 → area ≡ 65536 → refused k ≡ rewrite_outcome s area → refused_line k ≡ listing_of s
  unfolding rewrite_outcome
  refused-text area k h a e =
      let b = refused-by k (rewrite_judged s area) (written_of (rewrite (rota_of s))) e in
      stopped k (short h ∙ ap (rewrite_judged s) (sym a) ∙ b.0) (λ z. b.1 (b.0 ∙ z))

  -- a table that is written
  module _ (area after : List ℕ) (w : Written) (a : length area ≡ 65536) (e : given w ≡ rewrite_outcome s (length area)) (f : after ≡ area_after s area) where
    clear : rewrite_judged s (length area) ≡ 0
    unfolding rewrite_outcome
    clear = (given_by w (rewrite_judged s (length area)) (written_of (rewrite (rota_of s))) e).0

    stands : At after 0 (table_bytes (rewrite (rota_of s)))
    unfolding area_after
    stands =
        record {
          front = [];
          back = drop (size_of (rewrite (rota_of s))) area;
          is = f ∙ pick_true _ _ _ (eq-eqb (rewrite_judged s (length area)) 0 clear);
          place = omega arith;
        }

    small : size_of (rewrite (rota_of s)) ≤ 65536
    unfolding rewrite_judged
    small =
        let size = size_of (rewrite (rota_of s)) in
        let no = refuse-no 19 (ltb (length area) size) (or_else-zero (rota_judged s) (refuse 20 (ltb (length area) size)) clear).1 in
        omega (arith, ltb-false (length area) size no)

    pub table_fits : (out : Output) → out.at ≡ 0 → 249856 ≤ length out.bytes.now → TableFits after out
    unfolding size_of
    table_fits out z r =
        let τ = rewrite (rota_of s) in
        let h = header_is after τ stands in
        record {
          inside = omega (arith, at_long (table_bytes τ) stands, bytes-length τ, h.derived, h.rows);
          room = omega (arith, small, h.derived, h.rows, z);
        }

    pub table-text : length s ≤ 8192 → table_text (table_of after) ≡ listing_of s
    unfolding listing_of
    table-text h =
        let j : listing_judged s ≡ 0 = short h ∙ ap (rewrite_judged s) (sym a) ∙ clear in
        ap table_text (spells after (rewrite (rota_of s)) stands) ∙ sym (pick_true _ _ _ (eq-eqb (listing_judged s) 0 j))
