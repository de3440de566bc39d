-- Every byte that the listing program prints (document 01, "Calendar and listing").
use Rattle.std.specs.Prelude.{ℕ, ◌≤◌, ◌≡◌, List, eqb, ltb, length, take, drop}
use Rattle.ground.specs.Believed.Choice.{pick}
use Rattle.ground.specs.Believed.Judgement.{refuse, ◌or_else◌}
use Rattle.rota.specs.Believed.RotaBytes.{rota_of}
use Rattle.rewrite_rules.specs.Believed.Rewriting.{rewrite, rewrite_judged}
use Rattle.listing_lines.specs.Believed.Lines.{refused_line}
use Rattle.listing_table.specs.Believed.TableText.{table_text}

-- what is refused: more than 8,192 bytes are 9, before any other check; then what rewriting into 65,536 bytes refuses
unfoldable pub listing_judged : List ℕ → ℕ
listing_judged s = refuse 9 (ltb 8192 (length s)) or_else rewrite_judged s 65536

-- every byte that is printed for the input s
unfoldable pub listing_of : List ℕ → List ℕ
listing_of s = pick (eqb (listing_judged s) 0) (table_text (rewrite (rota_of s))) (refused_line (listing_judged s))

-- a text at the start of a buffer, every byte past it kept, and its length; so `&buffer[..n]` may be lent, and is the text
pub record Text (text before after : List ℕ) (n : ℕ) : Type 0 where
  pub shown : take n after ≡ text
  pub kept : drop n after ≡ drop n before
  pub counted : n ≡ length text
  pub whole : n ≡ length (take n after)
  pub fits : n ≤ length after
