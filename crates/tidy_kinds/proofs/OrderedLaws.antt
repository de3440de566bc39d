-- Rows that ascend already are the rows in order, each once.
--     in-order-long, in-order-bytes     how many, and their bytes
-- Assumes nothing.
use Prim.Native.Nat.{ℕ, ◌*◌}
use mathlib.Core.Path.{◌≡◌, sym, ap, ◌∙◌}
use mathlib.Core.Bool.{false}
use mathlib.Core.List.{List}
use native.Mathlib.Omega.{arith}
use borrow.Author.Tests.{ltb-false}
use lib.Dec.{ltb}
use lib.ListN.{length, take, drop}
use Rattle.ground.specs.Believed.Search.{any_below}
use Rattle.ground.specs.Believed.Sequence.{list_of, joined}
use Rattle.ground.proofs.SearchLaws.{any-no}
use Rattle.ground.proofs.SequenceLaws.{list_of-length, all-list_of}
use Rattle.endian.specs.Believed.Numbers.{Bytes}
use Rattle.endian.proofs.PartLaws.{part}
use Rattle.rota.specs.Believed.Order.{key_of, least}
use Rattle.rota.specs.Believed.RotaBytes.{roles_of, hours_of, row_at, row_bytes}
use Rattle.rota.specs.RotaWell.{RowWell}
use Rattle.rota.proofs.OrderLaws.{all-ascend}
use Rattle.rota.proofs.RotaBytesLaws.{spell-rows}
use Rattle.tidy_rules.specs.Inside.{KindFine, kind_rows, kind_bytes}
use Rattle.tidy_rules.proofs.TidyLaws.{tidy-tidy}

module _ (s : List ℕ) (at n : ℕ) (w : KindFine s at n)
    (up : any_below n (λ k. ltb (key_of (row_at s at k)) (least (row_at s at) k)) ≡ false) where
  in_order : kind_rows s at n ≡ list_of n (row_at s at)
  in_order =
      tidy-tidy 64 (roles_of s) (hours_of s) (omega arith) (omega (arith, w.roles-most)) (omega (arith, w.hours-most)) (list_of n (row_at s at))
      (all-list_of (RowWell 64 (roles_of s) (hours_of s)) n (row_at s at) w.each)
      (all-ascend n (row_at s at) (λ k l. ltb-false _ _ (any-no n _ up k l)))

  pub in-order-long : n ≡ length (kind_rows s at n)
  in-order-long = omega (arith, ap length in_order, list_of-length n (row_at s at))

  pub in-order-bytes : Bytes s → take (3 * n) (drop at s) ≡ kind_bytes s at n
  unfolding part
  in-order-bytes b = sym (spell-rows s b at n w.within) ∙ ap (joined row_bytes) (sym in_order)
