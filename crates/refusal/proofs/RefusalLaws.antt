-- Laws of refusals: each number is above 0, so that no refusal is taken for none.
use Rattle.std.proofs.Common.{◌≡◌, ℕ, ◌<◌, arith}
use Rattle.refusal.specs.Believed.Numbers.{number}
use Rattle.refusal.specs.declared.Refusal.{Refusal}
use Rattle.refusal.specs.declared.Refusal.TheVariants as refusal

pub number-above : (r : Refusal) → 0 < number r
number-above refusal.RotaShort = omega arith
number-above refusal.RotaFormat = omega arith
number-above refusal.RotaCycle = omega arith
number-above refusal.RotaCounts = omega arith
number-above refusal.HoursCut = omega arith
number-above refusal.HoursSpan = omega arith
number-above refusal.HoursPairs = omega arith
number-above refusal.HoursPair = omega arith
number-above refusal.RotaLength = omega arith
number-above refusal.RoleHours = omega arith
number-above refusal.UserRow = omega arith
number-above refusal.PermissionRow = omega arith
number-above refusal.AreaTooSmall = omega arith
number-above refusal.TableShort = omega arith
number-above refusal.TableFormat = omega arith
number-above refusal.TableCycle = omega arith
number-above refusal.TableCounts = omega arith
number-above refusal.TableLength = omega arith
number-above refusal.TableEntry = omega arith
number-above refusal.TableRow = omega arith
number-above refusal.TableOrder = omega arith
number-above refusal.NoSuchMinute = omega arith
number-above refusal.NoSuchUser = omega arith
number-above refusal.NoSuchPermission = omega arith
number-above refusal.StateUnfit = omega arith
number-above refusal.BeforeNow = omega arith
number-above refusal.AlreadyOpen = omega arith
number-above refusal.NoPermissionNow = omega arith
number-above refusal.NotOpen = omega arith
number-above refusal.NoSuchDate = omega arith
number-above refusal.PageTooLong = omega arith
number-above refusal.RowOrder = omega arith
number-above refusal.RolePair = omega arith

pub number-some : (r : Refusal) → number r ≡ 0 → ⊥
number-some r h = omega (arith, number-above r)
