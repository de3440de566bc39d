-- The number of each refusal (document 01, "Refusals by operation"; 52 and 54 of document 02).
use Rattle.std.specs.Prelude.{ℕ}
use Rattle.refusal.specs.declared.Refusal.{Refusal}
use Rattle.refusal.specs.declared.Refusal.TheVariants as refusal

abbrev pub number : Refusal → ℕ
number refusal.RotaShort = 1
number refusal.RotaFormat = 2
number refusal.RotaCycle = 3
number refusal.RotaCounts = 4
number refusal.HoursCut = 5
number refusal.HoursSpan = 6
number refusal.HoursPairs = 7
number refusal.HoursPair = 8
number refusal.RotaLength = 9
number refusal.RoleHours = 10
number refusal.UserRow = 11
number refusal.PermissionRow = 12
number refusal.AreaTooSmall = 20
number refusal.TableShort = 21
number refusal.TableFormat = 22
number refusal.TableCycle = 23
number refusal.TableCounts = 24
number refusal.TableLength = 25
number refusal.TableEntry = 26
number refusal.TableRow = 27
number refusal.TableOrder = 28
number refusal.NoSuchMinute = 33
number refusal.NoSuchUser = 34
number refusal.NoSuchPermission = 35
number refusal.StateUnfit = 40
number refusal.BeforeNow = 41
number refusal.AlreadyOpen = 42
number refusal.NoPermissionNow = 43
number refusal.NotOpen = 44
number refusal.NoSuchDate = 50
number refusal.PageTooLong = 51
number refusal.RowOrder = 52
number refusal.RolePair = 54
