use Rattle.std.proofs.Common.{arith, add_assoc}
use Rattle.endian.specs.Believed.Numbers.{u16_at, u32_at}
use Rattle.endian.proofs.read32.Goals as goal

pub returns : goal.returns
unfolding u16_at u32_at
returns c = simp add_assoc (omega (arith, c.from_le_bytes.ensures))
