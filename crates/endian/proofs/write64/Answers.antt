use Rattle.std.proofs.Common.{◌∙◌, arith}
use Rattle.endian.specs.Believed.Numbers.{bytes16, bytes32, bytes64}
use Rattle.endian.proofs.WrittenLaws.{put-sets, spelt64}
use Rattle.endian.proofs.write64.Goals as goal

pub returns : goal.returns
unfolding bytes16 bytes32 bytes64
returns c = put-sets _ _ _ _ _ c.requires (omega arith) (c.copy_from_slice.ensures.after ∙ c.to_le_bytes.ensures ∙ spelt64 c.args.v c.ranges.v.fits)
