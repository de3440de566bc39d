use Rattle.std.proofs.Common.{◌∙◌, arith}
use Rattle.endian.specs.Believed.Numbers.{bytes16, bytes32}
use Rattle.endian.proofs.WrittenLaws.{put-sets, spelt32}
use Rattle.endian.proofs.write32.Goals as goal

pub returns : goal.returns
unfolding bytes16 bytes32
returns c = put-sets _ _ _ _ _ c.requires (omega arith) (c.copy_from_slice.ensures.after ∙ c.to_le_bytes.ensures ∙ spelt32 c.args.v c.ranges.v.fits)
