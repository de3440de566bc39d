use Rattle.std.proofs.Common.{◌∙◌, arith}
use Rattle.endian.specs.Believed.Numbers.{bytes16}
use Rattle.endian.proofs.WrittenLaws.{put-sets, spelt16}
use Rattle.endian.proofs.write16.Goals as goal

pub returns : goal.returns
unfolding bytes16
returns c = put-sets _ _ _ _ _ c.requires (omega arith) (c.copy_from_slice.ensures.after ∙ c.to_le_bytes.ensures ∙ spelt16 c.args.v c.ranges.v.fits)
