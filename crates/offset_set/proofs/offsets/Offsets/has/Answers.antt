-- The bit is tested where the offset has it.
use Rattle.std.proofs.Common.{◌%◌, ◌/◌, slice_index_or, refl}
use Rattle.std.proofs.lemmas.Nat.Bits.{shr_and_one}
use Rattle.offset_set.specs.Bits.{is_set}
use Rattle.offset_set.proofs.offsets.Offsets.has.Goals as goal

pub returns : goal.returns
unfolding is_set
returns c = rw (shr_and_one (slice_index_or c.args.self.now.words (c.args.offset / 64) 0) (c.args.offset % 64)) refl
