-- A set of offsets as bits, 64 in each word, the lowest first.
use Rattle.std.specs.Prelude.{ℕ, ◌/◌, ◌%◌, Bool, List, slice_index, ◌==◌}
use Rattle.std.specs.Int.{bit_at}
use Rattle.offset_set.specs.declared.offsets.Offsets.{Offsets}

-- the bit of an offset is set
unfoldable pub is_set : List ℕ → ℕ → Bool
is_set words offset = bit_at (slice_index words (offset / 64)) (offset % 64) == 1

-- the set of the offsets whose bits are set
abbrev pub holds : Offsets → ℕ → Bool
holds offsets = is_set offsets.words
