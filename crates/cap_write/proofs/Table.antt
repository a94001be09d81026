-- The handler table that is written.
use Rattle.std.proofs.Common.{ℕ, List, arith}
use Rattle.cap_bytes.specs.Spelling.{Stands}
use Rattle.cap_method.specs.MethodFormat.{methods_info}
use Rattle.cap_laying.specs.declared.member.WrittenMember.{WrittenMember}
use Rattle.cap_laying.specs.Blocks.{blocks, entries_of_blocks}
use Rattle.cap_laying.specs.MethodInfo.{AreSmallEntries}
use Rattle.cap_laying.specs.Members.{MayBeWritten, new_places, written_info}
use Rattle.cap_laying.proofs.InfoLaws.{info_written}
use Rattle.cap_laying.proofs.Owned.{length_table, total_blocks}

pub table_stands : (size room : ℕ) (ms : List WrittenMember) → MayBeWritten size ms
    → AreSmallEntries (entries_of_blocks (new_places size room ms) (blocks room ms))
    → Stands methods_info (written_info size room ms) (entries_of_blocks (new_places size room ms) (blocks room ms))
unfolding written_info
table_stands size room ms may small = grind (arith, length_table, total_blocks, info_written)
