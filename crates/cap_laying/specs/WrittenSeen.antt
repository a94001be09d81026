-- A Method component that is written anew, as a value of the program.
use Rattle.std.specs.Prelude.{◌≡◌, ◌≤◌, ◌<◌, ℕ, List, Option, Some, None}
use Rattle.cap_laying.specs.declared.member.WrittenMember.{WrittenMember}
use Rattle.cap_laying.specs.declared.method_component.Written.{Written}
use Rattle.cap_laying.specs.Blocks.{blocks, entries_of_blocks}
use Rattle.cap_laying.specs.MethodInfo.{AreSmallEntries}
use Rattle.cap_laying.specs.Members.{new_places, written_info, written_size}
use Rattle.cap_laying.specs.References.{written_references}

-- it is that of the methods, in an info of at most 65,535 bytes
pub record IsWrittenAs (size room : ℕ) (ms : List WrittenMember) (w : Written) : Type 0 where
  pub info : w.info.items ≡ written_info size room ms
  pub references : w.references.items ≡ written_references size room ms
  pub news : w.news ≡ new_places size room ms
  pub short : written_size size room ms ≤ 65535
  -- the entries of its handler table have numbers that their items hold
  pub small : AreSmallEntries (entries_of_blocks (new_places size room ms) (blocks room ms))

-- there is none exactly where its info would be longer
abbrev pub WritesMethods : ℕ → ℕ → List WrittenMember → Option Written → Type 0
WritesMethods size room ms None = 65535 < written_size size room ms
WritesMethods size room ms (Some w) = IsWrittenAs size room ms w
