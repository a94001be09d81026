-- The Method component of a package whose methods are written anew.
use Rattle.std.specs.Prelude.{◌≡◌, ◌≤◌, ◌<◌, ℕ, List, length, map, Option}
use Rattle.cap_components.specs.PackageRecord.{PackageRecord}
use Rattle.jc_decode.specs.declared.symbols.Laid.{Laid}
use Rattle.cap_laying.specs.declared.member.WrittenMember.{WrittenMember}
use Rattle.cap_laying.specs.Members.{MayBeWritten, written_size}
use Rattle.law_package.specs.Changes.{sources}
use Rattle.law_package.specs.Writing.{AreMembersOf}
use Rattle.cap_write.specs.declared.files.WriteEnd.{WriteEnd}
use Rattle.cap_write.specs.declared.files.WriteEnd.TheVariants.{PartLong, Memory}
use Rattle.cap_write.specs.Described.{member_seen}
use Rattle.cap_write.specs.PlainComponent.{plain_component}

-- the methods of a package, each with its element of the list
pub record AreMembersFor (p : PackageRecord) (laid : List (Option Laid)) (ms : List WrittenMember) : Type 0 where
  pub are : AreMembersOf p.methods.info (sources p laid) ms
  pub may : MayBeWritten (length p.methods.info) ms
  pub few : length ms ≤ 5461

-- the info would be too long: it is above 65,535 bytes, and the number told is its plain size, which is no less
pub record IsLong (size room : ℕ) (ms : List WrittenMember) (n : ℕ) : Type 0 where
  pub long : 65535 < written_size size room ms
  pub plain : n ≡ plain_component (map member_seen ms)
  pub least : written_size size room ms ≤ n

abbrev pub TellsLong : ℕ → ℕ → List WrittenMember → WriteEnd → Type 0
TellsLong size room ms (PartLong n) = IsLong size room ms n
TellsLong size room ms Memory = Unit {0}
