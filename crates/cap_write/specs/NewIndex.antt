-- What becomes of the custom component with the tag of a target index (JCVM 2.2, section 6.1.2).
use Rattle.std.specs.Prelude.{◌≡◌, ◌≤◌, ℕ, Bool, true, false, List, length, Option, Some, None, bytes_eq, not}
use Rattle.cap_frame.specs.Tags.{index_aid}
use Rattle.cap_package.specs.Customs.{CustomItems, custom_in}
use Rattle.cap_components.specs.PackageRecord.{PackageRecord}
use Rattle.jc_decode.specs.declared.symbols.Laid.{Laid}
use Rattle.cap_index.specs.TargetIndex.{IsIndexOf}
use Rattle.cap_laying.specs.declared.writing.IndexChange.{IndexChange}
use Rattle.cap_laying.specs.declared.writing.IndexChange.TheVariants as change
use Rattle.cap_write.specs.declared.index.NewIndex.{NewIndex}
use Rattle.cap_write.specs.declared.index.NewIndex.TheVariants as variant

-- it stays as it is, there is none, or it is the target index with this info
pub data Index : Type 0 where
  stays : Index
  dropped : Index
  written : List ℕ → Index

abbrev pub index_seen : NewIndex → Index
index_seen variant.Kept = stays
index_seen variant.Dropped = dropped
index_seen (variant.Written info) = written info.items

abbrev pub has_other_aid : Option CustomItems → Bool
has_other_aid None = false
has_other_aid (Some c) = not (bytes_eq c.aid index_aid)

-- the package has a custom component with the tag 128 and another identifier
abbrev pub keeps_index : PackageRecord → Bool
keeps_index p = has_other_aid (custom_in p 128)

-- that component stays; else there is the target index of the new code, unless it would be too long
abbrev pub IsNewIndex : PackageRecord → List (Option Laid) → Index → Type 0
IsNewIndex p laid stays = keeps_index p ≡ true
IsNewIndex p laid dropped = (keeps_index p ≡ false) × IsIndexOf laid None
IsNewIndex p laid (written info) = (keeps_index p ≡ false) × IsIndexOf laid (Some info)

abbrev pub IsShortIndex : Index → Type 0
IsShortIndex stays = Unit {0}
IsShortIndex dropped = Unit {0}
IsShortIndex (written info) = length info ≤ 65535

-- what becomes of its entry in the Directory
abbrev pub change_of : Index → IndexChange
change_of stays = change.Kept
change_of dropped = change.Dropped
change_of (written info) = change.Written (length info)
