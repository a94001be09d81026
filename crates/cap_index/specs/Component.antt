-- The target index of a package: the custom component with tag 128 and this application identifier (JCVM 2.2, sections
-- 4.2 and 6.1.2).
use Rattle.std.specs.Prelude.{ℕ, List, [], Option, Some, None, Result, Ok, Err, option_and_then, bytes_eq, if◌then◌else◌}
use Rattle.cap_bytes.specs.declared.fault.FormFault.{FormFault}
use Rattle.cap_bytes.specs.Spelling.{info_of}
use Rattle.cap_bytes.specs.Reading.{reading}
use Rattle.cap_frame.specs.Tags.{index_aid}
use Rattle.cap_package.specs.Customs.{CustomItems, custom_in}
use Rattle.cap_package.specs.PackageRecord.{PackageRecord}
use Rattle.cap_index.specs.IndexFormat.{index_info}

abbrev pub info_with_aid : CustomItems → Option (List ℕ)
info_with_aid c = if bytes_eq c.aid index_aid then Some c.info else None

-- the info of a package's target index, where it has one
abbrev pub index_in : PackageRecord → Option (List ℕ)
index_in p = option_and_then info_with_aid (custom_in p 128)

abbrev pub lists_read : Result (List (List ℕ)) FormFault → List (List ℕ)
lists_read (Ok lists) = lists
lists_read (Err fault) = []

-- the lists of an index for so many methods, and none where there is no index or it is not well formed
abbrev pub lists_in : ℕ → Option (List ℕ) → List (List ℕ)
lists_in methods None = []
lists_in methods (Some info) = lists_read (reading (info_of 128) (index_info methods) info)
