-- How many static cells and initial arrays a world has room for.
use Rattle.std.specs.Prelude.{List, length, Option, Some, None, nat_lt, if◌then◌else◌}
use Rattle.cap_package.specs.PackageRecord.{PackageRecord}
use Rattle.jc_resolve.specs.declared.fault.LinkFault.{LinkFault}
use Rattle.jc_resolve.specs.declared.fault.LinkFault.TheVariants.{TooManyStatics, NoRoom}
use Rattle.jc_link.specs.Arrays.{array_records, initial_cells}
use Rattle.jc_link.specs.Statics.{static_cells}

-- the static cells are more than 32,768
abbrev pub statics_fault : List PackageRecord → Option LinkFault
statics_fault ps = if nat_lt 32768 (static_cells ps) then Some (TooManyStatics (static_cells ps)) else None

-- the initial arrays are more than 4,096, or else they have more than 32,768 cells
abbrev pub arrays_fault : List PackageRecord → Option LinkFault
arrays_fault ps =
    if nat_lt 4096 (length (array_records ps)) then Some (NoRoom (length (array_records ps)))
    else (if nat_lt 32768 (initial_cells (array_records ps)) then Some (NoRoom (initial_cells (array_records ps))) else None)
