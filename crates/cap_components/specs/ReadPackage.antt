-- What the parts of a package say, or the first fault on the way: a part that is absent, then the first part by tag that
-- breaks its format.
use Rattle.std.specs.Prelude.{List, Result, Ok}
use Rattle.cap_frame.specs.HeaderFormat.{HeaderItems, header_info}
use Rattle.cap_frame.specs.DirectoryFormat.{directory_info}
use Rattle.cap_frame.specs.ImportFormat.{imports_info}
use Rattle.cap_frame.specs.AppletFormat.{applets_info}
use Rattle.cap_pool.specs.PoolFormat.{pool_info}
use Rattle.cap_pool.specs.ExportFormat.{export_info}
use Rattle.cap_pool.specs.LocationFormat.{locations_info}
use Rattle.cap_class.specs.ClassFormat.{classes_info}
use Rattle.cap_method.specs.StaticFormat.{statics_info}
use Rattle.cap_components.specs.declared.fault.PackFault.{PackFault}
use Rattle.cap_components.specs.Parts.{Lent}
use Rattle.cap_components.specs.Components.{◌>>=◌, read_part, read_directory, read_if_held, read_methods, read_description}
use Rattle.cap_components.specs.Order.{refused}
use Rattle.cap_components.specs.PartChecks.{missing}
use Rattle.cap_components.specs.PackageRecord.{PackageRecord}

-- the components after the Header, in its format
unfoldable pub read_after : List Lent → HeaderItems → Result PackageRecord PackFault
read_after parts header = do
  directory ← read_part (directory_info header.format) 2 parts
  applets ← read_if_held applets_info 3 parts
  imports ← read_part imports_info 4 parts
  pool ← read_part pool_info 5 parts
  classes ← read_part (classes_info header.format) 6 parts
  methods ← read_methods parts
  statics ← read_part statics_info 8 parts
  locations ← read_part locations_info 9 parts
  export ← read_if_held export_info 10 parts
  description ← read_description parts
  Ok (record {
    parts = parts;
    header = header;
    directory = directory;
    applets = applets;
    imports = imports;
    pool = pool;
    classes = classes;
    methods = methods;
    statics = statics;
    locations = locations;
    export = export;
    description = description;
  })

unfoldable pub read_package : List Lent → Result PackageRecord PackFault
read_package parts = do
  header ← read_part header_info 1 parts
  read_after parts header

-- the same, where first no part that must be there is absent
unfoldable pub read_whole : List Lent → Result PackageRecord PackFault
read_whole parts = do
  all_there ← refused (missing parts (read_directory parts))
  read_package parts
