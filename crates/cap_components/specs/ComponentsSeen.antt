-- The components of a package as values of the program.
use Rattle.cap_frame.specs.Header.{header_items}
use Rattle.cap_frame.specs.Directory.{directory_items}
use Rattle.cap_frame.specs.Imports.{packages}
use Rattle.cap_frame.specs.Applets.{applets_of}
use Rattle.cap_pool.specs.Pool.{entries}
use Rattle.cap_pool.specs.Export.{export_seen as exported}
use Rattle.cap_pool.specs.Locations.{location_items}
use Rattle.cap_class.specs.ClassPart.{records}
use Rattle.cap_method.specs.StaticPart.{statics_seen}
use Rattle.cap_components.specs.declared.components.Components.{Components}
use Rattle.cap_components.specs.PackageRecord.{PackageRecord}
use Rattle.cap_components.specs.Descriptions.{description}
use Rattle.cap_components.specs.MethodsSeen.{methods_seen}
use Rattle.cap_components.specs.IfThere.{seen_if}

abbrev pub components_seen : Components → PackageRecord
components_seen c = record {
  parts = c.parts.now;
  header = header_items c.header;
  directory = directory_items c.directory;
  applets = seen_if applets_of c.applets;
  imports = packages c.imports;
  pool = entries c.pool;
  classes = records c.classes;
  methods = methods_seen c.methods;
  statics = statics_seen c.statics;
  locations = location_items c.locations;
  export = seen_if exported c.export;
  description = description c.descriptor;
}
