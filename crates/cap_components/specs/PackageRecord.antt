-- A package: what its components say (JCVM 2.2, chapter 6).
use Rattle.std.specs.Prelude.{ℕ, Bool, List, Option, take, drop, ◌==◌, ◌&&◌}
use Rattle.std.specs.List.{list_any}
use Rattle.cap_frame.specs.PackageFormat.{Package}
use Rattle.cap_frame.specs.HeaderFormat.{HeaderItems}
use Rattle.cap_frame.specs.DirectoryFormat.{DirectoryItems}
use Rattle.cap_frame.specs.AppletFormat.{Applet}
use Rattle.cap_pool.specs.PoolFormat.{Entry}
use Rattle.cap_pool.specs.ExportFormat.{Exported}
use Rattle.cap_pool.specs.LocationFormat.{LocationItems}
use Rattle.cap_class.specs.ClassFormat.{Class, is_interface}
use Rattle.cap_method.specs.StaticFormat.{Statics, Array}
use Rattle.cap_method.specs.declared.read_methods.HandlerInfo.{HandlerInfo}
use Rattle.cap_desc.specs.DescriptorFormat.{MethodDescriptor, FieldDescriptor}
use Rattle.cap_desc.specs.Members.{methods_in, methods_but, fields_of}
use Rattle.cap_components.specs.MethodPlaces.{code_start}
use Rattle.cap_components.specs.Parts.{Lent}
use Rattle.cap_components.specs.Descriptions.{Description}
use Rattle.cap_components.specs.Components.{Methods}

-- a package and the files that it was read from
pub record PackageRecord : Type 0 where
  pub parts : List Lent
  pub header : HeaderItems
  pub directory : DirectoryItems
  pub applets : Option (List Applet)
  pub imports : List Package
  pub pool : List Entry
  pub classes : List Class
  pub methods : Methods
  pub statics : Statics
  pub locations : LocationItems
  pub export : Option (List Exported)
  pub description : Description

-- the package's own identifier and version
abbrev pub aid : PackageRecord → List ℕ
aid p = p.header.package_of.aid

abbrev pub minor : PackageRecord → ℕ
minor p = p.header.package_of.minor

abbrev pub major : PackageRecord → ℕ
major p = p.header.package_of.major

abbrev pub initial_arrays : PackageRecord → List Array
initial_arrays p = p.statics.arrays

-- a reference names the record of an interface of the Class component
unfoldable pub names_interface : List Class → ℕ → Bool
names_interface classes reference = list_any (λ (c : Class). c.offset == reference && is_interface c.flags) classes

-- the methods that the Descriptor describes with a place in the Method component: those of classes. A method is one of a
-- class unless the reference of its class names an interface, also where it names no record.
abbrev pub described_methods : PackageRecord → List MethodDescriptor
described_methods p = methods_but (names_interface p.classes) p.description.items.classes

-- the methods of interfaces
abbrev pub interface_methods : PackageRecord → List MethodDescriptor
interface_methods p = methods_in (names_interface p.classes) p.description.items.classes

-- the fields that it describes
abbrev pub fields : PackageRecord → List FieldDescriptor
fields p = fields_of p.description.items.classes

-- a method's code
abbrev pub code_of : PackageRecord → MethodDescriptor → List ℕ
code_of p m = take m.bytecode_count (drop (code_start p.methods.info m) p.methods.info)

-- the handlers of a method
abbrev pub handlers_of : PackageRecord → MethodDescriptor → List HandlerInfo
handlers_of p m = take m.handler_count (drop m.handler_index p.methods.handlers)
