-- What the components of a package say (JCVM 2.2, chapter 6), or the first by tag that is absent or breaks its format.
use Rattle.std.specs.Prelude.{◌≡◌, ℕ, ◌⊎◌, List, Option, Some, None}
use Rattle.cap_bytes.specs.declared.fault.FormFault.{FormFault}
use Rattle.cap_bytes.specs.declared.fault.Format.{Format}
use Rattle.cap_bytes.specs.Grammar.{Grammar}
use Rattle.cap_bytes.specs.Spelling.{Stands, Breaks, info_of, file_of}
use Rattle.cap_frame.specs.Frame.{component}
use Rattle.cap_frame.specs.HeaderFormat.{HeaderItems, header_info}
use Rattle.cap_frame.specs.DirectoryFormat.{directory_info}
use Rattle.cap_frame.specs.ImportFormat.{imports_info}
use Rattle.cap_frame.specs.AppletFormat.{applets_info}
use Rattle.cap_pool.specs.PoolFormat.{pool_info}
use Rattle.cap_pool.specs.ExportFormat.{export_info}
use Rattle.cap_pool.specs.LocationFormat.{locations_info}
use Rattle.cap_class.specs.ClassFormat.{classes_info}
use Rattle.cap_method.specs.MethodFormat.{methods_info}
use Rattle.cap_method.specs.StaticFormat.{statics_info}
use Rattle.cap_desc.specs.DescriptorFormat.{descriptor_info}
use Rattle.cap_components.specs.declared.fault.PackFault.{PackFault}
use Rattle.cap_components.specs.declared.fault.PackFault.TheVariants.{Form, MissingPart}
use Rattle.cap_components.specs.Parts.{Lent, held}
use Rattle.cap_components.specs.PackageRecord.{PackageRecord}

-- ---- what is said

-- the part with this tag holds a component with this info, which stands for these items
pub record HoldsComponent {X : Type 0} (parts : List Lent) (tag : ℕ) (g : Grammar X) (info : List ℕ) (items : X) : Type 0 where
  pub file : List ℕ
  pub there : held parts tag ≡ Some file
  pub framed : Stands (component tag) file info
  pub said : Stands g info items

-- the same of some info
abbrev pub Says : {X : Type 0} → List Lent → ℕ → Grammar X → X → Type 0
Says parts tag g items = (info : List ℕ) × HoldsComponent parts tag g info items

-- the same of a part that may be absent
abbrev pub SaysIf : {X : Type 0} → List Lent → ℕ → Grammar X → Option X → Type 0
SaysIf parts tag g None = held parts tag ≡ None
SaysIf parts tag g (Some items) = Says parts tag g items

-- the components of the parts say what is in the record
pub record AreSaid (parts : List Lent) (p : PackageRecord) : Type 0 where
  pub same : p.parts ≡ parts
  pub header : Says parts 1 header_info p.header
  pub directory : Says parts 2 (directory_info p.header.format) p.directory
  pub applets : SaysIf parts 3 applets_info p.applets
  pub imports : Says parts 4 imports_info p.imports
  pub pool : Says parts 5 pool_info p.pool
  pub classes : Says parts 6 (classes_info p.header.format) p.classes
  pub methods : HoldsComponent parts 7 methods_info p.methods.info p.methods.handlers
  pub statics : Says parts 8 statics_info p.statics
  pub locations : Says parts 9 locations_info p.locations
  pub export : SaysIf parts 10 export_info p.export
  pub description : HoldsComponent parts 11 descriptor_info p.description.info p.description.items

-- ---- what breaks its format

-- the file of the part with this tag, or the info in it, breaks its format: at the first item that does, in this way
pub data IsBroken {X : Type 0} (parts : List Lent) (tag : ℕ) (g : Grammar X) (form : FormFault) : Type 0 where
  in_file : (file : List ℕ) → held parts tag ≡ Some file → Breaks (file_of tag) (component tag) file 0 form
      → IsBroken parts tag g form
  in_info :
      (file info : List ℕ)
      → held parts tag ≡ Some file
      → Stands (component tag) file info
      → Breaks (info_of tag) g info 0 form
      → IsBroken parts tag g form

-- the part with this tag is absent, or it breaks its format
pub data PartFails {X : Type 0} (parts : List Lent) (tag : ℕ) (g : Grammar X) (fault : PackFault) : Type 0 where
  absent : held parts tag ≡ None → fault ≡ MissingPart tag → PartFails parts tag g fault
  broken : (form : FormFault) → fault ≡ Form form → IsBroken parts tag g form → PartFails parts tag g fault

-- a part that every package has fails, or it says something and others fail
abbrev pub FailsOr : {X : Type 0} → List Lent → ℕ → Grammar X → PackFault → Type 0 → Type 0
FailsOr parts tag g fault others = PartFails parts tag g fault ⊎ (((items : _) × Says parts tag g items) × others)

-- a part that may be absent breaks its format, or it says something, or is absent, and others fail
abbrev pub BreaksOr : {X : Type 0} → List Lent → ℕ → Grammar X → PackFault → Type 0 → Type 0
BreaksOr parts tag g fault others = ((form : FormFault) × (fault ≡ Form form) × IsBroken parts tag g form)
    ⊎ (((items : _) × SaysIf parts tag g items) × others)

-- the first component by tag that fails of those after the Header, in its format
abbrev pub IsFirstAfter : Format → List Lent → PackFault → Type 0
IsFirstAfter format parts fault =
    FailsOr parts 2 (directory_info format) fault
    (BreaksOr parts 3 applets_info fault
    (FailsOr parts 4 imports_info fault
    (FailsOr parts 5 pool_info fault
    (FailsOr parts 6 (classes_info format) fault
    (FailsOr parts 7 methods_info fault
    (FailsOr parts 8 statics_info fault
    (FailsOr parts 9 locations_info fault
    (BreaksOr parts 10 export_info fault
    (PartFails parts 11 descriptor_info fault)))))))))

-- the first component by tag that fails: the Header, or the first of the others in the format that it names
abbrev pub IsFirstFailingPart : List Lent → PackFault → Type 0
IsFirstFailingPart parts fault =
    PartFails parts 1 header_info fault
    ⊎ ((header : HeaderItems) × Says parts 1 header_info header × IsFirstAfter header.format parts fault)
