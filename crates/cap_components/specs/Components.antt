-- What the parts of a package say, component by component.
use Rattle.std.specs.Prelude.{◌≡◌, ℕ, List, Option, Some, None, Result, Ok, Err, is_some, if◌then◌else◌}
pub use Rattle.first_fault.specs.Least.{◌>>=◌}
use Rattle.cap_bytes.specs.declared.fault.FormFault.{FormFault}
use Rattle.cap_bytes.specs.Grammar.{Grammar}
use Rattle.cap_bytes.specs.Spelling.{info_of, file_of}
use Rattle.cap_bytes.specs.Reading.{reading}
use Rattle.cap_frame.specs.Frame.{component}
use Rattle.cap_frame.specs.HeaderFormat.{header_info}
use Rattle.cap_frame.specs.DirectoryFormat.{DirectoryItems, directory_info}
use Rattle.cap_method.specs.declared.read_methods.HandlerInfo.{HandlerInfo}
use Rattle.cap_method.specs.MethodFormat.{methods_info}
use Rattle.cap_desc.specs.DescriptorFormat.{descriptor_info}
use Rattle.cap_components.specs.declared.fault.PackFault.{PackFault}
use Rattle.cap_components.specs.declared.fault.PackFault.TheVariants.{Form, MissingPart}
use Rattle.cap_components.specs.Parts.{Lent, held}
use Rattle.cap_components.specs.Descriptions.{Description}

-- what a function returned, seen by a view, is this answer
abbrev pub AnswersAs : {R X : Type 0} → (R → X) → Result R PackFault → Result X PackFault → Type 0
AnswersAs view (Ok r) answer = answer ≡ Ok (view r)
AnswersAs view (Err fault) answer = answer ≡ Err fault

abbrev pub formed : {X : Type 0} → Result X FormFault → Result X PackFault
formed (Ok x) = Ok x
formed (Err fault) = Err (Form fault)

abbrev pub framed : ℕ → Option (List ℕ) → Result (List ℕ) PackFault
framed tag None = Err (MissingPart tag)
framed tag (Some bytes) = formed (reading (file_of tag) (component tag) bytes)

-- the info of the component with this tag
unfoldable pub info_in : List Lent → ℕ → Result (List ℕ) PackFault
info_in parts tag = framed tag (held parts tag)

-- the items of the component with this tag
unfoldable pub read_part : {X : Type 0} → Grammar X → ℕ → List Lent → Result X PackFault
read_part g tag parts = do
  info ← info_in parts tag
  formed (reading (info_of tag) g info)

-- the Directory in the format that the Header names: none is known where the Header is absent or malformed
unfoldable pub read_directory : List Lent → Result DirectoryItems PackFault
read_directory parts = do
  header ← read_part header_info 1 parts
  read_part (directory_info header.format) 2 parts

abbrev pub there : {X : Type 0} → Result X PackFault → Result (Option X) PackFault
there (Ok x) = Ok (Some x)
there (Err fault) = Err fault

-- the items of a component that may be absent
unfoldable pub read_if_held : {X : Type 0} → Grammar X → ℕ → List Lent → Result (Option X) PackFault
read_if_held g tag parts = if is_some (held parts tag) then there (read_part g tag parts) else Ok None

-- the Method component: its info, in which the methods stand, and its handler table
pub record Methods : Type 0 where
  pub info : List ℕ
  pub handlers : List HandlerInfo

unfoldable pub read_methods : List Lent → Result Methods PackFault
read_methods parts = do
  info ← info_in parts 7
  handlers ← formed (reading (info_of 7) methods_info info)
  Ok (record { info = info; handlers = handlers })

-- the Descriptor component: its info, in which the type descriptors stand, and its items
unfoldable pub read_description : List Lent → Result Description PackFault
read_description parts = do
  info ← info_in parts 11
  items ← formed (reading (info_of 11) descriptor_info info)
  Ok (record { info = info; items = items })
