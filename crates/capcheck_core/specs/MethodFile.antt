-- The file of a bare method: a Method component (JCVM 2.2, section 6.9) whose info is one method without handlers.
use Rattle.std.specs.Prelude.{◌≡◌, ℕ, ◌≤◌, List, length, ◌⊎◌}
use Rattle.cap_bytes.specs.declared.fault.FormFault.{FormFault}
use Rattle.cap_bytes.specs.Spelling.{Stands, Breaks, file_of}
use Rattle.cap_frame.specs.Frame.{component}
use Rattle.cap_components.specs.declared.fault.PackFault.{PackFault}
use Rattle.cap_components.specs.declared.fault.PackFault.TheVariants.{Form}
use Rattle.cap_bare.specs.declared.format.Bare.{Bare}
use Rattle.cap_bare.specs.MethodFile.{method_info, IsFileFault}

-- the tag of the Method component
abbrev pub method_tag : ℕ
method_tag = 7

-- the file is a Method component that holds this bare method, whose code has 1 to 32,767 bytes
pub record IsMethodFile (file : List ℕ) (bare : Bare) (code : List ℕ) : Type 0 where
  pub info : List ℕ
  pub framed : Stands (component method_tag) file info
  pub method : Stands method_info info (record { bare = bare; code = code })
  pub filled : 1 ≤ length code
  pub short : length code ≤ 32767

-- the first item of the file that breaks it is one of the frame
pub record BreaksInFrame (file : List ℕ) (fault : PackFault) : Type 0 where
  pub form : FormFault
  pub breaks : Breaks (file_of method_tag) (component method_tag) file 0 form
  pub named : fault ≡ Form form

-- the frame is whole, and its info is that of no bare method
pub record BreaksInMethod (file : List ℕ) (fault : PackFault) : Type 0 where
  pub info : List ℕ
  pub framed : Stands (component method_tag) file info
  pub breaks : IsFileFault info fault

-- why the file holds no bare method
abbrev pub RefusesFile : List ℕ → PackFault → Type 0
RefusesFile file fault = BreaksInFrame file fault ⊎ BreaksInMethod file fault
