-- A file of a folder beside the components of which its Directory tells: the roles of classes, a Load file, a listing.
use Rattle.std.specs.Prelude.{◌≡◌, ℕ, List, ◌∷◌, string_bytes, ◌⊎◌}
use Rattle.cap_components.specs.declared.fault.PackFault.{PackFault}
use Rattle.cap_components.specs.declared.fault.PackFault.TheVariants.{MissingPart, PartTooLong}
use Rattle.cap_files.specs.Folder.{Folders, IsAbsent, IsTooLong, LoadFails}
use Rattle.cap_text.specs.Line.{malformed_line}
use Rattle.capcheck_core.specs.declared.verdict.Verdict.{Verdict}
use Rattle.capcheck_core.specs.declared.verdict.Verdict.TheVariants.{Malformed, ReadFault, Memory}

-- the file with this tag is too long
abbrev pub IsLongFile : Folders → List ℕ → ℕ → PackFault → Type 0
IsLongFile before dir tag (PartTooLong part) = (part ≡ tag) × IsTooLong before (tag ∷ dir)
IsLongFile before dir tag _ = ⊥

-- it is absent or too long
abbrev pub LacksFile : Folders → List ℕ → ℕ → PackFault → Type 0
LacksFile before dir tag (MissingPart part) = (part ≡ tag) × IsAbsent before (tag ∷ dir)
LacksFile before dir tag fault = IsLongFile before dir tag fault

-- ---- what a command on one package answers by a file

-- what it answers, and makes of the folders, by what it has of the file
abbrev pub OwnFile : Type 0 → Type 1
OwnFile A = A → Folders → Folders → Verdict → Type 0

-- the text names what is at fault in the file
pub record SaysFileFault (lacks : PackFault → Type 0) (text : List ℕ) : Type 0 where
  pub fault : PackFault
  pub is : lacks fault
  pub prints : text ≡ malformed_line 0 fault

-- the answers where the file with this key was not loaded: only a failed load leaves a trace
abbrev pub StopsAtFile : (PackFault → Type 0) → List ℕ → Folders → Folders → Verdict → Type 0
StopsAtFile lacks key before after (Malformed text) = (after ≡ before) × SaysFileFault lacks (string_bytes text)
StopsAtFile lacks key before after ReadFault = LoadFails before key after
StopsAtFile lacks key before after Memory = after ≡ before
StopsAtFile lacks key before after _ = ⊥

-- what it has of the file is such that this is true
pub record OfFile {A : Type 0} (has : A → Type 0) (P : A → Type 0) : Type 0 where
  pub file : A
  pub there : has file
  pub holds : P file

-- what a command answers, and makes of the folders: where the file with this key is none that the command can take, `lacks` says why,
-- and where it is one, `own` says both
abbrev pub OverFile : {A : Type 0} → (A → Type 0) → (PackFault → Type 0) → List ℕ → OwnFile A → Folders → Folders → Verdict → Type 0
OverFile has lacks key own before after verdict =
    StopsAtFile lacks key before after verdict ⊎ OfFile has (λ file. own file before after verdict)
