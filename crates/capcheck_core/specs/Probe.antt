-- What `probe` may answer, by the file of the Method component in its folder.
use Rattle.std.specs.Prelude.{◌≡◌, ℕ, ℤ, ◌≤◌, List, ◌∷◌, length, string_bytes, ◌⊎◌}
use Rattle.cap_files.specs.Folder.{Folders, IsThere, IsAbsent, IsTooLong, LoadFails}
use Rattle.cap_components.specs.declared.fault.PackFault.{PackFault}
use Rattle.cap_components.specs.declared.fault.PackFault.TheVariants.{MissingPart, PartTooLong}
use Rattle.cap_bare.specs.declared.format.Bare.{Bare}
use Rattle.cap_bare.specs.declared.fault.BareFault.{BareFault}
use Rattle.cap_bare.specs.declared.run.BareEnd.{BareEnd}
use Rattle.cap_bare.specs.Typing.{BareTyping}
use Rattle.cap_bare.specs.Met.{IsRefused}
use Rattle.cap_bare.specs.Machine.{RunAnswers, after, entered}
use Rattle.vm_step.specs.declared.ending.StartFault.{StartFault}
use Rattle.cap_text.specs.Probe.{ProbeRequest}
use Rattle.cap_text.specs.Line.{malformed_line, not_started_line, refused_bare_line, bare_ending_line}
use Rattle.capcheck_core.specs.declared.verdict.Verdict.{Verdict}
use Rattle.capcheck_core.specs.declared.verdict.Verdict.TheVariants.{Done, Refused, Malformed, ReadFault, Memory}
use Rattle.capcheck_core.specs.MethodFile.{method_tag, IsMethodFile, RefusesFile}
use Rattle.capcheck_core.specs.Shorts.{AreShorts, RefusesStart}

-- the method has a typing, and the text is how its run with the arguments ends within the budget
pub record IsBareRun (bare : Bare) (code : List ℕ) (p : ProbeRequest) (text : List ℕ) : Type 0 where
  pub typed : BareTyping code bare
  pub values : List ℤ
  pub fit : AreShorts p.args bare.nargs values
  pub end : BareEnd
  pub ends : RunAnswers end (after p.budget code bare (entered bare values))
  pub prints : text ≡ bare_ending_line end

-- the verifier finds no typing, and the text names why
pub record IsRefusal (bare : Bare) (code : List ℕ) (text : List ℕ) : Type 0 where
  pub untyped : BareTyping code bare → ⊥
  pub fault : BareFault
  pub refused : IsRefused code bare fault
  pub prints : text ≡ refused_bare_line fault

-- the method has a typing and does not start with the arguments, and the text names why
pub record IsUnstarted (bare : Bare) (code : List ℕ) (p : ProbeRequest) (text : List ℕ) : Type 0 where
  pub typed : BareTyping code bare
  pub fault : StartFault
  pub refused : RefusesStart p.args bare.nargs fault
  pub prints : text ≡ not_started_line fault

-- the file holds a bare method of which this is true
pub record OfMethod (file : List ℕ) (P : Bare → List ℕ → Type 0) : Type 0 where
  pub bare : Bare
  pub code : List ℕ
  pub method : IsMethodFile file bare code
  pub holds : P bare code

-- the file holds no bare method, and the text names why
pub record IsNoMethod (file : List ℕ) (text : List ℕ) : Type 0 where
  pub fault : PackFault
  pub refused : RefusesFile file fault
  pub prints : text ≡ malformed_line 0 fault

-- the key of the Method part of the request's folder
abbrev pub method_key : ProbeRequest → List ℕ
method_key p = method_tag ∷ p.dir

-- the Method part is a file of which this is true
pub record OfMethodPart (p : ProbeRequest) (before : Folders) (P : List ℕ → Type 0) : Type 0 where
  pub file : List ℕ
  pub there : IsThere before (method_key p) file
  pub short : length file ≤ 65538
  pub holds : P file

-- the Method part is absent or too long, and the text says so
pub record IsMissing (p : ProbeRequest) (before : Folders) (text : List ℕ) : Type 0 where
  pub absent : IsAbsent before (method_key p)
  pub prints : text ≡ malformed_line 0 (MissingPart method_tag)

pub record IsLongMethodPart (p : ProbeRequest) (before : Folders) (text : List ℕ) : Type 0 where
  pub long : IsTooLong before (method_key p)
  pub prints : text ≡ malformed_line 0 (PartTooLong method_tag)

-- what a probe of this method answers, and when
abbrev pub ProbesMethod : Bare → List ℕ → ProbeRequest → Verdict → Type 0
ProbesMethod bare code p (Done text) = IsBareRun bare code p (string_bytes text)
ProbesMethod bare code p (Refused text) = IsRefusal bare code (string_bytes text)
ProbesMethod bare code p (Malformed text) = IsUnstarted bare code p (string_bytes text)
ProbesMethod bare code p Memory = Unit {0}
ProbesMethod bare code p _ = ⊥

-- what a probe of this file answers, and when
abbrev pub ProbesFile : List ℕ → ProbeRequest → Verdict → Type 0
ProbesFile file p (Done text) = OfMethod file (λ bare code. IsBareRun bare code p (string_bytes text))
ProbesFile file p (Refused text) = OfMethod file (λ bare code. IsRefusal bare code (string_bytes text))
ProbesFile file p (Malformed text) = IsNoMethod file (string_bytes text)
    ⊎ OfMethod file (λ bare code. IsUnstarted bare code p (string_bytes text))
ProbesFile file p Memory = Unit {0}
ProbesFile file p _ = ⊥

-- the answers by the folder, where no load failed
abbrev pub ProbesFolder : ProbeRequest → Folders → Verdict → Type 0
ProbesFolder p before (Done text) = OfMethodPart p before (λ file. ProbesFile file p (Done text))
ProbesFolder p before (Refused text) = OfMethodPart p before (λ file. ProbesFile file p (Refused text))
ProbesFolder p before (Malformed text) =
    IsMissing p before (string_bytes text) ⊎ IsLongMethodPart p before (string_bytes text)
    ⊎ OfMethodPart p before (λ file. ProbesFile file p (Malformed text))
ProbesFolder p before Memory = Unit {0}
ProbesFolder p before _ = ⊥

-- the load of the Method part failed
abbrev pub FailsMethodPart : ProbeRequest → Folders → Folders → Verdict → Type 0
FailsMethodPart p before after ReadFault = LoadFails before (method_key p) after
FailsMethodPart p before after _ = ⊥

-- what a probe answers, and when: the outside is as it was when it began, and as it is afterwards
abbrev pub Probes : ProbeRequest → Folders → Folders → Verdict → Type 0
Probes p before after verdict = ((after ≡ before) × ProbesFolder p before verdict) ⊎ FailsMethodPart p before after verdict
