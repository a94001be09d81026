-- `probe DIR BUDGET ARG*`: verifies and runs the bare method of a folder.
use Rattle.std.specs.Prelude.{◌≡◌, ℕ, List, ◌∷◌, map}
use Rattle.vm_step.specs.Arguments.{Argument}
use Rattle.cap_text.specs.declared.probe.Probe.{Probe}
use Rattle.cap_text.specs.Word.{IsFolderWord, IsNumberWord, AreArgWords, argument_read}

-- the folder's word, the most steps and the arguments
pub record ProbeRequest : Type 0 where
  pub dir : List ℕ
  pub budget : ℕ
  pub args : List Argument

-- the words after the command's name ask for this
abbrev pub IsProbe : List (List ℕ) → ProbeRequest → Type 0
IsProbe (dir ∷ budget ∷ args) p = (p.dir ≡ dir) × IsFolderWord dir × IsNumberWord budget p.budget × AreArgWords args p.args
IsProbe _ p = ⊥

-- what a command that was read asks for
abbrev pub probe_request : Probe → ProbeRequest
probe_request p = record { dir = p.dir.now; budget = p.budget; args = map argument_read p.args.items }
