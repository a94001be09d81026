-- What `defend` may answer, by the packages and the roles in its folders (JCVM 2.2, sections 3.5 and 7.5).
use Rattle.std.specs.Prelude.{◌≡◌, ℕ, ◌-◌, List, length, Option, Some, None, Result, Ok, Err, String, string_bytes}
use Rattle.std.specs.declared.alloc.Global.{Global}
use Rattle.jc_base.specs.World.{Linked, method_numbered}
use Rattle.vm_store.specs.declared.cell.Cell.{Cell}
use Rattle.vm_store.specs.Cells.{tagged}
use Rattle.vm_step.specs.Arguments.{Argument}
use Rattle.vm_step.specs.Raising.{Outcome}
use Rattle.vm_step.specs.Run.{Runs}
use Rattle.vm_step.specs.Start.{start_fault, entry_state}
use Rattle.vm_step.specs.declared.ending.StartFault.{StartFault}
use Rattle.vm_step.specs.declared.ending.StartFault.TheVariants.{NoEntry}
use Rattle.vm_defend.specs.declared.starting.StartEnd.{StartEnd}
use Rattle.vm_defend.specs.declared.starting.StartEnd.TheVariants as ends
use Rattle.vm_text.specs.Text.{outcome_text}
use Rattle.cap_text.specs.declared.entry.Entry.{Entry}
use Rattle.cap_text.specs.Line.{not_started_line}
use Rattle.cap_text.specs.Run.{RunRequest}
use Rattle.capcheck_core.specs.declared.verdict.Verdict.{Verdict}
use Rattle.capcheck_core.specs.declared.verdict.Verdict.TheVariants.{Done, Malformed, Memory}
use Rattle.capcheck_core.specs.Outside.{Outside, Untouched}
use Rattle.capcheck_core.specs.OverFolders.{OverFolders}
use Rattle.capcheck_core.specs.World.{of_world, OverWorld}

-- ---- the entry

-- the number in the world of the method of the last package that has these numbers in the Descriptor, where there is one
abbrev pub method_entered : Linked → Entry → Option ℕ
method_entered w entry = method_numbered w.methods (length w.infos - 1) entry.class_no entry.method_no

abbrev pub fault_of : Linked → List Argument → Option ℕ → Option StartFault
fault_of w args None = Some NoEntry
fault_of w args (Some number) = start_fault w number args

-- the first reason why the run does not begin, where there is one
abbrev pub run_fault : Linked → RunRequest → Option StartFault
run_fault w r = fault_of w r.args (method_entered w r.entry)

-- the run of this entry begins, and this is what comes of it within the most steps, on a machine that tests what it does
pub record ComesTo (w : Linked) (r : RunRequest) (outcome : Outcome Cell) : Type 0 where
  pub number : ℕ
  pub entered : method_entered w r.entry ≡ Some number
  pub begins : start_fault w number r.args ≡ None
  pub runs : Runs tagged w r.budget (entry_state tagged w number r.args) outcome

-- ---- the answers

-- the text tells what comes of the run
pub record IsDefended (w : Linked) (r : RunRequest) (text : List ℕ) : Type 0 where
  pub outcome : Outcome Cell
  pub comes : ComesTo w r outcome
  pub prints : text ≡ outcome_text tagged w outcome

-- the run does not begin, and the text tells the first reason
pub record IsUnbegun (w : Linked) (r : RunRequest) (text : List ℕ) : Type 0 where
  pub fault : StartFault
  pub first : run_fault w r ≡ Some fault
  pub prints : text ≡ not_started_line fault

-- the text tells what comes of the run, or the fault is the first reason why it does not begin; or there was no memory
abbrev pub RunsOrRefuses : Linked → RunRequest → Result (String Global) StartEnd → Type 0
RunsOrRefuses w r (Ok text) = IsDefended w r (string_bytes text)
RunsOrRefuses w r (Err (ends.Fault fault)) = run_fault w r ≡ Some fault
RunsOrRefuses w r (Err ends.Memory) = Unit {0}

-- the answers of a world
abbrev pub RunsDefended : Linked → RunRequest → Verdict → Type 0
RunsDefended w r (Done text) = IsDefended w r (string_bytes text)
RunsDefended w r (Malformed text) = IsUnbegun w r (string_bytes text)
RunsDefended w r Memory = Unit {0}
RunsDefended w r _ = ⊥

-- its last step: it runs the entry, and changes nothing
abbrev pub DefendsWorld : RunRequest → Linked → Outside → Outside → Verdict → Type 0
DefendsWorld r w before after verdict = Untouched before after × RunsDefended w r verdict

-- the outside is as it was when the command began, and as it is afterwards
abbrev pub Defends : RunRequest → Outside → Outside → Verdict → Type 0
Defends r before after verdict = OverFolders (OverWorld (of_world (DefendsWorld r))) r.dirs before after verdict
