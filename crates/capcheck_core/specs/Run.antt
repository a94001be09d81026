-- What `run` may answer, by the packages and the roles in its folders, and what it leaves in the memory of the card (JCVM 2.2, sections 3.5
-- and 7.5; Leroy 2002, section 3).
use Rattle.std.specs.Prelude.{◌≡◌, ℕ, List, length, take, Some, string_bytes}
use Rattle.jc_base.specs.World.{Linked}
use Rattle.vm_store.specs.declared.cell.Cell.{Cell}
use Rattle.vm_store.specs.Cells.{tagged}
use Rattle.vm_store.specs.State.{erased}
use Rattle.law_sound.specs.Soundness.{IsFaultFree}
use Rattle.vm_step.specs.Raising.{Outcome}
use Rattle.vm_offend.specs.declared.words.Counts.{Counts}
use Rattle.vm_offend.specs.Words.{AreLaid, words_state}
use Rattle.vm_offend.specs.Held.{state_of}
use Rattle.vm_offend.specs.Sized.{static_cells}
use Rattle.vm_text.specs.Text.{outcome_text}
use Rattle.card_verify.specs.Answers.{AreAccepted, IsFirstRefused}
use Rattle.cap_text.specs.Run.{RunRequest, run_request}
use Rattle.capcheck_core.specs.declared.running.Bounded.{Bounded}
use Rattle.capcheck_core.specs.declared.running.RunStop.{RunStop}
use Rattle.capcheck_core.specs.declared.running.RunStop.TheVariants as stops
use Rattle.capcheck_core.specs.declared.verdict.Verdict.{Verdict}
use Rattle.capcheck_core.specs.declared.verdict.Verdict.TheVariants.{Done, Refused, Malformed, Memory}
use Rattle.capcheck_core.specs.Outside.{CardWords, Outside}
use Rattle.capcheck_core.specs.OverFolders.{OverFolders}
use Rattle.capcheck_core.specs.World.{of_world, OverWorld}
use Rattle.xf_share.specs.Ends.{HaveCardTypings}
use Rattle.capcheck_core.specs.Verify.{TellsRefused}
use Rattle.capcheck_core.specs.Defend.{ComesTo, IsUnbegun, run_fault}

-- the same entry and arguments, within so many steps
abbrev pub with_budget : ℕ → RunRequest → RunRequest
with_budget steps r = record r { budget = steps }

-- what is run
abbrev pub bounded_request : Bounded → RunRequest
bounded_request b = with_budget b.steps (run_request b.run.now)

-- the card's memory has the lengths that a run of any world needs
pub record HasLengths (c : CardWords) : Type 0 where
  pub ram : length c.ram ≡ 32832
  pub heap : length c.heap ≡ 45056
  pub statics : length c.statics ≡ 32768

-- the memory holds the words of a state of the world: of its frames, of its objects, and of its static cells, which the first words of
-- `statics` are
pub record HoldsWords (w : Linked) (c : CardWords) (o : Outcome Cell) : Type 0 where
  pub counts : Counts
  pub laid : AreLaid w c.ram c.heap counts
  pub words : words_state w.methods c.ram c.heap (take (static_cells w) c.statics) counts ≡ erased (state_of o)

-- the text tells what comes of the run, and the memory holds the words of the state that it leaves
pub record IsLeft (w : Linked) (r : RunRequest) (c : CardWords) (text : List ℕ) : Type 0 where
  pub outcome : Outcome Cell
  pub comes : ComesTo w r outcome
  pub prints : text ≡ outcome_text tagged w outcome
  pub holds : HoldsWords w c outcome

-- every method with code of all packages has a card typing, no run of any entry meets a fault, and this is what the run leaves
pub record IsRun (w : Linked) (r : RunRequest) (c : CardWords) (text : List ℕ) : Type 0 where
  pub carded : HaveCardTypings w
  pub fault_free : IsFaultFree w
  pub left : IsLeft w r c text

-- every method with code of all packages has a card typing, but the run does not begin, and the text tells the first reason
pub record IsNotRun (w : Linked) (r : RunRequest) (text : List ℕ) : Type 0 where
  pub carded : HaveCardTypings w
  pub unbegun : IsUnbegun w r text

-- the answers of a world once there is memory for the arguments and the text
abbrev pub RunsWithMemory : Linked → RunRequest → CardWords → Verdict → Type 0
RunsWithMemory w r c (Done text) = IsRun w r c (string_bytes text)
RunsWithMemory w r c (Refused text) = TellsRefused w (string_bytes text)
RunsWithMemory w r c (Malformed text) = IsNotRun w r (string_bytes text)
RunsWithMemory w r c _ = ⊥

-- the answers of a world
abbrev pub RunsWorldIn : Linked → RunRequest → CardWords → Verdict → Type 0
RunsWorldIn w r c Memory = Unit {0}
RunsWorldIn w r c verdict = RunsWithMemory w r c verdict

-- where nothing ran, the card's memory is as it was
abbrev pub IsCardKept : CardWords → CardWords → Verdict → Type 0
IsCardKept before after (Done text) = Unit {0}
IsCardKept before after verdict = after ≡ before

-- its last step: it runs the entry in the memory of the card, and leaves the folders as they are
abbrev pub RunsWorld : RunRequest → Linked → Outside → Outside → Verdict → Type 0
RunsWorld r w before after verdict =
    (after.folders ≡ before.folders) × RunsWorldIn w r after.card verdict × IsCardKept before.card after.card verdict

-- the outside is as it was when the command began, and as it is afterwards
abbrev pub RunsVerified : RunRequest → Outside → Outside → Verdict → Type 0
RunsVerified r before after verdict = OverFolders (OverWorld (of_world (RunsWorld r))) r.dirs before after verdict

-- why the run does not begin: the first method that is refused, or, where none is, the first fault
abbrev pub StopsRun : Linked → RunRequest → RunStop → Type 0
StopsRun w r (stops.Refused method fault) = IsFirstRefused w method fault
StopsRun w r (stops.NotStarted fault) = AreAccepted w × (run_fault w r ≡ Some fault)
