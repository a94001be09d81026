-- What `bound` may answer, by the packages and the roles in its folders (JCVM 2.2, sections 3.5 and 6.8.2).
use Rattle.std.specs.Prelude.{◌≡◌, ℕ, ◌-◌, List, [], length, Option, Some, None, string_bytes, slice_get}
use Rattle.jc_base.specs.declared.record.MethodRec.{MethodRec}
use Rattle.jc_base.specs.World.{Linked, method_numbered}
use Rattle.law_sound.specs.Soundness.{IsFaultFree}
use Rattle.cap_text.specs.EntryWords.{EntryRequest}
use Rattle.cap_text.specs.Line.{bound_line, cycle_line, not_started_line}
use Rattle.vm_bound.specs.declared.bounds.Bound.{Bound}
use Rattle.vm_bound.specs.declared.bounds.Bound.TheVariants.{Words, Cycle}
use Rattle.vm_bound.specs.Answer.{IsBound, BoundsRuns, entry_refused}
use Rattle.vm_step.specs.declared.ending.StartFault.{StartFault}
use Rattle.vm_step.specs.declared.ending.StartFault.TheVariants.{NoEntry}
use Rattle.capcheck_core.specs.declared.verdict.Verdict.{Verdict}
use Rattle.capcheck_core.specs.declared.verdict.Verdict.TheVariants.{Done, Malformed, Refused, Memory}
use Rattle.capcheck_core.specs.Outside.{Outside, Untouched}
use Rattle.capcheck_core.specs.OverFolders.{OverFolders}
use Rattle.xf_share.specs.Ends.{HaveCardTypings}
use Rattle.capcheck_core.specs.Verify.{TellsRefused}
use Rattle.capcheck_core.specs.World.{of_world, OverWorld}

-- the number in the world of the method of the last package that has the entry's numbers in the Descriptor, where there is one
abbrev pub method_bounded : Linked → EntryRequest → Option ℕ
method_bounded w e = method_numbered w.methods (length w.infos - 1) e.entry.class_no e.entry.method_no

abbrev pub fault_at : Linked → Option ℕ → Option StartFault
fault_at w None = Some NoEntry
fault_at w (Some number) = entry_refused w number

-- why no run of the entry begins, whatever its arguments, where none does
abbrev pub bound_fault : Linked → EntryRequest → Option StartFault
bound_fault w e = fault_at w (method_bounded w e)

-- a method by its numbers in its package's Descriptor
abbrev pub cycle_of : Option MethodRec → List ℕ
cycle_of None = []
cycle_of (Some m) = cycle_line m.class_no m.method_no

abbrev pub bound_text : Linked → Bound → List ℕ
bound_text w (Words words frames) = bound_line words frames
bound_text w (Cycle m) = cycle_of (slice_get w.methods m)

-- every method with code of all packages has a card typing, no run meets a fault, and the text tells the bound of the entry, which every
-- run keeps to
pub record TellsBound (w : Linked) (e : EntryRequest) (text : List ℕ) : Type 0 where
  pub carded : HaveCardTypings w
  pub fault_free : IsFaultFree w
  pub number : ℕ
  pub entered : method_bounded w e ≡ Some number
  pub begins : entry_refused w number ≡ None
  pub bound : Bound
  pub is : IsBound w number bound
  pub runs : BoundsRuns w number bound
  pub prints : text ≡ bound_text w bound

-- every method with code of all packages has a card typing, no run of the entry begins, and the text tells why
pub record TellsNoEntry (w : Linked) (e : EntryRequest) (text : List ℕ) : Type 0 where
  pub carded : HaveCardTypings w
  pub fault : StartFault
  pub first : bound_fault w e ≡ Some fault
  pub prints : text ≡ not_started_line fault

-- the answers of a world
abbrev pub AnswersBound : Linked → EntryRequest → Verdict → Type 0
AnswersBound w e (Done text) = TellsBound w e (string_bytes text)
AnswersBound w e (Refused text) = TellsRefused w (string_bytes text)
AnswersBound w e (Malformed text) = TellsNoEntry w e (string_bytes text)
AnswersBound w e Memory = Unit {0}
AnswersBound w e _ = ⊥

-- its last step: it bounds the entry, and changes nothing
abbrev pub BoundsWorld : EntryRequest → Linked → Outside → Outside → Verdict → Type 0
BoundsWorld e w before after verdict = Untouched before after × AnswersBound w e verdict

-- the outside is as it was when the command began, and as it is afterwards
abbrev pub Bounds : EntryRequest → Outside → Outside → Verdict → Type 0
Bounds e before after verdict = OverFolders (OverWorld (of_world (BoundsWorld e))) e.dirs before after verdict
