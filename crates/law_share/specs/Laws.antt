-- Laws of methods whose registers are renamed.
use Rattle.std.specs.Prelude.{◌≡◌, ◌↔◌, ℕ, ◌+◌, ◌<◌, ◌≤◌, List, [], length, Some, slice_get}
use Rattle.jc_base.specs.declared.ty.Ty.{Ty}
use Rattle.jc_base.specs.World.{Linked, code_of}
use Rattle.jc_decode.specs.declared.insn.Placed.{Placed}
use Rattle.jc_control.specs.Method.{Method, IsMethodOf}
use Rattle.jc_control.specs.WellFormed.{IsWellFormed}
use Rattle.jc_ops.specs.declared.operation.Operation.{Operation}
use Rattle.law_sound.specs.Frames.{Typings}
use Rattle.vm_store.specs.Cells.{tagged}
use Rattle.vm_step.specs.Arguments.{Argument}
use Rattle.vm_step.specs.Laws.{RunsAreOne}
use Rattle.vm_step.specs.Start.{start_fault}
use Rattle.law_alike.specs.Ends.{Left, EndsWithin, GoesOnFor, EndsAlikeBy}
use Rattle.law_laid.specs.Apart.{IsSameBut}
use Rattle.law_share.specs.Live.{Operates, Writes, MayLeadTo, IsLiveAt}
use Rattle.law_share.specs.Variable.{Variable, AreVariables}
use Rattle.law_share.specs.Sharing.{Allotted, AreAllotted, IsNumbered, end_of, IsSharing, KeepsRegisters}
use Rattle.law_share.specs.Renamed.{IsRenamed}
use Rattle.law_share.specs.Beside.{Renaming, AreRenamed}

-- types have one list of variables, and these are allotted one list of registers
abbrev pub VariablesAreOne : Type 0
VariablesAreOne =
    (x : ℕ) (tys : List Ty) (vs us : List Variable) → AreVariables x tys vs → AreVariables x tys us → vs ≡ us

abbrev pub AllotmentIsOne : Type 0
AllotmentIsOne =
    (w : Linked) (m : Method) (ks : List Variable) (given bs : List Allotted)
    → AreAllotted w m [] ks given
    → AreAllotted w m [] ks bs
    → given ≡ bs

-- so a method has one sharing, and where it has one it does not keep its registers
abbrev pub MethodsShareInOneWay : Linked → Type 0
MethodsShareInOneWay w =
    (m : Method) (given bs : List Allotted) (locals others : ℕ)
    → IsSharing w m given locals
    → IsSharing w m bs others
    → (given ≡ bs) × (locals ≡ others)

abbrev pub SharingOrKept : Linked → Type 0
SharingOrKept w = (m : Method) (given : List Allotted) (locals : ℕ) → IsSharing w m given locals → ¬ (KeepsRegisters w m)

-- so each register of such a method has one new number; it is no greater than the old one, and lies before where those that are given
-- out end
pub record HasNumber (nargs : ℕ) (given : List Allotted) (x : ℕ) : Type 0 where
  pub number : ℕ
  pub is : IsNumbered nargs given x number
  pub one : (y : ℕ) → IsNumbered nargs given x y → y ≡ number
  pub falls : number ≤ x
  pub inside : number < end_of nargs given

abbrev pub RegistersHaveNumbers : Type 0
RegistersHaveNumbers =
    (w : Linked) (m : Method) (tys : List Ty) (ks : List Variable) (given : List Allotted) (x : ℕ)
    → AreVariables m.rec.nargs tys ks
    → AreAllotted w m [] ks given
    → x < m.rec.nargs + length tys
    → HasNumber m.rec.nargs given x

-- no method has more registers than before
abbrev pub RegistersAreNoMore : Type 0
RegistersAreNoMore =
    (w : Linked) (m : Method) (tys : List Ty) (ks : List Variable) (given : List Allotted)
    → AreVariables m.rec.nargs tys ks
    → AreAllotted w m [] ks given
    → end_of m.rec.nargs given ≤ m.rec.nargs + length tys

-- an instruction writes no register that has to hold one which is live at a successor, and which it does not write itself
abbrev pub WrittenStayApart : Type 0
WrittenStayApart =
    (w : Linked) (m : Method) (tys : List Ty) (ks : List Variable) (given : List Allotted)
    → AreVariables m.rec.nargs tys ks
    → AreAllotted w m [] ks given
    → (i : Placed) (op : Operation) (q x y live written : ℕ)
    → Operates w m i op
    → Writes w op y
    → ¬ (Writes w op x)
    → MayLeadTo m i q
    → IsLiveAt w m x q
    → IsNumbered m.rec.nargs given x live
    → IsNumbered m.rec.nargs given y written
    → ¬ (live ≡ written)

-- in the world with renamed registers each run ends after as many steps as before, or goes on as long
abbrev pub RenamedEndAlike : Linked → Type 0
RenamedEndAlike v = (w : Linked) (typings : Typings) (r : Renaming) → AreRenamed v w typings r → EndsAlikeBy 1 v w

-- two worlds end in step, where for every entry, all arguments and every n: both refuse to begin for the same reason, or neither does; and
-- either both have ended within n steps in the same way, with the same objects and static fields, or both have not ended after n steps
pub record EndInStep (v w : Linked) : Type 0 where
  pub begins : (entry : ℕ) (args : List Argument) → start_fault w entry args ≡ start_fault v entry args
  pub ends :
      (entry : ℕ) (args : List Argument) (n : ℕ) (left : Left) → EndsWithin v entry args n left ↔ EndsWithin w entry args n left
  pub goes_on : (entry : ℕ) (args : List Argument) (n : ℕ) → GoesOnFor v entry args n ↔ GoesOnFor w entry args n

abbrev pub RenamedEndInStep : Linked → Type 0
RenamedEndInStep v = (w : Linked) (typings : Typings) (r : Renaming) → RunsAreOne tagged w → AreRenamed v w typings r → EndInStep v w

-- the method of this number is the same in both worlds, with the same code
pub record IsKeptIn (v w : Linked) (m : Method) : Type 0 where
  pub second : slice_get w.methods m.number ≡ Some m.rec
  pub code : code_of w.infos m.rec ≡ code_of v.infos m.rec

-- a method that is kept is one renamed by the identity
abbrev pub KeptAreRenamed : Linked → Type 0
KeptAreRenamed v =
    (w : Linked) (m : Method)
    → IsSameBut v w
    → IsMethodOf v m
    → IsWellFormed m
    → IsKeptIn v w m
    → IsRenamed v w m (λ p. p) (λ x. x)
