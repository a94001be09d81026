-- What a lead rests on besides what its act has found: in verified code a jump leads to an instruction; the caller to which a value is
-- given has room for it; and an instance that is thrown is one of a class.
use Rattle.std.specs.Prelude.{ℕ, ◌+◌, All, ⊤}
use Rattle.jc_base.specs.Cell.{width}
use Rattle.jc_base.specs.World.{Linked}
use Rattle.vm_store.specs.State.{State, IsRunning, top, without_top}
use Rattle.vm_store.specs.Objects.{kinds}
use Rattle.vm_step.specs.Fields.{holder_width}
use Rattle.vm_act.specs.declared.acting.Lead.{Lead}
use Rattle.vm_act.specs.declared.acting.Lead.TheVariants as leads
use Rattle.vm_act.specs.declared.acting.Put.{Put}
use Rattle.vm_act.specs.declared.acting.Put.TheVariants as puts
use Rattle.vm_act.specs.Lead.{value_width}
use Rattle.vm_run.specs.declared.known.Known.{Known}
use Rattle.vm_run.specs.Known.{LandsAt, CanResume}
use Rattle.vm_run.specs.Turn.{IsOfClass}

-- how many cells leave the stack where a value is written
abbrev pub put_width : Put → ℕ
put_width (puts.Static f) = width f.kind
put_width (puts.Field handle f holder) = width f.kind + holder_width holder
put_width (puts.Element handle element kind) = width kind + 2

abbrev pub LeadsOn : {A : Type 0} → ℕ → Linked → Known → State A → Lead → Type 0
LeadsOn room w known s (leads.Jumps to) = LandsAt w known (top s).method to
LeadsOn room w known s (leads.Gives value) = IsRunning (without_top s) → CanResume room w known (value_width value) (without_top s)
LeadsOn room w known s (leads.Throws handle) = All (IsOfClass w.classes) (kinds s)
LeadsOn room w known s _ = ⊤
