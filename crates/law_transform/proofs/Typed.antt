-- What is known of a typed state whose method on top is rewritten, and the laws that the simulation rests on.
use Rattle.std.proofs.Common.{arith}
use Rattle.std.proofs.Common.{◌≡◌, ℕ, ◌∷◌, sym, subst}
use Rattle.std.specs.Prelude.{Option}
use Rattle.jc_base.specs.declared.ty.Ty.{Ty}
use Rattle.jc_base.specs.declared.ty.Ty.TheVariants.{Top}
use Rattle.jc_base.specs.World.{Linked, IsWorld}
use Rattle.jc_control.specs.Control.{IsReached}
use Rattle.jc_control.specs.Method.{IsMethodOf}
use Rattle.jc_rules.specs.Demand.{Frame as Types}
use Rattle.jc_rules.specs.Flow.{At, FrameBelow}
use Rattle.vm_store.specs.declared.cell.Cell.{Cell}
use Rattle.vm_store.specs.State.{State, top, other_frames}
use Rattle.vm_store.specs.Objects.{kinds}
use Rattle.vm_step.specs.Raising.{Outcome}
use Rattle.law_sound.specs.Frames.{Typings, types_of_frame}
use Rattle.law_sound.specs.State.{IsTypedState}
use Rattle.law_sound.specs.Soundness.{IsTypedOutcome, StepsAreSafe, StartsAreTyped}
use Rattle.law_sound.specs.Handed.{OnlyCallsCall, CallsHandAll, StartsHandAll}
use Rattle.law_alike.specs.Likeness.{StepsAreAlike, TypedStatesStay}
use Rattle.law_alike.specs.Starting.{StartsRefuseAlike}
use Rattle.law_alike.proofs.Standing.{first-runs, frames-typed}
use Rattle.law_laid.specs.Laws.{OperationsAreKept, DemandsAreKept}
use Rattle.law_laid.proofs.Methods.{method-is}
use Rattle.xf_homes.specs.Source.{Source}
use Rattle.law_groups.specs.Beside.{IsTypedAt, StaysTyped}
use Rattle.law_groups.specs.Laws.{GroupsRun, CallsEnd, HasRoomForMore, CallsReturn, HandlersEnter, GroupsCatch, StartsEnter}
use Rattle.law_groups.proofs.Plain.{frames-are}
use Rattle.law_transform.specs.Counterparts.{IsRewrittenIn}

pub record AreLaws (v : Linked) : Type 0 where
  pub links : IsWorld v
  pub safe : StepsAreSafe v
  pub starts : StartsAreTyped v
  pub only : OnlyCallsCall v
  pub handed : CallsHandAll v
  pub begun : StartsHandAll v
  pub alike : StepsAreAlike v
  pub stay : TypedStatesStay v
  pub refuse : StartsRefuseAlike v
  pub operations : OperationsAreKept
  pub demands : DemandsAreKept
  pub calls_end : CallsEnd v
  pub room : HasRoomForMore v
  pub catch : GroupsCatch v
  pub groups : GroupsRun v
  pub calls_return : CallsReturn v
  pub handlers : HandlersEnter v
  pub enter : StartsEnter v

pub its-method : (v w : Linked) (typings : Typings) (n : ℕ) (s : Source) (place : ℕ → ℕ) → IsRewrittenIn v w typings n s place
    → IsMethodOf v s.method
its-method v w typings n s place r = subst (λ (x : Linked). IsMethodOf x s.method) r.laid.world r.laid.planned.method

-- ---- typed states

module _ (v : Linked) (typings : Typings) where
  module _ (w : Linked) (s : Source) (place : ℕ → ℕ) where
    pub reached-at :
        (z : State Cell) → z.frames ≡ top z ∷ other_frames z.frames → IsTypedState v typings z → IsRewrittenIn v w typings (top z).method s place
        → IsReached s.method (top z).place
    reached-at z first typed r = grind (arith, frames-typed, method-is, its-method)

    -- the state is typed as the groups ask
    pub typed-at :
        TypedStatesStay v → (z : State Cell) → z.frames ≡ top z ∷ other_frames z.frames → IsTypedState v typings z
        → IsRewrittenIn v w typings (top z).method s place
        → IsTypedAt v s z
    typed-at stay z first typed r =
        let frame = (frames-typed v typings z first typed).0 in
        record {
          runs = first-runs z first;
          method = sym r.number;
          reached = reached-at z first typed r;
          below = subst (λ (fs : ℕ → Option Types). At fs (top z).place (FrameBelow v.classes (types_of_frame v.classes Top (kinds z) (top z)))) r.frames
              (subst (λ (ty : Ty). At (typings.frames (top z).method) (top z).place (FrameBelow v.classes (types_of_frame v.classes ty (kinds z) (top z))))
              r.unset frame.below);
          objects_stay = λ e. (stay typings e z typed).0;
          statics_stay = λ e. (stay typings e z typed).1;
        }

    -- and so is what a step leads to
    pub stays-typed :
        TypedStatesStay v → (n : ℕ) → IsRewrittenIn v w typings n s place → (o : Outcome Cell) → IsTypedOutcome v typings o → StaysTyped v s o
    stays-typed stay n r x safe = grind (arith, typed-at, frames-are)
