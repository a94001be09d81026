-- A step of the first world, and steps of the second that come to the same.
use Rattle.std.proofs.Common.{◌≡◌, ℕ, ◌+◌, ◌≤◌, List, ◌∷◌, drop, refl, sym, ap, ◌∙◌, subst, arith}
use Rattle.jc_base.specs.World.{Linked}
use Rattle.jc_control.specs.Control.{IsReached}
use Rattle.jc_control.specs.Method.{Method}
use Rattle.vm_store.specs.declared.cell.Cell.{Cell}
use Rattle.vm_store.specs.Cells.{tagged}
use Rattle.vm_store.specs.State.{Frame, State, arguments, entered, top, other_frames, with_call}
use Rattle.vm_step.specs.declared.ending.Ending.TheVariants as endings
use Rattle.vm_step.specs.Raising.{Outcome, running, ended, raised, thrown}
use Rattle.vm_step.specs.Run.{Runs, stands}
use Rattle.vm_step.specs.Step.{Steps}
use Rattle.vm_step.proofs.Running.{continues-on}
use Rattle.law_sound.specs.Frames.{Typings}
use Rattle.law_sound.specs.State.{IsTypedState}
use Rattle.law_sound.specs.Soundness.{IsTypedOutcome}
use Rattle.xf_homes.specs.Source.{Source}
use Rattle.law_groups.specs.Beside.{IsAtGroup}
use Rattle.law_groups.specs.Comes.{ComesWithin, AreAtGroup, CallAlike, GroupComes, group_calls, group_gives, group_raises, group_throws, group_ends, GroupRuns}
use Rattle.law_groups.specs.Comes.{group_leaves, group_stays}
use Rattle.law_alike.proofs.Simulation.{one-step}
use Rattle.law_laid.proofs.Methods.{method-is}
use Rattle.law_transform.specs.Counterparts.{IsSameMethod, IsRewrittenIn, AreCounterparts}
use Rattle.law_transform.specs.Beside.{AreTop, top_kept, top_rewritten, WaitBeside, wait_rewritten, AreUnder, more_frames, AreBeside, OutcomesBeside}
use Rattle.law_transform.proofs.Typed.{AreLaws, its-method, typed-at, stays-typed, reached-at}
use Rattle.law_transform.proofs.Settling.{extra, Settles, settled-now, settles-as, beside, equal-but, enters, gives}
use Rattle.law_transform.proofs.Throwing.{catch_rewritten, throws-settle, raises-settle}
use Rattle.law_transform.proofs.Keeping.{kept-steps}
use Rattle.law_alike.specs.Simulation.{both_run, both_end}

module _ (v w : Linked) (typings : Typings) (laws : AreLaws v) (pair : AreCounterparts v w typings) where
  abbrev StepComes : Outcome Cell → State Cell → Type 0
  StepComes o t = ComesWithin w 1 (1000 + extra o) t (OutcomesBeside v w typings o)

  settles-then : (o : Outcome Cell) (t : State Cell) (count : ℕ) (p : Outcome Cell) → 1 ≤ count → count ≤ 1000 → Runs tagged w count t p
      → Settles v w typings o p → StepComes o t
  settles-then o t count p more fewer runs s = grind (arith, continues-on tagged w count s.count (running t) p s.outcome runs s.continues)

  -- ---- a method that is rewritten

  module _ (z t : State Cell) (first : z.frames ≡ top z ∷ other_frames z.frames) (second : t.frames ≡ top t ∷ other_frames t.frames)
      (under : AreUnder v w typings (other_frames z.frames) (other_frames t.frames))
      (heap : t.heap ≡ z.heap) (statics : t.statics ≡ z.statics) (typed : IsTypedState v typings z)
      (s : Source) (place : ℕ → ℕ) (r : IsRewrittenIn v w typings (top z).method s place) where
    of-frame : (f : Frame Cell) → f.method ≡ s.method.number → IsRewrittenIn v w typings f.method s place
    of-frame f method = subst (λ n. IsRewrittenIn v w typings n s place) (sym r.number ∙ sym method) r

    called : (o p : Outcome Cell) → CallAlike v w s place z t o p → IsTypedOutcome v typings o → Settles v w typings o p
    called o p c safe =
        let y : State Cell = c.source in
        let u : State Cell = c.target in
        let fs : other_frames y.frames ≡ other_frames z.frames = ap other_frames c.first.frames in
        let gs : other_frames u.frames ≡ other_frames t.frames = ap other_frames c.second.frames in
        let rest : AreUnder v w typings (other_frames y.frames) (other_frames u.frames) =
        subst (λ xs. AreUnder v w typings xs (other_frames u.frames)) (sym fs)
        (subst (λ xs. AreUnder v w typings (other_frames z.frames) xs) (sym gs) under) in
        let now_typed : IsTypedState v typings (with_call tagged v.methods y c.method c.count) = subst (IsTypedOutcome v typings) c.enters safe in
        let here : Frame Cell = record (top y) { stack = drop c.count (top y).stack } in
        let there : Frame Cell = record (top u) { stack = drop c.count (top u).stack } in
        let its : IsRewrittenIn v w typings here.method s place = of-frame here c.waits.within.of.source in
        let stand = now_typed.frames.1.0.stands in
        let reached : IsReached s.method here.place =
        subst (λ (m : Method). IsReached m here.place)
        (method-is v s.method here.method stand.rec (its-method v w typings here.method s place its) its.number stand.is_method) stand.reached in
        let waits : WaitBeside v w typings here there = wait_rewritten s place its reached c.waits in
        let args : List Cell = arguments c.count (top y).stack in
        let many = laws.handed typings z y c.executes.method c.instruction c.op c.method c.count pair.typed typed c.executes.fetched c.executes.resolved
        c.acts in
        settles-as v w typings o p (running (with_call tagged v.methods y c.method c.count)) (running (with_call tagged w.methods u c.method c.count))
        c.enters c.too
        (subst (λ cs. Settles v w typings (running (with_call tagged v.methods y c.method c.count))
        (running (record u { frames = entered tagged w.methods c.method cs ∷ (there ∷ other_frames u.frames) }))) (sym c.handed)
        (enters v w typings laws pair c.method args (here ∷ other_frames y.frames) (there ∷ other_frames u.frames)
        y.heap u.heap y.statics u.statics c.equal.heap c.equal.statics (more_frames waits rest) now_typed many))

    group-settles : (o p : Outcome Cell) → GroupComes v w s place z t o p → IsTypedOutcome v typings o → Settles v w typings o p
    group-settles o p (group_calls c) safe = called o p c safe
    group-settles o p (group_gives value cs plain is also) safe = grind (arith, settles-as, gives)
    group-settles o p (group_raises exception u at is also) safe =
        settles-as v w typings o p (raised tagged v exception z) (raised tagged w exception u) is also
        (raises-settle v w typings laws pair (top z) (top u) (other_frames z.frames) (other_frames t.frames) under
        (catch_rewritten s place r (reached-at v typings w s place z first typed r) at.within) exception z u first at.moves.frames (at.moves.heap ∙ heap)
        (at.moves.statics ∙ statics)
        (subst (IsTypedOutcome v typings) is safe))
    group-settles o p (group_throws handle u at is also) safe =
        settles-as v w typings o p (thrown tagged v handle z) (thrown tagged w handle u) is also
        (throws-settle v w typings laws pair (top z) (top u) (other_frames z.frames) (other_frames t.frames) under
        (catch_rewritten s place r (reached-at v typings w s place z first typed r) at.within) handle z u first at.moves.frames (at.moves.heap ∙ heap)
        (at.moves.statics ∙ statics)
        (subst (IsTypedOutcome v typings) is safe))
    group-settles o p (group_ends ending y) safe =
        settled-now v w typings (ended (endings.Plain ending) y) (ended (endings.Plain ending) y) (both_end (endings.Plain ending) refl refl)

    stays-beside :
        (y : State Cell) → IsTypedState v typings y → ComesWithin w 1 2000 t (λ p. (u : State Cell) × (p ≡ running u) × AreAtGroup s place z t y u)
        → StepComes (running y) t
    stays-beside y now_typed c =
        let u : State Cell = c.comes.0 in
        let at : AreAtGroup s place z t y u = c.comes.2 in
        let tops : AreTop v w typings (top y) (top u) = top_rewritten s place (of-frame (top y) at.group.of.source) at.group in
        record {
          count = c.count;
          more = c.more;
          fewer = c.fewer;
          outcome = c.outcome;
          runs = c.runs;
          comes = subst (OutcomesBeside v w typings (running y)) (sym c.comes.1)
              (both_run (beside v w typings laws pair z t y u at.first.frames at.second.frames under tops at.equal.heap at.equal.statics now_typed));
        }

    group-comes : (o : Outcome Cell) → GroupRuns v w s place z t o → IsTypedOutcome v typings o → StepComes o t
    group-comes o (group_leaves c) safe = settles-then o t c.count c.outcome c.more c.fewer c.runs (group-settles o c.outcome c.comes safe)
    group-comes o (group_stays y is c) safe = grind (arith, stays-beside y (subst (IsTypedOutcome v typings) is safe) c)

    rewritten-steps : IsAtGroup s place (top z) (top t) → (o : Outcome Cell) → Steps tagged v z o → IsTypedOutcome v typings o → StepComes o t
    rewritten-steps group o step safe =
        group-comes o
        (laws.groups w s place r.laid z t o (typed-at v typings w s place laws.stay z first typed r) group
        (equal-but v w typings laws pair z t first second under heap statics) step (stays-typed v typings w s place laws.stay (top z).method r o safe)) safe

  -- ---- a step

  steps-by :
      (z t : State Cell) (f g : Frame Cell) → AreTop v w typings f g → top z ≡ f → top t ≡ g → AreBeside v w typings z t
      → (o : Outcome Cell) → Steps tagged v z o → IsTypedOutcome v typings o → StepComes o t
  steps-by z t f g (top_kept k) here there b o step safe =
      let same : top t ≡ top z = there ∙ sym here in
      let done = kept-steps v w typings laws pair z t b.first b.second b.under b.heap b.statics b.typed
      (subst (λ (x : Frame Cell). IsSameMethod v w x.method) (sym here) k) same o step safe in
      settles-then o t 1 done.0 (omega arith) (omega arith) (one-step w t done.0 done.1) done.2
  steps-by z t f g (top_rewritten s place r group) here there b o step safe =
      let its : IsRewrittenIn v w typings (top z).method s place = subst (λ (x : Frame Cell). IsRewrittenIn v w typings x.method s place) (sym here) r in
      let at : IsAtGroup s place (top z) (top t) = subst (λ x. IsAtGroup s place x (top t)) (sym here)
      (subst (λ x. IsAtGroup s place f x) (sym there) group) in
      rewritten-steps z t b.first b.second b.under b.heap b.statics b.typed s place its at o step safe

  pub step-comes : (z t : State Cell) → AreBeside v w typings z t → (o : Outcome Cell) → Steps tagged v z o → StepComes o t
  step-comes z t b o step = steps-by z t (top z) (top t) b.tops refl refl b o step (laws.safe typings z o pair.typed b.typed step)
