-- An object that is thrown is caught by the same frame in both worlds, or ends both runs.
use Rattle.std.proofs.Common.{◌≡◌, ℕ, ◌+◌, false, List, [], ◌∷◌}
use Rattle.std.proofs.Common.{refl, sym, ap, ◌∙◌, subst, arith}
use Rattle.std.specs.Prelude.{Option, Some, None, nat_lt}
use Rattle.std.proofs.lemmas.Bool.{le-ltb}
use Rattle.jc_base.specs.declared.record.Handler.{Handler}
use Rattle.jc_base.specs.World.{Linked}
use Rattle.jc_control.specs.Control.{IsReached}
use Rattle.vm_store.specs.declared.cell.Cell.{Cell}
use Rattle.vm_store.specs.Cells.{tagged}
use Rattle.vm_store.specs.State.{Frame, State, without_frames}
use Rattle.vm_step.specs.declared.ending.Ending.TheVariants as endings
use Rattle.vm_step.specs.declared.ending.Plain.TheVariants.{Threw, HeapFull}
use Rattle.vm_step.specs.declared.ending.Exception.{Exception}
use Rattle.vm_step.specs.Methods.{max_stack_of}
use Rattle.vm_step.specs.Raising.{Outcome, running, ended, ends, handler_for, caught, caught_by, caught_or, unwound, thrown, raised}
use Rattle.law_sound.specs.Frames.{Typings}
use Rattle.law_sound.specs.Soundness.{IsTypedOutcome}
use Rattle.xf_homes.specs.Source.{Source}
use Rattle.law_groups.specs.Beside.{StandsInGroup}
use Rattle.law_groups.specs.Laws.{CatchAlike, none_catches, both_catch}
use Rattle.law_alike.proofs.Catching.{caught-in, also-caught, throws-alike, raises-alike}
use Rattle.law_transform.specs.Counterparts.{IsSameMethod, IsRewrittenIn, AreCounterparts}
use Rattle.law_transform.specs.Beside.{top_kept, WaitBeside, wait_kept, wait_rewritten, AreUnder, no_frames, more_frames}
use Rattle.law_transform.proofs.Typed.{AreLaws, typed-at}
use Rattle.law_transform.proofs.Settling.{Settles, settled-now, settles-as, locals-too, equal-but, to-group, kept-handlers, kept-room, more-room}
use Rattle.law_alike.specs.Simulation.{both_run, both_end}

-- frames from which an object is thrown
pub data CatchBeside (v w : Linked) (typings : Typings) : Frame Cell → Frame Cell → Type 0 where
  catch_kept : {f : Frame Cell} → IsSameMethod v w f.method → CatchBeside v w typings f f
  catch_rewritten :
      {f g : Frame Cell} (s : Source) (place : ℕ → ℕ) → IsRewrittenIn v w typings f.method s place → IsReached s.method f.place
      → StandsInGroup s place f g
      → CatchBeside v w typings f g

wait-catch : (v w : Linked) (typings : Typings) {f g : Frame Cell} → WaitBeside v w typings f g → CatchBeside v w typings f g
wait-catch v w typings (wait_kept k) = catch_kept k
wait-catch v w typings (wait_rewritten s place r reached call) = catch_rewritten s place r reached call.within

module _ (v w : Linked) (typings : Typings) (laws : AreLaws v) (pair : AreCounterparts v w typings) where
  module _ (class handle : ℕ) (sv sw : State Cell) (same_heap : sw.heap ≡ sv.heap) (same_statics : sw.statics ≡ sv.statics) where
    abbrev here : Handler → Frame Cell → List (Frame Cell) → State Cell
    here h f fs = record sv { frames = caught tagged h handle f ∷ fs }

    abbrev there : Handler → Frame Cell → List (Frame Cell) → State Cell
    there h g gs = record sw { frames = caught tagged h handle g ∷ gs }

    abbrev Unwinds : List (Frame Cell) → List (Frame Cell) → Type 0
    Unwinds fs gs =
        IsTypedOutcome v typings (unwound tagged v class handle sv fs) → Settles v w typings (unwound tagged v class handle sv fs)
        (unwound tagged w class handle sw gs)

    -- in a method that is kept
    module _ (f : Frame Cell) (fs gs : List (Frame Cell)) (under : AreUnder v w typings fs gs) (k : IsSameMethod v w f.method) (rest : Unwinds fs gs) where
      kept-by :
          (o : Option Handler) → IsTypedOutcome v typings (caught_or tagged v handle sv f fs (unwound tagged v class handle sv fs) o)
          → Settles v w typings (caught_or tagged v handle sv f fs (unwound tagged v class handle sv fs) o)
          (caught_or tagged w handle sw f gs (unwound tagged w class handle sw gs) o)
      kept-by None safe = rest safe
      kept-by (Some h) safe =
          let is = caught-in v handle sv h f fs typings safe in
          let room : nat_lt (max_stack_of w f.method) 1 ≡ false = ap (λ n. nat_lt n 1) (kept-room v w typings laws pair f.method k) ∙ is.room in
          settles-as v w typings (caught_by tagged v h handle sv f fs) (caught_by tagged w h handle sw f gs) (running (here h f fs)) (running (there h f gs))
          is.goes (also-caught w handle sw h f gs room)
          (settled-now v w typings (running (here h f fs)) (running (there h f gs))
          (both_run (record { first = refl; second = refl; tops = top_kept k; under = under; heap = same_heap; statics = same_statics; typed = is.typed })))

      kept-unwinds : Unwinds (f ∷ fs) (f ∷ gs)
      kept-unwinds safe = grind (arith, kept-handlers, kept-by)

    -- in one that is rewritten
    module _
        (f g : Frame Cell) (fs gs : List (Frame Cell)) (under : AreUnder v w typings fs gs) (s : Source) (place : ℕ → ℕ)
        (r : IsRewrittenIn v w typings f.method s place) (reached : IsReached s.method f.place) (within : StandsInGroup s place f g) (rest : Unwinds fs gs)
      where
        abbrev first_by : Option Handler → Outcome Cell
        first_by o = caught_or tagged v handle sv f fs (unwound tagged v class handle sv fs) o

        abbrev second_by : Option Handler → Outcome Cell
        second_by o = caught_or tagged w handle sw g gs (unwound tagged w class handle sw gs) o

        caught-by : CatchAlike v w s place class f g → Unwinds (f ∷ fs) (g ∷ gs)
        caught-by (none_catches here_none there_none) safe = grind (arith, settles-as)
        caught-by (both_catch n h k caught_here listed covers caught_there entry) safe =
            let e : first_by (handler_for v class f) ≡ caught_by tagged v h handle sv f fs = ap first_by caught_here in
            let is = caught-in v handle sv h f fs typings (subst (IsTypedOutcome v typings) e safe) in
            let more : max_stack_of w f.method ≡ max_stack_of v f.method + 1 = more-room v w typings laws pair s place f.method r in
            let method : g.method ≡ f.method = within.of.target ∙ sym within.of.source in
            let size : max_stack_of w g.method ≡ max_stack_of w f.method = ap (max_stack_of w) method in
            let room : nat_lt (max_stack_of w g.method) 1 ≡ false = le-ltb (max_stack_of w g.method) 1 (omega (arith, more, size)) in
            let z : State Cell = here h f fs in
            let t : State Cell = there k g gs in
            settles-as v w typings (first_by (handler_for v class f)) (second_by (handler_for w class g)) (running z) (running t)
            (e ∙ is.goes) (ap second_by caught_there ∙ also-caught w handle sw k g gs room)
            (to-group v w typings laws pair s place z t 1 refl r under is.typed
            (laws.handlers w s place r.laid z t n f.place h (typed-at v typings w s place laws.stay z refl is.typed r)
            (equal-but v w typings laws pair z t refl refl under same_heap same_statics)
            (record {
              listed = listed;
              reached = reached;
              covers = covers;
              of = record { source = within.of.source; target = within.of.target; count = within.of.count };
              entry = refl;
              at = entry;
              object = handle;
              source = refl;
              target = refl;
              locals = locals-too s f.place f g h.entry k.entry (tagged.reference handle ∷ []) (tagged.reference handle ∷ []) within.locals;
            })))

    unwinds-one : {f g : Frame Cell} (fs gs : List (Frame Cell)) → AreUnder v w typings fs gs → CatchBeside v w typings f g → Unwinds fs gs
        → Unwinds (f ∷ fs) (g ∷ gs)
    unwinds-one fs gs under (catch_kept {f = f} k) rest safe = kept-unwinds f fs gs under k rest safe
    unwinds-one fs gs under (catch_rewritten {f = f} {g = g} s place r reached within) rest safe =
        caught-by f g fs gs under s place r reached within rest (laws.catch w s place r.laid class f g reached within) safe

    unwinds : {fs gs : List (Frame Cell)} → AreUnder v w typings fs gs → Unwinds fs gs
    unwinds no_frames safe =
        settled-now v w typings (ended (endings.Plain (Threw class handle)) (without_frames sv))
        (ended (endings.Plain (Threw class handle)) (without_frames sw))
        (both_end (endings.Plain (Threw class handle)) same_heap same_statics)
    unwinds (more_frames {fs = fs} {gs = gs} wait rest) safe = grind (arith, unwinds-one, wait-catch, unwinds rest)

  -- ---- an object, and an exception of which one is made

  module _
      (f g : Frame Cell) (fs gs : List (Frame Cell)) (under : AreUnder v w typings fs gs) (catch : CatchBeside v w typings f g) where
    abbrev Alike : Outcome Cell → Outcome Cell → Type 0
    Alike o p = IsTypedOutcome v typings o → Settles v w typings o p

    catches-alike : (class handle : ℕ) (z u : State Cell) → u.heap ≡ z.heap → u.statics ≡ z.statics
        → Alike (unwound tagged v class handle z (f ∷ fs)) (unwound tagged w class handle u (g ∷ gs))
    catches-alike class handle z u heap statics = unwinds-one class handle z u heap statics fs gs under catch (unwinds class handle z u heap statics under)

    full-alike : (z u : State Cell) → u.heap ≡ z.heap → u.statics ≡ z.statics
        → Alike (ends (endings.Plain HeapFull) z) (ends (endings.Plain HeapFull) u)
    full-alike = λ z u heap statics safe.
        settled-now v w typings (ends (endings.Plain HeapFull) z) (ends (endings.Plain HeapFull) u) (both_end (endings.Plain HeapFull) heap statics)

    pub throws-settle :
        (handle : ℕ) (z u : State Cell) → z.frames ≡ f ∷ fs → u.frames ≡ g ∷ gs → u.heap ≡ z.heap → u.statics ≡ z.statics
        → Alike (thrown tagged v handle z) (thrown tagged w handle u)
    throws-settle = throws-alike v w pair.same.classes Alike (f ∷ fs) (g ∷ gs) catches-alike full-alike

    pub raises-settle :
        (exception : Exception) (z u : State Cell) → z.frames ≡ f ∷ fs → u.frames ≡ g ∷ gs → u.heap ≡ z.heap → u.statics ≡ z.statics
        → Alike (raised tagged v exception z) (raised tagged w exception u)
    raises-settle = raises-alike v w pair.same.classes Alike (f ∷ fs) (g ∷ gs) catches-alike full-alike
