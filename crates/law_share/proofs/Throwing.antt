-- An object that is thrown is caught by the same frame in both worlds, or ends both runs.
use Rattle.std.proofs.Common.{◌≡◌, ℕ, inl, inr, Bool, true, false, ◌&&◌, cond, List, [], ◌∷◌, map}
use Rattle.std.proofs.Common.{refl, sym, ap, ◌∙◌, subst}
use Rattle.std.specs.Prelude.{Option, Some, None, option_map, nat_lt, Contains, find}
use Rattle.std.proofs.Common.{arith}
use Rattle.std.proofs.lemmas.Bool.{leb-true, ltb-true}
use Rattle.jc_base.specs.declared.record.Handler.{Handler}
use Rattle.jc_base.specs.Class.{ClassTable}
use Rattle.jc_base.specs.Each.{IsAmong}
use Rattle.jc_base.specs.World.{Linked}
use Rattle.jc_base.proofs.Eaching.{Contains-from_IsAmong}
use Rattle.jc_base.proofs.Tests.{found-passes}
use Rattle.jc_control.specs.Control.{Covers}
use Rattle.jc_control.specs.WellFormed.{IsPlace}
use Rattle.jc_decode.specs.declared.insn.Placed.{Placed}
use Rattle.jc_ops.specs.declared.operation.Operation.{Operation}
use Rattle.jc_ops.specs.declared.operation.Operation.TheVariants.{Call}
use Rattle.jc_rules.specs.Footprint.{footprint}
use Rattle.vm_store.specs.declared.cell.Cell.{Cell}
use Rattle.vm_store.specs.Cells.{tagged}
use Rattle.vm_store.specs.State.{Frame, State}
use Rattle.vm_step.specs.declared.ending.Ending.TheVariants as endings
use Rattle.vm_step.specs.declared.ending.Plain.TheVariants.{Threw, HeapFull}
use Rattle.vm_step.specs.declared.ending.Exception.{Exception}
use Rattle.vm_step.specs.Methods.{handlers_of, max_stack_of}
use Rattle.vm_step.specs.Raising.{running, ends, catches, handler_for, caught, caught_by, caught_or, unwound, thrown, raised, Outcome}
use Rattle.law_sound.specs.Frames.{Typings}
use Rattle.law_sound.specs.Soundness.{IsTypedOutcome}
use Rattle.law_alike.specs.Simulation.{both_run, both_end}
use Rattle.law_alike.proofs.Catching.{caught-in, also-caught, throws-alike, raises-alike}
use Rattle.law_share.specs.Live.{Operates, leads_off}
use Rattle.law_share.specs.Beside.{Renaming, AreRenamed, FrameBeside, WaitBeside, AreUnder, no_frames, more_frames}
use Rattle.law_share.proofs.Knowing.{AreLaws, its, same-room, its-handlers, other-handlers, held-after}
use Rattle.law_share.proofs.Settling.{Settles, settles-as}

-- frames from which an object is thrown, at an instruction that writes no register
pub record CatchBeside (v w : Linked) (r : Renaming) (f g : Frame Cell) : Type 0 where
  pub beside : FrameBeside v w r f g
  pub instruction : Placed
  pub op : Operation
  pub operates : Operates v beside.source instruction op
  pub there : instruction.place ≡ f.place
  pub quiet : (footprint v op).written ≡ 0

pub wait-catch : (v w : Linked) (r : Renaming) {f g : Frame Cell} → WaitBeside v w r f g → CatchBeside v w r f g
wait-catch v w r b = record {
  beside = b.beside;
  instruction = b.instruction;
  op = Call b.callee;
  operates = b.operates;
  there = b.there;
  quiet = refl;
}

-- ---- handlers one by one

found-mapped :
    {X : Type 0} (f : X → X) (p q : X → Bool) (xs : List X) → ((x : X) → IsAmong x xs → q (f x) ≡ p x)
    → find q (map f xs) ≡ option_map f (find p xs)
found-mapped f p q [] same = refl
found-mapped {X} f p q (x ∷ xs) same =
    ap (λ b. cond b (Some (f x)) (find q (map f xs))) (same x (inl refl)) ∙ go (p x) (found-mapped f p q xs (λ y among. same y (inr among)))
  where
    go : (b : Bool) → find q (map f xs) ≡ option_map f (find p xs) → cond b (Some (f x)) (find q (map f xs)) ≡ option_map f (cond b (Some x) (find p xs))
    go true rest = refl
    go false rest = rest

both-true : (a b c : Bool) → ((a && b) && c) ≡ true → (a ≡ true) × (b ≡ true)
both-true true true c h = (refl, refl)
both-true true false c h = absurd (cc)
both-true false b c h = absurd (cc)

catches-covers : (t : ClassTable) (place class : ℕ) (h : Handler) → catches t place class h ≡ true → Covers h place
catches-covers t place class h e = grind (arith, both-true, leb-true, ltb-true)

module _ (v w : Linked) (typings : Typings) (laws : AreLaws v) (r : Renaming) (pair : AreRenamed v w typings r) where
  module _ (f g : Frame Cell) (c : CatchBeside v w r f g) (class : ℕ) where
    abbrev at : FrameBeside v w r f g
    at = c.beside

    is-place : IsPlace at.source.code f.place
    is-place = (c.instruction, c.operates.stands, c.there)

    -- the handler that catches in the second is that of the first
    same-handler : handler_for w class g ≡ option_map (its v w typings laws r pair f g at).handler (handler_for v class f)
    same-handler =
        let k = its v w typings laws r pair f g at in
        let hs = at.source.rec.handlers in
        let first : find (catches w.classes g.place class) (handlers_of w g.method) ≡ find (catches v.classes g.place class) (map k.handler hs) =
        ap (λ (t : ClassTable). find (catches t g.place class) (handlers_of w g.method)) (sym pair.same.classes)
        ∙ ap (find (catches v.classes g.place class)) (other-handlers v w typings laws r pair f g at) in
        let second : find (catches v.classes g.place class) (map k.handler hs) ≡ option_map k.handler (find (catches v.classes f.place class) hs) =
        found-mapped k.handler (catches v.classes f.place class) (catches v.classes g.place class) hs
        (λ h among. ap (λ p. catches v.classes p class (k.handler h)) at.at
        ∙ k.catches.catch f.place class h is-place (Contains-from_IsAmong h hs among)) in
        first ∙ (second ∙ ap (option_map k.handler)
        (ap (find (catches v.classes f.place class)) (sym (its-handlers v w typings laws r pair f g at))))

    module _ (h : Handler) (catch : handler_for v class f ≡ Some h) where
      found : find (catches v.classes f.place class) at.source.rec.handlers ≡ Some h
      found = ap (find (catches v.classes f.place class)) (sym (its-handlers v w typings laws r pair f g at)) ∙ catch

      listed : Contains at.source.rec.handlers h
      listed = Contains-from_IsAmong h at.source.rec.handlers (found-passes (catches v.classes f.place class) at.source.rec.handlers h found).1

      covers : Covers h f.place
      covers = catches-covers v.classes f.place class h (found-passes (catches v.classes f.place class) at.source.rec.handlers h found).0

      caught-beside :
          (handle : ℕ)
          → FrameBeside v w r (caught tagged h handle f) (caught tagged ((its v w typings laws r pair f g at).handler h) handle g)
      caught-beside handle = record {
        source = at.source;
        is_source = at.is_source;
        number = at.number;
        method = at.method;
        at = (its v w typings laws r pair f g at).catches.entry h listed;
        counted = at.counted;
        count = at.count;
        stack = refl;
        held = λ x live.
            held-after v w typings laws r pair f g at c.instruction c.op h.entry x c.operates c.there c.quiet
            (leads_off listed (subst (Covers h) (sym c.there) covers)) live;
      }

  module _ (class handle : ℕ) (sv sw : State Cell) (same_heap : sw.heap ≡ sv.heap) (same_statics : sw.statics ≡ sv.statics) where
    abbrev here : Handler → Frame Cell → List (Frame Cell) → State Cell
    here h f fs = record sv { frames = caught tagged h handle f ∷ fs }

    abbrev there : Handler → Frame Cell → List (Frame Cell) → State Cell
    there h g gs = record sw { frames = caught tagged h handle g ∷ gs }

    abbrev Unwinds : List (Frame Cell) → List (Frame Cell) → Type 0
    Unwinds fs gs =
        IsTypedOutcome v typings (unwound tagged v class handle sv fs)
        → Settles v w typings r (unwound tagged v class handle sv fs) (unwound tagged w class handle sw gs)

    unwinds-one : (f g : Frame Cell) (fs gs : List (Frame Cell)) → AreUnder v w r fs gs → CatchBeside v w r f g → Unwinds fs gs
        → Unwinds (f ∷ fs) (g ∷ gs)
    unwinds-one f g fs gs under c rest safe =
        subst (λ o. Settles v w typings r (unwound tagged v class handle sv (f ∷ fs))
        (caught_or tagged w handle sw g gs (unwound tagged w class handle sw gs) o))
        (sym (same-handler f g c class)) (by (handler_for v class f) refl safe)
      where
        by : (o : Option Handler) → handler_for v class f ≡ o
            → IsTypedOutcome v typings (caught_or tagged v handle sv f fs (unwound tagged v class handle sv fs) o)
            → Settles v w typings r (caught_or tagged v handle sv f fs (unwound tagged v class handle sv fs) o)
            (caught_or tagged w handle sw g gs (unwound tagged w class handle sw gs)
            (option_map (its v w typings laws r pair f g c.beside).handler o))
        by None e safe = rest safe
        by (Some h) e safe =
            let k = (its v w typings laws r pair f g c.beside).handler h in
            let is = caught-in v handle sv h f fs typings safe in
            let room : nat_lt (max_stack_of w g.method) 1 ≡ false =
            ap (λ n. nat_lt n 1) (same-room v w typings laws r pair f g c.beside) ∙ is.room in
            settles-as v w typings r (caught_by tagged v h handle sv f fs) (caught_by tagged w k handle sw g gs) (running (here h f fs))
            (running (there k g gs))
            is.goes (also-caught w handle sw k g gs room)
            (both_run (record {
              first = refl;
              second = refl;
              tops = caught-beside f g c class h e handle;
              under = under;
              heap = same_heap;
              statics = same_statics;
              typed = is.typed;
            }))

    unwinds : {fs gs : List (Frame Cell)} → AreUnder v w r fs gs → Unwinds fs gs
    unwinds no_frames safe = both_end (endings.Plain (Threw class handle)) same_heap same_statics
    unwinds (more_frames {f = f} {g = g} {fs = fs} {gs = gs} wait rest) safe = grind (arith, unwinds-one, wait-catch, unwinds rest)

  -- ---- an object, and an exception of which one is made

  module _ (f g : Frame Cell) (fs gs : List (Frame Cell)) (under : AreUnder v w r fs gs) (catch : CatchBeside v w r f g) where
    abbrev Alike : Outcome Cell → Outcome Cell → Type 0
    Alike o p = IsTypedOutcome v typings o → Settles v w typings r o p

    catches-alike : (class handle : ℕ) (z u : State Cell) → u.heap ≡ z.heap → u.statics ≡ z.statics
        → Alike (unwound tagged v class handle z (f ∷ fs)) (unwound tagged w class handle u (g ∷ gs))
    catches-alike class handle z u heap statics = unwinds-one class handle z u heap statics f g fs gs under catch (unwinds class handle z u heap statics under)

    full-alike : (z u : State Cell) → u.heap ≡ z.heap → u.statics ≡ z.statics
        → Alike (ends (endings.Plain HeapFull) z) (ends (endings.Plain HeapFull) u)
    full-alike = λ z u heap statics safe. both_end (endings.Plain HeapFull) heap statics

    pub throws-settle :
        (handle : ℕ) (z u : State Cell) → z.frames ≡ f ∷ fs → u.frames ≡ g ∷ gs → u.heap ≡ z.heap → u.statics ≡ z.statics
        → Alike (thrown tagged v handle z) (thrown tagged w handle u)
    throws-settle = throws-alike v w pair.same.classes Alike (f ∷ fs) (g ∷ gs) catches-alike full-alike

    pub raises-settle :
        (exception : Exception) (z u : State Cell) → z.frames ≡ f ∷ fs → u.frames ≡ g ∷ gs → u.heap ≡ z.heap → u.statics ≡ z.statics
        → Alike (raised tagged v exception z) (raised tagged w exception u)
    raises-settle = raises-alike v w pair.same.classes Alike (f ∷ fs) (g ∷ gs) catches-alike full-alike
