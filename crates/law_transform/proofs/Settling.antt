-- What follows the step of another method in both worlds: a method that is called begins, one that waits goes on, an object is caught.
use Rattle.std.proofs.Common.{◌≡◌, ℕ, suc, ◌+◌, ◌-◌, ◌<◌, ◌≤◌, false, List, []}
use Rattle.std.proofs.Common.{◌∷◌, ◌++◌, length, map, reverse, replicate, refl, sym, ap, ◌∙◌, subst, arith, length-append}
use Rattle.std.specs.Prelude.{nat_le, slice_get}
use Rattle.std.proofs.lemmas.Bool.{lt-leb}
use Rattle.std.proofs.lemmas.List.{length-map, map-append}
use Rattle.jc_base.specs.declared.record.MethodRec.{MethodRec}
use Rattle.jc_base.specs.Each.{Each}
use Rattle.jc_base.specs.World.{Linked, code_of}
use Rattle.jc_decode.specs.declared.insn.Placed.{Placed}
use Rattle.jc_decode.proofs.InstructionLists.{all-are-listed}
use Rattle.jc_control.specs.Control.{IsReached}
use Rattle.jc_control.specs.Method.{IsMethodOf, method_with}
use Rattle.jc_control.proofs.PlacesWithin.{place-inside}
use Rattle.vm_store.specs.declared.cell.Cell.{Cell}
use Rattle.vm_store.specs.Cells.{tagged}
use Rattle.vm_store.specs.Objects.{kinds}
use Rattle.vm_store.specs.State.{Frame, Object, State, top, other_frames, entered, register_count_of, register_count}
use Rattle.vm_store.specs.Value.{with_value}
use Rattle.vm_store.proofs.Stacks.{reverse-map}
use Rattle.vm_step.specs.declared.ending.Ending.TheVariants as endings
use Rattle.vm_step.specs.declared.ending.Plain.TheVariants.{Returned}
use Rattle.vm_step.specs.declared.ending.Value.{Value}
use Rattle.vm_step.specs.Methods.{of_method, code_at, handlers_of, instruction_at, max_stack_of}
use Rattle.vm_step.specs.Raising.{Outcome, running, ended}
use Rattle.vm_step.specs.Run.{Continues, stands}
use Rattle.vm_step.specs.Settled.{given_to, return_place}
use Rattle.law_sound.specs.Frames.{Typings}
use Rattle.law_sound.specs.State.{IsTypedState}
use Rattle.law_sound.specs.Soundness.{IsTypedOutcome}
use Rattle.law_sound.specs.Handed.{nargs_of}
use Rattle.law_sound.proofs.Finish.{has-room}
use Rattle.law_alike.specs.Alike.{renamed_cell}
use Rattle.law_alike.proofs.Settling.{after_call, given_frame}
use Rattle.law_alike.proofs.Standing.{stands-at}
use Rattle.law_alike.proofs.Giving.{IsGiven, is-given, goes-given}
use Rattle.xf_homes.specs.declared.home.Home.{Home}
use Rattle.law_homes.specs.Held.{HoldsValue, HoldsLocals}
use Rattle.xf_homes.specs.Source.{Source}
use Rattle.xf_homes.specs.Plan.{needed}
use Rattle.law_groups.specs.Laid.{body_at, rename}
use Rattle.law_groups.specs.Beside.{AreEqualBut, AreOf, IsUnderCall}
use Rattle.law_groups.specs.Comes.{ComesToGroup, ComesWithin}
use Rattle.law_transform.specs.Counterparts.{IsSameMethod, IsRewrittenIn, IsKeptOrRewritten, kept, rewritten, AreCounterparts}
use Rattle.law_transform.specs.Beside.{AreTop, top_kept, top_rewritten, wait_kept, wait_rewritten, AreUnder, no_frames, more_frames}
use Rattle.law_transform.specs.Beside.{AreBeside}
use Rattle.law_transform.specs.Beside.{OutcomesBeside}
use Rattle.law_transform.proofs.Typed.{AreLaws, its-method, typed-at}
use Rattle.law_alike.specs.Simulation.{both_run, both_end, extra_after}

-- how many steps may still follow: an ending comes at once
abbrev pub extra : Outcome Cell → ℕ
extra = extra_after 1000

-- from what the second world has come to, few steps lead beside what the first has
pub record Settles (v w : Linked) (typings : Typings) (o p : Outcome Cell) : Type 0 where
  pub count : ℕ
  pub fewer : count ≤ extra o
  pub outcome : Outcome Cell
  pub continues : Continues tagged w count p outcome
  pub comes : OutcomesBeside v w typings o outcome

module _ (v w : Linked) (typings : Typings) where
  pub settled-now : (o p : Outcome Cell) → OutcomesBeside v w typings o p → Settles v w typings o p
  settled-now o p beside = record { count = 0; fewer = omega arith; outcome = p; continues = now p; comes = beside }
    where
      now : (p : Outcome Cell) → Continues tagged w 0 p p
      now (running s) = stands
      now (ended ending s) = refl

  pub settles-as : (o p u r : Outcome Cell) → o ≡ u → p ≡ r → Settles v w typings u r → Settles v w typings o p
  settles-as o p u r k l c = subst (λ n. Settles v w typings n p) (sym k) (subst (λ n. Settles v w typings u n) (sym l) c)

  pub under-length : {fs gs : List (Frame Cell)} → AreUnder v w typings fs gs → length gs ≡ length fs
  under-length no_frames = refl
  under-length (more_frames {f = f} {g = g} {fs = fs} {gs = gs} first rest) = ap suc (under-length rest)

-- a home is held by a frame with the same registers
pub holds-too : (s : Source) (values : List Cell) (g : Frame Cell) (place : ℕ) (stack : List Cell) (h : Home) → HoldsValue s values g h
    → HoldsValue s values (record g { place = place; stack = stack }) h
holds-too s values g place stack h holds = record { known = holds.known; there = holds.there; equal = holds.equal }

each-too : (s : Source) (values : List Cell) (g : Frame Cell) (place : ℕ) (stack : List Cell) (hs : List Home) → Each (HoldsValue s values g) hs
    → Each (HoldsValue s values (record g { place = place; stack = stack })) hs
each-too s values g place stack [] all = all
each-too s values g place stack (h ∷ hs) all = (holds-too s values g place stack h all.0, each-too s values g place stack hs all.1)

pub locals-too :
    (s : Source) (p : ℕ) (f g : Frame Cell) (at on : ℕ) (below above : List Cell) → HoldsLocals s p f g
    → HoldsLocals s p (record f { place = at; stack = below }) (record g { place = on; stack = above })
locals-too s p f g at on below above locals = λ x. each-too s f.registers g on above (needed s p x) (locals x)

module _ (v w : Linked) (typings : Typings) (laws : AreLaws v) (pair : AreCounterparts v w typings) where
  -- ---- states beside one another

  pub beside :
      (z t y u : State Cell) → y.frames ≡ top y ∷ other_frames z.frames → u.frames ≡ top u ∷ other_frames t.frames
      → AreUnder v w typings (other_frames z.frames) (other_frames t.frames) → AreTop v w typings (top y) (top u)
      → u.heap ≡ y.heap → u.statics ≡ y.statics → IsTypedState v typings y → AreBeside v w typings y u
  beside z t y u first second under tops heap statics typed = grind (arith)

  pub equal-but :
      (z t : State Cell) → z.frames ≡ top z ∷ other_frames z.frames → t.frames ≡ top t ∷ other_frames t.frames
      → AreUnder v w typings (other_frames z.frames) (other_frames t.frames) → t.heap ≡ z.heap → t.statics ≡ z.statics → AreEqualBut z t
  equal-but z t first second under heap statics = grind (arith, length, suc, under-length)

  -- few steps lead to the group of the place
  pub to-group :
      (s : Source) (place : ℕ → ℕ) (z t : State Cell) (least : ℕ) → z.frames ≡ top z ∷ other_frames z.frames
      → IsRewrittenIn v w typings (top z).method s place → AreUnder v w typings (other_frames z.frames) (other_frames t.frames) → IsTypedState v typings z
      → ComesWithin w least 1000 t (ComesToGroup s place z t)
      → Settles v w typings (running z) (running t)
  to-group s place z t least first r under typed comes =
      let c = comes.comes in
      let at = beside z t z c.state first c.are.second.frames under (top_rewritten s place r c.are.group) c.are.equal.heap c.are.equal.statics typed in
      record {
        count = comes.count;
        fewer = comes.fewer;
        outcome = comes.outcome;
        continues = comes.runs;
        comes = subst (OutcomesBeside v w typings (running z)) (sym c.is) (both_run at);
      }

  -- ---- a method begins

  module _
      (n : ℕ) (args : List Cell) (fs gs : List (Frame Cell)) (heap other : List (Object Cell)) (statics others : List Cell)
      (same_heap : other ≡ heap) (same_statics : others ≡ statics) (under : AreUnder v w typings fs gs)
      (typed : IsTypedState v typings (record { frames = entered tagged v.methods n args ∷ fs; heap = heap; statics = statics }))
      (many : length args ≡ nargs_of v n) where
    abbrev begun : State Cell
    begun = record { frames = entered tagged v.methods n args ∷ fs; heap = heap; statics = statics }

    abbrev also_begun : State Cell
    also_begun = record { frames = entered tagged w.methods n args ∷ gs; heap = other; statics = others }

    enters-by : IsKeptOrRewritten v w typings n → Settles v w typings (running begun) (running also_begun)
    enters-by (kept k) =
        let count : register_count v.methods n ≡ register_count w.methods n = ap register_count_of (k.first ∙ sym k.second) in
        let tops : AreTop v w typings (entered tagged v.methods n args) (entered tagged w.methods n args) =
        subst (λ c. AreTop v w typings (entered tagged v.methods n args)
        (record { method = n; place = 0; registers = args ++ replicate (c - length args) tagged.empty; stack = [] })) count (top_kept k) in
        settled-now v w typings (running begun) (running also_begun)
        (both_run (record { first = refl; second = refl; tops = tops; under = under; heap = same_heap; statics = same_statics; typed = typed }))
    enters-by (rewritten s place r) =
        let words : nargs_of v n ≡ s.method.rec.nargs =
        ap (of_method 0 (λ (m : MethodRec). m.nargs)) (ap (slice_get v.methods) (sym r.number) ∙ (its-method v w typings n s place r).rec) in
        to-group s place begun also_begun 0 refl r under typed
        (laws.enter w s place r.laid begun also_begun args (typed-at v typings w s place laws.stay begun refl typed r)
        (equal-but begun also_begun refl refl under same_heap same_statics) (many ∙ words)
        (ap (λ k. entered tagged v.methods k args) (sym r.number)) (ap (λ k. entered tagged w.methods k args) (sym r.number)))

    pub enters : Settles v w typings (running begun) (running also_begun)
    enters =
        let st = typed.frames.0.stands in
        let inside : 0 < length (code_at v n) = (has-room v typings (kinds begun) (top begun) typed.frames.0).inside in
        let code : code_at v n ≡ code_of v.infos st.rec = ap (of_method [] (code_of v.infos)) st.is_method in
        let is : IsMethodOf v (method_with v n st.rec) =
        record { rec = st.is_method; code = refl; filled = subst (λ (c : List ℕ). 0 < length c) code inside } in
        enters-by (pair.methods (method_with v n st.rec) is)

  -- ---- a method that is kept

  pub kept-code : (n : ℕ) → IsSameMethod v w n → code_at w n ≡ code_at v n
  kept-code n k = grind (arith)

  pub kept-room : (n : ℕ) → IsSameMethod v w n → max_stack_of w n ≡ max_stack_of v n
  kept-room n k = ap (of_method 0 (λ (m : MethodRec). m.max_stack)) (k.second ∙ sym k.first)

  pub kept-handlers : (n : ℕ) → IsSameMethod v w n → handlers_of w n ≡ handlers_of v n
  kept-handlers n k = ap (of_method [] (λ (m : MethodRec). m.handlers)) (k.second ∙ sym k.first)

  pub more-room : (s : Source) (place : ℕ → ℕ) (n : ℕ) → IsRewrittenIn v w typings n s place → max_stack_of w n ≡ max_stack_of v n + 1
  more-room s place n r = subst (λ k. max_stack_of w k ≡ max_stack_of v k + 1) r.number (laws.room w s place r.laid)

  -- ---- a method that waits goes on

  module _ (value : Value) (cells : List Cell) (plain : (e : ℕ → ℕ) → map (renamed_cell e) cells ≡ cells)
      (heap other : List (Object Cell)) (statics others : List Cell) (same_heap : other ≡ heap) (same_statics : others ≡ statics) where
    module _ (f g : Frame Cell) (fs gs : List (Frame Cell)) (under : AreUnder v w typings fs gs) where
      abbrev waiting : State Cell
      waiting = record { frames = f ∷ fs; heap = heap; statics = statics }

      abbrev also_waiting : State Cell
      also_waiting = record { frames = g ∷ gs; heap = other; statics = others }

      abbrev given : State Cell
      given = record { frames = given_frame v cells f ∷ fs; heap = heap; statics = statics }

      abbrev also_given : State Cell
      also_given = record { frames = given_frame w cells g ∷ gs; heap = other; statics = others }

      -- in a method that is rewritten
      module _ (s : Source) (place : ℕ → ℕ) (r : IsRewrittenIn v w typings f.method s place) (reached : IsReached s.method f.place)
          (call : IsUnderCall s place f g)
          (is : IsGiven value cells f fs heap statics v typings) where
        abbrev of_call : AreOf s f g
        of_call = call.within.of

        same-depth : length (with_value cells g.stack) ≡ length (with_value cells f.stack)
        same-depth = grind (arith, length, length-map, length-append, reverse)

        same-stack : with_value cells g.stack ≡ map (renamed_cell (rename s place)) (with_value cells f.stack)
        same-stack =
            let e : Cell → Cell = renamed_cell (rename s place) in
            ap (λ cs. reverse cells ++ cs) call.stack
            ∙ (ap (λ cs. cs ++ map e f.stack) (sym (sym (reverse-map e cells) ∙ ap reverse (plain (rename s place))))
            ∙ sym (map-append e (reverse cells) f.stack))

        next-place : after_call v f ≡ call.within.instruction.place + call.within.instruction.insn.len
        next-place =
            let code : code_at v f.method ≡ s.method.code =
            ap (code_at v) (sym r.number)
            ∙ (ap (of_method [] (code_of v.infos)) (its-method v w typings f.method s place r).rec
            ∙ sym (its-method v w typings f.method s place r).code) in
            ap return_place (ap (λ c. instruction_at c f.place) code ∙ stands-at s.method.code f.place call.within.instruction call.within.stands
            call.within.there)

        rewritten-given : Settles v w typings (given_to tagged v value cells waiting) (given_to tagged w value cells also_waiting)
        rewritten-given =
            let i : Placed = call.within.instruction in
            let end = laws.calls_end w s place r.laid f g reached call in
            let method : g.method ≡ f.method = of_call.target ∙ sym of_call.source in
            let room : max_stack_of w g.method ≡ max_stack_of v f.method + 1 = ap (max_stack_of w) method ∙ more-room s place f.method r in
            let fits : length (with_value cells g.stack) ≤ max_stack_of w g.method =
            (let le = is.fits in omega (arith, le, room, same-depth)) in
            let code : List ℕ = code_at w g.method in
            let lt : place (body_at s f.place + 1) < length code = place-inside code (all-are-listed code) (place (body_at s f.place + 1)) end.there in
            let inside : nat_le (length code) (after_call w g) ≡ false =
            ap (nat_le (length code)) end.next ∙ lt-leb (length code) (place (body_at s f.place + 1)) lt in
            let typed = typed-at v typings w s place laws.stay given refl is.typed r in
            settles-as v w typings (given_to tagged v value cells waiting) (given_to tagged w value cells also_waiting) (running given) (running also_given)
            is.goes (goes-given value cells g gs other others w fits inside)
            (to-group s place given also_given 0 refl r under is.typed
            (laws.calls_return w s place r.laid given also_given i typed
            (equal-but given also_given refl refl under same_heap same_statics)
            (record {
              stands = call.within.stands;
              reached = subst (IsReached s.method) (sym call.within.there) reached;
              callee = call.callee;
              calls = call.calls;
              next = next-place;
              of = record { source = of_call.source; target = of_call.target; count = of_call.count };
              at = end.next ∙ ap (λ p. place (body_at s p + 1)) (sym call.within.there);
              stack = same-stack;
              locals = subst (λ p. HoldsLocals s p (given_frame v cells f) (given_frame w cells g)) (sym call.within.there)
                  (locals-too s f.place f g (after_call v f) (after_call w g) (with_value cells f.stack) (with_value cells g.stack) call.within.locals);
            })))

    -- in one that is kept
    kept-given :
        (f : Frame Cell) (fs gs : List (Frame Cell)) → AreUnder v w typings fs gs → IsSameMethod v w f.method
        → IsTypedOutcome v typings (given_to tagged v value cells (record { frames = f ∷ fs; heap = heap; statics = statics }))
        → Settles v w typings (given_to tagged v value cells (record { frames = f ∷ fs; heap = heap; statics = statics }))
        (given_to tagged w value cells (record { frames = f ∷ gs; heap = other; statics = others }))
    kept-given f fs gs under k safe =
        let is = is-given value cells f fs heap statics v typings safe in
        let code : code_at w f.method ≡ code_at v f.method = kept-code f.method k in
        let next : after_call w f ≡ after_call v f = ap (λ c. return_place (instruction_at c f.place)) code in
        let fits : length (with_value cells f.stack) ≤ max_stack_of w f.method = subst (λ n. length (with_value cells f.stack) ≤ n)
        (sym (kept-room f.method k)) is.fits in
        let inside : nat_le (length (code_at w f.method)) (after_call w f) ≡ false =
        ap (λ (c : List ℕ). nat_le (length c) (after_call w f)) code ∙ (ap (nat_le (length (code_at v f.method))) next ∙ is.inside) in
        let z : State Cell = given f f fs gs under in
        let t : State Cell = also_given f f fs gs under in
        let tops : AreTop v w typings (given_frame v cells f) (given_frame w cells f) =
        subst
        (λ p. AreTop v w typings (given_frame v cells f)
        (record { method = f.method; place = p; registers = f.registers; stack = with_value cells f.stack }))
        (sym next) (top_kept k) in
        settles-as v w typings (given_to tagged v value cells (waiting f f fs gs under)) (given_to tagged w value cells (also_waiting f f fs gs under))
        (running z) (running t)
        is.goes (goes-given value cells f gs other others w fits inside)
        (settled-now v w typings (running z) (running t)
        (both_run (record { first = refl; second = refl; tops = tops; under = under; heap = same_heap; statics = same_statics; typed = is.typed })))

    pub gives :
        {fs gs : List (Frame Cell)} → AreUnder v w typings fs gs
        → IsTypedOutcome v typings (given_to tagged v value cells (record { frames = fs; heap = heap; statics = statics }))
        → Settles v w typings (given_to tagged v value cells (record { frames = fs; heap = heap; statics = statics }))
        (given_to tagged w value cells (record { frames = gs; heap = other; statics = others }))
    gives no_frames safe =
        settled-now v w typings (ended (endings.Plain (Returned value)) (record { frames = []; heap = heap; statics = statics }))
        (ended (endings.Plain (Returned value)) (record { frames = []; heap = other; statics = others }))
        (both_end (endings.Plain (Returned value)) same_heap same_statics)
    gives (more_frames {fs = fs} {gs = gs} (wait_kept {f = f} k) rest) safe = kept-given f fs gs rest k safe
    gives (more_frames {fs = fs} {gs = gs} (wait_rewritten {f = f} {g = g} s place r reached call) rest) safe =
        rewritten-given f g fs gs rest s place r reached call (is-given value cells f fs heap statics v typings safe)
