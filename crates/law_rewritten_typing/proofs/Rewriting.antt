-- All items of a rewritten method, from the empty stack at its start.
use Rattle.std.proofs.Common.{◌≡◌, ℕ, suc, ◌+◌, Bool, true, false, if◌then◌else◌, List, [], ◌∷◌, length, flat_map, slice_get, All}
use Rattle.std.proofs.Common.{Contains, Option, Some, None, Result, Ok, IfSome, refl, sym, ◌∙◌, ap, subst, arith}
use Rattle.std.specs.Prelude.{ℤ, pos, negsuc, is_some}
use Rattle.std.proofs.lemmas.List.Elements.{All-contains}
use Rattle.jc_base.specs.Cell.{IsDeclared}
use Rattle.jc_base.specs.Order.{IsKnown}
use Rattle.jc_base.specs.declared.record.Handler.{Handler}
use Rattle.jc_base.specs.declared.record.MethodRec.{MethodRec}
use Rattle.jc_base.specs.declared.ty.Ty.TheVariants.{Top}
use Rattle.jc_decode.specs.declared.insn.Placed.{Placed}
use Rattle.jc_decode.specs.Listing.{listing, targets}
use Rattle.jc_decode.proofs.Elements.{Contains-slice_get}
use Rattle.jc_ops.specs.declared.fault.RuleFault.{RuleFault}
use Rattle.jc_ops.specs.declared.operation.Operation.{Operation}
use Rattle.jc_control.specs.Control.{jumped, led_to, entered}
use Rattle.jc_control.specs.WellFormed.{HasInstruction as IsListed, IsTargetPlace, IsHandlerOf}
use Rattle.jc_rules.specs.Demand.{Frame}
use Rattle.jc_rules.specs.Flow.{FrameBelow, At, IsNotFresh, start_frame, caught_frame}
use Rattle.jc_rules.specs.Laws.{IsNotBottom}
use Rattle.xf_homes.specs.Home.{IsConditional, argument_types}
use Rattle.xf_homes.specs.Walk.{operands_of}
use Rattle.xf_homes.specs.Source.{Source}
use Rattle.xf_homes.specs.Plan.{is_leader}
use Rattle.xf_emission.specs.declared.origin.Origin.TheVariants.{Start}
use Rattle.xf_emission.specs.Edge.{copies}
use Rattle.xf_emission.specs.Jump.{each_once, place, stub, stub_label, stubs_of, handler_label}
use Rattle.xf_emission.specs.Group.{group}
use Rattle.xf_emission.specs.Emission.{stubs, stubs_by, stubs_done, stubs_at, is_live, catching_stub, catching_stubs, items}
use Rattle.xf_emission.specs.Laws.{IsCode}
use Rattle.xf_emission.proofs.Live.{live-is}
use Rattle.xf_emission.proofs.Ways.{way-from}
use Rattle.law_rewritten_typing.specs.Typed.{registers_of}
use Rattle.law_rewritten_typing.proofs.Walks.{holding, left, Asked, nothing_asked, emptied, catching}
use Rattle.law_rewritten_typing.proofs.Walks.{Passes, Flows, flow_label, flow_end, flows-append, count}
use Rattle.law_rewritten_typing.proofs.Ready.{IsReady, framed, reached}
use Rattle.law_rewritten_typing.proofs.Copies.{copies-go}
use Rattle.law_rewritten_typing.proofs.Carried.{carries-start}
use Rattle.law_rewritten_typing.specs.Premises.{AreTypingLaws}
use Rattle.law_rewritten_typing.proofs.Running.{IsRecordFor}
use Rattle.law_rewritten_typing.proofs.Leading.{Arrives, emptied_there, falls_there}
use Rattle.law_rewritten_typing.proofs.Edges.{stub-flows, caught-flows}
use Rattle.law_rewritten_typing.proofs.Listings.{IsReachedRun, run-of, IsBefore, Numbered, groups-flow}

module _ (new : ℕ → ℕ) (apart : (a b : ℕ) → new a ≡ new b → a ≡ b) (s : Source) (l : AreTypingLaws s.world) (ready : IsReady s) (r : MethodRec)
    (own_rec : IsRecordFor s.method.rec r) (asks : ℕ → Asked) (res : IfSome s.method.rec.sig.result (IsDeclared s.world.classes)) (code : IsCode s)
  where
    -- what the labels of the method ask
    pub record AreWanted : Type 0 where
      pub places : (q : ℕ) → is_some (s.frames q) ≡ true → asks q ≡ (if is_leader s q then emptied else nothing_asked)
      pub end : asks (length s.method.code) ≡ nothing_asked
      pub stubs : (i : Placed) (k : ℕ) (t : ℤ) → IsListed s.method.code i → slice_get (each_once (targets s.method.code i)) k ≡ Some t
          → asks (stub_label i.place k) ≡ emptied
      pub handlers : (n : ℕ) (h : Handler) → slice_get s.method.rec.handlers n ≡ Some h → asks (handler_label n) ≡ catching h.class

    -- ---- the start

    -- the types of the arguments are such as registers have
    pub record AreArguments : Type 0 where
      pub known : All (IsKnown s.world.classes) (argument_types s.method.rec)
      pub full : All IsNotBottom (argument_types s.method.rec)
      pub fresh : All IsNotFresh (argument_types s.method.rec)

    start-at : (g : Frame) × (s.frames 0 ≡ Some g) × FrameBelow s.world.classes (start_frame s.method.rec Top) g
    start-at = grind (arith)

    start-flows : AreArguments → Flows s.world r (registers_of s.homes) asks 0 (holding []) (copies s Start 0) (holding [])
    start-flows args =
        copies-go l.objects l.rules ready r asks Start 0 []
        (carries-start l.objects l.rules ready r asks start-at.0 start-at.1 start-at.2.regs args.known args.full args.fresh)
        (omega (arith, own_rec.room)) 0

    start-before : IsBefore new apart s l ready r own_rec asks res code 0 (holding [])
    start-before = record { comes = λ there. by (is_leader s 0) refl; not_there = λ none. absurd (differ start-at.0 (sym start-at.1 ∙ none)) }
      where
        differ : (g : Frame) → ◌≡◌ {A = Option Frame} (Some g) None → ⊥
        differ g e = absurd (cc)

        by : (b : Bool) → is_leader s 0 ≡ b → Arrives new apart s l ready r own_rec asks res code 0 (holding [])
        by true e = emptied_there e
        by false e =
            falls_there {g = start-at.0} {st = []} e start-at.1
            (record { below = start-at.2.stack; full = λ j d lt. absurd (omega (arith, lt)); known = λ j d lt. absurd (omega (arith, lt)) })

    -- ---- the stubs of branches

    module _ (wanted : AreWanted) where
      target-is : (i : Placed) (k : ℕ) (t : ℤ) → IsListed s.method.code i → slice_get (targets s.method.code i) k ≡ Some t → t ≡ pos (place t)
      target-is i k t st e =
          by t
          (All-contains (IsTargetPlace s.method.code) (targets s.method.code i) t (ready.has.formed.targets i st)
          (Contains-slice_get (targets s.method.code i) k t e))
        where
          by : (u : ℤ) → IsTargetPlace s.method.code u → u ≡ pos (place u)
          by (pos q) h = refl
          by (negsuc q) h = absurd h

      stubs-from : (i : Placed) (f : Frame) (k : IsReachedRun new apart s l ready r own_rec asks res code i f) (n m at : ℕ) (ts : List ℤ)
          → IsListed s.method.code i → s.frames i.place ≡ Some f → IsConditional k.op → operands_of s.world (Ok k.op) ≡ Some n
          → ((j : ℕ) (t : ℤ) → slice_get ts j ≡ Some t → slice_get (each_once (targets s.method.code i)) (m + j) ≡ Some t)
          → Flows s.world r (registers_of s.homes) asks at left (stubs_of s i.place k.op n m ts) left
      stubs-from i f k n m at [] st e is some inside = flow_end
      stubs-from i f k n m at (t ∷ ts) st e is some inside =
          let same_m : m + 0 ≡ m = omega arith in
          let here : slice_get (each_once (targets s.method.code i)) m ≡ Some t = ap (slice_get (each_once (targets s.method.code i))) (sym same_m)
          ∙ inside 0 t refl in
          let named = way-from (targets s.method.code i) m t here in
          let own = target-is i named.0 t st named.1 in
          let c : Contains (targets s.method.code i) (pos (place t)) = subst (Contains (targets s.method.code i)) own
          (Contains-slice_get (targets s.method.code i) named.0 t named.1) in
          let g = k.below (place t) (jumped c) in
          let lead = (ready.marks (place t)).1 (led_to {i = i} st (reached l.objects l.rules ready r asks i.place f e) c) in
          flows-append s.world r (registers_of s.homes) asks
          (stub-flows new apart s l ready r own_rec asks res code i k.op f k.after g.frame n m at t k.run is some g.at g.below lead
          (wanted.stubs i m t st here))
          (stubs-from i f k n (suc m) (at + count (stub s i.place k.op n m t)) ts st e is some (λ j u h. let next : m + suc j ≡ suc m + j = omega arith in
          ap (slice_get (each_once (targets s.method.code i))) (sym next) ∙ inside (suc j) u h))

      conditional-of : (op : Operation) (n : ℕ) → operands_of s.world (Ok op) ≡ Some n → IsConditional op
      conditional-of op n e = grind (arith)

      stubs-at : (i : Placed) (at : ℕ) → IsListed s.method.code i → Flows s.world r (registers_of s.homes) asks at left (stubs s i) left
      unfolding stubs
      stubs-at i at st = by (s.frames i.place) refl
        where
          by-operands : (f : Frame) (k : IsReachedRun new apart s l ready r own_rec asks res code i f) → s.frames i.place ≡ Some f → (o : Option ℕ)
              → operands_of s.world (Ok k.op) ≡ o → Flows s.world r (registers_of s.homes) asks at left (stubs_by s i k.op o) left
          by-operands f k e None some = flow_end
          by-operands f k e (Some n) some =
              stubs-from i f k n 0 at (each_once (targets s.method.code i)) st e (conditional-of k.op n some) some
              (λ j t h. let same_j : 0 + j ≡ j = omega arith in ap (slice_get (each_once (targets s.method.code i))) same_j ∙ h)

          by : (o : Option Frame) → s.frames i.place ≡ o → Flows s.world r (registers_of s.homes) asks at left (stubs_at s i o) left
          by None e = flow_end
          by (Some f) e =
              let k = run-of new apart s l ready r own_rec asks res code i f st e in
              subst (λ (o : Result Operation RuleFault). Flows s.world r (registers_of s.homes) asks at left (stubs_done s i o) left) (sym k.run.resolves)
              (by-operands f k e (operands_of s.world (Ok k.op)) refl)

      stubs-flow : (at : ℕ) (xs : List Placed) → ((i : Placed) → Contains xs i → IsListed s.method.code i)
          → Flows s.world r (registers_of s.homes) asks at left (flat_map (stubs s) xs) left
      stubs-flow at [] inside = flow_end
      stubs-flow at (i ∷ xs) inside =
          flows-append s.world r (registers_of s.homes) asks (stubs-at i at (inside i (0, omega arith, refl)))
          (stubs-flow (at + count (stubs s i)) xs (λ j c. inside j (suc c.0, omega (arith, c.1), c.2)))

      -- ---- the stubs of handlers

      caught-at : (n at : ℕ) (h : Handler) → slice_get s.method.rec.handlers n ≡ Some h → is_live s h ≡ true
          → Flows s.world r (registers_of s.homes) asks at left (catching_stub s n h) left
      caught-at n at h e live =
          let c = Contains-slice_get s.method.rec.handlers n h e in
          let is = live-is s (l.rules.listed s.method.code) ready.has h
          (All-contains (IsHandlerOf s.method.code) s.method.rec.handlers h ready.has.formed.handlers c) c live in
          let f = framed l.objects l.rules ready r asks (s.frames is.place)
          (λ (f : Frame). At s.frames h.entry (FrameBelow s.world.classes (caught_frame h f)))
          (ready.typing.handlers is.place h is.reached is.listed is.covers) in
          let g = framed l.objects l.rules ready r asks (s.frames h.entry) (FrameBelow s.world.classes (caught_frame h f.0)) f.2 in
          caught-flows new apart s l ready r own_rec asks res code n at h g.0 g.1 g.2.stack ((ready.marks h.entry).1 (entered is.reached is.listed is.covers))
          (wanted.handlers n h e)

      caught-flow : (n at : ℕ) (hs : List Handler)
          → ((j : ℕ) (h : Handler) → slice_get hs j ≡ Some h → slice_get s.method.rec.handlers (n + j) ≡ Some h)
          → Flows s.world r (registers_of s.homes) asks at left (catching_stubs s n hs) left
      caught-flow n at [] inside = flow_end
      caught-flow n at (h ∷ hs) inside =
          flows-append s.world r (registers_of s.homes) asks (by (is_live s h) refl)
          (caught-flow (suc n) (at + count (if is_live s h then catching_stub s n h else [])) hs
          (λ j k e. let next : n + suc j ≡ suc n + j = omega arith in ap (slice_get s.method.rec.handlers) (sym next) ∙ inside (suc j) k e))
        where
          here : slice_get s.method.rec.handlers n ≡ Some h
          here = let same_n : n + 0 ≡ n = omega arith in ap (slice_get s.method.rec.handlers) (sym same_n) ∙ inside 0 h refl

          by : (b : Bool) → is_live s h ≡ b → Flows s.world r (registers_of s.homes) asks at left (if b then catching_stub s n h else []) left
          by true e = caught-at n at h here e
          by false e = flow_end

      -- ---- the whole

      pub items-flow : AreArguments → Numbered new apart s l ready r own_rec asks res code (0 + count (copies s Start 0)) (listing s.method.code)
          → Flows s.world r (registers_of s.homes) asks 0 (holding []) (items s) left
      unfolding items
      items-flow args numbered =
          let groups_end = 0 + count (copies s Start 0) + count (flat_map (group s) (listing s.method.code)) in
          flows-append s.world r (registers_of s.homes) asks (start-flows args)
          (flows-append s.world r (registers_of s.homes) asks
          (groups-flow new apart s l ready r own_rec asks res code wanted.places 0 (0 + count (copies s Start 0)) (listing s.method.code) (holding [])
          code.lists (λ i c. c) start-before numbered)
          (flow_label {b = left} (subst (λ (q : Asked). Passes q left left) (sym wanted.end) refl)
          (flows-append s.world r (registers_of s.homes) asks (stubs-flow groups_end (listing s.method.code) (λ i c. c))
          (caught-flow 0 (groups_end + count (flat_map (stubs s) (listing s.method.code))) s.method.rec.handlers
          (λ j h e. let same_j : 0 + j ≡ j = omega arith in ap (slice_get s.method.rec.handlers) same_j ∙ e)))))
