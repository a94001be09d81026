-- The edges of rewritten code: where a conditional falls through, gotos, and stubs.
use Rattle.std.proofs.Common.{◌≡◌, ℕ, ◌+◌, ◌≤◌, Bool, true, false, if◌then◌else◌, inl, List, [], ◌∷◌, ◌++◌, length, map}
use Rattle.std.proofs.Common.{reverse, All, Some, Ok, IfSome, refl, sym, ◌∙◌, ap, subst, arith, length-append}
use Rattle.std.specs.Prelude.{ℤ}
use Rattle.std.proofs.lemmas.Bool.Decides.{nat_tests}
use Rattle.std.proofs.lemmas.List.{length-reverse, nil_from_length}
use Rattle.jc_base.proofs.Lists.{All-reverse}
use Rattle.jc_base.specs.Cell.{IsDeclared}
use Rattle.jc_base.specs.Each.{Each}
use Rattle.jc_base.specs.Order.{IsKnown}
use Rattle.jc_base.specs.declared.record.Handler.{Handler}
use Rattle.jc_base.specs.declared.record.MethodRec.{MethodRec}
use Rattle.jc_base.specs.declared.ty.Ty.{Ty}
use Rattle.jc_base.specs.declared.ty.Ty.TheVariants.{Class}
use Rattle.jc_decode.specs.declared.insn.Placed.{Placed}
use Rattle.jc_decode.specs.declared.symbols.Item.{Item}
use Rattle.jc_ops.specs.declared.operation.Branch.TheVariants as branches
use Rattle.jc_ops.specs.declared.operation.Operation.{Operation}
use Rattle.jc_ops.specs.declared.operation.Operation.TheVariants as ops
use Rattle.jc_rules.specs.Demand.{Frame}
use Rattle.jc_rules.specs.Flow.{CellsBelow, FrameBelow, IsNotFresh, IsNotTop}
use Rattle.jc_rules.specs.Laws.{IsNotBottom}
use Rattle.xf_homes.specs.declared.home.Home.{Home}
use Rattle.xf_homes.specs.Home.{IsConditional, register_count}
use Rattle.xf_homes.specs.Walk.{operands_of}
use Rattle.xf_homes.specs.Source.{Source}
use Rattle.xf_homes.specs.Plan.{stack_homes, cells_from, is_leader}
use Rattle.xf_emission.specs.declared.origin.Origin.TheVariants.{After, Entry}
use Rattle.xf_emission.specs.Laws.{IsCode}
use Rattle.xf_emission.specs.Move.{loads, spill}
use Rattle.xf_emission.specs.Edge.{copies, cell_copies, home_before}
use Rattle.xf_emission.specs.Jump.{under, operands, has_under, branch_copies, place, stub_label, stub_of, stub, handler_label}
use Rattle.xf_emission.specs.Group.{gone, fall, fall_over, fall_by}
use Rattle.xf_emission.specs.Emission.{catching_stub}
use Rattle.law_rewritten_typing.specs.Typed.{registers_of}
use Rattle.law_rewritten_typing.proofs.Walks.{holding, left, Asked, emptied, catching, Passes}
use Rattle.law_rewritten_typing.proofs.Walks.{Flows, flow_label, flow_end, flows-append, Goes, goes-append}
use Rattle.law_rewritten_typing.proofs.Walks.{goes-nowhere, count}
use Rattle.law_rewritten_typing.proofs.Stacks.{Stands, pushed, loads-go}
use Rattle.law_rewritten_typing.proofs.Ready.{IsReady}
use Rattle.law_rewritten_typing.proofs.Copies.{Carries, AreUnder, copies-go, cells-go}
use Rattle.law_rewritten_typing.proofs.Renames.{named}
use Rattle.law_rewritten_typing.proofs.Turns.{IsLesser}
use Rattle.law_rewritten_typing.proofs.Carried.{carries-after, carries-entry}
use Rattle.law_rewritten_typing.proofs.Registers.{kept-ready}
use Rattle.law_rewritten_typing.proofs.Cuts.{IsForked, IsCut}
use Rattle.law_rewritten_typing.proofs.Matching.{matched}
use Rattle.law_rewritten_typing.specs.Premises.{AreTypingLaws}
use Rattle.law_rewritten_typing.proofs.Running.{IsRecordFor, IsRun}
use Rattle.law_rewritten_typing.proofs.Leading.{fit-at, cells-are, cells-stand, spill-at, named-at}
use Rattle.law_rewritten_typing.proofs.Leading.{goto-flows, is-kept, below-lesser, emptied_there}
use Rattle.law_rewritten_typing.proofs.Leading.{falls_there, FallsInto, fall-arrives}
use Rattle.law_rewritten_typing.proofs.ForkTypings.{each-left, all-right, named-all, fork}
use Rattle.law_rewritten_typing.proofs.ForkTypings.{depth-is, keeps-over, cut-at, stand-cut}

module _ (new : ℕ → ℕ) (apart : (a b : ℕ) → new a ≡ new b → a ≡ b) (s : Source) (l : AreTypingLaws s.world) (ready : IsReady s) (r : MethodRec)
    (own_rec : IsRecordFor s.method.rec r) (asks : ℕ → Asked) (res : IfSome s.method.rec.sig.result (IsDeclared s.world.classes)) (code : IsCode s)
  where
    abbrev Going : List Ty → List Item → List Ty → Type 0
    Going a xs b = Goes s.world r (registers_of s.homes) asks (holding a) xs (holding b)

    carries : (i : Placed) (op : Operation) (f after g : Frame) (q : ℕ) → IsRun s i op f after → s.frames q ≡ Some g
        → FrameBelow s.world.classes after g
        → (y : ℕ) (from : Home) → home_before s (After i.place op) y ≡ Some from → Carries l.objects l.rules ready r asks
        (After i.place op) q y from
    carries i op f after g q run to below =
        carries-after l.objects l.rules ready r asks i.place q s.method.rec.max_stack op f after g run.outcome run.at run.does to
        below.regs

    copies-after : (i : Placed) (op : Operation) (f after g : Frame) (q : ℕ) → IsRun s i op f after → s.frames q ≡ Some g
        → FrameBelow s.world.classes after g → Going [] (copies s (After i.place op) q) []
    copies-after i op f after g q run to below =
        copies-go l.objects l.rules ready r asks (After i.place op) q [] (carries i op f after g q run to below)
        (omega (arith, own_rec.room))

    -- ---- where a conditional is taken

    not-over : (i : Placed) (op : Operation) (f after : Frame) (n : ℕ) → IsRun s i op f after
        → IsForked s.world op n f.stack after.stack (registers_of s.homes) → has_under s i.place n ≡ false → after.stack ≡ []
    not-over i op f after n run k over =
        let deep = depth-is new apart s l ready r own_rec asks res code i op f after run in
        let le : length f.stack ≤ n = grind (arith, nat_tests, over, deep) in
        nil_from_length after.stack (omega (arith, ap length k.parts, length-append k.operands after.stack, k.size, le))

    cells-taken : (i : Placed) (op : Operation) (f after g : Frame) (n q : ℕ) → IsRun s i op f after → IsConditional op
        → operands_of s.world (Ok op) ≡ Some n → s.frames q ≡ Some g → FrameBelow s.world.classes after g → is_leader s q ≡ true
        → Going [] (cell_copies s (under s i.place n) (stack_homes s q)) []
    cells-taken i op f after g n q run is e to below lead = by (has_under s i.place n) refl
      where
        k : IsForked s.world op n f.stack after.stack (registers_of s.homes)
        k = fork new apart s l ready r own_rec asks res code i op f after n run is e

        cut : IsCut s i.place n k.operands after.stack
        cut = cut-at new apart s l ready r own_rec asks res code i op f after n run k

        by : (b : Bool) → has_under s i.place n ≡ b → Going [] (cell_copies s (under s i.place n) (stack_homes s q)) []
        by false over =
            let none = not-over i op f after n run k over in
            let empty : under s i.place n ≡ [] = cut.from_bottom
            ∙ ap (λ (m : ℕ). cells_from (register_count s.method.rec) (reverse after.stack ++ reverse k.operands) 0 m) (ap length none) in
            subst (λ (hs : List Home). Going [] (cell_copies s hs (stack_homes s q)) []) (sym empty) (goes-nowhere s.world r (registers_of s.homes) asks)
        by true over =
            let keeps = keeps-over new apart s l ready r own_rec asks res code i op f after n run is e over in
            let whole_after = l.whole s.method.rec.max_stack s.method.rec i.place op _ f after run.outcome run.sound (ready.whole i.place f run.at).whole
            run.does in
            let first : under s i.place n ≡ cells_from (register_count s.method.rec) (reverse after.stack ++ reverse k.operands) 0
            (length (reverse after.stack)) =
            cut.from_bottom ∙ ap (λ (m : ℕ). cells_from (register_count s.method.rec) (reverse after.stack ++ reverse k.operands) 0 m)
            (sym (length-reverse after.stack)) in
            let second = cells-are new apart s l ready r own_rec asks res code q g to in
            let stands = each-left (Stands s l.objects r (registers_of s.homes) asks) (under s i.place n) (operands s i.place n)
            (stand-cut new apart s l ready r own_rec asks res code i op f after n run k keeps) in
            let others = cells-stand new apart s l ready r own_rec asks res code q g to (is-kept new apart s l ready r own_rec asks res code q lead) in
            let full = all-right IsNotBottom k.operands after.stack (subst (All IsNotBottom) k.parts (ready.whole i.place f run.at).stack) in
            let no_top = all-right IsNotTop k.operands after.stack (subst (All IsNotTop) k.parts run.fit.no_top) in
            let m = matched s l ready r asks (register_count s.method.rec) [] [] (reverse k.operands) refl whole_after (l.rules.order.turned below.stack)
            (All-reverse IsNotBottom after.stack full) (All-reverse IsNotTop after.stack no_top)
            (All-reverse IsNotTop g.stack (fit-at new apart s l ready r own_rec asks res code q g to).no_top)
            (subst (Each (Stands s l.objects r (registers_of s.homes) asks)) first stands)
            (subst (Each (Stands s l.objects r (registers_of s.homes) asks)) second others) in
            cells-go l.objects l.rules ready r asks (under s i.place n) (stack_homes s q) []
            (subst (λ (hs : List Home). AreUnder l.objects l.rules ready r asks hs (stack_homes s q)) (sym first)
            (subst
            (λ (ks : List Home). AreUnder l.objects l.rules ready r asks
            (cells_from (register_count s.method.rec) (reverse after.stack ++ reverse k.operands) 0 (length (reverse after.stack))) ks) (sym second) m))
            (omega (arith, own_rec.room))

    pub taken-goes : (i : Placed) (op : Operation) (f after g : Frame) (n q : ℕ) → IsRun s i op f after → IsConditional op
        → operands_of s.world (Ok op) ≡ Some n → s.frames q ≡ Some g → FrameBelow s.world.classes after g → is_leader s q ≡ true
        → Going [] (branch_copies s i.place op n q) []
    unfolding branch_copies
    taken-goes i op f after g n q run is e to below lead =
        goes-append s.world r (registers_of s.homes) asks (cells-taken i op f after g n q run is e to below lead) (copies-after i op f after g q run to below)

    -- ---- where it falls through

    pub fork-falls : (i : Placed) (op : Operation) (f after g : Frame) (n q : ℕ) → IsRun s i op f after → IsConditional op
        → operands_of s.world (Ok op) ≡ Some n → s.frames q ≡ Some g → FrameBelow s.world.classes after g
        → FallsInto new apart s l ready r own_rec asks res code q (holding []) (fall_by s i.place op (Some n) q)
    fork-falls i op f after g n q run is e to below = by (has_under s i.place n) refl
      where
        k : IsForked s.world op n f.stack after.stack (registers_of s.homes)
        k = fork new apart s l ready r own_rec asks res code i op f after n run is e

        over-falls : has_under s i.place n ≡ true → (c : Bool) → is_leader s q ≡ c → FallsInto new apart s l ready r own_rec asks res code q
            (holding []) (if c then branch_copies s i.place op n q else copies s (After i.place op) q ++ loads s (under s i.place n))
        over-falls over true lead = record { state = holding []; goes = taken-goes i op f after g n q run is e to below lead; arrives = emptied_there lead }
        over-falls over false lead =
            let keeps = keeps-over new apart s l ready r own_rec asks res code i op f after n run is e over in
            let cut = cut-at new apart s l ready r own_rec asks res code i op f after n run k in
            let stands = each-left (Stands s l.objects r (registers_of s.homes) asks) (under s i.place n) (operands s i.place n)
            (stand-cut new apart s l ready r own_rec asks res code i op f after n run k keeps) in
            let whole = ready.whole i.place f run.at in
            let fresh = kept-ready l.objects l.rules ready r asks l.alike code i.place f run.at keeps in
            let own : map (named new apart) after.stack ≡ after.stack = named-all new apart after.stack
            (all-right IsNotFresh k.operands after.stack (subst (All IsNotFresh) k.parts fresh)) in
            let lesser : IsLesser s.world after after.stack =
            grind (
              arith,
              all-right IsNotBottom k.operands after.stack (subst (All IsNotBottom) k.parts whole.stack),
              all-right (IsKnown s.world.classes) k.operands after.stack (subst (All (IsKnown s.world.classes)) k.parts whole.known.stack),
            ) in
            let room : length (pushed (under s i.place n) []) ≤ r.max_stack = omega
            (arith, ap length cut.under_is, ap length k.parts, length-append k.operands after.stack, run.fit.room, own_rec.room) in
            let again : Going [] (loads s (under s i.place n)) after.stack =
            subst (λ (us : List Ty). Going [] (loads s (under s i.place n)) us) cut.under_is
            (loads-go s l.objects r (registers_of s.homes) asks (under s i.place n) [] stands room) in
            record {
              state = holding (map (named new apart) after.stack);
              goes = grind (arith, copies-after i op f after g q run to below, goes-append);
              arrives = falls_there lead to (below-lesser new apart s l ready r own_rec asks res code after g after.stack below.stack lesser);
            }

        by : (b : Bool) → has_under s i.place n ≡ b → FallsInto new apart s l ready r own_rec asks res code q (holding [])
            (if b then fall_over s i.place op n q else fall s i.place op q)
        by true over = over-falls over (is_leader s q) refl
        by false over =
            let none = not-over i op f after n run k over in
            let lesser : IsLesser s.world after [] = grind (arith) in
            fall-arrives new apart s l ready r own_rec asks res code i op f after g q [] run to below lesser

    -- ---- gotos and stubs

    pub gone-flows : (i : Placed) (f after g : Frame) (q : ℕ) (st : List Ty) (at : ℕ) → IsRun s i (ops.Branch branches.Always) f after
        → s.frames q ≡ Some g → FrameBelow s.world.classes after g → is_leader s q ≡ true → IsLesser s.world f st
        → Flows s.world r (registers_of s.homes) asks at (holding (map (named new apart) st)) (gone s i.place (ops.Branch branches.Always) q) left
    gone-flows i f after g q st at run to below lead lesser =
        let keeps = is-kept new apart s l ready r own_rec asks res code q lead in
        let le : CellsBelow s.world.classes st g.stack = l.rules.order.through lesser.below
        (subst (λ (us : List Ty). CellsBelow s.world.classes us g.stack) run.does.stack below.stack) in
        let own = named-at new apart s l ready r own_rec asks res code q g st to keeps le in
        subst (λ (us : List Ty). Flows s.world r (registers_of s.homes) asks at (holding us) (gone s i.place (ops.Branch branches.Always) q) left) (sym own)
        (flows-append s.world r (registers_of s.homes) asks (spill-at new apart s l ready r own_rec asks res code q g st to keeps le at)
        (flows-append s.world r (registers_of s.homes) asks
        (copies-after i (ops.Branch branches.Always) f after g q run to below (at + count (spill s (stack_homes s q))))
        (goto-flows new apart s l ready r own_rec asks res code
        (at + count (spill s (stack_homes s q)) + count (copies s (After i.place (ops.Branch branches.Always)) q)) q)))

    pub stub-flows : (i : Placed) (op : Operation) (f after g : Frame) (n k at : ℕ) (t : ℤ) → IsRun s i op f after → IsConditional op
        → operands_of s.world (Ok op) ≡ Some n → s.frames (place t) ≡ Some g → FrameBelow s.world.classes after g → is_leader s (place t) ≡ true
        → asks (stub_label i.place k) ≡ emptied
        → Flows s.world r (registers_of s.homes) asks at left (stub s i.place op n k t) left
    unfolding stub
    stub-flows i op f after g n k at t run is e to below lead wants =
        by (branch_copies s i.place op n (place t)) (taken-goes i op f after g n (place t) run is e to below lead)
      where
        by : (xs : List Item) → Going [] xs [] → Flows s.world r (registers_of s.homes) asks at left (stub_of (stub_label i.place k) (place t) xs) left
        by [] go = flow_end
        by (x ∷ xs) go =
            flow_label {b = holding []} (subst (λ (q : Asked). Passes q left (holding [])) (sym wants) (inl refl, refl))
            (flows-append s.world r (registers_of s.homes) asks (go at)
            (goto-flows new apart s l ready r own_rec asks res code (at + count (x ∷ xs)) (place t)))

    pub caught-flows : (n at : ℕ) (h : Handler) (g : Frame) → s.frames h.entry ≡ Some g → CellsBelow s.world.classes (Class h.class ∷ []) g.stack
        → is_leader s h.entry ≡ true → asks (handler_label n) ≡ catching h.class
        → Flows s.world r (registers_of s.homes) asks at left (catching_stub s n h) left
    caught-flows n at h g to le lead wants =
        flow_label {b = holding (Class h.class ∷ [])} (subst (λ (q : Asked). Passes q left (holding (Class h.class ∷ []))) (sym wants) (refl, refl))
        (flows-append s.world r (registers_of s.homes) asks
        (spill-at new apart s l ready r own_rec asks res code h.entry g (Class h.class ∷ []) to
        (is-kept new apart s l ready r own_rec asks res code h.entry lead) le at)
        (flows-append s.world r (registers_of s.homes) asks
        (copies-go l.objects l.rules ready r asks (Entry h.entry) h.entry []
        (carries-entry l.objects l.rules ready r asks h.entry g to) (omega (arith, own_rec.room))
        (at + count (spill s (stack_homes s h.entry))))
        (goto-flows new apart s l ready r own_rec asks res code (at + count (spill s (stack_homes s h.entry)) + count (copies s (Entry h.entry) h.entry))
        h.entry)))
