-- Conditional branches and switches in rewritten code.
use Rattle.std.proofs.Common.{◌≡◌, ℕ, ◌+◌, ◌<◌, ◌≤◌, Bool, true, false, if◌then◌else◌, inr, List, [], ◌∷◌, ◌++◌, length}
use Rattle.std.proofs.Common.{map, All, Option, Some, Ok, IsSomeAnd, IfSome, refl, sym, ◌∙◌, ap, subst, arith, length-append}
use Rattle.std.specs.Prelude.{nat_lt}
use Rattle.std.proofs.lemmas.Bool.Decides.{nat_tests}
use Rattle.std.proofs.lemmas.List.{length-reverse, append-nil, nil_from_length}
use Rattle.std.proofs.lemmas.List.Elements.{All-head, All-tail}
use Rattle.jc_base.proofs.Lists.{All-reverse}
use Rattle.jc_base.specs.Cell.{IsDeclared}
use Rattle.jc_base.specs.Each.{Each}
use Rattle.jc_base.specs.declared.record.MethodRec.{MethodRec}
use Rattle.jc_base.specs.declared.ty.Ty.{Ty}
use Rattle.jc_base.specs.declared.ty.Ty.TheVariants.{Fresh}
use Rattle.jc_decode.specs.declared.insn.Insn.{Insn}
use Rattle.jc_decode.specs.declared.insn.Placed.{Placed}
use Rattle.jc_decode.specs.declared.symbols.Item.TheVariants.{Branch, Switch}
use Rattle.jc_decode.specs.Forms.{wide}
use Rattle.jc_decode.specs.Listing.{targets}
use Rattle.jc_decode.specs.Symbols.{jump}
use Rattle.jc_decode.proofs.Passed.{passed-at}
use Rattle.jc_ops.specs.declared.operation.Operation.{Operation}
use Rattle.jc_ops.specs.declared.operation.Operation.TheVariants as ops
use Rattle.jc_ops.specs.Next.{falls_from}
use Rattle.jc_ops.specs.Resolve.{resolved}
use Rattle.jc_ops.specs.Row.{row_at}
use Rattle.jc_rules.specs.declared.effect.Mode.TheVariants.{Flow}
use Rattle.jc_rules.specs.declared.rule.Outcome.{Outcome}
use Rattle.jc_rules.specs.Apply.{OperationApplies}
use Rattle.jc_rules.specs.Demand.{Frame}
use Rattle.jc_rules.specs.Flow.{IsNotFresh, IsNotTop}
use Rattle.jc_rules.specs.Footprint.{footprint}
use Rattle.xf_homes.specs.declared.home.Home.{Home}
use Rattle.xf_homes.specs.Home.{IsConditional, KeepsStack}
use Rattle.xf_homes.specs.Walk.{operands_of}
use Rattle.xf_homes.proofs.Meeting.{operands-of}
use Rattle.xf_homes.specs.Source.{Source}
use Rattle.xf_homes.specs.Plan.{stack_homes, depth, stack_of}
use Rattle.xf_emission.specs.Laws.{IsCode}
use Rattle.xf_emission.specs.Move.{loads, spill}
use Rattle.xf_emission.specs.Jump.{under, operands, has_under, spill_if, jump_to, leads, branch, first_label}
use Rattle.xf_emission.proofs.RowByRow.{resolved-elsewhere}
use Rattle.law_rewritten_typing.specs.Typed.{registers_of}
use Rattle.law_rewritten_typing.proofs.Walks.{holding, left, Asked, Turn, Flows, flow_step}
use Rattle.law_rewritten_typing.proofs.Walks.{flow_end, flows-append, Goes, goes-append, count}
use Rattle.law_rewritten_typing.proofs.Stacks.{Stands, loads-go}
use Rattle.law_rewritten_typing.proofs.Ready.{IsReady}
use Rattle.law_rewritten_typing.proofs.Renames.{named}
use Rattle.law_rewritten_typing.proofs.Turns.{IsLesser, kept-resolves}
use Rattle.law_rewritten_typing.proofs.Registers.{conditional-ready, all-left}
use Rattle.law_rewritten_typing.proofs.Rows.{wide-is}
use Rattle.law_rewritten_typing.proofs.Cuts.{IsForked, forked, IsCut, cut-is}
use Rattle.law_rewritten_typing.specs.Premises.{AreTypingLaws}
use Rattle.law_rewritten_typing.proofs.Running.{IsRecordFor, IsRun}
use Rattle.law_rewritten_typing.proofs.Leading.{cells-stand, cells-pushed, spill-at, named-at}
use Rattle.jc_rules.proofs.CellLists.{cells-same}

-- ---- opcodes of branches in their wide form

abbrev small_wide : ℕ → Bool
small_wide op = nat_lt (wide op) 256

-- ---- stacks

pub each-right : (P : Home → Type 0) (hs ks : List Home) → Each P (hs ++ ks) → Each P ks
each-right P [] ks e = e
each-right P (h ∷ hs) ks e = each-right P hs ks e.1

pub each-left : (P : Home → Type 0) (hs ks : List Home) → Each P (hs ++ ks) → Each P hs
each-left P [] ks e = tt
each-left P (h ∷ hs) ks e = (e.0, each-left P hs ks e.1)

pub all-right : (P : Ty → Type 0) (xs ys : List Ty) → All P (xs ++ ys) → All P ys
all-right P [] ys all = all
all-right P (x ∷ xs) ys all = all-right P xs ys (All-tail P x (xs ++ ys) all)

pub named-all : (new : ℕ → ℕ) (apart : (a b : ℕ) → new a ≡ new b → a ≡ b) (xs : List Ty) → All IsNotFresh xs
    → map (named new apart) xs ≡ xs
named-all new apart [] all = refl
named-all new apart (x ∷ xs) all =
    ap (λ (u : Ty). u ∷ map (named new apart) xs) (one x (All-head IsNotFresh x xs all))
    ∙ ap (λ (us : List Ty). x ∷ us) (named-all new apart xs (All-tail IsNotFresh x xs all))
  where
    one : (a : Ty) → IsNotFresh a → named new apart a ≡ a
    one (Fresh p c) h = absurd h
    one a h = refl

module _ (new : ℕ → ℕ) (apart : (a b : ℕ) → new a ≡ new b → a ≡ b) (s : Source) (l : AreTypingLaws s.world) (ready : IsReady s) (r : MethodRec)
    (own_rec : IsRecordFor s.method.rec r) (asks : ℕ → Asked) (res : IfSome s.method.rec.sig.result (IsDeclared s.world.classes)) (code : IsCode s)
  where
    abbrev regs : List Ty
    regs = registers_of s.homes

    abbrev Fork : Operation → ℕ → List Ty → List Ty → Type 0
    Fork op n stack after = IsForked s.world op n stack after (registers_of s.homes)

    -- ---- the jump itself

    turn-of : (n : ℕ) (i : Insn) (op : Operation) (stack : List Ty) → resolved s.world r n i (row_at i.op) ≡ Ok op → i.op < 256
        → length stack ≤ r.max_stack
        → (o : Outcome) × OperationApplies s.world r.max_stack op Flow (record { regs = registers_of s.homes; stack = stack })
        (record { regs = registers_of s.homes; stack = [] }) o
        → Turn s.world r (registers_of s.homes) asks n i (holding stack) (if falls_from op then holding [] else left)
    turn-of n i op stack is small room does =
        let go = l.alike r n i op small (sym is) in
        record {
          stack = stack;
          here = refl;
          after = record { regs = registers_of s.homes; stack = [] };
          applies = (does.0, record { operation = op; resolves = sym is; does = does.1 });
          stored = cells-same s.world.classes (registers_of s.homes);
          branch = λ j. refl;
          room = room;
          onward = ap (λ (b : Bool). if b then holding [] else left) go.falls_alike;
        }

    jump-flows : (i : Placed) (op : Operation) (f after : Frame) (stack : List Ty) (n : ℕ) (labels : List ℕ) → IsRun s i op f after → IsConditional op
        → length stack ≤ r.max_stack
        → ((limit : ℕ) → (o : Outcome) × OperationApplies s.world limit op Flow (record { regs = registers_of s.homes; stack = stack })
        (record { regs = registers_of s.homes; stack = [] }) o)
        → Flows s.world r (registers_of s.homes) asks n (holding stack) (jump_to i op labels ∷ []) (if falls_from op then holding [] else left)
    jump-flows i (ops.Branch b) f after stack n labels run is room does =
        flow_step {x = Branch (wide i.insn.op) (first_label labels)} refl
        (turn-of n (jump (wide i.insn.op)) (ops.Branch b) stack (wide-is s.world s.method.rec r i.place n i.insn b run.small run.resolves)
        (grind (arith, passed-at, nat_tests)) room (does r.max_stack))
        flow_end
    jump-flows i (ops.Switch width) f after stack n labels run is room does =
        let here = kept-resolves (λ x. x) (λ a b e. e) s.world l.rules l.falls l.keeps l.none l.rests l.entry s.method.rec r i.place i.place i.insn
        (ops.Switch width) run.small refl own_rec.home own_rec.sig run.sound run.resolves in
        let there = resolved-elsewhere s.world r i.place n i.insn (ops.Switch width) run.small (sym here) in
        flow_step {x = Switch i.insn i.place labels} refl (turn-of n i.insn (ops.Switch width) stack there run.small room (does r.max_stack)) flow_end
    jump-flows i op f after stack n labels run is room does = absurd is

    -- ---- the stack under the operands

    pub fork : (i : Placed) (op : Operation) (f after : Frame) (n : ℕ) → IsRun s i op f after → IsConditional op
        → operands_of s.world (Ok op) ≡ Some n → Fork op n f.stack after.stack
    fork i op f after n run is e =
        forked s.world l.rules.types (registers_of s.homes) s.method.rec.max_stack n op f after run.outcome is e (ready.whole i.place f run.at).stack run.does

    pub depth-is : (i : Placed) (op : Operation) (f after : Frame) → IsRun s i op f after → depth s i.place ≡ length f.stack
    depth-is i op f after run = ap (λ (o : Option Frame). length (stack_of o)) run.at ∙ length-reverse f.stack

    -- the stack is deeper than the operands, so that it is kept
    pub keeps-over : (i : Placed) (op : Operation) (f after : Frame) (n : ℕ) → IsRun s i op f after → IsConditional op
        → operands_of s.world (Ok op) ≡ Some n → has_under s i.place n ≡ true → KeepsStack s.world s.method s.frames i.place
    keeps-over i op f after n run is e over =
        let taken : (footprint s.world op).taken ≡ n = some-same (footprint s.world op).taken n (sym (operands-of s.world op is) ∙ e) in
        let deep = depth-is i op f after run in
        let lt : n < depth s i.place = grind (arith, nat_tests, over) in
        let deeper : (footprint s.world op).taken < length f.stack = omega (arith, lt, deep, taken) in
        inr (record {
          instruction = i;
          stands = run.listed;
          at = refl;
          operation = op;
          resolves = sym run.resolves;
          asks = is;
          deeper = subst (λ (o : Option Frame). IsSomeAnd o (λ (g : Frame). (footprint s.world op).taken < length g.stack)) (sym run.at) deeper;
        })
      where
        some-same : (a b : ℕ) → Some a ≡ Some b → a ≡ b
        some-same a b e = cc

    pub cut-at : (i : Placed) (op : Operation) (f after : Frame) (n : ℕ) → (run : IsRun s i op f after) → (k : Fork op n f.stack after.stack)
        → IsCut s i.place n k.operands after.stack
    cut-at i op f after n run k =
        cut-is s i.place n f k.operands after.stack run.at k.parts k.size k.whole
        (All-reverse IsNotTop k.operands (all-left IsNotTop k.operands after.stack (subst (All IsNotTop) k.parts run.fit.no_top)))
        (cells-pushed new apart s l ready r own_rec asks res code i.place f run.at)

    pub stand-cut : (i : Placed) (op : Operation) (f after : Frame) (n : ℕ) → (run : IsRun s i op f after) → (k : Fork op n f.stack after.stack)
        → KeepsStack s.world s.method s.frames i.place
        → Each (Stands s l.objects r (registers_of s.homes) asks) (under s i.place n ++ operands s i.place n)
    stand-cut i op f after n run k keeps =
        grind (arith, cut-at i op f after n run k, cells-stand new apart s l ready r own_rec asks res code i.place f run.at keeps)

    -- ---- the branch

    pub branch-flows : (i : Placed) (op : Operation) (f after : Frame) (n : ℕ) (st : List Ty) (at : ℕ) → IsRun s i op f after → IsConditional op
        → operands_of s.world (Ok op) ≡ Some n → IsLesser s.world f st
        → Flows s.world r (registers_of s.homes) asks at (holding (map (named new apart) st)) (branch s i op n) (if falls_from op then holding [] else left)
    unfolding branch
    branch-flows i op f after n st at run is e lesser = by (has_under s i.place n) refl
      where
        labels : List ℕ
        labels = leads s i.place op n (targets s.method.code i) (targets s.method.code i)

        k : Fork op n f.stack after.stack
        k = fork i op f after n run is e

        room_f : length f.stack ≤ s.method.rec.max_stack
        room_f = run.fit.room

        by : (b : Bool) → has_under s i.place n ≡ b → Flows s.world r (registers_of s.homes) asks at (holding (map (named new apart) st))
            (spill_if b s i.place n ++ jump_to i op labels ∷ []) (if falls_from op then holding [] else left)
        by true over =
            let keeps = keeps-over i op f after n run is e over in
            let own = named-at new apart s l ready r own_rec asks res code i.place f st run.at keeps lesser.below in
            let cut = cut-at i op f after n run k in
            let stand = each-right (Stands s l.objects r (registers_of s.homes) asks) (under s i.place n) (operands s i.place n)
            (stand-cut i op f after n run k keeps) in
            let less : length k.operands ≤ r.max_stack = omega (arith, ap length k.parts, length-append k.operands after.stack, room_f, own_rec.room) in
            let load_them : Goes s.world r (registers_of s.homes) asks (holding []) (loads s (operands s i.place n)) (holding k.operands) =
            subst (λ (us : List Ty). Goes s.world r (registers_of s.homes) asks (holding []) (loads s (operands s i.place n)) (holding us)) cut.operands_is
            (loads-go s l.objects r (registers_of s.homes) asks (operands s i.place n) [] stand (omega (arith, ap length cut.operands_is, less))) in
            let first = goes-append s.world r (registers_of s.homes) asks
            (spill-at new apart s l ready r own_rec asks res code i.place f st run.at keeps lesser.below) load_them in
            subst (λ (us : List Ty). Flows s.world r (registers_of s.homes) asks at (holding us) (spill_if true s i.place n ++ jump_to i op labels ∷ [])
            (if falls_from op then holding [] else left)) (sym own)
            (flows-append s.world r (registers_of s.homes) asks (first at)
            (jump-flows i op f after k.operands (at + count (spill s (stack_homes s i.place) ++ loads s (operands s i.place n))) labels run is less
            k.applies))
        by false over =
            let deep = depth-is i op f after run in
            let le : depth s i.place ≤ n = grind (arith, nat_tests, over) in
            let whole = ready.whole i.place f run.at in
            let t = l.falls s.method.rec.max_stack op Flow f (record { regs = f.regs; stack = st }) after run.outcome
            (record { regs = l.rules.order.self f.regs; stack = lesser.below }) run.fit.no_top lesser.full run.does in
            let j = forked s.world l.rules.types (registers_of s.homes) s.method.rec.max_stack n op (record { regs = f.regs; stack = st }) t.below t.outcome
            is e lesser.full t.applies in
            let empty : t.below.stack ≡ [] = nil_from_length t.below.stack
            (omega (arith, ap length j.parts, length-append j.operands t.below.stack, j.size, l.rules.order.lengths lesser.below, deep, le)) in
            let same_stack : st ≡ j.operands = j.parts ∙ ap (λ (us : List Ty). j.operands ++ us) empty ∙ append-nil j.operands in
            let none : All IsNotFresh t.below.stack = subst (All IsNotFresh) (sym empty) (λ q d lt. absurd (omega (arith, lt))) in
            let fresh = conditional-ready s.world l.rules.types s.method.rec.max_stack op (record { regs = f.regs; stack = st }) t.below t.outcome is
            t.applies none in
            let own : map (named new apart) st ≡ j.operands = named-all new apart st fresh ∙ same_stack in
            let less : length j.operands ≤ r.max_stack = omega (arith, ap length same_stack, l.rules.order.lengths lesser.below, room_f, own_rec.room) in
            subst
            (λ (us : List Ty). Flows s.world r (registers_of s.homes) asks at (holding us) (jump_to i op labels ∷ [])
            (if falls_from op then holding [] else left)) (sym own)
            (jump-flows i op f after j.operands at labels run is less j.applies)
