-- Laid code has the card typing of its symbols.
use Rattle.std.proofs.Common.{◌≡◌, ℕ, suc, ◌+◌, ◌-◌, ◌<◌, ◌≤◌, Bool, true, false, if◌then◌else◌, List, [], length, map, Option}
use Rattle.std.proofs.Common.{Some, IsSomeAnd, IfSome, Ok, slice_get, All, Contains, inl, inr, refl, sym, ◌∙◌, ap, subst, arith}
use Rattle.std.specs.Prelude.{pos, nat_le}
use Rattle.std.proofs.lemmas.Bool.Decides.{nat_tests}
use Rattle.std.proofs.lemmas.List.{length-map}
use Rattle.std.proofs.lemmas.Simd.{map-map}
use Rattle.std.proofs.lemmas.List.Elements.{All-contains, All-map}
use Rattle.jc_base.specs.declared.ty.Ty.{Ty}
use Rattle.jc_base.specs.declared.ty.Ty.TheVariants.{Bottom, Class}
use Rattle.jc_base.specs.declared.record.Handler.{Handler}
use Rattle.jc_base.specs.declared.record.MethodRec.{MethodRec}
use Rattle.jc_base.specs.Cell.{IsDeclared}
use Rattle.jc_base.specs.Order.{Below}
use Rattle.jc_base.specs.World.{Linked, IsWorld, member_at}
use Rattle.jc_base.proofs.Lists.{slice_get-some}
use Rattle.jc_decode.specs.declared.insn.Insn.{Insn}
use Rattle.jc_decode.specs.declared.insn.Placed.{Placed}
use Rattle.jc_decode.specs.declared.symbols.Laid.{Laid}
use Rattle.jc_decode.specs.declared.symbols.Range.{Range}
use Rattle.jc_decode.specs.declared.symbols.Symbols.{Symbols}
use Rattle.jc_decode.specs.Laws.{InstructionsAreListed}
use Rattle.jc_decode.specs.Listing.{listing, listing_end, falls, jumps, targets}
use Rattle.jc_decode.specs.Places.{IsTargetAmong}
use Rattle.jc_decode.specs.Standing.{StandsForStep, AreSteps, StandsAt}
use Rattle.jc_decode.specs.Symbols.{Step, steps, handler, place_of}
use Rattle.jc_decode.proofs.Elements.{Contains-slice_get}
use Rattle.jc_ops.specs.Entry.{entry_named, RestsOnEntry}
use Rattle.jc_ops.specs.Resolve.{Resolves}
use Rattle.jc_ops.specs.Sound.{OperationsAreSound}
use Rattle.jc_control.specs.Method.{Method}
use Rattle.jc_control.specs.WellFormed.{HasInstruction, IsPlace, IsTargetPlace, IsBoundary, IsHandlerOf, IsWellFormed}
use Rattle.jc_rules.specs.declared.effect.Mode.TheVariants.{Flow}
use Rattle.jc_rules.specs.declared.rule.Outcome.{Outcome}
use Rattle.jc_rules.specs.Demand.{Frame}
use Rattle.jc_rules.specs.Apply.{OperationApplies, RuleApplies}
use Rattle.jc_rules.specs.Flow.{CellsBelow, start_frame}
use Rattle.card_typing.specs.Place.{IsEntryAmong, IsAboveCaughtBy, AreCaughtAt}
use Rattle.card_typing.specs.Typing.{frame_at, IsTypedIn, IsEnteredBy, TypingIn, code_in_bytes}
use Rattle.law_laid.specs.Laid.{catching, record_with, leads_of, IsHandlerIn, code_in_symbols, HasLaid, renamed, IsTypedAsLaid}
use Rattle.law_laid.specs.Laws.{LaidIsTyped}
use Rattle.law_laid.proofs.Forms.{falls-form, jumps-form, resolves-renamed}
use Rattle.law_laid.proofs.Operations.{operation_renamed, operation-renamed}
use Rattle.law_laid.proofs.Renaming.{frame_renamed, cells-renamed, regs-stay}
use Rattle.law_laid.proofs.Steps.{at-contains, all-contained, contains-map, Preimage, preimage, rises-from, one-to-one, number_of, number-is, IsLaidAt, step-at}
use Rattle.law_laid.proofs.Steps.{same-count, end-is}

-- ---- places, and as many numbers beyond the end

unfoldable onward : (ℕ → ℕ) → ℕ → ℕ → ℕ
onward place count n = if nat_le n count then place n else place count + (n - count)

onward-within : (place : ℕ → ℕ) (count n : ℕ) → n ≤ count → onward place count n ≡ place n
unfolding onward
onward-within place count n le = by (nat_le n count) refl
  where
    by : (b : Bool) → nat_le n count ≡ b → (if b then place n else place count + (n - count)) ≡ place n
    by true e = refl
    by false e = absurd (grind (arith, nat_tests, le, e))

onward-beyond : (place : ℕ → ℕ) (count n : ℕ) → count < n → onward place count n ≡ place count + (n - count)
unfolding onward
onward-beyond place count n lt = by (nat_le n count) refl
  where
    by : (b : Bool) → nat_le n count ≡ b → (if b then place n else place count + (n - count)) ≡ place count + (n - count)
    by true e = absurd (grind (arith, nat_tests, lt, e))
    by false e = refl

onward-rises : (place : ℕ → ℕ) (count : ℕ) → ((n : ℕ) → n < count → place n < place (suc n)) → (n : ℕ)
    → onward place count n < onward place count (suc n)
onward-rises place count rises n = by (nat_le (suc n) count) (nat_le n count) refl refl
  where
    by : (a b : Bool) → nat_le (suc n) count ≡ a → nat_le n count ≡ b → onward place count n < onward place count (suc n)
    by true b x y =
        let lt : n < count = grind (arith, nat_tests, x) in
        omega (arith, rises n lt, onward-within place count n (omega (arith, lt)), onward-within place count (suc n) lt)
    by false true x y =
        let le : n ≤ count = grind (arith, nat_tests, y) in
        let lt : count < suc n = grind (arith, nat_tests, x) in
        let same : n ≡ count = omega (arith, le, lt) in
        let at : place n ≡ place count = ap place same in
        omega (arith, at, lt, le, onward-within place count n le, onward-beyond place count (suc n) lt)
    by false false x y =
        let lt : count < n = grind (arith, nat_tests, y) in
        omega (arith, lt, onward-beyond place count n lt, onward-beyond place count (suc n) (omega (arith, lt)))

-- ---- one method

module _
    (w : Linked) (is : IsWorld w) (sound : OperationsAreSound w) (rests : RestsOnEntry w) (listed : InstructionsAreListed)
    (r : MethodRec) (source : List ℕ) (symbols : Symbols) (laid : Laid) (place : ℕ → ℕ) (m : Method) (regs : List Ty) (stacks : ℕ → List Ty)
    (declared : IfSome r.sig.result (IsDeclared w.classes)) (stand : StandsAt place source symbols laid) (has : HasLaid r laid m)
    (ty : TypingIn w (code_in_symbols r source symbols) regs stacks)
  where
    abbrev all : List Step
    all = steps source symbols.items

    abbrev count : ℕ
    count = length all

    abbrev from : MethodRec
    from = record_with r symbols

    laid-steps : AreSteps m.code place 0 all (listing m.code)
    laid-steps = subst (λ (code : List ℕ). AreSteps code place 0 all (listing code)) (sym has.code) stand.instructions

    ends : place count ≡ length m.code
    ends = stand.ends ∙ ap length (sym has.code)

    -- ---- places

    there : (k : ℕ) → k < count → (s : Step) × (slice_get all k ≡ Some s)
    there k lt = slice_get-some all k lt

    place-rises : (k : ℕ) → k < count → place k < place (suc k)
    place-rises k lt =
        let s = there k lt in
        let x = step-at m.code place 0 all (listing m.code) laid-steps k s.0 s.1 in
        let a = listed m.code in
        let long : 0 < x.placed.insn.len = a.long x.placed.place x.placed.insn (a.decodes x.placed (Contains-slice_get (listing m.code) k x.placed x.listed)) in
        let here : 0 + k ≡ k = omega arith in
        let next : 0 + suc k ≡ suc k = omega arith in
        let at : x.placed.place ≡ place k = x.begins ∙ ap place here in
        let after : x.placed.place + x.placed.insn.len ≡ place (suc k) = x.ends ∙ ap place next in
        omega (arith, long, at, after)

    f : ℕ → ℕ
    f = onward place count

    abbrev ren : List Ty → List Ty
    ren xs = map (renamed f) xs

    rises : (n : ℕ) → f n < f (suc n)
    unfolding f
    rises = onward-rises place count place-rises

    one : (n k : ℕ) → f n ≡ f k → n ≡ k
    one = one-to-one f rises

    within : (n : ℕ) → n ≤ count → f n ≡ place n
    unfolding f
    within = onward-within place count

    laid_stacks : ℕ → List Ty
    laid_stacks q = ren (stacks (number_of f q count))

    stack-at : (n : ℕ) → n ≤ count → laid_stacks (f n) ≡ ren (stacks n)
    unfolding laid_stacks
    stack-at n le = ap (λ k. ren (stacks k)) (number-is f one n count le)

    -- an instruction of the laid code, and the step that it is
    record IsStepOf (i : Placed) : Type 0 where
      number : ℕ
      step : Step
      at : slice_get all number ≡ Some step
      inside : number < count
      begins : i.place ≡ f number
      ends : i.place + i.insn.len ≡ f (suc number)
      laid_as : StandsForStep m.code place step i

    as-step : (k : ℕ) (s : Step) → k < count → slice_get all k ≡ Some s → (x : IsLaidAt m.code place 0 (listing m.code) k s) → IsStepOf x.placed
    as-step k s lt e x = record {
      number = k;
      step = s;
      at = e;
      inside = lt;
      begins = x.begins ∙ ap place (omega arith) ∙ sym (within k (omega (arith, lt)));
      ends = x.ends ∙ ap place (omega arith) ∙ sym (within (suc k) lt);
      laid_as = x.is;
    }

    laid-step : (k : ℕ) (s : Step) → slice_get all k ≡ Some s → IsLaidAt m.code place 0 (listing m.code) k s
    laid-step k s e = step-at m.code place 0 all (listing m.code) laid-steps k s e

    step-of : (i : Placed) → HasInstruction m.code i → IsStepOf i
    step-of i c =
        let lt : c.0 < count = omega (arith, c.1, same-count m.code place 0 all (listing m.code) laid-steps) in
        let s = there c.0 lt in
        let x = laid-step c.0 s.0 s.1 in
        let some : Some x.placed ≡ Some i = sym x.listed ∙ at-contains (listing m.code) i c in
        let same : x.placed ≡ i = cc in
        subst IsStepOf same (as-step c.0 s.0 lt s.1 x)

    placed-at : (k : ℕ) → k < count → IsPlace m.code (f k)
    unfolding as-step
    placed-at k lt =
        let s = there k lt in
        let x = laid-step k s.0 s.1 in
        (x.placed, Contains-slice_get (listing m.code) k x.placed x.listed, (as-step k s.0 lt s.1 x).begins)

    boundary-at : (k : ℕ) → k ≤ count → IsBoundary m.code (f k)
    boundary-at k le = by (nat_le count k) refl
      where
        by : (b : Bool) → nat_le count k ≡ b → IsBoundary m.code (f k)
        by true e = let same : k ≡ count = grind (arith, nat_tests, le, e) in inl (ap f same ∙ within count (omega arith) ∙ ends)
        by false e = inr (placed-at k (grind (arith, nat_tests, e)))

    first : f 0 ≡ 0
    first = within 0 (omega arith) ∙ stand.begins

    last : f count ≡ length m.code
    last = within count (omega arith) ∙ ends

    -- ---- handlers

    by_steps : Range → Handler
    by_steps range = catching r.handlers (handler (λ l. place_of l symbols.items) range)

    by_places : Range → Handler
    by_places range = catching r.handlers (handler (λ l. place (place_of l symbols.items)) range)

    step-handlers : from.handlers ≡ map by_steps symbols.ranges
    unfolding by_steps
    step-handlers = map-map (catching r.handlers) (handler (λ l. place_of l symbols.items)) symbols.ranges

    place-handlers : m.rec.handlers ≡ map by_places symbols.ranges
    unfolding by_places
    place-handlers = grind (arith, map, map-map)

    -- a range is a handler of the method, and of the symbols
    record IsRangeOf (h : Handler) : Type 0 where
      range : Range
      ranged : Contains symbols.ranges range
      laid_as : h ≡ by_places range

    range-of : (h : Handler) → Contains m.rec.handlers h → IsRangeOf h
    range-of h c =
        let x = preimage by_places symbols.ranges h (subst (λ hs. Contains hs h) place-handlers c) in
        record { range = x.of; ranged = x.listed; laid_as = x.is }

    range-of-step : (h : Handler) → Contains from.handlers h → Preimage by_steps symbols.ranges h
    range-of-step h c = preimage by_steps symbols.ranges h (subst (λ hs. Contains hs h) step-handlers c)

    has-step : (range : Range) → Contains symbols.ranges range → Contains from.handlers (by_steps range)
    has-step range c = subst (λ hs. Contains hs (by_steps range)) (sym step-handlers) (contains-map by_steps symbols.ranges range c)

    has-place : (range : Range) → Contains symbols.ranges range → Contains m.rec.handlers (by_places range)
    has-place range c = subst (λ hs. Contains hs (by_places range)) (sym place-handlers) (contains-map by_places symbols.ranges range c)

    in-steps : (range : Range) → Contains symbols.ranges range → IsHandlerIn count (by_steps range)
    in-steps range c = All-contains (IsHandlerIn count) from.handlers (by_steps range) ty.formed.handlers (has-step range c)

    entry-alike : (range : Range) → Contains symbols.ranges range → (by_places range).entry ≡ f (by_steps range).entry
    unfolding by_steps by_places
    entry-alike range c = grind (arith, in-steps range c, within)

    handler-formed : (range : Range) → Contains symbols.ranges range → IsHandlerOf m.code (by_places range)
    unfolding by_steps by_places
    handler-formed range c =
        let h = in-steps range c in
        let a = place_of range.from symbols.items in
        let b = place_of range.to symbols.items in
        let e = place_of range.entry symbols.items in
        let order : a < a + (b - a) = h.order in
        let inside : a + (b - a) ≤ count = h.inside in
        let entry : e < count = h.entry in
        let less : a < b = omega (arith, order) in
        let most : b ≤ count = omega (arith, order, inside) in
        let up : f a < f b = rises-from f rises a b less in
        let at_a : f a ≡ place a = within a (omega (arith, less, most)) in
        let at_b : f b ≡ place b = within b most in
        let at_e : f e ≡ place e = within e (omega (arith, entry)) in
        let end : place a + (place b - place a) ≡ f b = omega (arith, up, at_a, at_b) in
        record {
          start = subst (IsPlace m.code) at_a (placed-at a (omega (arith, less, most)));
          end = subst (IsBoundary m.code) (sym end) (boundary-at b most);
          order = omega (arith, end, up, at_a);
          entry = subst (IsPlace m.code) at_e (placed-at e entry);
        }

    -- a handler begins at a place exactly where one begins at the step there
    record IsStepEntry (q : ℕ) : Type 0 where
      step_place : ℕ
      entry : IsEntryAmong from.handlers step_place
      inside : step_place < count
      at : q ≡ f step_place

    step-entry : (q : ℕ) → IsEntryAmong m.rec.handlers q → IsStepEntry q
    unfolding by_steps
    step-entry q e =
        let x = range-of e.handler e.listed in
        record {
          step_place = (by_steps x.range).entry;
          entry = record { handler = by_steps x.range; listed = has-step x.range x.ranged; begins = refl };
          inside = (in-steps x.range x.ranged).entry;
          at = sym e.begins ∙ ap (λ (h : Handler). h.entry) x.laid_as ∙ entry-alike x.range x.ranged;
        }

    entry-back : (k : ℕ) → IsEntryAmong m.rec.handlers (f k) → IsEntryAmong from.handlers k
    entry-back k e = let x = step-entry (f k) e in subst (IsEntryAmong from.handlers) (sym (one k x.step_place x.at)) x.entry

    entry-there : (k : ℕ) → IsEntryAmong from.handlers k → IsEntryAmong m.rec.handlers (f k)
    entry-there k e =
        let x = range-of-step e.handler e.listed in
        let same : (by_steps x.of).entry ≡ k = ap (λ (h : Handler). h.entry) (sym x.is) ∙ e.begins in
        record { handler = by_places x.of; listed = has-place x.of x.listed; begins = entry-alike x.of x.listed ∙ ap f same }

    same-class : (range : Range) → (by_steps range).class ≡ (by_places range).class
    unfolding by_steps by_places
    same-class range = refl

    above-there : (k : ℕ) (u : Ty) → IsAboveCaughtBy w.classes from.handlers k u → IsAboveCaughtBy w.classes m.rec.handlers (f k) u
    above-there k u above h c e =
        let x = range-of h c in
        let at : f (by_steps x.range).entry ≡ f k = sym (entry-alike x.range x.ranged) ∙ ap (λ (h : Handler). h.entry) (sym x.laid_as) ∙ e in
        let below = above (by_steps x.range) (has-step x.range x.ranged) (one (by_steps x.range).entry k at) in
        subst (λ n. Below w.classes (Class n) u) (same-class x.range ∙ ap (λ (h : Handler). h.class) (sym x.laid_as)) below

    above-back : (k : ℕ) (u : Ty) → IsAboveCaughtBy w.classes m.rec.handlers (f k) u → IsAboveCaughtBy w.classes from.handlers k u
    above-back k u above h c e =
        let x = range-of-step h c in
        let same : (by_steps x.of).entry ≡ k = ap (λ (h : Handler). h.entry) (sym x.is) ∙ e in
        let below = above (by_places x.of) (has-place x.of x.listed) (entry-alike x.of x.listed ∙ ap f same) in
        subst (λ n. Below w.classes (Class n) u) (sym (same-class x.of) ∙ ap (λ (h : Handler). h.class) (sym x.is)) below

    caught-there : (k c : ℕ) → AreCaughtAt w.classes from.handlers k c → AreCaughtAt w.classes m.rec.handlers (f k) c
    caught-there k c h = record {
      class = h.class;
      above = above-there k (Class c) h.above;
      least = λ u above. h.least u (above-back k u above);
    }

    entered : (q : ℕ) → IsEntryAmong m.rec.handlers q → IsEnteredBy w m.rec.handlers laid_stacks q
    entered q e =
        let x = step-entry q e in
        let t = ty.entries x.step_place x.entry in
        record {
          class = t.class;
          catches = subst (λ p. AreCaughtAt w.classes m.rec.handlers p t.class) (sym x.at) (caught-there x.step_place t.class t.catches);
          stack = ap laid_stacks x.at ∙ stack-at x.step_place (omega (arith, x.inside)) ∙ ap ren t.stack;
        }

    -- ---- targets

    target-inside : (i : Placed) (x : IsStepOf i) (t : ℕ) → Contains x.step.targets t → t < count
    target-inside i x t c =
        All-contains (λ t. t < count) x.step.targets t
        (All-contains (λ s. All (λ t. t < count) s.targets) all x.step ty.formed.targets (Contains-slice_get all x.number x.step x.at)) c

    targets-formed : (i : Placed) → HasInstruction m.code i → All (IsTargetPlace m.code) (targets m.code i)
    targets-formed i c =
        let x = step-of i c in
        subst (All (IsTargetPlace m.code)) (sym x.laid_as.leads)
        (All-map (IsTargetPlace m.code) (λ t. pos (place t)) x.step.targets
        (all-contained (λ t. IsPlace m.code (place t)) x.step.targets
        (λ t among. let lt = target-inside i x t among in subst (IsPlace m.code) (within t (omega (arith, lt))) (placed-at t lt))))

    -- the step as the instruction of the symbols
    abbrev step_placed : ℕ → Step → Placed
    step_placed k s = record { place = k; insn = s.insn }

    step-stands : (k : ℕ) (s : Step) → slice_get all k ≡ Some s → (code_in_symbols r source symbols).stands (step_placed k s)
    step-stands k s e = subst (λ o. IsSomeAnd o (λ step. step.insn ≡ s.insn)) (sym e) refl

    record IsStepTarget (q : ℕ) : Type 0 where
      step_place : ℕ
      target : IsTargetAmong (code_in_symbols r source symbols).stands (code_in_symbols r source symbols).leads step_place
      inside : step_place < count
      at : q ≡ f step_place

    step-target : (q : ℕ) → IsTargetAmong (HasInstruction m.code) (targets m.code) q → IsStepTarget q
    step-target q t =
        let x = step-of t.from t.stands in
        let y = preimage (λ t. pos (place t)) x.step.targets (pos q) (subst (λ zs. Contains zs (pos q)) x.laid_as.leads t.leads) in
        let lt = target-inside t.from x y.of y.listed in
        let at : q ≡ place y.of = cc in
        record {
          step_place = y.of;
          target = record {
            from = step_placed x.number x.step;
            stands = step-stands x.number x.step x.at;
            leads = subst (λ o. Contains (leads_of o) (pos y.of)) (sym x.at) (contains-map (λ t. pos t) x.step.targets y.of y.listed);
          };
          inside = lt;
          at = at ∙ sym (within y.of (omega (arith, lt)));
        }

    none_at : (k : ℕ) → k ≤ count → stacks k ≡ [] → laid_stacks (f k) ≡ []
    none_at k le e = stack-at k le ∙ ap ren e

    target-empty : (q : ℕ) → IsTargetAmong (HasInstruction m.code) (targets m.code) q → ¬ (IsEntryAmong m.rec.handlers q) × (laid_stacks q ≡ [])
    target-empty q t =
        let x = step-target q t in
        let e = ty.targets x.step_place x.target in (
          λ entry. e.0 (entry-back x.step_place (subst (IsEntryAmong m.rec.handlers) x.at entry)),
          ap laid_stacks x.at
              ∙ none_at x.step_place (omega (arith, x.inside)) e.1,
        )

    -- ---- instructions

    same-package : from.package ≡ m.rec.package
    same-package = ap (λ (x : MethodRec). x.package) (sym has.same)

    same-result : from.sig.result ≡ m.rec.sig.result
    same-result = ap (λ (x : MethodRec). x.sig.result) (sym has.same)

    same-room : from.max_stack ≡ m.rec.max_stack
    same-room = sym stand.max_stack ∙ sym has.max_stack

    entry-same : (o : Option ℕ) → IfSome o (λ entry. member_at w from.package entry ≡ member_at w m.rec.package entry)
    entry-same x = grind (arith, same-package)

    frame-there : (i : Placed) (x : IsStepOf i) → frame_renamed f (frame_at regs stacks x.number) ≡ frame_at regs laid_stacks i.place
    frame-there i x =
        let a = regs-stay f regs ty.ready in
        let b : ren (stacks x.number) ≡ laid_stacks i.place = sym (stack-at x.number (omega (arith, x.inside))) ∙ ap laid_stacks (sym x.begins) in
        ap (λ (rs : List Ty). record { regs = rs; stack = ren (stacks x.number) }) a ∙ ap (λ (xs : List Ty). record { regs = regs; stack = xs }) b

    rule-there : (i : Placed) (x : IsStepOf i) (after : Frame) (o : Outcome)
        → RuleApplies w from x.number x.step.insn Flow (frame_at regs stacks x.number) after o
        → RuleApplies w m.rec i.place i.insn Flow (frame_at regs laid_stacks i.place) (frame_renamed f after) o
    rule-there i x after o rule =
        let op = operation_renamed f rule.operation in
        let renamed_there : Resolves w from (f x.number) i.insn (Ok op) =
        resolves-renamed w from sound declared f x.number i.insn x.step.insn rule.operation x.laid_as.same rule.resolves in
        let here : Resolves w from i.place i.insn (Ok op) = subst (λ p. Resolves w from p i.insn (Ok op)) (sym x.begins) renamed_there in
        let does = operation-renamed f w is one from x.number from.max_stack rule.operation (frame_at regs stacks x.number) after o
        (sound from x.number x.step.insn rule.operation declared rule.resolves) rule.does in
        record {
          operation = op;
          resolves = rests from m.rec i.place i.insn (Ok op) (entry-same (entry_named i.insn)) same-result here;
          does =
              subst (λ limit. OperationApplies w limit op Flow (frame_at regs laid_stacks i.place) (frame_renamed f after) o) same-room
              (subst (λ before. OperationApplies w from.max_stack op Flow before (frame_renamed f after) o) (frame-there i x) does);
        }

    falls-same : (i : Placed) (x : IsStepOf i) → falls i.insn.op ≡ falls x.step.insn.op
    falls-same i x = sym (falls-form i.insn) ∙ ap (λ (j : Insn). falls j.op) x.laid_as.same ∙ falls-form x.step.insn

    jumps-same : (i : Placed) (x : IsStepOf i) → jumps i.insn.op ≡ jumps x.step.insn.op
    jumps-same i x = sym (jumps-form i.insn) ∙ ap (λ (j : Insn). jumps j.op) x.laid_as.same ∙ jumps-form x.step.insn

    typed-there : (i : Placed) → HasInstruction m.code i → IsTypedIn w (code_in_bytes m) regs laid_stacks i
    typed-there i c =
        let x = step-of i c in
        let t = ty.typed (step_placed x.number x.step) (step-stands x.number x.step x.at) in
        let next : i.place + i.insn.len ≡ f (x.number + 1) = x.ends ∙ ap f (omega arith) in
        let inside : x.number + 1 ≤ count = omega (arith, x.inside) in
        record {
          after = frame_renamed f t.after;
          applies = (t.applies.0, rule-there i x t.after t.applies.0 t.applies.1);
          stored = subst (CellsBelow w.classes (ren t.after.regs)) (regs-stay f regs ty.ready) (cells-renamed f w.classes t.stored);
          branch = λ j. ap ren (t.branch (sym (jumps-same i x) ∙ j));
          goes_on = λ fall.
              let g = t.goes_on (sym (falls-same i x) ∙ fall) in
              record {
                inside = omega (arith, next, rises-from f rises (x.number + 1) count g.inside, last);
                no_entry = λ e. g.no_entry (entry-back (x.number + 1) (subst (IsEntryAmong m.rec.handlers) next e));
                next = ap laid_stacks next ∙ stack-at (x.number + 1) inside ∙ ap ren g.next;
              };
          ends = λ stop none.
              ap laid_stacks next
              ∙ none_at (x.number + 1) inside
              (t.ends (sym (falls-same i x) ∙ stop) (λ e. none (subst (IsEntryAmong m.rec.handlers) (sym next) (entry-there (x.number + 1) e))));
        }

    -- ---- the method

    listing-whole : listing_end m.code ≡ length m.code
    listing-whole = grind (arith, end-is, laid-steps, ends)

    well-formed : IsWellFormed m
    well-formed = record {
      ends = listing-whole;
      targets = targets-formed;
      handlers =
          all-contained (IsHandlerOf m.code) m.rec.handlers
          (λ h c. let x = range-of h c in subst (IsHandlerOf m.code) (sym x.laid_as) (handler-formed x.range x.ranged));
    }

    start-same : (start_frame from Bottom).regs ≡ (start_frame m.rec Bottom).regs
    start-same = grind (arith)

    room-there : (i : Placed) → HasInstruction m.code i → length (laid_stacks i.place) ≤ m.rec.max_stack
    room-there i c =
        let x = step-of i c in
        let least : length (stacks x.number) ≤ from.max_stack = ty.room (step_placed x.number x.step) (step-stands x.number x.step x.at) in
        let same = ap length (ap laid_stacks x.begins ∙ stack-at x.number (omega (arith, x.inside))) in
        omega (arith, least, same, length-map (stacks x.number) (renamed f), same-room)

    typing : TypingIn w (code_in_bytes m) regs laid_stacks
    typing = record {
      formed = well-formed;
      types = ty.types;
      ready = ty.ready;
      declared = subst (λ xs. CellsBelow w.classes xs regs) start-same ty.declared;
      start = (
        λ e. ty.start.0 (entry-back 0 (subst (IsEntryAmong m.rec.handlers) (sym first) e)),
        ap laid_stacks (sym first)
            ∙ none_at 0 (omega arith) ty.start.1,
      );
      entries = entered;
      targets = target-empty;
      room = room-there;
      typed = typed-there;
    }

    laid-typed : IsTypedAsLaid w m count place regs stacks
    laid-typed = record {
      rename = f;
      agrees = within;
      one_to_one = one;
      laid_stacks = laid_stacks;
      at = λ n le. ap laid_stacks (sym (within n le)) ∙ stack-at n le;
      typing = typing;
    }

pub laid-is-typed : (w : Linked) → IsWorld w → OperationsAreSound w → RestsOnEntry w → InstructionsAreListed → LaidIsTyped w
laid-is-typed w is sound rests listed r source symbols laid place m regs stacks declared stand has ty = grind (arith, laid-typed)
