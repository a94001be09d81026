-- The registers of homes: values that are no uninitialised objects, the arguments first.
use Rattle.std.proofs.Common.{◌≡◌, ◌⊎◌, ℕ, zero, suc, ◌+◌, ◌-◌, ◌<◌, Bool, true, if◌then◌else◌, inl, inr, List, []}
use Rattle.std.proofs.Common.{◌∷◌, ◌++◌, length, drop, reverse, replicate, slice_get, All}
use Rattle.std.proofs.Common.{Option, Some, Result, Ok, IsSomeAnd, refl, sym, ◌∙◌}
use Rattle.std.proofs.Common.{ap, subst, arith, append_assoc, length-append}
use Rattle.std.proofs.lemmas.List.Sums.{sum_by-cons}
use Rattle.std.proofs.lemmas.List.Elements.{All-nil, All-cons, All-head, All-tail}
use Rattle.jc_base.proofs.Lists.{All-reverse}
use Rattle.jc_base.proofs.Eaching.{IsAmong-append_cases}
use Rattle.jc_base.specs.Each.{IsAmong}
use Rattle.jc_base.specs.Class.{ClassTable}
use Rattle.jc_base.specs.Laws.{ClassesAreObjects, IsOrderOfTypes}
use Rattle.jc_base.specs.Linked.{receiver_words}
use Rattle.jc_base.specs.Order.{Below, nothing, is_below, IsKnown}
use Rattle.jc_base.specs.declared.record.MethodRec.{MethodRec}
use Rattle.jc_base.specs.declared.ty.Ty.{Ty}
use Rattle.jc_base.specs.declared.ty.Ty.TheVariants.{Bottom, IntHigh, IntLow, Class, Top}
use Rattle.jc_base.specs.World.{Linked}
use Rattle.jc_decode.specs.Listing.{jumps}
use Rattle.jc_decode.proofs.Ranges.{op-fits}
use Rattle.jc_ops.specs.declared.fault.RuleFault.{RuleFault}
use Rattle.jc_ops.specs.declared.operation.Operation.{Operation}
use Rattle.jc_ops.specs.Next.{OperationsGoAlike, jumps_from}
use Rattle.jc_ops.specs.Resolve.{Resolves}
use Rattle.jc_control.specs.Method.{IsMethodOf}
use Rattle.jc_rules.specs.declared.effect.Mode.TheVariants.{Flow}
use Rattle.jc_rules.specs.declared.rule.Outcome.{Outcome}
use Rattle.jc_rules.specs.Apply.{OperationApplies}
use Rattle.jc_rules.specs.Demand.{Frame}
use Rattle.jc_rules.specs.Flow.{CellsBelow, no_cells, more_cells, IsFollowed, derived_start, IsNotFresh, IsNotTop, start_frame, receiver_of}
use Rattle.jc_rules.specs.FlowLaws.{AreRules}
use Rattle.jc_rules.specs.Laws.{IsNotBottom}
use Rattle.jc_flow.proofs.Derived.{of_world}
use Rattle.xf_homes.specs.declared.home.Home.{Home}
use Rattle.xf_homes.specs.Home.{argument_types, IsConditional, KeepsStack, PairSpot, IsMetAt, met_local, met_cell}
use Rattle.xf_homes.specs.Order.{AreHomes, SlotsFollow, register_sum}
use Rattle.xf_homes.specs.Value.{value_in_cells, type_width}
use Rattle.xf_homes.specs.Source.{Source}
use Rattle.xf_emission.specs.Laws.{IsCode}
use Rattle.law_rewritten_typing.specs.Typed.{cells_of_value, registers_of}
use Rattle.law_rewritten_typing.specs.Whole.{IsWholeFrame, DerivedAreWhole}
use Rattle.law_rewritten_typing.proofs.Walks.{Asked}
use Rattle.law_rewritten_typing.proofs.Moves.{IsPlainValue}
use Rattle.law_rewritten_typing.proofs.Ready.{IsReady, IsValueAt, value-is, value-plain, framed, found, reached}

-- ---- a conditional branch or switch takes no uninitialised object

module _ (t : ClassTable) (types : IsOrderOfTypes t) where
  under-fresh : (a b : Ty) → is_below t a b ≡ true → IsNotFresh b → IsNotTop b → IsNotFresh a
  unfolding is_below
  under-fresh a b e f n = grind (arith)

  pub not-fresh : (a b : Ty) → Below t a b → IsNotFresh b → IsNotTop b → IsNotFresh a
  not-fresh a b le f n = under-fresh a b ((types.decided a b).1 le) f n

  one-taken : (P : Ty → Type 0) (stack : List Ty) (b : Ty) → ((a : Ty) → Below t a b → P a)
      → IsSomeAnd (slice_get stack 0) (λ found. Below t found b) → All P (drop 1 stack) → All P stack
  one-taken P [] b is h all = absurd h
  one-taken P (a ∷ rest) b is h all = All-cons P a rest (is a h) all

  two-taken : (P : Ty → Type 0) (stack : List Ty) (b c : Ty) → ((a : Ty) → Below t a b → P a) → ((a : Ty) → Below t a c → P a)
      → IsSomeAnd (slice_get stack 0) (λ found. Below t found b) → IsSomeAnd (slice_get stack 1) (λ found. Below t found c) → All P (drop 2 stack)
      → All P stack
  two-taken P [] b c is has h g all = absurd h
  two-taken P (a ∷ []) b c is has h g all = absurd g
  two-taken P (a ∷ d ∷ rest) b c is has h g all = All-cons P a (d ∷ rest) (is a h) (All-cons P d rest (has d g) all)

pub conditional-ready : (w : Linked) (types : IsOrderOfTypes w.classes) (limit : ℕ) (op : Operation) (before after : Frame) (o : Outcome)
    → IsConditional op → OperationApplies w limit op Flow before after o → All IsNotFresh after.stack → All IsNotFresh before.stack
conditional-ready w types limit op f after o is a all = grind (arith, one-taken, not-fresh, two-taken)

conditional-jumps : (op : Operation) → IsConditional op → jumps_from op ≡ true
conditional-jumps op is = grind (arith)

-- ---- the registers of arguments

drop-all : (xs : List Ty) → drop (length xs) xs ≡ []
drop-all [] = refl
drop-all (x ∷ xs) = drop-all xs

drop-at : (xs : List Ty) (n : ℕ) (a : Ty) → slice_get xs n ≡ Some a → drop n xs ≡ a ∷ drop (suc n) xs
drop-at [] n a e = absurd (cc)
drop-at (x ∷ xs) zero a e = let own : x ≡ a = cc in ap (λ (y : Ty). y ∷ xs) own
drop-at (x ∷ xs) (suc n) a e = drop-at xs n a e

value-cells : (types : List Ty) (n : ℕ) (ty : Ty) → IsValueAt types n ty → drop n types ≡ cells_of_value ty ++ drop (n + type_width ty) types
value-cells types n IntHigh is =
    let first = drop-at types n IntHigh is.first in
    let next : suc n ≡ n + 1 = omega arith in
    let second = drop-at types (n + 1) IntLow (is.second refl) in
    let end : suc (n + 1) ≡ n + 2 = omega arith in
    first ∙ ap (λ (k : ℕ). IntHigh ∷ drop k types) next ∙ ap (λ (ts : List Ty). IntHigh ∷ ts) second
    ∙ ap (λ (k : ℕ). IntHigh ∷ IntLow ∷ drop k types) end
value-cells types n ty is = other ty is.first
  where
    other : (u : Ty) → slice_get types n ≡ Some u → drop n types ≡ u ∷ drop (n + 1) types
    other u e = let next : suc n ≡ n + 1 = omega arith in drop-at types n u e ∙ ap (λ (k : ℕ). u ∷ drop k types) next

registers-are : (types : List Ty) (n : ℕ) (hs : List Home) → SlotsFollow n hs
    → ((h : Home) → IsAmong h hs → value_in_cells types h.slot ≡ Some h.ty) → n + register_sum hs ≡ length types
    → registers_of hs ≡ drop n types
unfolding register_sum
registers-are types n [] st is e = let here : n ≡ length types = omega (arith, e) in sym (ap (λ (k : ℕ). drop k types) here ∙ drop-all types)
registers-are types n (h ∷ hs) st is e =
    let v : value_in_cells types n ≡ Some h.ty = ap (value_in_cells types) (sym st.0) ∙ is h (inl refl) in
    let total : register_sum (h ∷ hs) ≡ type_width h.ty + register_sum hs = sum_by-cons (λ (i : Home). type_width i.ty) h hs in
    let rest = registers-are types (n + type_width h.ty) hs st.1 (λ k a. is k (inr a)) (omega (arith, e, total)) in
    ap (λ (ts : List Ty). cells_of_value h.ty ++ ts) rest ∙ sym (value-cells types n h.ty (value-is types n h.ty v))

registers-append : (hs ks : List Home) → registers_of (hs ++ ks) ≡ registers_of hs ++ registers_of ks
registers-append [] ks = refl
registers-append (h ∷ hs) ks = grind (arith, append_assoc, registers-append hs ks)

cells-width : (ty : Ty) → length (cells_of_value ty) ≡ type_width ty
cells-width ty = grind (arith)

pub registers-length : (hs : List Home) → length (registers_of hs) ≡ register_sum hs
unfolding register_sum
registers-length [] = refl
registers-length (h ∷ hs) =
    length-append (cells_of_value h.ty) (registers_of hs)
    ∙ omega (arith, cells-width h.ty, registers-length hs, sum_by-cons (λ (i : Home). type_width i.ty) h hs)

sum-append : (hs ks : List Home) → register_sum (hs ++ ks) ≡ register_sum hs + register_sum ks
unfolding register_sum
sum-append [] ks = omega arith
sum-append (h ∷ hs) ks =
    omega (arith, sum_by-cons (λ (i : Home). type_width i.ty) h (hs ++ ks), sum_by-cons (λ (i : Home). type_width i.ty) h hs, sum-append hs ks)

bottom-below : (t : ClassTable) (ts : List Ty) (n : ℕ) → length ts ≡ n → CellsBelow t (replicate n Bottom) ts
bottom-below t [] zero e = no_cells
bottom-below t [] (suc n) e = absurd (omega (arith, e))
bottom-below t (a ∷ ts) zero e = absurd (omega (arith, e))
bottom-below t (a ∷ ts) (suc n) e = more_cells nothing (bottom-below t ts n (omega (arith, e)))

pub both-below : (t : ClassTable) {xs us : List Ty} (ys vs : List Ty) → CellsBelow t xs us → CellsBelow t ys vs → CellsBelow t (xs ++ ys) (us ++ vs)
both-below t ys vs no_cells le = le
both-below t ys vs (more_cells p ps) le = more_cells p (both-below t ys vs ps le)

all-registers : (P : Ty → Type 0) (hs : List Home) → ((h : Home) → IsAmong h hs → P h.ty) → P IntLow → All P (registers_of hs)
all-registers P [] h low = All-nil P
all-registers P (k ∷ ks) h low = by k.ty (h k (inl refl)) (all-registers P ks (λ j a. h j (inr a)) low)
  where
    by : (ty : Ty) → P ty → All P (registers_of ks) → All P (cells_of_value ty ++ registers_of ks)
    by IntHigh p all = All-cons P IntHigh (IntLow ∷ registers_of ks) p (All-cons P IntLow (registers_of ks) low all)
    by ty p all = All-cons P ty (registers_of ks) p all

pub all-left : (P : Ty → Type 0) (xs ys : List Ty) → All P (xs ++ ys) → All P xs
all-left P [] ys all = All-nil P
all-left P (x ∷ xs) ys all = All-cons P x xs (All-head P x (xs ++ ys) all) (all-left P xs ys (All-tail P x (xs ++ ys) all))

plain-ready : (ty : Ty) → IsPlainValue ty → IsNotFresh ty
plain-ready ty h = grind (arith)

module _ {s : Source} (objects : ClassesAreObjects s.world.classes) (rules : AreRules s.world)
    (ready : IsReady s) (r : MethodRec) (asks : ℕ → Asked) where
  module _ (alike : OperationsGoAlike s.world) (code : IsCode s) where
    -- a stack that is kept has no uninitialised object
    pub kept-ready : (p : ℕ) (f : Frame) → s.frames p ≡ Some f → KeepsStack s.world s.method s.frames p → All IsNotFresh f.stack
    kept-ready p f e (inl leader) =
        let g = framed objects rules ready r asks (s.frames p) (λ f. All IsNotFresh f.stack) (ready.typing.leaders p leader) in
        subst (λ (k : Frame). All IsNotFresh k.stack) (some-same g.0 f (sym g.1 ∙ e)) g.2
      where
        some-same : (f g : Frame) → ◌≡◌ {A = Option Frame} (Some f) (Some g) → f ≡ g
        some-same f g e = cc
    kept-ready p f e (inr b) =
        let i = b.instruction in
        let at : s.frames i.place ≡ Some f = ap s.frames b.at ∙ e in
        let g = framed objects rules ready r asks (s.frames i.place) (IsFollowed s.world s.method s.frames i)
        (ready.typing.rules i b.stands (reached objects rules ready r asks i.place f at)) in
        let own : g.0 ≡ f = some-same g.0 f (sym g.1 ∙ at) in
        let step = g.2.steps.1 in
        let same_op : step.operation ≡ b.operation = ok-same step.operation b.operation
        (step.resolves ∙ sym (subst (λ (q : ℕ). Resolves s.world s.method.rec q i.insn (Ok b.operation)) (sym b.at) b.resolves)) in
        let decoded = (rules.listed s.method.code).decodes i b.stands in
        let small : i.insn.op < 256 = op-fits s.method.code i.place i.insn code.bytes decoded in
        let go = alike s.method.rec i.place i.insn step.operation small step.resolves in
        let conditional : IsConditional step.operation = subst IsConditional (sym same_op) b.asks in
        let jump : jumps i.insn.op ≡ true = sym go.jumps_alike ∙ conditional-jumps step.operation conditional in
        subst (λ (k : Frame). All IsNotFresh k.stack) own
        (conditional-ready s.world rules.types s.method.rec.max_stack step.operation g.0 g.2.after g.2.steps.0 conditional step.does (g.2.ready jump))
      where
        some-same : (f g : Frame) → ◌≡◌ {A = Option Frame} (Some f) (Some g) → f ≡ g
        some-same f g e = cc

        ok-same : (a b : Operation) → ◌≡◌ {A = Result Operation RuleFault} (Ok a) (Ok b) → a ≡ b
        ok-same a b e = cc

    -- what is met is a value that is no uninitialised object
    met-plain : (spot : PairSpot) (h : Home) → IsMetAt s.world s.method s.frames spot h → IsPlainValue h.ty × IsKnown s.world.classes h.ty
    met-plain _ _ (met_local {p = p} {x = x} {n = n} {ty = ty} there asked) =
        let f = found objects rules ready r asks p x n ty asked in
        let w = ready.whole f.place f.frame f.at in
        value-plain s.world.classes f.frame.regs x ty f.value w.known.regs w.regs w.ready
    met-plain _ _ (met_cell i {p = p} {ty = ty} there keeps at) =
        let f = framed objects rules ready r asks (s.frames p) (λ (g : Frame). value_in_cells (reverse g.stack) i ≡ Some ty) at in
        let w = ready.whole p f.0 f.1 in
        value-plain s.world.classes (reverse f.0.stack) i ty f.2
        (All-reverse (IsKnown s.world.classes) f.0.stack w.known.stack) (All-reverse IsNotBottom f.0.stack w.stack)
        (All-reverse IsNotFresh f.0.stack (kept-ready p f.0 f.1 keeps))

    module _ (mo : IsMethodOf s.world s.method) (derived : DerivedAreWhole s.world) (are : AreHomes s.world s.method s.frames s.homes) where
      start_whole : IsWholeFrame s.world (start_frame s.method.rec Top)
      start_whole = derived s.method 0 (start_frame s.method.rec Top) mo derived_start

      abbrev unset : List Ty
      unset = replicate s.method.rec.max_locals Top

      pub arguments-known : All (IsKnown s.world.classes) (argument_types s.method.rec)
      arguments-known = all-left (IsKnown s.world.classes) (argument_types s.method.rec) (replicate s.method.rec.max_locals Top) start_whole.known.regs

      pub arguments-full : All IsNotBottom (argument_types s.method.rec)
      arguments-full = all-left IsNotBottom (argument_types s.method.rec) (replicate s.method.rec.max_locals Top) start_whole.regs

      pub arguments-ready : All IsNotFresh (argument_types s.method.rec)
      arguments-ready = all-left IsNotFresh (argument_types s.method.rec) (replicate s.method.rec.max_locals Top) start_whole.ready

      home-plain : (h : Home) → IsAmong h s.homes → IsPlainValue h.ty × IsKnown s.world.classes h.ty
      home-plain h a = by (IsAmong-append_cases h are.arguments are.others (subst (IsAmong h) are.parts a))
        where
          by : IsAmong h are.arguments ⊎ IsAmong h are.others → IsPlainValue h.ty × IsKnown s.world.classes h.ty
          by (inl argument) =
              value-plain s.world.classes (argument_types s.method.rec) h.slot h.ty ((are.declared h).0 argument) arguments-known arguments-full
              arguments-ready
          by (inr other) = let m = ((are.met h).0 other).0 in met-plain m.0 h m.1

      pub registers-known : All (IsKnown s.world.classes) (registers_of s.homes)
      registers-known = all-registers (IsKnown s.world.classes) s.homes (λ h a. (home-plain h a).1) tt

      pub registers-ready : All IsNotFresh (registers_of s.homes)
      registers-ready = all-registers IsNotFresh s.homes (λ h a. plain-ready h.ty (home-plain h a).0) tt

      receiver-length : (b : Bool) → length (if b then [] else Class s.method.rec.class ∷ []) ≡ receiver_words b
      receiver-length x = grind (arith)

      arguments-length : length (argument_types s.method.rec) ≡ s.method.rec.nargs
      arguments-length =
          let is = of_world s.world rules s.method mo in
          length-append (receiver_of s.method.rec) s.method.rec.sig.args ∙ omega (arith, receiver-length s.method.rec.is_static, is.words)

      -- the arguments stand at their registers, and the other registers are free at the start
      pub registers-declared : CellsBelow s.world.classes (argument_types s.method.rec ++ replicate (register_sum s.homes - s.method.rec.nargs) Bottom)
          (registers_of s.homes)
      registers-declared =
          let first : registers_of are.arguments ≡ argument_types s.method.rec = registers-are (argument_types s.method.rec) 0 are.arguments are.stand
          (λ h a. (are.declared h).0 a) (omega (arith, are.filled, arguments-length)) in
          let rest : length (registers_of are.others) ≡ register_sum s.homes - s.method.rec.nargs =
          omega (arith, registers-length are.others, ap register_sum are.parts, sum-append are.arguments are.others, are.filled) in
          let whole : argument_types s.method.rec ++ registers_of are.others ≡ registers_of s.homes = ap
          (λ (ts : List Ty). ts ++ registers_of are.others) (sym first) ∙ sym (registers-append are.arguments are.others)
          ∙ ap registers_of (sym are.parts) in
          subst (CellsBelow s.world.classes (argument_types s.method.rec ++ replicate (register_sum s.homes - s.method.rec.nargs) Bottom)) whole
          (both-below s.world.classes (replicate (register_sum s.homes - s.method.rec.nargs) Bottom) (registers_of are.others)
          (rules.order.self (argument_types s.method.rec))
          (bottom-below s.world.classes (registers_of are.others) (register_sum s.homes - s.method.rec.nargs) rest))
