-- What instructions mean, and what typings ask, is the same in worlds that differ in code alone.
use Rattle.std.proofs.Common.{arith}
use Rattle.std.proofs.Common.{◌≡◌, ℕ, Bool, not, ℤ, List, [], ◌∷◌, ◌++◌, length, map}
use Rattle.std.proofs.Common.{take, drop, get_or, Option, Some, None, option_map, Result, slice_get, IsSomeAnd, refl, sym, ◌∙◌, ap, subst}
use Rattle.std.proofs.Math.ListN.{get_or-map}
use Rattle.std.specs.List.{list_all, filter, range_with_len}
use Rattle.std.proofs.lemmas.Option.{slice_get-map}
use Rattle.std.proofs.lemmas.List.{length-map}
use Rattle.jc_base.specs.declared.ty.Ty.{Ty}
use Rattle.jc_base.specs.declared.record.Member.{Member}
use Rattle.jc_base.specs.declared.record.MethodRec.{MethodRec}
use Rattle.jc_base.specs.Dispatch.{has_body, has_body_in, all_have_bodies, is_concrete}
use Rattle.jc_base.specs.World.{Linked, member_at}
use Rattle.jc_decode.specs.declared.insn.Insn.{Insn}
use Rattle.jc_decode.specs.declared.insn.Placed.{Placed}
use Rattle.jc_ops.specs.declared.fault.RuleFault.{RuleFault}
use Rattle.jc_ops.specs.declared.operation.Want.{Want}
use Rattle.jc_ops.specs.declared.operation.Choice.{Choice}
use Rattle.jc_ops.specs.declared.operation.Choice.TheVariants as choices
use Rattle.jc_ops.specs.declared.operation.Operation.{Operation}
use Rattle.jc_ops.specs.declared.operation.Operation.TheVariants as ops
use Rattle.jc_ops.specs.Row.{table, row_at, unused, by_sort, by_width, by_kind, first_four, by_register, literals, binaries, orders_all, branching}
use Rattle.jc_ops.specs.Resolve.{byte_of, short_of, on, callee_if, entry_callee, virtual_callee, special_callee, static_callee}
use Rattle.jc_ops.specs.Resolve.{is_described, passes_test, described, described_callee, interface_callee, new_object, resolved}
use Rattle.jc_control.specs.Method.{Method}
use Rattle.jc_rules.specs.declared.effect.Mode.{Mode}
use Rattle.jc_rules.specs.declared.rule.Outcome.{Outcome}
use Rattle.jc_rules.specs.Demand.{Frame}
use Rattle.jc_rules.specs.Rule.{args_at, result_at, demands, effect}
use Rattle.jc_rules.specs.Apply.{OperationApplies, RuleApplies}
use Rattle.jc_rules.specs.Flow.{FlowTyping, IsFollowed}
use Rattle.card_typing.specs.Typing.{Subject, TypingIn, IsTypedIn, code_in_bytes}
use Rattle.law_laid.specs.Apart.{apart_from_code, IsSameBut}
use Rattle.law_laid.specs.Laid.{code_in_symbols}
use Rattle.law_laid.specs.Laws.{CardTypingsAreKept, DemandsAreKept, FlowTypingsAreKept, MethodsAreKept, OperationsAreKept, SymbolTypingsAreKept}

-- ---- lists that are tested alike

list_all-alike : (p q : ℕ → Bool) → ((n : ℕ) → p n ≡ q n) → (ns : List ℕ) → list_all p ns ≡ list_all q ns
list_all-alike p q same [] = refl
list_all-alike p q same (n ∷ ns) = let a = same n in let b = list_all-alike p q same ns in cc

filter-alike : (p q : ℕ → Bool) → ((n : ℕ) → p n ≡ q n) → (ns : List ℕ) → filter p ns ≡ filter q ns
filter-alike p q same [] = refl
filter-alike p q same (n ∷ ns) = let a = same n in let b = filter-alike p q same ns in cc

-- ---- what is asked of a method's record apart from its code

-- records of one number are the same apart from code
abbrev Alike : Option MethodRec → Option MethodRec → Type 0
Alike o p = option_map apart_from_code o ≡ option_map apart_from_code p

some-alike : (a b : MethodRec) → Alike (Some a) (Some b) → apart_from_code a ≡ apart_from_code b
some-alike a b e = cc

asked-alike : {X : Type 0} (f : Option MethodRec → X) → f None ≡ f None → ((a : MethodRec) → f (Some a) ≡ f (Some (apart_from_code a)))
    → (o p : Option MethodRec) → Alike o p → f o ≡ f p
asked-alike f n s x x2 e = grind (arith, some-alike)

callee-alike :
    (test : MethodRec → Bool) (receiver : MethodRec → Option Want) (pool n : ℕ) (choice : Choice)
    → ((a : MethodRec) → test a ≡ test (apart_from_code a))
    → ((a : MethodRec) → receiver a ≡ receiver (apart_from_code a))
    → (o p : Option MethodRec)
    → Alike o p
    → callee_if test pool n o receiver choice ≡ callee_if test pool n p receiver choice
callee-alike test receiver pool n choice t r o p e = grind (arith, asked-alike)

module _ (v : Linked) (infos : List (List ℕ)) (methods : List MethodRec) (indexes : List (Option (List ℕ)))
    (same : map apart_from_code v.methods ≡ map apart_from_code methods) where
  abbrev other : Linked
  other = record { infos = infos; pools = v.pools; classes = v.classes; methods = methods; statics = v.statics; arrays = v.arrays; indexes = indexes }

  alike-at : (n : ℕ) → Alike (slice_get v.methods n) (slice_get methods n)
  alike-at n = sym (slice_get-map apart_from_code v.methods n) ∙ ap (λ ms. slice_get ms n) same ∙ slice_get-map apart_from_code methods n

  same-count : length v.methods ≡ length methods
  same-count = sym (length-map v.methods apart_from_code) ∙ ap length same ∙ length-map methods apart_from_code

  -- ---- operations

  entry-same : (pool c token : ℕ) (o : Option ℕ) → entry_callee v pool c token o ≡ entry_callee other pool c token o
  entry-same pool c token x = grind (arith, callee-alike, not, slice_get, alike-at)

  virtual-same : (pool : ℕ) (o : Option Member) → virtual_callee v pool o ≡ virtual_callee other pool o
  virtual-same pool x = grind (arith, entry-same)

  special-same : (pool : ℕ) (o : Option Member) → special_callee v pool o ≡ special_callee other pool o
  special-same pool x = grind (arith, callee-alike, not, slice_get, alike-at)

  static-same : (pool : ℕ) (o : Option Member) → static_callee v pool o ≡ static_callee other pool o
  static-same pool x = grind (arith, callee-alike, not, slice_get, alike-at)

  described-same : (c token : ℕ) → described v.methods c token ≡ described methods c token
  unfolding described
  described-same c token =
      filter-alike (λ n. passes_test (is_described c token) (slice_get v.methods n)) (λ n. passes_test (is_described c token) (slice_get methods n))
      (λ n. asked-alike (passes_test (is_described c token)) refl (λ a. refl) (slice_get v.methods n) (slice_get methods n) (alike-at n))
      (range_with_len 0 (length v.methods))
      ∙ ap (λ k. filter (λ n. passes_test (is_described c token) (slice_get methods n)) (range_with_len 0 k)) same-count

  found-same : (pool nargs c token : ℕ) (o : Option ℕ) → described_callee v pool nargs c token o ≡ described_callee other pool nargs c token o
  found-same pool nargs c token x = grind (arith, callee-alike, length, slice_get, alike-at)

  interface-same : (pool nargs token : ℕ) (o : Option Member) → interface_callee v pool nargs token o ≡ interface_callee other pool nargs token o
  interface-same pool nargs token x = grind (arith, found-same, described-same)

  bodies-same : (ns : List ℕ) → all_have_bodies v.methods ns ≡ all_have_bodies methods ns
  bodies-same ns =
      list_all-alike (has_body v.methods) (has_body methods)
      (λ n. asked-alike has_body_in refl (λ a. refl) (slice_get v.methods n) (slice_get methods n) (alike-at n)) ns

  concrete-same : (c : ℕ) → is_concrete v.classes v.methods c ≡ is_concrete v.classes methods c
  unfolding is_concrete
  concrete-same c = grind (arith, bodies-same, list_all-alike, length, not)

  new-same : (place pool : ℕ) (o : Option Member) → new_object v place pool o ≡ new_object other place pool o
  new-same place pool x = grind (arith, concrete-same)

  module _ (m : MethodRec) (place : ℕ) (i : Insn) where
    abbrev member : ℤ → Option Member
    member x = member_at v m.package (short_of x)

    -- the results of all opcodes, of which these five name a method or the methods of a class
    abbrev results : Result Operation RuleFault → Result Operation RuleFault → Result Operation RuleFault → Result Operation RuleFault
        → Result Operation RuleFault → List (Result Operation RuleFault)
    results a b c d e =
        let all = map (λ row. resolved v m place i row) table in
        take 139 all ++ (a ∷ b ∷ c ∷ d ∷ e ∷ drop 144 all)

    abbrev results_in : Linked → List (Result Operation RuleFault)
    results_in w =
        results
        (on ops.Call (virtual_callee w (short_of i.x) (member i.x)))
        (on ops.Call (special_callee w (short_of i.x) (member i.x)))
        (on ops.Call (static_callee w (short_of i.x) (member i.x)))
        (on ops.Call (interface_callee w (short_of i.y) (byte_of i.x) (byte_of i.z) (member i.y)))
        (new_object w place (short_of i.x) (member i.x))

    results-here : map (λ row. resolved v m place i row) table ≡ results_in v
    unfolding table by_sort by_width by_kind first_four by_register literals binaries orders_all branching unused
    results-here = refl

    results-there : map (λ row. resolved other m place i row) table ≡ results_in other
    unfolding table by_sort by_width by_kind first_four by_register literals binaries orders_all branching unused
    results-there = refl

    results-same : results_in v ≡ results_in other
    results-same = grind (arith, virtual-same, special-same, static-same, interface-same, new-same)

    unused-same : resolved v m place i unused ≡ resolved other m place i unused
    unfolding unused
    unused-same = refl

    resolved-same : resolved v m place i (row_at i.op) ≡ resolved other m place i (row_at i.op)
    unfolding row_at
    resolved-same =
        sym (get_or-map (λ row. resolved v m place i row) table i.op unused)
        ∙ ap (λ rs. get_or rs i.op (resolved v m place i unused)) (results-here ∙ results-same ∙ sym results-there)
        ∙ ap (λ r. get_or (map (λ row. resolved other m place i row) table) i.op r) unused-same
        ∙ get_or-map (λ row. resolved other m place i row) table i.op unused

  -- ---- rules

  args-same : (n : ℕ) → args_at (slice_get v.methods n) ≡ args_at (slice_get methods n)
  args-same n = asked-alike args_at refl (λ a. refl) (slice_get v.methods n) (slice_get methods n) (alike-at n)

  result-same : (n : ℕ) → result_at (slice_get v.methods n) ≡ result_at (slice_get methods n)
  result-same n = asked-alike result_at refl (λ a. refl) (slice_get v.methods n) (slice_get methods n) (alike-at n)

  demands-same : (op : Operation) → demands v op ≡ demands other op
  demands-same x = grind (arith, args-same)

  effect-same : (op : Operation) (f : Frame) → effect v op f ≡ effect other op f
  effect-same x f = grind (arith, slice_get, args-same, result-same)

  operation-kept : (limit : ℕ) (op : Operation) (mode : Mode) (f g : Frame) (o : Outcome) → OperationApplies v limit op mode f g o
      → OperationApplies other limit op mode f g o
  operation-kept limit op mode f g o a = grind (arith, effect-same, demands-same)

  rule-kept : (m : MethodRec) (place : ℕ) (i : Insn) (mode : Mode) (f g : Frame) (o : Outcome) → RuleApplies v m place i mode f g o
      → RuleApplies other m place i mode f g o
  rule-kept m place i mode f g o a = grind (arith, resolved-same m place i, operation-kept m.max_stack a.operation mode f g o a.does)

  -- ---- typings

  typed-kept : (s : Subject) (regs : List Ty) (stacks : ℕ → List Ty) (i : Placed) → IsTypedIn v s regs stacks i → IsTypedIn other s regs stacks i
  typed-kept s regs stacks i t = grind (arith, rule-kept s.rec i.place i.insn _ _ t.after t.applies.0 t.applies.1)

  card-kept : (s : Subject) (regs : List Ty) (stacks : ℕ → List Ty) → TypingIn v s regs stacks → TypingIn other s regs stacks
  card-kept s regs stacks t = record {
    formed = t.formed;
    types = t.types;
    ready = t.ready;
    declared = t.declared;
    start = t.start;
    entries = λ q e. let x = t.entries q e in record { class = x.class; catches = x.catches; stack = x.stack };
    targets = t.targets;
    room = t.room;
    typed = λ i there. typed-kept s regs stacks i (t.typed i there);
  }

  followed-kept : (m : Method) (frames : ℕ → Option Frame) (i : Placed) (o : Option Frame) → IsSomeAnd o (IsFollowed v m frames i)
      → IsSomeAnd o (IsFollowed other m frames i)
  followed-kept m frames i None h = absurd h
  followed-kept m frames i (Some f) h = grind (arith, rule-kept m.rec i.place i.insn _ f h.after h.steps.0 h.steps.1)

  flow-kept : (m : Method) (unset : Ty) (frames : ℕ → Option Frame) → FlowTyping v m unset frames → FlowTyping other m unset frames
  flow-kept m unset frames t = grind (arith, followed-kept)

-- ---- two worlds

whole : (v w : Linked) (s : IsSameBut v w) → other v w.infos w.methods w.indexes s.methods ≡ w
whole v w s = grind (arith)

-- of code of any form
typings-are-kept : (v w : Linked) (s : Subject) (regs : List Ty) (stacks : ℕ → List Ty) → IsSameBut v w → TypingIn v s regs stacks
    → TypingIn w s regs stacks
typings-are-kept v w s regs stacks same t =
    subst (λ u. TypingIn u s regs stacks) (whole v w same) (card-kept v w.infos w.methods w.indexes same.methods s regs stacks t)

pub card-typings-are-kept : CardTypingsAreKept
card-typings-are-kept v w m regs stacks same t = typings-are-kept v w (code_in_bytes m) regs stacks same t

pub symbol-typings-are-kept : SymbolTypingsAreKept
symbol-typings-are-kept v w r source symbols regs stacks same t = typings-are-kept v w (code_in_symbols r source symbols) regs stacks same t

pub flow-typings-are-kept : FlowTypingsAreKept
flow-typings-are-kept v w m unset frames same t =
    subst (λ u. FlowTyping u m unset frames) (whole v w same) (flow-kept v w.infos w.methods w.indexes same.methods m unset frames t)

pub methods-are-kept : MethodsAreKept
methods-are-kept v w n same = alike-at v w.infos w.methods w.indexes same.methods n

-- ---- operations

module _ (w : Linked) (m : MethodRec) (place : ℕ) (i : Insn) where
  apart-table : map (λ row. resolved w m place i row) table ≡ map (λ row. resolved w (apart_from_code m) place i row) table
  unfolding table by_sort by_width by_kind first_four by_register literals binaries orders_all branching unused
  apart-table = refl

  apart-unused : resolved w m place i unused ≡ resolved w (apart_from_code m) place i unused
  unfolding unused
  apart-unused = refl

  apart-resolved : resolved w m place i (row_at i.op) ≡ resolved w (apart_from_code m) place i (row_at i.op)
  unfolding row_at
  apart-resolved = grind (arith, get_or-map, get_or, apart-table, map, apart-unused)

pub operations-are-kept : OperationsAreKept
operations-are-kept v w m n place i r same alike e =
    e
    ∙ subst (λ u. resolved v m place i (row_at i.op) ≡ resolved u m place i (row_at i.op)) (whole v w same)
    (resolved-same v w.infos w.methods w.indexes same.methods m place i)
    ∙ apart-resolved w m place i
    ∙ ap (λ k. resolved w k place i (row_at i.op)) alike
    ∙ sym (apart-resolved w n place i)

pub demands-are-kept : DemandsAreKept
demands-are-kept v w op same = grind (arith, whole v w same, demands-same v w.infos w.methods w.indexes same.methods op)
