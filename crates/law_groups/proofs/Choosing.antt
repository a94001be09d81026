-- The group of a conditional branch or a switch with no cells under its operands.
use Rattle.std.proofs.Common.{◌≡◌, ℕ, ◌+◌, ◌<◌, ◌≤◌, true, false, List, [], ◌∷◌, length, map, refl}
use Rattle.std.proofs.Common.{sym, ap, ◌∙◌, subst, arith}
use Rattle.std.specs.Prelude.{ℤ, pos, negsuc, Contains, Option, Some, None, Ok, IsSomeAnd, is_some, slice_get}
use Rattle.std.proofs.lemmas.Bool.{false≢true}
use Rattle.std.proofs.lemmas.List.{length-map, nil_from_length}
use Rattle.std.proofs.lemmas.List.Elements.{All-contains}
use Rattle.jc_base.specs.Each.{Each}
use Rattle.jc_base.specs.World.{Linked}
use Rattle.jc_decode.specs.declared.insn.Placed.{Placed}
use Rattle.jc_decode.specs.declared.symbols.Item.{Item}
use Rattle.jc_decode.specs.Listing.{targets}
use Rattle.jc_decode.specs.Symbols.{place_of}
use Rattle.jc_control.specs.Control.{IsReached, follows, jumped, led_to}
use Rattle.jc_control.specs.WellFormed.{IsTargetPlace, HasInstruction}
use Rattle.jc_ops.specs.declared.operation.Operation.{Operation}
use Rattle.jc_ops.specs.Next.{falls_from, jumps_from}
use Rattle.jc_ops.specs.Sound.{OperationsAreDecided}
use Rattle.jc_rules.specs.Demand.{Frame as Types}
use Rattle.jc_rules.specs.Flow.{FrameBelow}
use Rattle.jc_base.specs.declared.ty.Ty.TheVariants.{Top}
use Rattle.jc_base.proofs.Eaching.{Each-weaker}
use Rattle.jc_decode.proofs.Elements.{Contains-slice_get}
use Rattle.law_sound.proofs.Going.{jumps-on}
use Rattle.law_sound.specs.Frames.{least_types, types_of_frame}
use Rattle.vm_store.specs.declared.cell.Cell.{Cell}
use Rattle.vm_store.specs.Cells.{tagged}
use Rattle.vm_store.specs.Objects.{kinds}
use Rattle.vm_store.specs.State.{State, IsRunning, other_frames, top}
use Rattle.vm_step.specs.declared.ending.Fault.{Fault}
use Rattle.vm_step.specs.Act.{Act, goes, jumps}
use Rattle.vm_step.specs.Performed.{act}
use Rattle.vm_step.specs.Raising.{Outcome, running}
use Rattle.vm_step.specs.Run.{Runs}
use Rattle.vm_step.specs.Settled.{fault_next, fault_target, settled, unless_fault}
use Rattle.vm_step.specs.Step.{Steps, performed, performs}
use Rattle.vm_step.specs.Tests.{fault_before}
use Rattle.vm_step.proofs.Running.{steps-one}
use Rattle.law_erasure.specs.Erasure.{IsNoFault}
use Rattle.law_alike.specs.Alike.{renamed_cell}
use Rattle.law_alike.specs.Likeness.{StepsAreAlike}
use Rattle.law_alike.specs.Running.{Executes}
use Rattle.law_alike.proofs.Settling.{unless-none}
use Rattle.law_alike.proofs.Simulation.{one-step}
use Rattle.xf_homes.specs.declared.home.Home.{Home}
use Rattle.xf_homes.specs.Order.{register_sum}
use Rattle.xf_homes.specs.Walk.{operands_of}
use Rattle.xf_homes.specs.Source.{Source}
use Rattle.xf_homes.specs.Plan.{stack_homes, is_leader, needed, operation}
use Rattle.xf_emission.specs.Edge.{is_stored}
use Rattle.xf_emission.specs.Emission.{items}
use Rattle.xf_emission.specs.Group.{body, fall, fallen}
use Rattle.xf_emission.specs.Jump.{goto, has_under, jump_to, label_by, lead, place as place_named, stub, stub_label, stub_of, branch_copies}
use Rattle.xf_emission.specs.Jump.{way_of}
use Rattle.xf_emission.proofs.Ways.{way-found}
use Rattle.law_rewritten_typing.specs.Edges.{AreMatched, ForksMatch, leads_after, more_matched}
use Rattle.law_rewritten_typing.specs.Edges.{none_matched}
use Rattle.law_sound.proofs.Branches.{targets-are}
use Rattle.law_homes.specs.Edges.{HoldsAfter}
use Rattle.law_homes.specs.Held.{HoldsValue, HoldsLocals, slots}
use Rattle.law_groups.specs.Laid.{IsLaidIn, body_at, count_of, rename, steps_of}
use Rattle.law_groups.specs.Beside.{AreEqualBut, IsAtGroup, IsTypedAt, MovesTop, SameUnder, StaysTyped}
use Rattle.law_groups.specs.Comes.{GroupRuns, group_stays}
use Rattle.law_groups.specs.Body.{AreAfter}
use Rattle.law_groups.specs.Steps.{ItemsStandFrom}
use Rattle.law_groups.specs.Moves.{MovesRun}
use Rattle.law_groups.proofs.Arriving.{falls-arrive, leader-keeps, runs-then}
use Rattle.law_groups.proofs.Branching.{IsLeading, leading, ForkComes, fork-steps, fork_falls, fork_leads}
use Rattle.law_groups.proofs.Context.{method-of, reached-some, some-reached, typing-of}
use Rattle.law_groups.proofs.Entering.{enters}
use Rattle.law_groups.proofs.Following.{next-place, steps-here}
use Rattle.law_groups.proofs.ForkSteps.{jump-step}
use Rattle.law_groups.proofs.BareForks.{body-branch, branch-alone, labels_of, under-none}
use Rattle.law_groups.proofs.Going.{group-inside}
use Rattle.law_groups.proofs.OneGroup.{no-fault, same-method, stays-on, turn-by}
use Rattle.law_groups.proofs.Placing.{count-append, stubs-stand-at-steps}
use Rattle.law_groups.proofs.Standing.{stand-as, stand-inside}
use Rattle.law_groups.proofs.Taking.{led-arrives}
use Rattle.jc_rules.proofs.CellLists.{cells-length}

-- ---- a branch goes on

pub jumps-too : (w : Linked) (op : Operation) (n : ℕ) → operands_of w (Ok op) ≡ Some n → jumps_from op ≡ true
jumps-too w y n e = grind (arith)

-- the outcome of what goes on is a state
unless-running :
    (z y : State Cell) (o : Option Fault) → IsNoFault (unless_fault z o (running y)) → unless_fault z o (running y) ≡ running y
unless-running z y z2 h = grind (arith)

-- no branch stores
pub unstored-fork : (w : Linked) (op : Operation) (n : ℕ) → operands_of w (Ok op) ≡ Some n → (x : ℕ) → is_stored op x ≡ false
unstored-fork w y n e x = grind (arith)

-- nothing is matched by nothing
none-beside : (s : Source) {hs ks : List Home} → AreMatched s hs ks → hs ≡ [] → ks ≡ []
none-beside s none_matched e = refl
none-beside s (more_matched slot one two letter rest) e = absurd (cc)

pub one-jump : (w : Linked) (i : Placed) (op : Operation) (n : ℕ) (ls : List ℕ) → operands_of w (Ok op) ≡ Some n
    → count_of (jump_to i op ls ∷ []) ≡ 1
one-jump w i z n ls e = grind (arith)

-- where it goes on into the next place with nothing under its operands
fallen-alone :
    (s : Source) (i : Placed) (op : Operation) (n : ℕ)
    → falls_from op ≡ true
    → operands_of s.world (Ok op) ≡ Some n
    → has_under s i.place n ≡ false
    → fallen s i op ≡ fall s i.place op (i.place + i.insn.len)
unfolding fallen
fallen-alone s i op n falls some alone = grind (arith)

pub fork-running :
    (v : Linked) → OperationsAreDecided v → (z : State Cell) (o : Outcome Cell) (i : Placed) (op : Operation) (n : ℕ)
    → Executes v z i op
    → operands_of v (Ok op) ≡ Some n
    → Steps tagged v z o
    → IsNoFault o
    → (y : State Cell) × (o ≡ running y)
fork-running v decided z o i op n ex some step fine =
    let is : o ≡ performed tagged v i op z =
    steps-one tagged v decided z o (performed tagged v i op z) step (performs ex.fetched op ex.resolved refl) in
    let leads : Outcome Cell = settled tagged v (i.place + i.insn.len) z (act tagged v i.insn op z) in
    let passed = unless-none z (fault_before tagged v op z) leads (subst IsNoFault is fine) in
    let r = by (act tagged v i.insn op z) (leading v i.insn op n z some) (subst IsNoFault (is ∙ passed.1) fine) in
    (r.0, is ∙ (passed.1 ∙ r.1))
  where
    by :
        (a : Act Cell)
        → IsLeading a
        → IsNoFault (settled tagged v (i.place + i.insn.len) z a)
        → (y : State Cell) × (settled tagged v (i.place + i.insn.len) z a ≡ running y)
    by (goes x) l h = (_, unless-running z _ (fault_next tagged v x (length (top x).stack) (i.place + i.insn.len)) h)
    by (jumps to x) l h = (_, unless-running x _ (fault_target tagged v x to) h)
    by _ l h = absurd l

module _ {v w : Linked} {s : Source} {place : ℕ → ℕ} (laid : IsLaidIn v w s place) where
  -- the frame of a reached place
  pub frame-at : (p : ℕ) → is_some (s.frames p) ≡ true → (g : Types) × (s.frames p ≡ Some g)
  frame-at p e = by (s.frames p) refl e
    where
      by : (o : Option Types) → s.frames p ≡ o → is_some o ≡ true → (g : Types) × (s.frames p ≡ Some g)
      by None h e = absurd (cc)
      by (Some g) h e = (g, h)

-- what the step leaves
pub first-of :
    {s : Source} {place : ℕ → ℕ} {i : Placed} {op : Operation} {n m : ℕ} {z u y : State Cell} {p : Outcome Cell}
    → ForkComes s place i op n m z u y p
    → SameUnder z y
first-of x = grind (arith)

pub method-after :
    {s : Source} {place : ℕ → ℕ} {i : Placed} {op : Operation} {n m : ℕ} {z u y : State Cell} {p : Outcome Cell}
    → ForkComes s place i op n m z u y p
    → (top y).method ≡ s.method.number
method-after x = grind (arith)

-- ---- the group

module _
    {v w : Linked} {s : Source} {place : ℕ → ℕ} (laid : IsLaidIn v w s place)
    (alike_steps : StepsAreAlike v) (decided : OperationsAreDecided v) (match : ForksMatch v) (moving : MovesRun v) where
  -- the labels to which a reached branch leads stand before steps
  pub leads-inside :
      (i : Placed) (op : Operation) (n : ℕ)
      → HasInstruction s.method.code i
      → is_some (s.frames i.place) ≡ true
      → operation s i ≡ Ok op
      → operands_of s.world (Ok op) ≡ Some n
      → (k : ℕ) (t : ℤ)
      → slice_get (targets s.method.code i) k ≡ Some t
      → place_of (lead s i.place op n (way_of (targets s.method.code i) t) t) (items s) < length (steps_of s)
  unfolding lead stub
  leads-inside i op n stands reached does some k t target_is =
      let c = Contains-slice_get (targets s.method.code i) k t target_is in
      by t c target_is
      (All-contains (IsTargetPlace s.method.code) (targets s.method.code i) t ((typing-of laid).formed.targets i stands) c)
    where
      by :
          (t : ℤ)
          → Contains (targets s.method.code i) t
          → slice_get (targets s.method.code i) k ≡ Some t
          → IsTargetPlace s.method.code t
          → place_of (label_by (place_named t) (stub_label i.place (way_of (targets s.method.code i) t)) (branch_copies s i.place op n (place_named t)))
          (items s) < length (steps_of s)
      by (negsuc r) c found is = absurd is
      by (pos q) c found is =
          let there : IsReached s.method q = follows stands (some-reached laid i.place reached) (jumped c) in
          named (branch_copies s i.place op n q) refl there found
        where
          named :
              (ts : List Item)
              → branch_copies s i.place op n q ≡ ts
              → IsReached s.method q
              → slice_get (targets s.method.code i) k ≡ Some (pos q)
              → place_of (label_by q (stub_label i.place (way_of (targets s.method.code i) (pos q))) (branch_copies s i.place op n q)) (items s) < length
              (steps_of s)
          named [] e there found =
              let lt = group-inside laid q there in
              subst (λ us. place_of (label_by q (stub_label i.place (way_of (targets s.method.code i) (pos q))) us) (items s) < length (steps_of s)) (sym e) lt
          named (x ∷ xs) e there found =
              let st = stubs-stand-at-steps s i op n (way_of (targets s.method.code i) (pos q)) (pos q) laid.planned.code stands reached does some
              (way-found (targets s.method.code i) k (pos q) found)
              (λ none. absurd (let bad = sym none ∙ e in not-none x xs bad)) in
              let shown : ItemsStandFrom s (place_of (stub_label i.place (way_of (targets s.method.code i) (pos q))) (items s))
              (stub_of (stub_label i.place (way_of (targets s.method.code i) (pos q))) q (x ∷ xs)) =
              subst (λ us. ItemsStandFrom s (place_of (stub_label i.place (way_of (targets s.method.code i) (pos q))) (items s))
              (stub_of (stub_label i.place (way_of (targets s.method.code i) (pos q))) q us)) e st in
              let all = stand-inside s (place_of (stub_label i.place (way_of (targets s.method.code i) (pos q))) (items s))
              (stub_of (stub_label i.place (way_of (targets s.method.code i) (pos q))) q (x ∷ xs)) shown in
              let both = count-append (x ∷ xs) (goto q ∷ []) in
              let one : count_of (goto q ∷ []) ≡ 1 = refl in
              subst (λ us. place_of (label_by q (stub_label i.place (way_of (targets s.method.code i) (pos q))) us) (items s) < length (steps_of s)) (sym e)
              (omega (arith, all, both, one))
            where
              not-none : (x : Item) (xs : List Item) → [] ≡ x ∷ xs → ⊥
              not-none x xs e = absurd (cc)

  -- where no cells are kept the stack is empty
  no-stack : (y : State Cell) → IsTypedAt v s y → is_leader s (top y).place ≡ true → stack_homes s (top y).place ≡ [] → (top y).stack ≡ []
  unfolding register_sum
  no-stack y typed leader none =
      let q : ℕ = (top y).place in
      let g = frame-at laid q (reached-some laid q typed.reached) in
      let k = moving.fill s laid.world laid.planned q g.0 g.1 (leader-keeps laid q leader) in
      let zero_cells : register_sum (stack_homes s q) ≡ 0 = ap register_sum none in
      let filled = k.fill in
      let below : FrameBelow v.classes (types_of_frame v.classes Top (kinds y) (top y)) g.0 =
      subst (λ o. IsSomeAnd o (FrameBelow v.classes (types_of_frame v.classes Top (kinds y) (top y)))) g.1 typed.below in
      let one = cells-length v.classes below.stack in
      let two : length (least_types v.classes Top (kinds y) (top y).stack) ≡ length (top y).stack = length-map (top y).stack _ in
      nil_from_length (top y).stack (omega (arith, zero_cells, filled, one, two))

  -- after the step of a branch with nothing under its operands
  alone-after :
      (z t u y : State Cell) (o p : Outcome Cell) (i : Placed) (op : Operation) (n loads : ℕ)
      → loads ≤ 255
      → Runs tagged w loads t (running u)
      → MovesTop t u
      → StaysTyped v s o
      → o ≡ running y
      → SameUnder z y
      → HasInstruction s.method.code i
      → is_some (s.frames i.place) ≡ true
      → operation s i ≡ Ok op
      → operands_of s.world (Ok op) ≡ Some n
      → has_under s i.place n ≡ false
      → count_of (body s i op) ≡ 1
      → (top y).method ≡ s.method.number
      → Runs tagged w 1 u p
      → ForkComes s place i op n (body_at s i.place) z u y p
      → GroupRuns v w s place z t o
  alone-after z t u y o _ i op n loads few loaded moves stays is first stands reached does some alone count method run
      (fork_falls {x = x} a falls here at) =
      let going : IsRunning y = let e = ap length first.frames in omega (arith, e) in
      let typed : IsTypedAt v s y = (subst (StaysTyped v s) is stays) going method in
      let after : AreAfter s place i.place op z u y x =
      record {
        first = first;
        second = a.second;
        equal = a.equal;
        of = a.of;
        stack = a.stack;
        holds = record {
          stored = λ l e. absurd (false≢true (sym (unstored-fork s.world op n some l) ∙ e));
          others = λ l. Each-weaker (HoldsValue s (top y).registers (top x)) _ (λ h held free. held) (needed s i.place l) (a.locals l);
        };
      } in
      let c = falls-arrive laid moving i op z u y x stands reached does
      falls after typed here (at ∙ ap (λ k. place (body_at s i.place + k)) (sym count)) (fallen-alone s i op n falls some alone) in
      let most = c.few in
      group_stays y is (record {
        count = loads + (1 + c.count);
        more = omega arith;
        fewer = omega (arith, few, most);
        outcome = running c.state;
        runs =
            runs-then w loads (1 + c.count) t u (running c.state) loaded (runs-then w 1 c.count u x (running c.state) run c.runs);
        comes = (
          c.state,
          refl,
          record {
            first = first;
            second = record { frames = c.are.second.frames ∙ ap (λ fs. top c.state ∷ fs) (ap other_frames moves.frames) };
            equal = c.are.equal;
            group = c.are.group;
          },
        );
      })
  alone-after z t u y o _ i op n loads few loaded moves stays is first stands reached does some alone count method run
      (fork_leads k {x = x} a own at) =
      let going : IsRunning y = let e = ap length first.frames in omega (arith, e) in
      let typed : IsTypedAt v s y = (subst (StaysTyped v s) is stays) going method in
      let q : ℕ = (top y).place in
      let among = Contains-slice_get (targets s.method.code i) k (pos q) own in
      let from_p : IsReached s.method i.place = some-reached laid i.place reached in
      let leader : is_leader s q ≡ true = (laid.planned.leaders q).1 (led_to stands from_p among) in
      let leads = leads_after stands from_p does (jumped among) in
      let g = frame-at laid i.place reached in
      let m = match s laid.world laid.planned i op n q g.0 stands g.1 does some (jumped among) leader in
      let none = under-none s i.place n alone in
      let no_cells_there : stack_homes s q ≡ [] = none-beside s m none in
      let y_bare : (top y).stack ≡ [] = no-stack y typed leader no_cells_there in
      let bare : (top x).stack ≡ [] = a.stack ∙ ap (map (renamed_cell (rename s place))) y_bare in
      let before : HoldsAfter s i.place op q (top y) (top x) =
      record {
        stored = λ l e. absurd (false≢true (sym (unstored-fork s.world op n some l) ∙ e));
        others = λ l. Each-weaker (HoldsValue s (top y).registers (top x)) _ (λ h held free. held) (needed s i.place l) (a.locals l);
      } in
      let c = led-arrives laid moving i.place n op y x typed
      a.equal a.of leader leads from_p m bare (subst (Each (HoldsValue s (slots (top y)) (top x))) (sym none) tt) before i k refl stands does
      some own at in
      let fewer = c.fewer in
      stays-on y x (loads + 1) is first (runs-then w loads 1 t u (running x) loaded run)
      (ap other_frames a.second.frames ∙ ap other_frames moves.frames) c (omega arith) (omega (arith, few, fewer))

  pub alone-group :
      (z t : State Cell) (o : Outcome Cell) (i : Placed) (op : Operation) (n : ℕ)
      → IsTypedAt v s z
      → IsAtGroup s place (top z) (top t)
      → AreEqualBut z t
      → Steps tagged v z o
      → StaysTyped v s o
      → Executes v z i op
      → operands_of v (Ok op) ≡ Some n
      → has_under s i.place n ≡ false
      → GroupRuns v w s place z t o
  unfolding turn-by
  alone-group z t o i op n typed group equal step stays ex some alone =
      let turn = turn-by laid z typed i op ex in
      let own_some : operands_of s.world (Ok op) ≡ Some n =
      subst (λ u. operands_of u (Ok op) ≡ Some n) (sym laid.world) some in
      let e = enters laid moving z t typed equal group in
      let u = e.state in
      let own = steps-here laid i op turn.stands turn.reached turn.does in
      let m : ℕ = body_at s i.place in
      let body_is : body s i op ≡ jump_to i op (labels_of s i op n) ∷ [] =
      body-branch s i op n own_some ∙ branch-alone s i op n alone in
      let count : count_of (body s i op) ≡ 1 = ap count_of body_is ∙ one-jump v i op n (labels_of s i op n) some in
      let st = stand-as s m (body s i op) (jump_to i op (labels_of s i op n) ∷ []) body_is own.body_steps in
      let jumping = jumps-on v ex.method i.place i.insn op ex.resolved (jumps-too v op n some) in
      let j = jump-step s i op n m st _ _ (targets-are s.method.code i jumping) in
      let r = fork-running v decided z o i op n ex some step (no-fault v s o stays) in
      let y = r.0 in
      let method : ex.method ≡ s.method.rec =
      same-method ex.method s.method.rec
      (sym ex.fetched.method ∙ (ap (slice_get v.methods) typed.method ∙ (method-of laid).rec)) in
      let f = fork-steps laid alike_steps i op n m some
      turn.stands j (leads-inside i op n turn.stands turn.reached turn.does own_some)
      (next-place laid i op turn.stands turn.reached turn.does count)
      z u y ex e.equal e.of turn.here (typed.objects_stay (rename s place)) (typed.statics_stay (rename s place))
      (e.at ∙ ap (λ p. place (body_at s p)) turn.here) e.held.stack
      (subst (λ p. HoldsLocals s p (top z) (top u)) turn.here e.held.locals) method (subst (Steps tagged v z) r.1 step) in
      alone-after z t u y o f.0 i op n e.count e.few e.runs e.moves stays r.1 (first-of f.2) turn.stands turn.reached turn.does own_some
      alone count (method-after f.2) (one-step w u f.0 f.1) f.2
