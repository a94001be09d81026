-- The group of a conditional branch or a switch over a deeper stack: this goes into its own homes, and the operands come back.
use Rattle.std.proofs.Common.{◌≡◌, ℕ, ◌+◌, ◌<◌, ◌≤◌, inl, inr, Bool, true, false, if◌then◌else◌, List, [], ◌∷◌, ◌++◌}
use Rattle.std.proofs.Common.{length, map, take, drop, refl, sym, ap, ◌∙◌, subst, arith}
use Rattle.std.specs.Prelude.{pos, Some, Ok, ◌↔◌, is_some, slice_get}
use Rattle.std.proofs.lemmas.Bool.{false≢true}
use Rattle.std.proofs.lemmas.List.{drop-map, length-append, length-reverse, take-map}
use Rattle.jc_base.specs.Each.{Each, IsAmong}
use Rattle.jc_base.specs.World.{Linked, IsWorld}
use Rattle.jc_base.proofs.Eaching.{Each-weaker}
use Rattle.jc_decode.specs.declared.insn.Placed.{Placed}
use Rattle.jc_decode.specs.Listing.{targets}
use Rattle.jc_decode.specs.Symbols.{place_of}
use Rattle.jc_decode.proofs.Elements.{Contains-slice_get}
use Rattle.jc_control.specs.Control.{IsReached, IsSuccessor, falls_through, jumped, led_to}
use Rattle.jc_control.specs.WellFormed.{IsPlace, HasInstruction}
use Rattle.jc_ops.specs.declared.operation.Operation.{Operation}
use Rattle.jc_ops.specs.Next.{falls_from}
use Rattle.jc_ops.specs.Sound.{OperationsAreDecided}
use Rattle.jc_rules.specs.Demand.{Frame as Types}
use Rattle.law_sound.proofs.Going.{goes-on, jumps-on}
use Rattle.vm_store.specs.declared.cell.Cell.{Cell}
use Rattle.vm_store.specs.Cells.{tagged}
use Rattle.vm_store.specs.State.{State, Frame, IsRunning, other_frames, top, with_place}
use Rattle.vm_step.specs.Methods.{code_at}
use Rattle.vm_step.specs.Numbers.{dropped}
use Rattle.vm_step.specs.Raising.{Outcome, running}
use Rattle.vm_step.specs.Run.{Runs}
use Rattle.vm_step.specs.Step.{Steps}
use Rattle.law_alike.specs.Alike.{renamed_cell}
use Rattle.law_alike.specs.Likeness.{StepsAreAlike}
use Rattle.law_alike.specs.Running.{Executes}
use Rattle.law_alike.proofs.Simulation.{one-step}
use Rattle.xf_homes.specs.declared.home.Home.{Home}
use Rattle.xf_homes.specs.Home.{KeepsStack}
use Rattle.xf_homes.specs.Laws.{HasRegister}
use Rattle.xf_homes.specs.Walk.{operands_of}
use Rattle.xf_homes.specs.Source.{Source}
use Rattle.xf_homes.specs.Plan.{stack_homes, is_leader, needed, operation}
use Rattle.xf_emission.specs.declared.origin.Origin.TheVariants.{After}
use Rattle.xf_emission.specs.Edge.{copies}
use Rattle.xf_emission.specs.Emission.{items}
use Rattle.xf_emission.specs.Group.{body, fall_over, fallen}
use Rattle.xf_emission.specs.Jump.{branch, has_under, jump_to, lead, operands, branch_copies, under, way_of}
use Rattle.xf_emission.specs.Move.{loads, spill}
use Rattle.law_rewritten_typing.specs.Edges.{ForksAreCut, ForksMatch, IsForkedAt, LeadsTo, leads_after}
use Rattle.law_rewritten_typing.proofs.ForkTypings.{each-left}
use Rattle.law_sound.proofs.Branches.{targets-are}
use Rattle.law_homes.specs.Edges.{HoldsAfter, IsBeside, OperandsLoad}
use Rattle.law_homes.specs.Edges.{UnderHold, UnderLoads, insns, top_at}
use Rattle.law_homes.specs.Held.{HoldsFrame, HoldsValue, HoldsLocals, slots}
use Rattle.law_homes.proofs.Beside.{among-each, each-among, held-as}
use Rattle.law_homes.proofs.Loading.{step-place}
use Rattle.law_groups.specs.Laid.{IsLaidIn, body_at, count_of, group_at, rename, steps_of}
use Rattle.law_groups.specs.Beside.{AreEqualBut, AreOf, IsAtGroup, IsTypedAt, MovesTop, StaysTyped}
use Rattle.law_groups.specs.Comes.{ComesToGroup, ComesWithin, GroupRuns}
use Rattle.law_groups.specs.Steps.{ItemsStandFrom}
use Rattle.law_groups.specs.Moves.{MovesRun}
use Rattle.law_groups.proofs.Arriving.{at-step, beside, kept-registers, needed-local, other-holds, runs-then}
use Rattle.law_groups.proofs.Branching.{AfterFork, ForkComes, fork-steps, fork_falls, fork_leads}
use Rattle.law_groups.proofs.Choosing.{frame-at, jumps-too, leads-inside, one-jump, unstored-fork}
use Rattle.law_groups.proofs.Context.{method-of, some-reached, steps-are}
use Rattle.law_groups.proofs.Cutting.{IsForked, cut_state, forks-cut, none-left}
use Rattle.law_groups.proofs.Entering.{Entered, enters}
use Rattle.law_groups.proofs.Following.{Next, next-of, steps-here}
use Rattle.law_groups.proofs.ForkSteps.{jump-step}
use Rattle.law_groups.proofs.BareForks.{body-branch, labels_of}
use Rattle.law_groups.proofs.OneGroup.{no-fault, same-method, stays-on}
use Rattle.law_groups.proofs.Moving.{copies-move, count-moves, loads-move, moves-stand, spill-count, spill-moves}
use Rattle.law_groups.proofs.Placing.{count-append}
use Rattle.law_groups.proofs.Plain.{frames-are}
use Rattle.law_groups.proofs.Standing.{count-loads, stand-as, stand-at, stand-first, stand-inside, stand-last}
use Rattle.law_groups.proofs.Taking.{led-arrives, taken-falls}

-- ---- the items

branch-over :
    (s : Source) (i : Placed) (op : Operation) (n : ℕ)
    → has_under s i.place n ≡ true
    → branch s i op n ≡ (spill s (stack_homes s i.place) ++ loads s (operands s i.place n)) ++ jump_to i op (labels_of s i op n) ∷ []
unfolding branch
branch-over s i op n e = grind (arith)

fallen-over :
    (s : Source) (i : Placed) (op : Operation) (n : ℕ)
    → falls_from op ≡ true
    → operands_of s.world (Ok op) ≡ Some n
    → has_under s i.place n ≡ true
    → fallen s i op ≡ fall_over s i.place op n (i.place + i.insn.len)
unfolding fallen
fallen-over s i op n falls some over = grind (arith)

module _
    {v w : Linked} {s : Source} {place : ℕ → ℕ} (laid : IsLaidIn v w s place)
    (world : IsWorld v) (alike_steps : StepsAreAlike v) (decided : OperationsAreDecided v)
    (match : ForksMatch v) (cuts : ForksAreCut v) (moving : MovesRun v)
    (operands_load : OperandsLoad v w) (under_loads : UnderLoads v w) (under_hold : UnderHold v w)
    (z t : State Cell) (o : Outcome Cell) (i : Placed) (op : Operation) (n : ℕ) (typed : IsTypedAt v s z)
    (stands : HasInstruction s.method.code i) (reached : is_some (s.frames i.place) ≡ true) (does : operation s i ≡ Ok op)
    (here : (top z).place ≡ i.place) (ex : Executes v z i op) (some : operands_of v (Ok op) ≡ Some n) (over : has_under s i.place n ≡ true)
    (stays : StaysTyped v s o) where
  abbrev p : ℕ
  p = i.place

  own-some : operands_of s.world (Ok op) ≡ Some n
  own-some = subst (λ u. operands_of u (Ok op) ≡ Some n) (sym laid.world) some

  from-p : IsReached s.method i.place
  from-p = some-reached laid i.place reached

  cut-here : (g : Types) × (s.frames i.place ≡ Some g) × IsForkedAt s i.place n g
  cut-here =
      let g = frame-at laid i.place reached in
      (g.0, g.1, cuts s laid.world laid.planned i op n g.0 stands g.1 does own-some)

  keeps : KeepsStack s.world s.method s.frames i.place
  keeps = cut-here.2.keeps over

  -- beside the frame before the branch
  near : (u : State Cell) → u.heap ≡ z.heap → AreOf s (top z) (top u) → IsBeside w s i.place (top z) u
  near u heap of = subst (λ q. IsBeside w s q (top z) u) here (beside laid z u typed heap of)

  unmade : (u : State Cell) → u.heap ≡ z.heap → AreOf s (top z) (top u) → map (renamed_cell (rename s place)) (top z).stack ≡ (top z).stack
  unmade u heap of = moving.stay w laid.new s i.place (top z) u (rename s place) laid.world laid.planned (near u heap of) keeps

  -- the cells under the operands, once the operands are gone
  under-held :
      (g : Frame Cell) (u : State Cell) (y : Frame Cell)
      → u.heap ≡ z.heap
      → AreOf s (top z) (top u)
      → y.registers ≡ (top z).registers
      → y.stack ≡ drop n (top z).stack
      → Each (HoldsValue s (slots (top z)) g) (under s i.place n) ↔ Each (HoldsValue s (slots y) g) (under s i.place n)
  under-held g u y heap of one two =
      under_hold u s i op n (top z) y g laid.world laid.planned (near u heap of) stands does own-some over one two

  -- the number of the step of the branch
  abbrev m : ℕ
  m = body_at s i.place + length (stack_homes s i.place) + length (operands s i.place n)

  whole-is :
      body s i op ≡ (spill s (stack_homes s i.place) ++ loads s (operands s i.place n)) ++ jump_to i op (labels_of s i op n) ∷ []
  whole-is = body-branch s i op n own-some ∙ branch-over s i op n over

  spill-size : count_of (spill s (stack_homes s i.place)) ≡ length (stack_homes s i.place)
  spill-size = grind (arith, count-moves, spill-moves, spill-count, length-reverse)

  load-size : count_of (loads s (operands s i.place n)) ≡ length (operands s i.place n)
  load-size = count-loads s (operands s i.place n)

  body-size : body_at s i.place + count_of (body s i op) ≡ m + 1
  body-size = grind (arith, whole-is, count-append, one-jump, spill-size, load-size)

  few-operands : length (operands s i.place n) ≤ length (stack_homes s i.place)
  few-operands = grind (arith, cut-here, length-append)

  few-under : length (under s i.place n) ≤ length (stack_homes s i.place)
  few-under = grind (arith, cut-here, length-append)

  -- the homes of the cells under the operands have registers
  under-registered : (h : Home) → IsAmong h (under s i.place n) → HasRegister s.homes h
  under-registered h among =
      kept-registers laid moving.fill i.place h keeps from-p
      (subst (IsAmong h) (sym cut-here.2.parts) (among-first (under s i.place n) among))
    where
      among-first : (hs : List Home) → IsAmong h hs → IsAmong h (hs ++ operands s i.place n)
      among-first [] a = absurd a
      among-first (k ∷ ks) (inl e) = inl e
      among-first (k ∷ ks) (inr a) = inr (among-first ks a)

  -- ---- the operands come back

  record IsReady (u : State Cell) : Type 0 where
    registers : List Cell
    count : ℕ
    few : count ≤ 510
    runs : Runs tagged w count u (running (top_at u (place m) registers (take n (top z).stack)))
    same : length registers ≡ length (top u).registers
    kept : Each (HoldsValue s (slots (top z)) (record (top u) { registers = registers })) (stack_homes s i.place)
    locals : HoldsLocals s i.place (top z) (record (top u) { registers = registers })

  readied :
      (u : State Cell)
      → u.heap ≡ z.heap
      → IsRunning u
      → AreOf s (top z) (top u)
      → (top u).place ≡ place (body_at s i.place)
      → HoldsFrame (renamed_cell (rename s place)) s i.place (top z) (top u)
      → IsReady u
  readied u heap goes of at held =
      let sp = spill s (stack_homes s i.place) in
      let ls = loads s (operands s i.place n) in
      let jm = jump_to i op (labels_of s i op n) ∷ [] in
      let own = steps-here laid i op stands reached does in
      let st : ItemsStandFrom s (body_at s i.place) ((sp ++ ls) ++ jm) =
      stand-as s (body_at s i.place) (body s i op) ((sp ++ ls) ++ jm) whole-is own.body_steps in
      let first : ItemsStandFrom s (body_at s i.place) (sp ++ ls) = stand-first s (body_at s i.place) (sp ++ ls) jm st in
      let all = stand-inside s (body_at s i.place) ((sp ++ ls) ++ jm) st in
      let one = count-append (sp ++ ls) jm in
      let two = count-append sp ls in
      let three = one-jump v i op n (labels_of s i op n) some in
      let a_size = spill-size in
      let b_size = load-size in
      let bare : (top u).stack ≡ (top z).stack = held.stack ∙ unmade u heap of in
      let a = moving.spills w laid.new place (steps_of s) u (body_at s i.place) s i.place (top z) laid.world laid.planned (near u heap of) keeps
      (at-step laid u (body_at s i.place) (length (stack_homes s i.place)) goes of.target at
      (omega (arith, all, one, two, three, a_size, b_size)))
      (moves-stand s (body_at s i.place) sp (spill-moves s (stack_homes s i.place)) (stand-first s (body_at s i.place) sp ls first)) bare in
      let k : ℕ = body_at s i.place + length (stack_homes s i.place) in
      let ua : State Cell = top_at u (place k) a.registers [] in
      let of_a : AreOf s (top z) (top ua) = record { source = of.source; target = of.target; count = a.count ∙ of.count } in
      let rest : ItemsStandFrom s k ls =
      stand-at s (body_at s i.place + count_of sp) k ls (ap (λ r. body_at s i.place + r) a_size)
      (stand-last s (body_at s i.place) sp ls first) in
      let run = operands_load place (steps_of s) ua k s i op n (top z) laid.world laid.planned (near ua heap of_a) stands does own-some over
      (at-step laid ua k (length (operands s i.place n)) (omega arith) of.target refl
      (omega (arith, all, one, two, three, a_size, b_size)))
      (moves-stand s k ls (loads-move s (operands s i.place n)) rest) refl
      (each-among (HoldsValue s (slots (top z)) (top ua)) (stack_homes s i.place)
      (λ h among. held-as s (slots (top z)) (record (top u) { registers = a.registers }) (top ua) h refl
      (among-each (HoldsValue s (slots (top z)) (record (top u) { registers = a.registers })) (stack_homes s i.place) h a.cells among))) in
      let low = moving.few_cells s i.place laid.world laid.planned keeps in
      let limit = laid.room in
      let few_too = few-operands in
      record {
        registers = a.registers;
        count = length (stack_homes s i.place) + length (operands s i.place n);
        few = omega (arith, low, limit, few_too);
        runs = grind (arith, runs-then);
        same = a.count;
        kept = a.cells;
        locals = λ x.
            each-among (HoldsValue s (top z).registers (record (top u) { registers = a.registers })) (needed s i.place x)
            (λ h among.
            let l = needed-local laid moving.needs i.place x h from-p among in
            a.others (top z).registers h l.has l.slot
            (among-each (HoldsValue s (top z).registers (top u)) (needed s i.place x) h (held.locals x) among));
      }

  -- ---- after the branch

  module _
      (q' loads_done : ℕ) (few_loads : loads_done ≤ 766)
      (x : State Cell) (loaded : Runs tagged w loads_done t (running x)) (moves : MovesTop t x)
      (is : o ≡ running (with_place (dropped z n) q'))
      (equal : AreEqualBut (with_place (dropped z n) q') x)
      (of : AreOf s (top (with_place (dropped z n) q')) (top x))
      (bare : (top x).stack ≡ [])
      (kept : Each (HoldsValue s (slots (top z)) (top x)) (stack_homes s i.place))
      (locals : HoldsLocals s i.place (top z) (top x)) where
    abbrev y : State Cell
    y = with_place (dropped z n) q'

    y-typed : IsTypedAt v s y
    y-typed = (subst (StaysTyped v s) is stays) (omega arith) of.source

    of-z : AreOf s (top z) (top x)
    of-z = record { source = typed.method; target = of.target; count = of.count }

    held-y : Each (HoldsValue s (slots (top y)) (top x)) (under s i.place n)
    held-y =
        (under-held (top x) x (top y) equal.heap of-z refl refl).0
        (each-left (HoldsValue s (slots (top z)) (top x)) (under s i.place n) (operands s i.place n)
        (subst (Each (HoldsValue s (slots (top z)) (top x))) cut-here.2.parts kept))

    before : HoldsAfter s i.place op q' (top y) (top x)
    before = record {
      stored = λ l e. absurd (false≢true (sym (unstored-fork s.world op n own-some l) ∙ e));
      others = λ l. Each-weaker (HoldsValue s (top z).registers (top x)) _ (λ h held free. held) (needed s i.place l) (locals l);
    }

    -- the source stays in y, and the target comes to its group
    stayed :
        (most : ℕ)
        → most ≤ 1232
        → ComesWithin w 0 most x (ComesToGroup s place y x)
        → 1 ≤ loads_done
        → GroupRuns v w s place z t o
    stayed most small c some_done =
        let fewer = c.fewer in
        stays-on y x loads_done is (record { frames = refl }) loaded (ap other_frames moves.frames) c (omega (arith, some_done))
        (omega (arith, few_loads, fewer, small))

    -- to a target
    led :
        (k : ℕ)
        → slice_get (targets s.method.code i) k ≡ Some (pos q')
        → (top x).place ≡ place (place_of (lead s i.place op n (way_of (targets s.method.code i) (pos q')) (pos q')) (items s))
        → ComesWithin w 0 1019 x (ComesToGroup s place y x)
    led k target_is at =
        let among = Contains-slice_get (targets s.method.code i) k (pos q') target_is in
        let leader : is_leader s q' ≡ true = (laid.planned.leaders q').1 (led_to stands from-p among) in
        let to_q = leads_after stands from-p does (jumped among) in
        let pairs = match s laid.world laid.planned i op n q' cut-here.0 stands cut-here.1 does own-some (jumped among) leader in
        led-arrives laid moving i.place n op y x y-typed equal of
        leader to_q from-p pairs bare held-y before i k refl stands does own-some target_is at

    -- into the next place
    module _
        (falls : falls_from op ≡ true) (next_is : q' ≡ i.place + i.insn.len) (at : (top x).place ≡ place (m + 1)) where
      next : Next laid i
      next = next-of laid i op stands reached does falls

      fallen-here : ItemsStandFrom s (m + 1) (fall_over s i.place op n q')
      fallen-here =
          grind (arith, steps-here laid i op stands reached does, fallen-over s i op n falls own-some over, stand-as, stand-at, body-size)

      group-is : group_at s q' ≡ m + 1 + count_of (fall_over s i.place op n q')
      group-is =
          let own = steps-here laid i op stands reached does in
          let size = own.size in
          let later = next.follows_it in
          let same : group_at s q' ≡ group_at s next.instruction.place = ap (group_at s) (next_is ∙ sym next.at) in
          let b = body-size in
          let so = ap count_of (fallen-over s i op n falls own-some over ∙ ap (fall_over s i.place op n) (sym next_is)) in
          omega (arith, size, later, same, b, so)

      inside : m + 1 + count_of (fall_over s i.place op n q') < length (steps_of s)
      inside =
          let same : group_at s q' ≡ group_at s next.instruction.place = ap (group_at s) (next_is ∙ sym next.at) in
          let lt = next.inside in
          let g = group-is in
          omega (arith, same, lt, g)

      successor : IsSuccessor s.method.code i q'
      successor =
          subst (IsSuccessor s.method.code i) (sym next_is)
          (falls_through (goes-on s.world s.method.rec i.place i.insn op (sym does) falls))

      to-next : LeadsTo s (After i.place op) q'
      to-next = leads_after stands from-p does successor

      into-leader : is_leader s q' ≡ true → ComesWithin w 0 1018 x (ComesToGroup s place y x)
      into-leader leader =
          let are : fall_over s i.place op n q' ≡ branch_copies s i.place op n q' =
          ap (λ b. if b then branch_copies s i.place op n q' else copies s (After i.place op) q' ++ loads s (under s i.place n)) leader in
          let pairs = match s laid.world laid.planned i op n q' cut-here.0 stands cut-here.1 does own-some successor leader in
          let g = group-is in
          let size = ap count_of are in
          taken-falls laid moving i.place n op y x y-typed equal of
          leader to-next from-p pairs bare held-y before (m + 1)
          (stand-as s (m + 1) (fall_over s i.place op n q') (branch_copies s i.place op n q') are fallen-here) at (omega (arith, g, size))

      into-other : is_leader s q' ≡ false → ComesWithin w 0 1018 x (ComesToGroup s place y x)
      into-other other =
          let cs = copies s (After i.place op) q' in
          let ls = loads s (under s i.place n) in
          let are : fall_over s i.place op n q' ≡ cs ++ ls = ap (λ b. if b then branch_copies s i.place op n q' else cs ++ ls) other in
          let st = stand-as s (m + 1) (fall_over s i.place op n q') (cs ++ ls) are fallen-here in
          let moves_too = copies-move s (After i.place op) q' in
          let size : count_of cs ≡ length (insns cs) = count-moves cs moves_too in
          let load_size : count_of ls ≡ length (under s i.place n) = count-loads s (under s i.place n) in
          let both = count-append cs ls in
          let whole = ap count_of are in
          let lt = inside in
          let depth = ap length bare in
          let goes : IsRunning x = let e = ap length moves.frames in omega (arith, e) in
          let c = moving.edges w laid.new place (steps_of s) x (m + 1) s (After i.place op) q' (top y) laid.world laid.planned
          (beside laid y x y-typed equal.heap of) to-next
          (at-step laid x (m + 1) (length (insns cs)) goes of.target at (omega (arith, size, both, whole, lt)))
          (moves-stand s (m + 1) cs moves_too (stand-first s (m + 1) cs ls st)) (omega (arith, depth)) before in
          let r : ℕ = m + 1 + length (insns cs) in
          let x1 : State Cell = top_at x (place r) c.registers [] in
          let run1 : Runs tagged w (length (insns cs)) x (running x1) =
          subst (λ stack. Runs tagged w (length (insns cs)) x (running (top_at x (place r) c.registers stack))) bare c.runs in
          let of1 : AreOf s (top z) (top x1) = record { source = typed.method; target = of.target; count = c.count ∙ of.count } in
          let under_y : Each (HoldsValue s (slots (top y)) (top x1)) (under s i.place n) =
          each-among (HoldsValue s (slots (top y)) (top x1)) (under s i.place n)
          (λ h among. held-as s (slots (top y)) (record (top x) { registers = c.registers }) (top x1) h refl
          (c.others h (under-registered h among) (among-each (HoldsValue s (slots (top y)) (top x)) (under s i.place n) h held-y among))) in
          let under_z = (under-held (top x1) x1 (top y) equal.heap of1 refl refl).1 under_y in
          let run2 = under_loads place (steps_of s) x1 r s i op n (top z) laid.world laid.planned (near x1 equal.heap of1) stands does own-some over
          (at-step laid x1 r (length (under s i.place n)) (omega arith) of.target refl
          (omega (arith, size, load_size, both, whole, lt)))
          (moves-stand s r ls (loads-move s (under s i.place n))
          (stand-at s (m + 1 + count_of cs) r ls (ap (λ k. m + 1 + k) size) (stand-last s (m + 1) cs ls st))) refl under_z in
          let g = group-is in
          let last : r + length (under s i.place n) ≡ group_at s q' = omega (arith, g, whole, both, size, load_size) in
          let x2 : State Cell = top_at x (place (group_at s q')) c.registers (drop n (top z).stack) in
          let run3 : Runs tagged w (length (under s i.place n)) x1 (running x2) =
          subst (λ k. Runs tagged w (length (under s i.place n)) x1 (running (top_at x1 (place k) c.registers (drop n (top z).stack)))) last run2 in
          let small = moving.few_copies s (After i.place op) q' laid.world laid.planned to-next in
          let low = moving.few_cells s i.place laid.world laid.planned keeps in
          let limit = laid.room in
          let fewer = few-under in
          let frames = equal.frames in
          let x_whole = ap length (frames-are x goes) in
          record {
            count = length (insns cs) + length (under s i.place n);
            more = omega arith;
            fewer = omega (arith, small, low, limit, fewer);
            outcome = running x2;
            runs = runs-then w (length (insns cs)) (length (under s i.place n)) x x1 (running x2) run1 run3;
            comes = record {
              state = x2;
              is = refl;
              are = record {
                first = record { frames = refl };
                second = record { frames = refl };
                equal = record { frames = omega (arith, frames, x_whole); heap = equal.heap; statics = equal.statics };
                group = record {
                  of = record { source = of.source; target = of.target; count = c.count ∙ of.count };
                  at = refl;
                  holds =
                      other-holds laid (top y) (top x2) other
                      (record {
                        stack =
                            ap (drop n) (sym (unmade x equal.heap of-z))
                            ∙ drop-map (renamed_cell (rename s place)) n (top z).stack;
                        locals = λ l.
                            each-among (HoldsValue s (top y).registers (top x2)) (needed s q' l)
                            (λ h among. held-as s (top y).registers (record (top x) { registers = c.registers }) (top x2) h refl
                            (among-each (HoldsValue s (top y).registers (record (top x) { registers = c.registers })) (needed s q' l) h (c.locals l)
                            among));
                      });
                };
              };
            };
          }

      fallen-comes : ComesWithin w 0 1018 x (ComesToGroup s place y x)
      fallen-comes = by (is_leader s q') refl
        where
          by : (b : Bool) → is_leader s q' ≡ b → ComesWithin w 0 1018 x (ComesToGroup s place y x)
          by true e = into-leader e
          by false e = into-other e

  -- ---- the whole group

  next-inside : falls_from op ≡ true → IsPlace (code_at w s.method.number) (place (m + 1))
  next-inside falls =
      let own = steps-here laid i op stands reached does in
      let next = next-of laid i op stands reached does falls in
      let size = own.size in
      let later = next.follows_it in
      let lt = next.inside in
      let b = body-size in
      step-place (code_at w s.method.number) place (steps_of s) (m + 1) (steps-are laid) (omega (arith, size, later, lt, b))

  jump-stands : ItemsStandFrom s m (jump_to i op (labels_of s i op n) ∷ [])
  jump-stands =
      let sp = spill s (stack_homes s i.place) in
      let ls = loads s (operands s i.place n) in
      let jm = jump_to i op (labels_of s i op n) ∷ [] in
      let own = steps-here laid i op stands reached does in
      let st : ItemsStandFrom s (body_at s i.place) ((sp ++ ls) ++ jm) =
      stand-as s (body_at s i.place) (body s i op) ((sp ++ ls) ++ jm) whole-is own.body_steps in
      let a_size = spill-size in
      let b_size = load-size in
      let two = count-append sp ls in
      let e : body_at s i.place + count_of (sp ++ ls) ≡ m = omega (arith, two, a_size, b_size) in
      stand-at s (body_at s i.place + count_of (sp ++ ls)) m jm e (stand-last s (body_at s i.place) (sp ++ ls) jm st)

  -- the source with the operands alone executes the same
  executes-cut : Executes v (cut_state z n) i op
  executes-cut = record {
    method = ex.method;
    fetched = record { runs = omega arith; method = ex.fetched.method; instruction = ex.fetched.instruction };
    resolved = ex.resolved;
  }

  method-same : ex.method ≡ s.method.rec
  method-same = grind (arith, same-method, method-of)

  module _ (group : IsAtGroup s place (top z) (top t)) (equal : AreEqualBut z t) (step : Steps tagged v z o) where
    e : Entered laid moving z t
    e = enters laid moving z t typed equal group

    abbrev u : State Cell
    u = e.state

    goes : IsRunning u
    goes = let same = e.equal.frames in let runs = typed.runs in omega (arith, same, runs)

    ready : IsReady u
    ready =
        readied u e.equal.heap goes e.of (e.at ∙ ap (λ q. place (body_at s q)) here)
        (subst (λ q. HoldsFrame (renamed_cell (rename s place)) s q (top z) (top u)) here e.held)

    abbrev u1 : State Cell
    u1 = top_at u (place m) ready.registers (take n (top z).stack)

    forked : IsForked v z n o
    forked = forks-cut v world decided z o i op n ex some step (no-fault v s o stays)

    abbrev y1 : State Cell
    y1 = with_place (dropped (cut_state z n) n) forked.place

    frames-z : length (top z ∷ other_frames z.frames) ≡ length z.frames
    frames-z = sym (ap length (frames-are z typed.runs))

    fork : (r : Outcome Cell) × Steps tagged w u1 r × ForkComes s place i op n m (cut_state z n) u1 y1 r
    unfolding executes-cut
    fork =
        let frames_u = ap length (frames-are u goes) in
        let frames = e.equal.frames in
        let fz = frames-z in
        let jumping = jumps-on v ex.method i.place i.insn op ex.resolved (jumps-too v op n some) in
        let j = jump-step s i op n m jump-stands _ _ (targets-are s.method.code i jumping) in
        let whole = unmade u e.equal.heap e.of in
        fork-steps laid alike_steps i op n m some stands j
        (leads-inside laid alike_steps decided match moving i op n stands reached does own-some)
        next-inside (cut_state z n) u1 y1 executes-cut
        (record { frames = omega (arith, frames_u, frames, fz); heap = e.equal.heap; statics = e.equal.statics })
        (record { source = typed.method; target = e.of.target; count = ready.same ∙ e.of.count }) here
        (typed.objects_stay (rename s place)) (typed.statics_stay (rename s place)) refl
        (ap (take n) (sym whole) ∙ take-map (renamed_cell (rename s place)) n (top z).stack)
        (λ x. each-among (HoldsValue s (top z).registers (top u1)) (needed s i.place x)
        (λ h among. held-as s (top z).registers (record (top u) { registers = ready.registers }) (top u1) h refl
        (among-each (HoldsValue s (top z).registers (record (top u) { registers = ready.registers })) (needed s i.place x) h (ready.locals x) among)))
        method-same forked.cut

    -- what holds in the target after the branch
    record IsAfter (x : State Cell) : Type 0 where
      loaded : Runs tagged w (e.count + (ready.count + 1)) t (running x)
      moves : MovesTop t x
      equal_y : AreEqualBut (with_place (dropped z n) forked.place) x
      of_y : AreOf s (top (with_place (dropped z n) forked.place)) (top x)
      bare : (top x).stack ≡ []
      kept : Each (HoldsValue s (slots (top z)) (top x)) (stack_homes s i.place)
      locals : HoldsLocals s i.place (top z) (top x)

    after : (x : State Cell) → Steps tagged w u1 (running x) → AfterFork s place i.place (cut_state z n) u1 y1 x → IsAfter x
    after x moved_on a =
        let frames = a.equal.frames in
        let goes_x : x.frames ≡ top x ∷ other_frames t.frames =
        a.second.frames ∙ ap (λ fs. top x ∷ fs) (ap other_frames e.moves.frames) in
        record {
          loaded =
              runs-then w e.count (ready.count + 1) t u (running x) e.runs
              (runs-then w ready.count 1 u u1 (running x) ready.runs (one-step w u1 (running x) moved_on));
          moves = record {
            frames = goes_x;
            heap = a.equal.heap ∙ (sym e.equal.heap ∙ e.moves.heap);
            statics = a.equal.statics ∙ (sym e.equal.statics ∙ e.moves.statics);
          };
          equal_y = record { frames = frames; heap = a.equal.heap; statics = a.equal.statics };
          of_y = record { source = a.of.source; target = a.of.target; count = a.of.count };
          bare = a.stack ∙ ap (map (renamed_cell (rename s place))) (none-left n (top z).stack);
          kept =
              each-among (HoldsValue s (slots (top z)) (top x)) (stack_homes s i.place)
              (λ h among. a.kept (slots (top z)) h
              (held-as s (slots (top z)) (record (top u) { registers = ready.registers }) (top u1) h refl
              (among-each (HoldsValue s (slots (top z)) (record (top u) { registers = ready.registers })) (stack_homes s i.place) h ready.kept among)));
          locals = a.locals;
        }

    finish :
        (r : Outcome Cell)
        → Steps tagged w u1 r
        → ForkComes s place i op n m (cut_state z n) u1 y1 r
        → GroupRuns v w s place z t o
    finish _ moved_on (fork_falls {x = x} a falls at_y at_x) =
        let k = after x moved_on a in
        let one = e.few in
        let two = ready.few in
        stayed forked.place (e.count + (ready.count + 1)) (omega (arith, one, two)) x k.loaded k.moves forked.is k.equal_y k.of_y k.bare k.kept
        k.locals 1018 (omega arith)
        (fallen-comes forked.place (e.count + (ready.count + 1)) (omega (arith, one, two)) x k.loaded k.moves forked.is k.equal_y k.of_y k.bare
        k.kept k.locals falls at_y at_x)
        (omega arith)
    finish _ moved_on (fork_leads j {x = x} a own at_x) =
        let k = after x moved_on a in
        let one = e.few in
        let two = ready.few in
        stayed forked.place (e.count + (ready.count + 1)) (omega (arith, one, two)) x k.loaded k.moves forked.is k.equal_y k.of_y k.bare k.kept
        k.locals 1019 (omega arith)
        (led forked.place (e.count + (ready.count + 1)) (omega (arith, one, two)) x k.loaded k.moves forked.is k.equal_y k.of_y k.bare
        k.kept k.locals j own at_x)
        (omega arith)

    pub over-group : GroupRuns v w s place z t o
    over-group = finish fork.0 fork.1 fork.2
