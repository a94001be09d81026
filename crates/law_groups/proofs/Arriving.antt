-- After its instruction, a group goes on into that of the next place: the stack goes into homes where that is a leader, and locals are
-- copied.
use Rattle.std.proofs.Common.{◌≡◌, ℕ, suc, ◌+◌, ◌<◌, ◌≤◌, Bool, true, false, if◌then◌else◌, inl, List, []}
use Rattle.std.proofs.Common.{◌++◌, length, refl, sym, ap, ◌∙◌, subst, arith}
use Rattle.std.specs.Prelude.{Option, Some, None, Ok, IfSome, IsSomeAnd, is_some, slice_get}
use Rattle.std.proofs.lemmas.List.{length-map, length-reverse}
use Rattle.jc_base.specs.declared.ty.Ty.TheVariants.{Top}
use Rattle.jc_base.specs.Each.{IsAmong}
use Rattle.jc_base.specs.World.{Linked}
use Rattle.jc_decode.specs.declared.insn.Placed.{Placed}
use Rattle.jc_control.specs.Control.{IsReached, falls_through}
use Rattle.jc_control.specs.WellFormed.{HasInstruction}
use Rattle.jc_ops.specs.declared.operation.Operation.{Operation}
use Rattle.jc_ops.specs.Next.{falls_from}
use Rattle.jc_rules.specs.Demand.{Frame as Types}
use Rattle.jc_rules.specs.Flow.{FrameBelow, IsFit}
use Rattle.law_sound.proofs.Going.{goes-on}
use Rattle.vm_store.specs.declared.cell.Cell.{Cell}
use Rattle.vm_store.specs.Cells.{tagged}
use Rattle.vm_store.specs.Objects.{kinds}
use Rattle.vm_store.specs.State.{State, Frame, IsRunning, other_frames, top}
use Rattle.vm_step.specs.Raising.{Outcome, running}
use Rattle.vm_step.specs.Run.{Runs}
use Rattle.vm_step.proofs.Running.{continues-on}
use Rattle.law_sound.specs.Frames.{least_types, types_of_frame}
use Rattle.law_alike.specs.Alike.{renamed_cell}
use Rattle.xf_homes.specs.declared.home.Home.{Home}
use Rattle.xf_homes.specs.Home.{KeepsStack, register_count}
use Rattle.xf_homes.specs.Laws.{HasRegister}
use Rattle.xf_homes.specs.Value.{type_width}
use Rattle.xf_homes.proofs.Meeting.{value-inside}
use Rattle.xf_homes.specs.Source.{Source}
use Rattle.xf_homes.specs.Plan.{stack_homes, is_leader, needed, operation}
use Rattle.xf_emission.specs.declared.origin.Origin.TheVariants.{After}
use Rattle.xf_emission.specs.Edge.{copies, is_stored}
use Rattle.xf_emission.specs.Move.{spill}
use Rattle.xf_emission.specs.Group.{body, fall, fallen}
use Rattle.law_rewritten_typing.specs.Planned.{KeepsValues}
use Rattle.law_rewritten_typing.specs.Edges.{CellsFillStack, LeadsTo, NeededHaveHomes, leads_after}
use Rattle.law_homes.specs.Edges.{HoldsAfter, IsBeside, insns, top_at}
use Rattle.law_homes.specs.Held.{HoldsFrame, HoldsValue, Waits, slots}
use Rattle.law_homes.specs.Moves.{IsAtStep}
use Rattle.law_homes.proofs.Beside.{each-among, among-each, held-as}
use Rattle.law_groups.specs.Laid.{IsLaidIn, body_at, count_of, group_at, rename, steps_of}
use Rattle.law_groups.specs.Beside.{AreOf, HeldOrWaits, IsTypedAt}
use Rattle.law_groups.specs.Comes.{AreAtGroup}
use Rattle.law_groups.specs.Body.{AreAfter}
use Rattle.law_groups.specs.Steps.{ItemsStandFrom}
use Rattle.law_groups.specs.Moves.{MovesRun}
use Rattle.law_groups.proofs.Context.{steps-are, target-at, target-room, typing-of}
use Rattle.law_groups.proofs.Following.{Next, next-of, steps-here}
use Rattle.law_groups.proofs.Moving.{copies-move, count-moves, moves-stand, spill-count, spill-moves}
use Rattle.law_groups.proofs.Placing.{count-append}
use Rattle.law_groups.proofs.Standing.{stand-as, stand-at, stand-first, stand-last}
use Rattle.jc_rules.proofs.CellLists.{cells-length}

-- one run after another
pub runs-then :
    (w : Linked) (n m : ℕ) (t u : State Cell) (o : Outcome Cell)
    → Runs tagged w n t (running u)
    → Runs tagged w m u o
    → Runs tagged w (n + m) t o
runs-then w n m t u o first more = continues-on tagged w n m (running t) (running u) o first more

module _ {v w : Linked} {s : Source} {place : ℕ → ℕ} (laid : IsLaidIn v w s place) where
  -- ---- where the target stands

  -- at a step of its code
  pub at-step :
      (t : State Cell) (n count : ℕ)
      → IsRunning t
      → (top t).method ≡ s.method.number
      → (top t).place ≡ place n
      → n + count < length (steps_of s)
      → IsAtStep w place (steps_of s) t n count
  at-step t n count runs method at further = record {
    runs = runs;
    method = laid.code.target.rec;
    is_method = ap (slice_get w.methods) method ∙ target-at laid;
    are = grind (arith, steps-are laid);
    at = at;
    further = further;
  }

  -- beside a typed state of the source
  pub beside :
      (z t : State Cell)
      → IsTypedAt v s z
      → t.heap ≡ z.heap
      → AreOf s (top z) (top t)
      → IsBeside w s (top z).place (top z) t
  beside z t typed heap of = grind (arith, target-room laid)

  -- the depth of a typed stack
  pub depth-fits : (z : State Cell) → IsTypedAt v s z → length (top z).stack ≤ s.method.rec.max_stack
  depth-fits z typed = by (s.frames (top z).place) ((typing-of laid).fit (top z).place typed.reached) typed.below
    where
      by :
          (o : Option Types)
          → IsSomeAnd o (IsFit s.method)
          → IsSomeAnd o (FrameBelow v.classes (types_of_frame v.classes Top (kinds z) (top z)))
          → length (top z).stack ≤ s.method.rec.max_stack
      by None fit below = absurd fit
      by (Some f) fit below =
          let one = cells-length v.classes below.stack in
          let two : length (least_types v.classes Top (kinds z) (top z).stack) ≡ length (top z).stack = length-map (top z).stack _ in
          let room = fit.room in
          omega (arith, one, two, room)

  -- a leader keeps its stack
  pub leader-keeps : (q : ℕ) → is_leader s q ≡ true → KeepsStack s.world s.method s.frames q
  leader-keeps q e = inl ((laid.planned.leaders q).0 e)

  pub leader-holds :
      (f g : Frame Cell) → is_leader s f.place ≡ true → Waits s f.place f g → HeldOrWaits (is_leader s f.place) s place f g
  leader-holds f g e h = subst (λ b. HeldOrWaits b s place f g) (sym e) h

  pub other-holds :
      (f g : Frame Cell)
      → is_leader s f.place ≡ false
      → HoldsFrame (renamed_cell (rename s place)) s f.place f g
      → HeldOrWaits (is_leader s f.place) s place f g
  other-holds f g e h = subst (λ b. HeldOrWaits b s place f g) (sym e) h

  -- ---- what holds after a spill

  module _ (needs : NeededHaveHomes v) where
    -- a home that is needed at a reached place has registers, at a local's slot
    pub record IsLocal (h : Home) : Type 0 where
      pub has : HasRegister s.homes h
      pub slot : h.slot < register_count s.method.rec

    pub needed-local : (p x : ℕ) (h : Home) → IsReached s.method p → IsAmong h (needed s p x) → IsLocal h
    needed-local p x h reached among = by (s.frames p) refl ((laid.planned.frames.reached p).1 reached)
      where
        by : (o : Option Types) → s.frames p ≡ o → is_some o ≡ true → IsLocal h
        by None e some = absurd (cc)
        by (Some f) e some =
            let n = needs s laid.world laid.planned p x f h e among in
            let inside = value-inside n.types h.slot h.ty n.value in
            let same = cells-length s.world.classes n.above in
            let count : length f.regs ≡ register_count s.method.rec =
            subst (λ o. IfSome o (λ (g : Types). length g.regs ≡ register_count s.method.rec)) e (laid.planned.registers p) in
            record { has = n.keeps.has; slot = omega (arith, inside, same, count) }

    -- what homes of locals hold, they hold in a frame that holds no less
    pub still-after :
        (p q : ℕ) (op : Operation) (f g k : Frame Cell)
        → IsReached s.method p
        → IsReached s.method q
        → ((h : Home) → IsLocal h → HoldsValue s f.registers g h → HoldsValue s f.registers k h)
        → HoldsAfter s p op q f g
        → HoldsAfter s p op q f k
    still-after p q op f g k from_p to_q more holds = record {
      stored = λ x e.
          each-among (HoldsValue s f.registers k) (needed s q x)
          (λ h among. more h (needed-local q x h to_q among)
          (among-each (HoldsValue s f.registers g) (needed s q x) h (holds.stored x e) among));
      others = λ x.
          each-among (λ h. ((j : ℕ) → j < type_width h.ty → is_stored op (h.slot + j) ≡ false) → HoldsValue s f.registers k h) (needed s p x)
          (λ h among free. more h (needed-local p x h from_p among)
          (among-each (λ h. ((j : ℕ) → j < type_width h.ty → is_stored op (h.slot + j) ≡ false) → HoldsValue s f.registers g h)
          (needed s p x) h (holds.others x) among free));
    }

module _ {v w : Linked} {s : Source} {place : ℕ → ℕ} (laid : IsLaidIn v w s place) (fill : CellsFillStack v) where
  -- the homes of a stack that is kept have registers
  pub kept-registers :
      (q : ℕ) (h : Home)
      → KeepsStack s.world s.method s.frames q
      → IsReached s.method q
      → IsAmong h (stack_homes s q)
      → HasRegister s.homes h
  kept-registers q h keeps reached among = by (s.frames q) refl ((laid.planned.frames.reached q).1 reached)
    where
      by : (o : Option Types) → s.frames q ≡ o → is_some o ≡ true → HasRegister s.homes h
      by None e some = absurd (cc)
      by (Some f) e some =
          let k = fill s laid.world laid.planned q f e keeps in
          (among-each (KeepsValues s) (stack_homes s q) h k.keep among).has

-- ---- falling

module _ {v w : Linked} {s : Source} {place : ℕ → ℕ} (laid : IsLaidIn v w s place) (moving : MovesRun v) where
  -- so many steps lead from a state to the group of the place of y
  pub record Arrives (z t y u : State Cell) (most : ℕ) : Type 0 where
    pub count : ℕ
    pub few : count ≤ most
    pub state : State Cell
    pub runs : Runs tagged w count u (running state)
    pub are : AreAtGroup s place z t y state

  module _
      (i : Placed) (op : Operation) (z t y u : State Cell)
      (stands : HasInstruction s.method.code i) (reached : is_some (s.frames i.place) ≡ true) (does : operation s i ≡ Ok op)
      (falls : falls_from op ≡ true) (after : AreAfter s place i.place op z t y u) (typed : IsTypedAt v s y)
      (here : (top y).place ≡ i.place + i.insn.len)
      (at : (top u).place ≡ place (body_at s i.place + count_of (body s i op)))
      (so : fallen s i op ≡ fall s i.place op (i.place + i.insn.len)) where
    abbrev q : ℕ
    q = (top y).place

    abbrev m : ℕ
    m = body_at s i.place + count_of (body s i op)

    next : Next laid i
    next = next-of laid i op stands reached does falls

    -- the group after these steps
    group-is : group_at s q ≡ m + count_of (fallen s i op)
    group-is =
        let own = steps-here laid i op stands reached does in
        let size = own.size in
        let later = next.follows_it in
        let same : group_at s q ≡ group_at s next.instruction.place = ap (group_at s) (here ∙ sym next.at) in
        omega (arith, size, later, same)

    inside : m + count_of (fallen s i op) < length (steps_of s)
    inside =
        let same : group_at s q ≡ group_at s next.instruction.place = ap (group_at s) (here ∙ sym next.at) in
        let lt = next.inside in
        let is = group-is in
        omega (arith, same, lt, is)

    fallen-is : fallen s i op ≡ fall s i.place op q
    fallen-is = so ∙ ap (fall s i.place op) (sym here)

    -- the frames under the one on top are those of t
    under : other_frames u.frames ≡ other_frames t.frames
    under = ap other_frames after.second.frames

    runs : IsRunning u
    runs = let e = ap length after.second.frames in omega (arith, e)

    depth : suc (length (other_frames u.frames)) ≡ length y.frames
    depth = grind (arith)

    leads : LeadsTo s (After i.place op) q
    leads =
        subst (LeadsTo s (After i.place op)) (sym here)
        (leads_after stands ((laid.planned.frames.reached i.place).0 reached) does
        (falls_through (goes-on s.world s.method.rec i.place i.insn op (sym does) falls)))

    abbrev arrived : List Cell → List Cell → State Cell
    arrived registers stack = top_at u (place (group_at s q)) registers stack

    -- at the group, with these registers and this stack
    arrives :
        (n : ℕ) (registers stack : List Cell)
        → n ≤ 765
        → Runs tagged w n u (running (arrived registers stack))
        → length registers ≡ length (top u).registers
        → HeldOrWaits (is_leader s q) s place (top y) (top (arrived registers stack))
        → Arrives z t y u 765
    arrives n registers stack small run count holds = record {
      count = n;
      few = small;
      state = arrived registers stack;
      runs = run;
      are = grind (arith);
    }

    -- into a place that is no leader, the copies alone
    plain-falls : is_leader s q ≡ false → Arrives z t y u 765
    plain-falls e =
        let cs = copies s (After i.place op) q in
        let is : fallen s i op ≡ cs = fallen-is ∙ ap (λ b. (if b then spill s (stack_homes s q) else []) ++ cs) e in
        let own = steps-here laid i op stands reached does in
        let st : ItemsStandFrom s m cs = stand-as s m (fallen s i op) cs is own.fallen_steps in
        let moves = copies-move s (After i.place op) q in
        let size : count_of cs ≡ length (insns cs) = count-moves cs moves in
        let all = ap count_of is in
        let within = inside in
        let depth_is : length (top u).stack ≡ length (top y).stack =
        ap length after.stack ∙ length-map (top y).stack (renamed_cell (rename s place)) in
        let fits = depth-fits laid y typed in
        let c = moving.edges w laid.new place (steps_of s) u m s (After i.place op) q (top y) laid.world laid.planned
        (beside laid y u typed after.equal.heap after.of) leads
        (at-step laid u m (length (insns cs)) runs after.of.target at (omega (arith, size, all, within)))
        (moves-stand s m cs moves st) (omega (arith, depth_is, fits)) after.holds in
        let last : m + length (insns cs) ≡ group_at s q = let g = group-is in omega (arith, g, all, size) in
        let run : Runs tagged w (length (insns cs)) u (running (arrived c.registers (top u).stack)) =
        subst (λ k. Runs tagged w (length (insns cs)) u (running (top_at u (place k) c.registers (top u).stack))) last c.runs in
        let small = moving.few_copies s (After i.place op) q laid.world laid.planned leads in
        arrives (length (insns cs)) c.registers (top u).stack (omega (arith, small)) run c.count
        (other-holds laid (top y) (top (arrived c.registers (top u).stack)) e
        (record {
          stack = after.stack;
          locals = grind (arith, each-among, held-as, among-each);
        }))

    -- into a leader the stack goes into homes first
    leader-falls : is_leader s q ≡ true → Arrives z t y u 765
    leader-falls e =
        let cs = copies s (After i.place op) q in
        let sp = spill s (stack_homes s q) in
        let is : fallen s i op ≡ sp ++ cs = fallen-is ∙ ap (λ b. (if b then sp else []) ++ cs) e in
        let own = steps-here laid i op stands reached does in
        let whole : ItemsStandFrom s m (sp ++ cs) = stand-as s m (fallen s i op) (sp ++ cs) is own.fallen_steps in
        let moves = copies-move s (After i.place op) q in
        let first_moves = spill-moves s (stack_homes s q) in
        let size : count_of cs ≡ length (insns cs) = count-moves cs moves in
        let first_size : count_of sp ≡ length (stack_homes s q) =
        count-moves sp first_moves ∙ (spill-count s (stack_homes s q) ∙ length-reverse (stack_homes s q)) in
        let all = ap count_of is in
        let both = count-append sp cs in
        let within = inside in
        let keeps = leader-keeps laid q e in
        let near = beside laid y u typed after.equal.heap after.of in
        let bare : (top u).stack ≡ (top y).stack =
        after.stack ∙ moving.stay w laid.new s q (top y) u (rename s place) laid.world laid.planned near keeps in
        let a = moving.spills w laid.new place (steps_of s) u m s q (top y) laid.world laid.planned near keeps
        (at-step laid u m (length (stack_homes s q)) runs after.of.target at (omega (arith, size, first_size, all, both, within)))
        (moves-stand s m sp first_moves (stand-first s m sp cs whole)) bare in
        let n : ℕ = m + length (stack_homes s q) in
        let u1 : State Cell = top_at u (place n) a.registers [] in
        let of1 : AreOf s (top y) (top u1) =
        record { source = after.of.source; target = after.of.target; count = a.count ∙ after.of.count } in
        let from_p : IsReached s.method i.place = (laid.planned.frames.reached i.place).0 reached in
        let holds1 : HoldsAfter s i.place op q (top y) (top u1) =
        still-after laid moving.needs i.place q op (top y) (top u) (top u1) from_p typed.reached
        (λ h known held. held-as s (top y).registers (record (top u) { registers = a.registers }) (top u1) h refl
        (a.others (top y).registers h known.has known.slot held)) after.holds in
        let rest : ItemsStandFrom s n cs =
        stand-at s (m + count_of sp) n cs (ap (λ k. m + k) first_size) (stand-last s m sp cs whole) in
        let c = moving.edges w laid.new place (steps_of s) u1 n s (After i.place op) q (top y) laid.world laid.planned
        (beside laid y u1 typed after.equal.heap of1) leads
        (at-step laid u1 n (length (insns cs)) (omega arith) after.of.target refl
        (omega (arith, size, first_size, all, both, within)))
        (moves-stand s n cs moves rest) (omega arith) holds1 in
        let last : n + length (insns cs) ≡ group_at s q = let g = group-is in omega (arith, g, all, both, size, first_size) in
        let second : Runs tagged w (length (insns cs)) u1 (running (arrived c.registers [])) =
        subst (λ k. Runs tagged w (length (insns cs)) u1 (running (top_at u1 (place k) c.registers []))) last c.runs in
        let run = runs-then w (length (stack_homes s q)) (length (insns cs)) u u1 (running (arrived c.registers [])) a.runs second in
        let small = moving.few_copies s (After i.place op) q laid.world laid.planned leads in
        let low = moving.few_cells s q laid.world laid.planned keeps in
        let limit = laid.room in
        arrives (length (stack_homes s q) + length (insns cs)) c.registers [] (omega (arith, small, low, limit)) run (c.count ∙ a.count)
        (leader-holds laid (top y) (top (arrived c.registers [])) e
        (record {
          stack = refl;
          cells =
              each-among (HoldsValue s (slots (top y)) (top (arrived c.registers []))) (stack_homes s q)
              (λ h among. held-as s (slots (top y)) (record (top u1) { registers = c.registers }) (top (arrived c.registers [])) h refl
              (c.others h (kept-registers laid moving.fill q h (leader-keeps laid q e) typed.reached among)
              (held-as s (slots (top y)) (record (top u) { registers = a.registers }) (top u1) h refl
              (among-each (HoldsValue s (slots (top y)) (record (top u) { registers = a.registers })) (stack_homes s q) h a.cells among))));
          locals = grind (arith, each-among, held-as, among-each);
        }))

    pub falls-arrive : Arrives z t y u 765
    falls-arrive = by (is_leader s q) refl
      where
        by : (b : Bool) → is_leader s q ≡ b → Arrives z t y u 765
        by true e = leader-falls e
        by false e = plain-falls e
