-- A group: the loads of a leader, the steps for the instruction, and the way into the next place.
use Rattle.std.proofs.Common.{◌≡◌, ℕ, ◌+◌, ◌≤◌, true, [], ◌∷◌, length, refl, sym}
use Rattle.std.proofs.Common.{ap, ◌∙◌, subst, arith}
use Rattle.std.specs.Prelude.{Some, None, Ok, is_some, slice_get}
use Rattle.jc_base.specs.World.{Linked}
use Rattle.jc_base.specs.declared.record.MethodRec.{MethodRec}
use Rattle.jc_decode.specs.declared.insn.Placed.{Placed}
use Rattle.jc_control.specs.WellFormed.{HasInstruction}
use Rattle.jc_ops.specs.declared.operation.Operation.{Operation}
use Rattle.jc_ops.specs.Next.{falls_from}
use Rattle.jc_ops.specs.Resolve.{Resolves}
use Rattle.law_sound.proofs.Places.{instruction-there}
use Rattle.vm_store.specs.declared.cell.Cell.{Cell}
use Rattle.vm_store.specs.Cells.{tagged}
use Rattle.vm_store.specs.State.{State, IsRunning, other_frames, top, without_top}
use Rattle.vm_step.specs.Methods.{code_at}
use Rattle.vm_step.specs.Raising.{Outcome, running}
use Rattle.vm_step.specs.Run.{Runs}
use Rattle.vm_step.specs.Settled.{given_to}
use Rattle.vm_step.specs.Step.{Steps, misplaced, performs, unresolved}
use Rattle.law_erasure.specs.Erasure.{IsNoFault}
use Rattle.law_alike.specs.Alike.{renamed_cell}
use Rattle.law_alike.specs.Running.{Executes}
use Rattle.xf_homes.specs.Walk.{operands_of}
use Rattle.xf_homes.specs.Source.{Source}
use Rattle.xf_homes.specs.Plan.{operation}
use Rattle.xf_emission.specs.Group.{fall, fallen}
use Rattle.law_homes.specs.Held.{HoldsFrame}
use Rattle.law_groups.specs.Laid.{IsLaidIn, body_at, rename}
use Rattle.law_groups.specs.Beside.{AreEqualBut, IsAtGroup, IsTypedAt, MovesTop, SameUnder, StaysTyped}
use Rattle.law_groups.specs.Comes.{AreAtGroup, ComesToGroup, ComesWithin, GroupComes, GroupRuns, group_calls, group_ends, group_gives}
use Rattle.law_groups.specs.Comes.{group_leaves, group_raises, group_stays, group_throws}
use Rattle.law_groups.specs.Body.{AreAtBody, BodyComes, BodyRuns, body_done, body_falls}
use Rattle.law_groups.specs.Moves.{MovesRun}
use Rattle.law_groups.proofs.Arriving.{falls-arrive, runs-then}
use Rattle.law_groups.proofs.Context.{method-of, reached-some, source-code}
use Rattle.law_groups.proofs.Entering.{enters}

-- ---- the instruction of the source

pub no-fault : (v : Linked) (s : Source) (o : Outcome Cell) → StaysTyped v s o → IsNoFault o
no-fault v s z h = grind (arith)

pub same-method : (a b : MethodRec) → Some a ≡ Some b → a ≡ b
same-method a b e = cc

module _ {v w : Linked} {s : Source} {place : ℕ → ℕ} (laid : IsLaidIn v w s place) where
  -- a typed state that takes a step executes the operation of an instruction of the method
  pub record Turn (z : State Cell) : Type 0 where
    pub instruction : Placed
    pub op : Operation
    pub executes : Executes v z instruction op
    pub stands : HasInstruction s.method.code instruction
    pub here : (top z).place ≡ instruction.place
    pub reached : is_some (s.frames instruction.place) ≡ true
    pub does : operation s instruction ≡ Ok op

  unfoldable pub turn-by : (z : State Cell) → IsTypedAt v s z → (i : Placed) (op : Operation) → Executes v z i op → Turn z
  turn-by z typed i op ex =
      let code : code_at v (top z).method ≡ s.method.code = ap (code_at v) typed.method ∙ source-code laid in
      let there = instruction-there (code_at v (top z).method) (top z).place i ex.fetched.instruction in
      let method : ex.method ≡ s.method.rec =
      same-method ex.method s.method.rec
      (sym ex.fetched.method ∙ (ap (slice_get v.methods) typed.method ∙ (method-of laid).rec)) in
      record {
        instruction = i;
        op = op;
        executes = ex;
        stands = subst (λ c. HasInstruction c i) code there.stands;
        here = sym there.at;
        reached = ap (λ p. is_some (s.frames p)) there.at ∙ reached-some laid (top z).place typed.reached;
        does =
            sym (subst (λ u. Resolves u s.method.rec i.place i.insn (Ok op)) (sym laid.world)
            (subst (λ m. Resolves v m i.place i.insn (Ok op)) method ex.resolved));
      }

  pub turn-of : (z : State Cell) (o : Outcome Cell) → IsTypedAt v s z → Steps tagged v z o → StaysTyped v s o → Turn z
  turn-of z _ typed (misplaced checks runs none) stays = absurd stays
  turn-of z _ typed (unresolved checks fetched fault resolves) stays = absurd stays
  turn-of z o typed (performs {m = m} {i = i} fetched op resolves is) stays =
      turn-by z typed i op (record { method = m; fetched = fetched; resolved = resolves })

  -- ---- after steps of the target alone

  module _ (z t u : State Cell) (moves : MovesTop t u) where
    same-under : other_frames u.frames ≡ other_frames t.frames
    same-under = ap other_frames moves.frames

    under-too : (y : State Cell) → SameUnder u y → SameUnder t y
    under-too y same = record { frames = same.frames ∙ ap (λ fs. top y ∷ fs) same-under }

    dropped-same : without_top u ≡ without_top t
    dropped-same = grind (arith, same-under)

    moved-on : (y : State Cell) → MovesTop u y → MovesTop t y
    moved-on y more = grind (arith, same-under)

    pub comes-too : {o p : Outcome Cell} → GroupComes v w s place z u o p → GroupComes v w s place z t o p
    comes-too (group_calls c) = group_calls (record {
      instruction = c.instruction;
      op = c.op;
      executes = c.executes;
      method = c.method;
      count = c.count;
      source = c.source;
      target = c.target;
      first = c.first;
      second = under-too c.target c.second;
      equal = c.equal;
      handed = c.handed;
      waits = c.waits;
      acts = c.acts;
      enters = c.enters;
      too = c.too;
    })
    comes-too (group_gives value cells plain gives too) =
        group_gives value cells plain gives (too ∙ ap (given_to tagged w value cells) dropped-same)
    comes-too (group_raises exception y within raises too) =
        group_raises exception y (record { moves = moved-on y within.moves; within = within.within }) raises too
    comes-too (group_throws handle y within throws too) =
        group_throws handle y (record { moves = moved-on y within.moves; within = within.within }) throws too
    comes-too (group_ends ending y) = group_ends ending y

    pub at-group-too : (y x : State Cell) → AreAtGroup s place z u y x → AreAtGroup s place z t y x
    at-group-too y x a = record { first = a.first; second = under-too x a.second; equal = a.equal; group = a.group }

-- ---- after steps of both

module _
    {v w : Linked} {s : Source} {place : ℕ → ℕ} {z t : State Cell} {o : Outcome Cell} (y u : State Cell) (before : ℕ)
    (is : o ≡ running y) (first : SameUnder z y) (run : Runs tagged w before t (running u))
    (same : other_frames u.frames ≡ other_frames t.frames) where
  -- the source stays in the method, and the target goes on to the group of its place
  pub stays-on :
      {least most : ℕ}
      → (c : ComesWithin w least most u (ComesToGroup s place y u))
      → 1 ≤ before + c.count
      → before + c.count ≤ 2000
      → GroupRuns v w s place z t o
  stays-on c some few =
      group_stays y is (record {
        count = before + c.count;
        more = some;
        fewer = few;
        outcome = c.outcome;
        runs = runs-then w before c.count t u c.outcome run c.runs;
        comes = grind (arith);
      })

-- ---- where the operation is no branch

pub fallen-plain :
    (s : Source) (i : Placed) (op : Operation)
    → falls_from op ≡ true
    → operands_of s.world (Ok op) ≡ None
    → fallen s i op ≡ fall s i.place op (i.place + i.insn.len)
unfolding fallen
fallen-plain s i op falls none = grind (arith)

module _ {v w : Linked} {s : Source} {place : ℕ → ℕ} (laid : IsLaidIn v w s place) (moving : MovesRun v) where
  module _
      (i : Placed) (op : Operation) (z t u : State Cell) (before : AreAtBody v w s place i op z u)
      (none : operands_of s.world (Ok op) ≡ None)
      (loads : ℕ) (few : loads ≤ 255) (loaded : Runs tagged w loads t (running u)) (moves : MovesTop t u) where
    finish :
        (n : ℕ)
        → 1 ≤ n
        → n ≤ 600
        → (o p : Outcome Cell)
        → StaysTyped v s o
        → Runs tagged w n u p
        → BodyComes v w s place i op z u o p
        → GroupRuns v w s place z t o
    finish n some small o p typed run (body_done c) =
        group_leaves (record {
          count = loads + n;
          more = omega (arith, some);
          fewer = omega (arith, few, small);
          outcome = p;
          runs = runs-then w loads n t u p loaded run;
          comes = comes-too laid z t u moves c;
        })
    finish n some small _ _ typed run (body_falls {y = y} {u = x} after falls here at) =
        let going : IsRunning y = let e = ap length after.first.frames in omega (arith, e) in
        let a = falls-arrive laid moving i op z u y x
        before.stands before.reached before.does falls after (typed going after.of.source) here at
        (fallen-plain s i op falls none) in
        let most = a.few in
        group_stays y refl (record {
          count = loads + (n + a.count);
          more = omega (arith, some);
          fewer = omega (arith, few, small, most);
          outcome = running a.state;
          runs = grind (arith, runs-then);
          comes = (a.state, refl, at-group-too laid z t u moves y a.state a.are);
        })

  -- a group whose instruction is no branch
  pub straight-group :
      (z t : State Cell) (o : Outcome Cell)
      → IsTypedAt v s z
      → IsAtGroup s place (top z) (top t)
      → AreEqualBut z t
      → StaysTyped v s o
      → (turn : Turn laid z)
      → operands_of s.world (Ok turn.op) ≡ None
      → ((u : State Cell) → AreAtBody v w s place turn.instruction turn.op z u → BodyRuns v w s place turn.instruction turn.op z u o)
      → GroupRuns v w s place z t o
  straight-group z t o typed group equal stays turn none body =
      let e = enters laid moving z t typed equal group in
      let there = turn.here in
      let before : AreAtBody v w s place turn.instruction turn.op z e.state =
      record {
        executes = turn.executes;
        stands = turn.stands;
        reached = turn.reached;
        does = turn.does;
        typed = typed;
        equal = e.equal;
        of = e.of;
        here = there;
        at = e.at ∙ ap (λ p. place (body_at s p)) there;
        held = subst (λ p. HoldsFrame (renamed_cell (rename s place)) s p (top z) (top e.state)) there e.held;
      } in
      let b = body e.state before in
      finish turn.instruction turn.op z t e.state before none e.count e.few e.runs e.moves b.count b.more b.fewer o b.outcome stays
      b.runs b.comes
