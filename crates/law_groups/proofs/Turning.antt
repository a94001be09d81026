-- A goto: the stack goes into the homes of its target, locals are copied, and control goes there.
use Rattle.std.proofs.Common.{◌≡◌, ℕ, true, List, [], ◌∷◌, ◌++◌, length, refl, ap}
use Rattle.std.proofs.Common.{◌∙◌, subst, arith}
use Rattle.std.specs.Prelude.{ℤ, pos, All, Contains}
use Rattle.std.proofs.lemmas.Bool.{false≢true}
use Rattle.jc_base.specs.Each.{Each}
use Rattle.jc_base.specs.World.{Linked}
use Rattle.jc_base.proofs.Eaching.{Each-weaker}
use Rattle.jc_decode.specs.declared.insn.Case.{Case}
use Rattle.jc_decode.specs.declared.insn.Placed.{Placed}
use Rattle.jc_decode.specs.Listing.{jumps, target, targets}
use Rattle.jc_control.specs.Control.{IsReached, jumped, led_to}
use Rattle.jc_control.specs.WellFormed.{IsTargetPlace}
use Rattle.jc_ops.specs.declared.operation.Branch.TheVariants.{Always}
use Rattle.jc_ops.specs.declared.operation.Operation.TheVariants as ops
use Rattle.jc_ops.specs.Sound.{OperationsAreDecided}
use Rattle.law_sound.proofs.Going.{jumps-on}
use Rattle.vm_store.specs.declared.cell.Cell.{Cell}
use Rattle.vm_store.specs.Cells.{tagged}
use Rattle.vm_store.specs.State.{State, other_frames, top, with_place}
use Rattle.vm_step.specs.Numbers.{dropped}
use Rattle.vm_step.specs.Raising.{Outcome, running}
use Rattle.vm_step.specs.Settled.{fault_target, jumps_to}
use Rattle.vm_step.specs.Step.{Steps, performed, performs}
use Rattle.vm_step.specs.Tests.{fault_before}
use Rattle.vm_step.proofs.Running.{steps-one}
use Rattle.law_erasure.specs.Erasure.{IsNoFault}
use Rattle.law_alike.specs.Running.{Executes}
use Rattle.law_alike.proofs.Settling.{unless-none}
use Rattle.xf_homes.specs.Source.{Source}
use Rattle.xf_homes.specs.Plan.{stack_homes, is_leader, needed}
use Rattle.xf_emission.specs.declared.origin.Origin.TheVariants.{After}
use Rattle.xf_emission.specs.Edge.{copies}
use Rattle.xf_emission.specs.Group.{body, first_place, gone}
use Rattle.xf_emission.specs.Jump.{goto}
use Rattle.xf_emission.specs.Move.{spill}
use Rattle.law_rewritten_typing.specs.Edges.{leads_after}
use Rattle.law_sound.proofs.Branches.{targets-are}
use Rattle.law_homes.specs.Edges.{HoldsAfter}
use Rattle.law_homes.specs.Held.{HoldsValue}
use Rattle.law_groups.specs.Laid.{IsLaidIn, body_at, rename}
use Rattle.law_groups.specs.Beside.{AreEqualBut, AreOf, IsAtGroup, IsTypedAt, StaysTyped}
use Rattle.law_groups.specs.Comes.{GroupRuns}
use Rattle.law_groups.specs.Steps.{ItemsStandFrom}
use Rattle.law_groups.specs.Moves.{MovesRun}
use Rattle.law_groups.proofs.Arriving.{beside, leader-keeps, still-after}
use Rattle.law_groups.proofs.Context.{some-reached, typing-of}
use Rattle.law_groups.proofs.Entering.{enters}
use Rattle.law_groups.proofs.Following.{steps-here}
use Rattle.law_groups.proofs.Going.{spilled-goes}
use Rattle.law_groups.proofs.OneGroup.{no-fault, stays-on, turn-by}
use Rattle.law_groups.proofs.Plain.{frames-are}
use Rattle.law_groups.proofs.Standing.{stand-as}

-- ---- where a goto of the source leads

-- the first target of a jump, which is a place of the code
pub record LeadsThere (code : List ℕ) (i : Placed) : Type 0 where
  pub place : ℕ
  pub operand : target i.place i.insn.x ≡ pos place
  pub first : first_place (targets code i) ≡ place
  pub among : Contains (targets code i) (pos place)

first-there :
    (code : List ℕ) (i : Placed) (cs : List Case)
    → (to : ℤ)
    → IsTargetPlace code to
    → (q : ℕ) × (to ≡ pos q)
first-there code i cs u is = grind (arith)

pub leads-there : (code : List ℕ) (i : Placed) → jumps i.insn.op ≡ true → All (IsTargetPlace code) (targets code i) → LeadsThere code i
leads-there code i jumping all = grind (arith, targets-are, first-there)

-- ---- the group

module _
    {v w : Linked} {s : Source} {place : ℕ → ℕ} (laid : IsLaidIn v w s place)
    (decided : OperationsAreDecided v) (moving : MovesRun v) where
  goes-there :
      (z : State Cell) (o : Outcome Cell) (i : Placed)
      → Executes v z i (ops.Branch Always)
      → Steps tagged v z o
      → IsNoFault o
      → (q : ℕ)
      → target (top z).place i.insn.x ≡ pos q
      → o ≡ running (with_place (dropped z 0) q)
  goes-there z o i ex step fine q to =
      let op = ops.Branch Always in
      let is : o ≡ performed tagged v i op z =
      steps-one tagged v decided z o (performed tagged v i op z) step (performs ex.fetched op ex.resolved refl) in
      let leads : Outcome Cell = jumps_to tagged v (target (top z).place i.insn.x) (dropped z 0) in
      let passed = unless-none z (fault_before tagged v op z) leads (subst IsNoFault is fine) in
      let own : leads ≡ jumps_to tagged v (pos q) (dropped z 0) = ap (λ k. jumps_to tagged v k (dropped z 0)) to in
      let last = unless-none (dropped z 0) (fault_target tagged v (dropped z 0) (pos q)) (running (with_place (dropped z 0) q))
      (subst IsNoFault (is ∙ (passed.1 ∙ own)) fine) in
      is ∙ (passed.1 ∙ (own ∙ last.1))

  pub goto-group :
      (z t : State Cell) (o : Outcome Cell) (i : Placed)
      → IsTypedAt v s z
      → IsAtGroup s place (top z) (top t)
      → AreEqualBut z t
      → Steps tagged v z o
      → StaysTyped v s o
      → Executes v z i (ops.Branch Always)
      → GroupRuns v w s place z t o
  unfolding turn-by body
  goto-group z t o i typed group equal step stays ex =
      let op = ops.Branch Always in
      let turn = turn-by laid z typed i op ex in
      let e = enters laid moving z t typed equal group in
      let u = e.state in
      let own = steps-here laid i op turn.stands turn.reached turn.does in
      let jumping = jumps-on v ex.method i.place i.insn op ex.resolved refl in
      let there = leads-there s.method.code i jumping ((typing-of laid).formed.targets i turn.stands) in
      let q = there.place in
      let to : target (top z).place i.insn.x ≡ pos q = ap (λ p. target p i.insn.x) turn.here ∙ there.operand in
      let y : State Cell = with_place (dropped z 0) q in
      let is : o ≡ running y = goes-there z o i ex step (no-fault v s o stays) q to in
      let typed_y : IsTypedAt v s y = (subst (StaysTyped v s) is stays) (omega arith) typed.method in
      let from_p : IsReached s.method i.place = some-reached laid i.place turn.reached in
      let leader : is_leader s q ≡ true = (laid.planned.leaders q).1 (led_to turn.stands from_p there.among) in
      let leads = leads_after turn.stands from_p turn.does (jumped there.among) in
      let whole = ap length (frames-are z typed.runs) in
      let frames = e.equal.frames in
      let equal_y : AreEqualBut y u =
      record { frames = omega (arith, whole, frames); heap = e.equal.heap; statics = e.equal.statics } in
      let of_y : AreOf s (top y) (top u) = record { source = e.of.source; target = e.of.target; count = e.of.count } in
      let near = beside laid y u typed_y equal_y.heap of_y in
      let same : (top u).stack ≡ (top y).stack =
      e.held.stack ∙ moving.stay w laid.new s q (top y) u (rename s place) laid.world laid.planned near (leader-keeps laid q leader) in
      let st : ItemsStandFrom s (body_at s i.place) (spill s (stack_homes s q) ++ (copies s (After i.place op) q ++ goto q ∷ [])) =
      stand-as s (body_at s i.place) (body s i op) (spill s (stack_homes s q) ++ (copies s (After i.place op) q ++ goto q ∷ []))
      (ap (gone s i.place op) there.first) own.body_steps in
      let first : HoldsAfter s i.place op q (top y) (top u) =
      record {
        stored = λ x k. absurd (false≢true k);
        others = λ x.
            Each-weaker (HoldsValue s (top z).registers (top u)) _ (λ h held free. held) (needed s i.place x)
            (subst (λ p. Each (HoldsValue s (top z).registers (top u)) (needed s p x)) turn.here (e.held.locals x));
      } in
      let c = spilled-goes laid moving y u (After i.place op) typed_y
      equal_y of_y leader leads (body_at s i.place) st (e.at ∙ ap (λ p. place (body_at s p)) turn.here) same
      (λ k keeps. still-after laid moving.needs i.place q op (top y) (top u) k from_p typed_y.reached keeps first) in
      let few = e.few in
      let more = c.more in
      let fewer = c.fewer in
      stays-on y u e.count is (record { frames = refl }) e.runs (ap other_frames e.moves.frames) c (omega (arith, more))
      (omega (arith, few, fewer))
