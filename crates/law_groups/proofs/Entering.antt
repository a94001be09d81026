-- At the beginning of its group a leader puts its stack back; then the source is held.
use Rattle.std.proofs.Common.{◌≡◌, ℕ, ◌+◌, ◌<◌, ◌≤◌, Bool, true, false, if◌then◌else◌, [], length, refl}
use Rattle.std.proofs.Common.{sym, ap, ◌∙◌, subst, arith}
use Rattle.std.specs.Prelude.{is_some}
use Rattle.jc_base.specs.World.{Linked}
use Rattle.vm_store.specs.declared.cell.Cell.{Cell}
use Rattle.vm_store.specs.Cells.{tagged}
use Rattle.vm_store.specs.State.{State, IsRunning, top}
use Rattle.vm_step.specs.Raising.{running}
use Rattle.vm_step.specs.Run.{Runs, stands as none_taken}
use Rattle.law_alike.specs.Alike.{renamed_cell}
use Rattle.xf_homes.specs.Source.{Source}
use Rattle.xf_homes.specs.Plan.{stack_homes, is_leader, needed}
use Rattle.xf_emission.specs.Move.{loads}
use Rattle.law_homes.specs.Edges.{top_at}
use Rattle.law_homes.specs.Held.{HoldsFrame, HoldsValue, Waits}
use Rattle.law_homes.proofs.Beside.{each-among, among-each, held-as}
use Rattle.law_groups.specs.Laid.{IsLaidIn, body_at, group_at, loaded_at, rename, steps_of}
use Rattle.law_groups.specs.Beside.{AreEqualBut, AreOf, HeldOrWaits, IsAtGroup, IsTypedAt, MovesTop}
use Rattle.law_groups.specs.Steps.{ItemsStandFrom}
use Rattle.law_groups.specs.Moves.{MovesRun}
use Rattle.law_groups.proofs.Arriving.{at-step, beside, leader-keeps}
use Rattle.law_groups.proofs.Context.{Here, here-at, reached-some}
use Rattle.law_groups.proofs.Following.{body-inside, steps-here}
use Rattle.law_groups.proofs.Moving.{loads-move, moves-stand}
use Rattle.law_groups.proofs.Plain.{frames-are}

module _ {v w : Linked} {s : Source} {place : ℕ → ℕ} (laid : IsLaidIn v w s place) (moving : MovesRun v) where
  -- the target at the first step after the loads
  pub record Entered (z t : State Cell) : Type 0 where
    pub count : ℕ
    pub few : count ≤ 255
    pub state : State Cell
    pub runs : Runs tagged w count t (running state)
    pub moves : MovesTop t state
    pub equal : AreEqualBut z state
    pub of : AreOf s (top z) (top state)
    pub at : (top state).place ≡ place (body_at s (top z).place)
    pub held : HoldsFrame (renamed_cell (rename s place)) s (top z).place (top z) (top state)

  module _
      (z t : State Cell) (typed : IsTypedAt v s z) (equal : AreEqualBut z t) (group : IsAtGroup s place (top z) (top t)) where
    abbrev q : ℕ
    q = (top z).place

    runs_too : IsRunning t
    runs_too = let same = equal.frames in let some = typed.runs in omega (arith, same, some)

    here : Here laid q
    here = here-at laid q (reached-some laid q typed.reached)

    also : is_some (s.frames here.instruction.place) ≡ true
    also = ap (λ p. is_some (s.frames p)) here.at ∙ reached-some laid q typed.reached

    inside : body_at s q < length (steps_of s)
    inside =
        subst (λ p. body_at s p < length (steps_of s)) here.at
        (body-inside laid here.instruction here.op here.stands also here.does)

    load-steps : ItemsStandFrom s (group_at s q) (loads s (loaded_at s q))
    load-steps = grind (arith, steps-here laid here.instruction here.op here.stands also here.does)

    leader-enters : is_leader s q ≡ true → Entered z t
    leader-enters e =
        let hs = stack_homes s q in
        let are : loaded_at s q ≡ hs = ap (λ b. if b then hs else []) e in
        let waits : Waits s q (top z) (top t) = subst (λ b. HeldOrWaits b s place (top z) (top t)) e group.holds in
        let near = beside laid z t typed equal.heap group.of in
        let keeps = leader-keeps laid q e in
        let st : ItemsStandFrom s (group_at s q) (loads s hs) =
        subst (λ ks. ItemsStandFrom s (group_at s q) (loads s ks)) are load-steps in
        let size = ap length are in
        let lt = inside in
        let run = moving.loading w laid.new place (steps_of s) t (group_at s q) s q (top z) laid.world laid.planned near keeps
        (at-step laid t (group_at s q) (length hs) runs_too group.of.target group.at (omega (arith, size, lt)))
        (moves-stand s (group_at s q) (loads s hs) (loads-move s hs) st) waits in
        let u : State Cell = top_at t (place (group_at s q + length hs)) (top t).registers (top z).stack in
        let whole = ap length (frames-are t runs_too) in
        let same = equal.frames in
        let low = moving.few_cells s q laid.world laid.planned keeps in
        let limit = laid.room in
        record {
          count = length hs;
          few = omega (arith, low, limit);
          state = u;
          runs = run;
          moves = record { frames = refl; heap = refl; statics = refl };
          equal = record { frames = omega (arith, whole, same); heap = equal.heap; statics = equal.statics };
          of = record { source = group.of.source; target = group.of.target; count = group.of.count };
          at = ap (λ ks. place (group_at s q + length ks)) (sym are);
          held = record {
            stack = sym (moving.stay w laid.new s q (top z) t (rename s place) laid.world laid.planned near keeps);
            locals = λ x.
                each-among (HoldsValue s (top z).registers (top u)) (needed s q x)
                (λ h among. held-as s (top z).registers (top t) (top u) h refl
                (among-each (HoldsValue s (top z).registers (top t)) (needed s q x) h (waits.locals x) among));
          };
        }

    other-enters : is_leader s q ≡ false → Entered z t
    other-enters e =
        let are : loaded_at s q ≡ [] = ap (λ b. if b then stack_homes s q else []) e in
        let none : group_at s q + 0 ≡ group_at s q = omega arith in
        let here_too : body_at s q ≡ group_at s q = ap (λ ks. group_at s q + length ks) are ∙ none in
        record {
          count = 0;
          few = omega arith;
          state = t;
          runs = none_taken;
          moves = record { frames = frames-are t runs_too; heap = refl; statics = refl };
          equal = equal;
          of = group.of;
          at = group.at ∙ ap place (sym here_too);
          held = subst (λ b. HeldOrWaits b s place (top z) (top t)) e group.holds;
        }

    pub enters : Entered z t
    enters = by (is_leader s q) refl
      where
        by : (b : Bool) → is_leader s q ≡ b → Entered z t
        by true e = leader-enters e
        by false e = other-enters e
