-- The way over an edge that ends with a goto: the stack goes into homes, locals are copied, and control goes to the group of a leader.
use Rattle.std.proofs.Common.{◌≡◌, ℕ, ◌+◌, ◌<◌, ◌≤◌, true, List, [], ◌∷◌, ◌++◌, length}
use Rattle.std.proofs.Common.{refl, sym, ap, ◌∙◌, subst, arith}
use Rattle.std.specs.Prelude.{Some, is_some, slice_get}
use Rattle.std.proofs.lemmas.List.{length-reverse}
use Rattle.jc_base.specs.Each.{Each}
use Rattle.jc_base.specs.World.{Linked}
use Rattle.jc_decode.specs.Listing.{listing}
use Rattle.jc_decode.specs.Standing.{AreSteps}
use Rattle.jc_decode.specs.Symbols.{jump, place_of}
use Rattle.jc_control.specs.Control.{IsReached}
use Rattle.vm_store.specs.declared.cell.Cell.{Cell}
use Rattle.vm_store.specs.Cells.{tagged}
use Rattle.vm_store.specs.State.{State, Frame, IsRunning, top}
use Rattle.vm_step.specs.Methods.{code_at}
use Rattle.vm_step.specs.Raising.{running}
use Rattle.vm_step.specs.Run.{Runs, stands as none_taken, steps as after_step}
use Rattle.xf_homes.specs.declared.home.Home.{Home}
use Rattle.xf_homes.specs.Source.{Source}
use Rattle.xf_homes.specs.Plan.{stack_homes, is_leader}
use Rattle.xf_emission.specs.declared.origin.Origin.{Origin}
use Rattle.xf_emission.specs.Edge.{copies}
use Rattle.xf_emission.specs.Emission.{items}
use Rattle.xf_emission.specs.Jump.{goto}
use Rattle.xf_emission.specs.Move.{spill}
use Rattle.xf_emission.specs.Mnemonics.{goto_w}
use Rattle.law_rewritten_typing.specs.Edges.{LeadsTo}
use Rattle.law_homes.specs.Edges.{HoldsBefore, insns, top_at}
use Rattle.law_homes.specs.Held.{HoldsValue, Waits, slots}
use Rattle.law_homes.proofs.Beside.{each-among, among-each, held-as}
use Rattle.law_groups.specs.Laid.{IsLaidIn, body_at, count_of, group_at, steps_of}
use Rattle.law_groups.specs.Beside.{AreEqualBut, AreOf, IsTypedAt, MovesTop}
use Rattle.law_groups.specs.Comes.{ComesToGroup, ComesWithin}
use Rattle.law_groups.specs.Steps.{ItemsStandFrom}
use Rattle.law_groups.specs.Moves.{MovesRun}
use Rattle.law_groups.proofs.Arriving.{IsLocal, at-step, beside, kept-registers, leader-holds, leader-keeps, runs-then}
use Rattle.law_groups.proofs.Context.{here-at, reached-some, steps-are, target-at}
use Rattle.law_groups.proofs.Following.{body-inside}
use Rattle.law_groups.proofs.Leading.{goto-steps}
use Rattle.law_groups.proofs.Moving.{copies-move, count-moves, moves-stand, spill-count, spill-moves}
use Rattle.law_groups.proofs.Plain.{frames-are}
use Rattle.law_groups.proofs.Placing.{count-append}
use Rattle.law_groups.proofs.Standing.{stand-at, stand-first, stand-inside, stand-last, step-at}

module _ {v w : Linked} {s : Source} {place : ℕ → ℕ} (laid : IsLaidIn v w s place) where
  -- the group of a reached place has a step
  pub group-inside : (q : ℕ) → IsReached s.method q → group_at s q < length (steps_of s)
  group-inside q reached =
      let some = reached-some laid q reached in
      let h = here-at laid q some in
      let also : is_some (s.frames h.instruction.place) ≡ true = ap (λ p. is_some (s.frames p)) h.at ∙ some in
      let lt = subst (λ p. body_at s p < length (steps_of s)) h.at
      (body-inside laid h.instruction h.op h.stands also h.does) in
      omega (arith, lt)

module _ {v w : Linked} {s : Source} {place : ℕ → ℕ} (laid : IsLaidIn v w s place) (moving : MovesRun v) where
  module _
      (y u : State Cell) (o : Origin) (typed : IsTypedAt v s y) (equal : AreEqualBut y u) (of : AreOf s (top y) (top u))
      (leader : is_leader s (top y).place ≡ true) (leads : LeadsTo s o (top y).place) where
    abbrev q : ℕ
    q = (top y).place

    running-too : IsRunning u
    running-too = let same = equal.frames in let some = typed.runs in omega (arith, same, some)

    abbrev arrived : List Cell → State Cell
    arrived registers = top_at u (place (group_at s q)) registers []

    -- the target's frames once it is at the group
    arrives :
        (least most n : ℕ) (registers : List Cell)
        → least ≤ n
        → n ≤ most
        → Runs tagged w n u (running (arrived registers))
        → length registers ≡ length (top u).registers
        → Waits s q (top y) (top (arrived registers))
        → ComesWithin w least most u (ComesToGroup s place y u)
    arrives least most n registers some small run count waits = grind (arith, frames-are, running-too, leader-holds)

    -- from a state whose stack stands in homes: the copies, and the goto
    pub edge-goes :
        (m : ℕ)
        → ItemsStandFrom s m (copies s o q ++ goto q ∷ [])
        → (top u).place ≡ place m
        → (top u).stack ≡ []
        → Each (HoldsValue s (slots (top y)) (top u)) (stack_homes s q)
        → HoldsBefore s o q (top y) (top u)
        → ComesWithin w 1 511 u (ComesToGroup s place y u)
    edge-goes m st at bare held before =
        let cs = copies s o q in
        let moves = copies-move s o q in
        let size : count_of cs ≡ length (insns cs) = count-moves cs moves in
        let all = stand-inside s m (cs ++ goto q ∷ []) st in
        let both = count-append cs (goto q ∷ []) in
        let one : count_of (goto q ∷ []) ≡ 1 = refl in
        let n : ℕ = m + length (insns cs) in
        let depth = ap length bare in
        let c = moving.edges w laid.new place (steps_of s) u m s o q (top y) laid.world laid.planned
        (beside laid y u typed equal.heap of) leads
        (at-step laid u m (length (insns cs)) running-too of.target at (omega (arith, size, all, both, one)))
        (moves-stand s m cs moves (stand-first s m cs (goto q ∷ []) st)) (omega (arith, depth)) before in
        let u1 : State Cell = top_at u (place n) c.registers [] in
        let first : Runs tagged w (length (insns cs)) u (running u1) =
        subst (λ stack. Runs tagged w (length (insns cs)) u (running (top_at u (place n) c.registers stack))) bare c.runs in
        let rest : ItemsStandFrom s n (goto q ∷ []) =
        stand-at s (m + count_of cs) n (goto q ∷ []) (ap (λ k. m + k) size) (stand-last s m cs (goto q ∷ []) st) in
        let found : slice_get (steps_of s) n ≡ Some (record { insn = jump goto_w; targets = group_at s q ∷ []; keys = [] }) =
        step-at s n (goto q) [] (record { insn = jump goto_w; targets = place_of q (items s) ∷ []; keys = [] }) [] rest refl in
        let method : (top u1).method ≡ s.method.number = of.target in
        let jumped = goto-steps w laid.new place (steps_of s) u1 laid.code.target.rec n (group_at s q) (omega arith)
        (ap (slice_get w.methods) method ∙ target-at laid)
        (subst (λ k. AreSteps (code_at w k) place 0 (steps_of s) (listing (code_at w k))) (sym method) (steps-are laid))
        found refl (group-inside laid q typed.reached) (omega arith) in
        let second : Runs tagged w 1 u1 (running (arrived c.registers)) = after_step jumped none_taken in
        let small = moving.few_copies s o q laid.world laid.planned leads in
        arrives 1 511 (length (insns cs) + 1) c.registers (omega arith) (omega (arith, small))
        (runs-then w (length (insns cs)) 1 u u1 (running (arrived c.registers)) first second) c.count
        (record {
          stack = refl;
          cells =
              each-among (HoldsValue s (slots (top y)) (top (arrived c.registers))) (stack_homes s q)
              (λ h among. held-as s (slots (top y)) (record (top u) { registers = c.registers }) (top (arrived c.registers)) h refl
              (c.others h
              (kept-registers laid moving.fill q h (leader-keeps laid q leader) typed.reached among)
              (among-each (HoldsValue s (slots (top y)) (top u)) (stack_homes s q) h held among)));
          locals = grind (arith, each-among, held-as, among-each);
        })

-- after so many steps of the target alone
pub comes-later :
    (w : Linked) (s : Source) (place : ℕ → ℕ) (y t u : State Cell) (n least most total : ℕ)
    → Runs tagged w n t (running u)
    → MovesTop t u
    → n + most ≤ total
    → ComesWithin w least most u (ComesToGroup s place y u)
    → ComesWithin w least total t (ComesToGroup s place y t)
comes-later w s place y t u n least most total first moves few c = grind (arith, runs-then)

module _
    {v w : Linked} {s : Source} {place : ℕ → ℕ} (laid : IsLaidIn v w s place) (moving : MovesRun v)
    (y u : State Cell) (o : Origin) (typed : IsTypedAt v s y) (equal : AreEqualBut y u) (of : AreOf s (top y) (top u))
    (leader : is_leader s (top y).place ≡ true) (leads : LeadsTo s o (top y).place) where
  -- from a state whose stack is the source's: first it goes into homes
  pub spilled-goes :
      (m : ℕ)
      → ItemsStandFrom s m (spill s (stack_homes s (top y).place) ++ (copies s o (top y).place ++ goto (top y).place ∷ []))
      → (top u).place ≡ place m
      → (top u).stack ≡ (top y).stack
      → ((k : Frame Cell)
      → ((h : Home) → IsLocal laid moving.needs h → HoldsValue s (top y).registers (top u) h → HoldsValue s (top y).registers k h)
      → HoldsBefore s o (top y).place (top y) k)
      → ComesWithin w 1 766 u (ComesToGroup s place y u)
  spilled-goes m st at same before =
      let q : ℕ = (top y).place in
      let sp = spill s (stack_homes s q) in
      let more = copies s o q ++ goto q ∷ [] in
      let moves = spill-moves s (stack_homes s q) in
      let size : count_of sp ≡ length (stack_homes s q) =
      count-moves sp moves ∙ (spill-count s (stack_homes s q) ∙ length-reverse (stack_homes s q)) in
      let all = stand-inside s m (sp ++ more) st in
      let both = count-append sp more in
      let some = count-append (copies s o q) (goto q ∷ []) in
      let one : count_of (goto q ∷ []) ≡ 1 = refl in
      let frames = equal.frames in
      let some_frames = typed.runs in
      let goes : IsRunning u = omega (arith, frames, some_frames) in
      let keeps = leader-keeps laid q leader in
      let a = moving.spills w laid.new place (steps_of s) u m s q (top y) laid.world laid.planned (beside laid y u typed equal.heap of) keeps
      (at-step laid u m (length (stack_homes s q)) goes of.target at (omega (arith, size, all, both, some, one)))
      (moves-stand s m sp moves (stand-first s m sp more st)) same in
      let n : ℕ = m + length (stack_homes s q) in
      let u1 : State Cell = top_at u (place n) a.registers [] in
      let whole = ap length (frames-are u goes) in
      let equal1 : AreEqualBut y u1 = record { frames = omega (arith, whole, frames); heap = equal.heap; statics = equal.statics } in
      let of1 : AreOf s (top y) (top u1) =
      record { source = of.source; target = of.target; count = a.count ∙ of.count } in
      let low = moving.few_cells s q laid.world laid.planned keeps in
      let limit = laid.room in
      comes-later w s place y u u1 (length (stack_homes s q)) 1 511 766 a.runs (record { frames = refl; heap = refl; statics = refl })
      (omega (arith, low, limit))
      (edge-goes laid moving y u1 o typed equal1 of1 leader leads
      n (stand-at s (m + count_of sp) n more (ap (λ k. m + k) size) (stand-last s m sp more st)) refl refl
      (each-among (HoldsValue s (slots (top y)) (top u1)) (stack_homes s q)
      (λ h among. held-as s (slots (top y)) (record (top u) { registers = a.registers }) (top u1) h refl
      (among-each (HoldsValue s (slots (top y)) (record (top u) { registers = a.registers })) (stack_homes s q) h a.cells among)))
      (before (top u1)
      (λ h known held. held-as s (top y).registers (record (top u) { registers = a.registers }) (top u1) h refl
      (a.others (top y).registers h known.has known.slot held))))
