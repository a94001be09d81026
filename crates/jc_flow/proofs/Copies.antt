-- The first cells of a list are those of another.
use Rattle.std.proofs.Common.{◌≡◌, ℕ, ◌≤◌, List, ◌++◌, length, take, drop, reverse, length-append, length-drop, sym, ◌∙◌, ap, arith}
use Rattle.std.proofs.Math.Seq.{take-append_seam}
use Rattle.std.proofs.lemmas.List.{append-nil, drop_all}
use Rattle.jc_base.specs.declared.ty.Ty.{Ty}
use Rattle.jc_rules.specs.Stack.{cells}
use Rattle.jc_rules.specs.Demand.{Frame}
use Rattle.jc_flow.specs.Scratch.{Scratched}

-- registers and a stack that are copied make the frame that they come from
pub copied_frame : (regs old_regs new_regs stack old_stack new_stack : List Ty) (f : Frame) (depth : ℕ) → f.regs ≡ regs
    → length regs ≡ length old_regs → new_regs ≡ regs ++ drop (length regs) old_regs
    → f.stack ≡ reverse stack → new_stack ≡ stack ++ drop (length stack) old_stack → depth ≡ length stack → length stack ≤ length old_stack
    → ◌≡◌ {A = Scratched} (record { frame = record { regs = new_regs; stack = cells new_stack depth }; room = length new_stack })
    (record { frame = f; room = length old_stack })
unfolding cells
copied_frame regs old_regs new_regs stack old_stack new_stack f depth rf rl rn sf sn d sl =
    let now_regs : new_regs ≡ f.regs = rn ∙ ap (λ xs. regs ++ xs) (drop_all (length regs) old_regs (omega arith)) ∙ append-nil regs ∙ sym rf in
    let now_stack : reverse (take depth new_stack) ≡ f.stack = ap (λ n. reverse (take n new_stack)) d ∙ ap (λ xs. reverse (take (length stack) xs)) sn
    ∙ ap reverse (take-append_seam stack (drop (length stack) old_stack)) ∙ sym sf in
    let room : length new_stack ≡ length old_stack = ap length sn ∙ length-append stack (drop (length stack) old_stack)
    ∙ omega (arith, length-drop (length stack) old_stack) in
    let held : List Ty → List Ty → ℕ → Scratched = λ xs ys n. record { frame = record { regs = xs; stack = ys }; room = n } in
    ap (λ xs. held xs (reverse (take depth new_stack)) (length new_stack)) now_regs
    ∙ ap (λ ys. held f.regs ys (length new_stack)) now_stack
    ∙ ap (λ n. held f.regs f.stack n) room
