use Rattle.std.proofs.Common.{◌≡◌, ℕ, ◌+◌, ◌-◌, List, length, reverse, take, drop, get_or, ap, ◌∙◌, arith}
use Rattle.vm_store.specs.State.{Frame, rotated}
use Rattle.vm_offend.specs.Words.{frame_in}
use Rattle.vm_offend.proofs.Windows.{length-stack, restacked}
use Rattle.vm_offend.proofs.window.rotate.Goals as goal

pub returns-clause-frame : goal.returns-clause-frame
returns-clause-frame c =
    let methods = c.args.world.now.methods in let ws = c.args.window.now in let d = get_or ws 2 0 in
    let size : 258 + d - 258 ≡ d = omega arith in
    let part : take (258 + d - 258) (drop 258 ws) ≡ take d (drop 258 ws) = ap (λ n. take n (drop 258 ws)) size in
    let len : length c.rotate_cells.new.stack ≡ d = c.rotate_cells.auto.stack
    ∙ (ap length part ∙ length-stack methods ws c.requires.len c.requires.fits) in
    let turned : reverse c.rotate_cells.new.stack ≡ rotated c.args.count c.args.by (reverse (take d (drop 258 ws))) =
    c.rotate_cells.ensures ∙ ap (λ xs. rotated c.args.count c.args.by (reverse xs)) part in
    let put : List ℕ → Frame ℕ = λ s. record (frame_in methods ws) { stack = s } in
    restacked methods ws c.requires.len c.requires.fits c.rotate_cells.new.stack _ len ∙ ap put turned
