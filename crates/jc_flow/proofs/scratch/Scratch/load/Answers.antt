use Rattle.std.proofs.Common.{◌≡◌, ◌≤◌, length, ap, sym, refl, ◌∙◌, arith}
use Rattle.jc_rules.specs.Held.{lent}
use Rattle.jc_flow.specs.Scratch.{Scratched}
use Rattle.std.proofs.lemmas.List.{length-reverse}
use Rattle.jc_flow.proofs.Copies.{copied_frame}
use Rattle.jc_flow.proofs.scratch.Scratch.load.Goals as goal

pub returns : goal.returns
returns c =
    let registers : length c.regs.result.now ≡ length c.self.inside.regs.items = ap length c.regs.ensures ∙ c.requires.registers
    ∙ ap (λ (s : Scratched). length s.frame.regs) (sym c.self.view_is) in
    let old_room : c.args.self.now.room ≡ length c.self.inside.stack.items = ap (λ (s : Scratched). s.room) (sym c.self.view_is) in
    let size : length (lent c.args.state).stack ≡ length c.stack-stack.result.now = ap length c.stack-stack.ensures.is
    ∙ length-reverse c.stack-stack.result.now in
    let room : length c.stack-stack.result.now ≤ length c.self.inside.stack.items = omega (arith, c.requires.room) in
    copied_frame c.regs.result.now c.self.inside.regs.items c.copy.new.to.items c.stack-stack.result.now c.self.inside.stack.items c.copy-2.new.to.items
    (lent c.args.state) (length c.stack-stack.result.now)
    (sym c.regs.ensures) registers c.copy.ensures c.stack-stack.ensures.is c.copy-2.ensures refl room
    ∙ ap (λ n. record { frame = (lent c.args.state); room = n }) (sym old_room)
