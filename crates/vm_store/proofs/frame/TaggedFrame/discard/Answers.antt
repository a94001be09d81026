use Rattle.std.proofs.Common.{◌≡◌, ◌≤◌, ◌-◌, length, reverse, drop, ap, arith, ◌∙◌}
use Rattle.vm_store.proofs.Stacks.{discarded}
use Rattle.vm_store.proofs.Frames.{restacked}
use Rattle.std.proofs.lemmas.List.{length-reverse}
use Rattle.vm_store.proofs.frame.TaggedFrame.discard.Goals as goal

pub returns : goal.returns
returns c =
    let xs = c.self.inside.stack.items in
    let stack : reverse xs ≡ c.args.self.now.stack = ap (λ f. f.stack) c.self.view_is in
    let few : c.args.count ≤ length xs = omega (arith, length-reverse xs, ap length stack) in
    let left : reverse c.truncate.new.self.items ≡ drop c.args.count (reverse xs) =
    discarded xs c.truncate.new.self.items _ c.args.count few (ap (λ n. n - c.args.count) c.len.ensures.value) c.truncate.ensures.items in
    restacked _ _ _ _ _ _ _ c.self.view_is (left ∙ ap (drop c.args.count) stack)
