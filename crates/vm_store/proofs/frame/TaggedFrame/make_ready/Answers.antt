use Rattle.std.proofs.Common.{◌≡◌, length, reverse, map, ap, ◌∙◌}
use Rattle.std.proofs.lemmas.List.{length-map}
use Rattle.vm_store.specs.Cells.{made_ready}
use Rattle.vm_store.proofs.Frames.{restacked, refilled}
use Rattle.vm_store.proofs.Stacks.{reverse-map}
use Rattle.vm_store.proofs.frame.TaggedFrame.make_ready.Goals as goal

pub returns : goal.returns
returns c =
    let xs = c.self.inside.stack.items in
    let f = made_ready c.args.place in
    let stack : reverse xs ≡ c.args.self.now.stack = ap (λ f. f.stack) c.self.view_is in
    let now : c.make_ready.new.stack ≡ map f xs = c.make_ready.ensures ∙ ap (map f) c.as_mut_slice.ensures.value in
    let len : length c.make_ready.new.stack ≡ length xs = ap length now ∙ length-map xs f in
    restacked _ _ _ _ _ _ _ c.self.view_is
    (ap reverse (refilled xs c.make_ready.new.stack len ∙ now) ∙ (reverse-map f xs ∙ ap (map f) stack))
