use Rattle.std.proofs.Common.{◌≡◌, ◌≤◌, ◌-◌, length, reverse, drop, take, ap, sym, ◌∙◌, arith}
use Rattle.std.proofs.lemmas.List.{length-reverse, reverse-reverse, take_rest}
use Rattle.vm_store.specs.State.{arguments}
use Rattle.vm_store.proofs.Stacks.{take-reverse}
use Rattle.vm_store.proofs.frame.TaggedFrame.last.Goals as goal

pub returns : goal.returns
returns c =
    let xs = c.self.inside.stack.items in let n = c.args.count in let ys = c.as_slice-cells.result.now in
    let stack : reverse xs ≡ c.args.self.now.stack = ap (λ f. f.stack) c.self.view_is in
    let few : n ≤ length xs = omega (arith, length-reverse xs, ap length stack) in
    let whole : take (length ys - (length ys - n)) (drop (length ys - n) ys) ≡ drop (length ys - n) ys = take_rest ys (length ys - n) in
    let same : drop (length ys - n) ys ≡ drop (length xs - n) xs = ap (λ zs. drop (length zs - n) zs) c.as_slice-cells.ensures.value in
    let args : arguments n (reverse xs) ≡ drop (length xs - n) xs = ap reverse (take-reverse xs n few) ∙ reverse-reverse (drop (length xs - n) xs) in
    whole ∙ (same ∙ (sym args ∙ ap (arguments n) stack))
