use Rattle.std.proofs.Common.{◌≡◌, ◌<◌, ◌+◌, length, get_or, set, ap, ◌∙◌, arith}
use Rattle.vm_store.specs.declared.cell.Cell.{Cell}
use Rattle.vm_store.specs.State.{Frame, no_frame, arguments}
use Rattle.vm_store.specs.Calls.{begun, relieved}
use Rattle.vm_store.proofs.Frames.{set_neighbours, read_before}
use Rattle.vm_store.proofs.frame.call.Goals as goal

pub returns : goal.returns
returns c =
    let xs = c.args.frames.now in let n = c.args.caller in
    let before = c.split_at_mut-callers.result.0.now in let after = c.split_at_mut-callers.result.1.now in
    let f : Frame Cell = get_or xs n no_frame in
    let lt : n < length before = omega (arith, c.split_at_mut-callers.ensures.front_len) in
    let here : get_or before n c.index-callers-caller.result ≡ f =
    read_before xs before after n c.index-callers-caller.result no_frame c.split_at_mut-callers.ensures.value lt in
    let caller : c.discard.new.self ≡ relieved f c.args.count = c.discard.ensures ∙ ap (λ g. relieved g c.args.count) here in
    let args : c.last.result.now ≡ arguments c.args.count f.stack = c.last.ensures ∙ ap (λ g. arguments c.args.count g.stack) here in
    let callee : c.enter.new.self ≡ begun c.args.method c.args.registers (arguments c.args.count f.stack) =
    c.enter.ensures ∙ ap (begun c.args.method c.args.registers) args in
    set_neighbours xs before after n c.discard.new.self c.enter.new.self c.split_at_mut-callers.ensures.value c.split_at_mut-callers.ensures.front_len
    ∙ (ap (λ v. set (set xs n v) (n + 1) c.enter.new.self) caller ∙ ap (set (set xs n (relieved f c.args.count)) (n + 1)) callee)
