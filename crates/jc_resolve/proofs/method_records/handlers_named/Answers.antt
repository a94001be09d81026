use Rattle.std.proofs.Common.{◌∙◌, ◌++◌, ◌∷◌, [], ◌+◌, ◌-◌, map, take, ap, sym}
use Rattle.cap_method.specs.MethodPart.{handlers_left}
use Rattle.jc_resolve.specs.Homes.{handler_at}
use Rattle.jc_resolve.proofs.Parts.{map_step}
use Rattle.jc_resolve.proofs.method_records.handlers_named.Goals as goal

pub handlers-preserved : goal.handlers-preserved
handlers-preserved c =
    let f = handler_at c.args.home c.args.code_at in
    let pushed = c.in_ok-push-in-Some.ensures.items ∙ ap (λ x. c.handlers.named.items ++ x ∷ []) c.handler_named.ensures in
    ap (λ l. l ++ map f (take (c.args.count - (c.handlers.counter + 1)) (handlers_left c.next.new.self))) pushed
    ∙ sym (map_step f c.handlers.named.items c.handlers.counter c.args.count c.in-Some.handler (handlers_left c.next.new.self) c.handlers-test.true)
    ∙ ap (λ l. c.handlers.named.items ++ map f (take (c.args.count - c.handlers.counter) l)) (sym c.in-Some.ensures.steps)
    ∙ c.handlers.invariant
