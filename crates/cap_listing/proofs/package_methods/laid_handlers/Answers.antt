use Rattle.std.proofs.Common.{◌∙◌, ◌++◌, ◌∷◌, [], ◌+◌, ◌-◌, map, take, ap, sym, subst}
use Rattle.std.specs.Prelude.{All}
use Rattle.cap_method.specs.MethodPart.{handlers_left}
use Rattle.jc_resolve.proofs.Parts.{map_step}
use Rattle.cap_listing.specs.Methods.{HasPlaces, laid_handler}
use Rattle.cap_listing.proofs.Counted.{one_more}
use Rattle.cap_listing.proofs.package_methods.laid_handlers.Goals as goal

pub handlers-preserved : goal.handlers-preserved
handlers-preserved c =
    let f = laid_handler c.args.start in
    let pushed = c.in_ok-push.ensures.items ∙ ap (λ x. c.handlers.laid.items ++ x ∷ []) c.laid_handler.ensures.value in (
      ap (λ l. l ++ map f (take (c.args.count - (c.handlers.counter + 1)) (handlers_left c.next.new.self))) pushed
          ∙ sym (map_step f c.handlers.laid.items c.handlers.counter c.args.count c.in-Some.handler (handlers_left c.next.new.self) c.handlers-test.true)
          ∙ ap (λ l. c.handlers.laid.items ++ map f (take (c.args.count - c.handlers.counter) l)) (sym c.in-Some.ensures.steps)
          ∙ c.handlers.invariant.0,
      subst (All HasPlaces) (sym c.in_ok-push.ensures.items)
          (one_more HasPlaces c.handlers.laid.items c.laid_handler.result c.handlers.invariant.1 c.laid_handler.ensures.places),
    )

pub returns-in_default-clause-counted : goal.returns-in_default-clause-counted
returns-in_default-clause-counted c = c.handlers.invariant.1

pub returns-clause-counted : goal.returns-clause-counted
returns-clause-counted c = c.handlers.invariant.1
