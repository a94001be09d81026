use Rattle.std.proofs.Common.{sym, ◌∙◌}
use Rattle.jc_decode.specs.Instructions.{rest_of}
use Rattle.card_verify.proofs.Ordered.{seeking-found, seeking-next, seeking-none}
use Rattle.card_verify.proofs.acceptance.seek.Goals as goal

pub returns-then-from-place : goal.returns-then-from-place
returns-then-from-place c =
    seeking-found c.args.place (rest_of c.args.left.now) (rest_of c.walk.left) c.in-Some.placed (rest_of c.next.new.self) c.walk.invariant
    c.in-Some.ensures.steps
    (sym c.from.ensures ∙ c.if-from-place.true)

pub walk-preserved : goal.walk-preserved
walk-preserved c =
    seeking-next c.args.place (rest_of c.args.left.now) (rest_of c.walk.left) c.in-Some.placed (rest_of c.next.new.self) c.walk.invariant
    c.in-Some.ensures.steps
    (λ e. c.if-from-place.false (c.from.ensures ∙ e))

pub returns-in-None : goal.returns-in-None
returns-in-None c = seeking-none c.args.place (rest_of c.args.left.now) (rest_of c.walk.left) c.walk.invariant c.in-None.ensures.steps.0
