use Rattle.std.proofs.Common.{◌≤◌, length, ap, arith, subst}
use Rattle.jc_base.specs.Class.{ClassTable}
use Rattle.card_typing.specs.Place.{CatchesAt}
use Rattle.card_verify.specs.Verifier.{method}
use Rattle.card_verify.proofs.Catching.{CaughtBelow, caught-none, next-with, caught-all, caught-some, caught-class, handler-class}
use Rattle.card_verify.proofs.verify.Verifier.caught.Goals as goal

pub handlers-init : goal.handlers-init
handlers-init c = caught-none c.classes-classes.result.now c.args.self.now.subject.rec.now.handlers c.args.place

pub caught_with-class-requires-clause-class : goal.caught_with-class-requires-clause-class
caught_with-class-requires-clause-class c =
    caught-class c.classes-classes.result.now c.args.self.now.subject.rec.now.handlers c.handlers.handler-index c.args.place c.handlers.class
    c.handlers.invariant

pub caught_with-class-requires-clause-handler : goal.caught_with-class-requires-clause-handler
caught_with-class-requires-clause-handler c =
    handler-class c.args.self.now.subject.world.now (method c.args.self.now) c.classes-classes.result.now c.as_slice-handler-items.result.now
    c.handlers.handler-index _ c.classes-classes.ensures.is c.requires.world c.args.self.now.subject.there c.as_slice-handler-items.ensures c.handlers-test.true

pub handlers-preserved : goal.handlers-preserved
handlers-preserved c =
    next-with c.classes-classes.result.now c.args.self.now.subject.rec.now.handlers c.as_slice-handler-items.result.now c.args.place c.handlers.handler-index _
    c.handlers.class c.caught_with-class.result c.as_slice-handler-items.ensures c.handlers-test.true
    (handler-class c.args.self.now.subject.world.now (method c.args.self.now) c.classes-classes.result.now c.as_slice-handler-items.result.now
    c.handlers.handler-index _
    c.classes-classes.ensures.is c.requires.world c.args.self.now.subject.there c.as_slice-handler-items.ensures c.handlers-test.true)
    c.caught_with-class.ensures c.handlers.invariant

pub returns : goal.returns
returns c =
    let t = c.classes-classes.result.now in
    let all : length c.args.self.now.subject.rec.now.handlers ≤ c.handlers.handler-index = omega
    (arith, ap length c.as_slice-handler-items.ensures, c.handlers-test.false) in
    subst (λ (u : ClassTable). CatchesAt u (method c.args.self.now) c.args.place c.in-Some.class) c.classes-classes.ensures.is
    (caught-all t (method c.args.self.now) c.args.place c.handlers.handler-index all c.in-Some.class
    (subst (CaughtBelow t c.args.self.now.subject.rec.now.handlers c.handlers.handler-index c.args.place) c.in-Some.is c.handlers.invariant))

pub unreachable-requires : goal.unreachable-requires
unreachable-requires c =
    let t = c.classes-classes.result.now in
    let all : length c.args.self.now.subject.rec.now.handlers ≤ c.handlers.handler-index = omega
    (arith, ap length c.as_slice-handler-items.ensures, c.handlers-test.false) in
    absurd (caught-some t (method c.args.self.now) c.args.place c.handlers.handler-index all
    (subst (CaughtBelow t c.args.self.now.subject.rec.now.handlers c.handlers.handler-index c.args.place) c.in-None.is c.handlers.invariant) c.requires.entry)
