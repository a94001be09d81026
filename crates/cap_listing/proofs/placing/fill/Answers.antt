use Rattle.std.proofs.Common.{◌∙◌, false, refl}
use Rattle.cap_listing.proofs.Placed.{fill-step, fill-end}
use Rattle.cap_listing.proofs.placing.fill.Goals as goal

pub flags-preserved : goal.flags-preserved
flags-preserved c =
    fill-step c.args.flags.now c.flags.flag-index _ false c.flags.out.items c.push.new.self.items c.in_ok-element.element c.flags.rest.now
    c.after_first-rest.result.now c.flags-test.true refl c.in_ok-element.ensures c.after_first-rest.ensures c.in_ok-push.ensures.items
    ∙ c.flags.invariant

pub returns : goal.returns
returns c = fill-end c.args.flags.now c.flags.flag-index c.flags.out.items c.flags.rest.now c.flags-test.false ∙ c.flags.invariant
