use Rattle.std.proofs.Common.{sym, ◌∙◌}
use Rattle.jc_link.proofs.Holders.{holds_here}
use Rattle.jc_link.proofs.fields.holder_of.Goals as goal

pub returns-then-holds : goal.returns-then-holds
returns-then-holds c =
    sym (holds_here c.args.sites.now c.args.classes.now c.args.token c.climb.at (sym c.holds.ensures ∙ c.if-holds.true)) ∙ c.climb.invariant.same
