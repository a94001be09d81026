use Rattle.std.proofs.Common.{◌∙◌}
use Rattle.jc_link.proofs.Counted.{named_counted}
use Rattle.jc_link.proofs.catches.handlers_fit.Goals as goal

pub handlers_catch-least-requires-clause-count : goal.handlers_catch-least-requires-clause-count
handlers_catch-least-requires-clause-count c = c.requires.count ∙ named_counted c.args.names.now c.facts.ensures.classes
