use Rattle.std.proofs.Common.{sym, ◌∙◌}
use Rattle.std.proofs.lemmas.Iterator.Adapters.{option_map_id}
use Rattle.std.proofs.lemmas.Iterator.Consumers.{nth_from_yields_List, YieldsList-from_first}
use Rattle.cap_method.specs.MethodPart.{handlers, handlers_left}
use Rattle.cap_method.proofs.method_part.MethodPart.handler.Goals as goal

pub returns : goal.returns
returns c =
    sym (option_map_id c.nth.result) ∙ nth_from_yields_List c.nth.result c.nth.new.self c.args.n c.nth.ensures.ran
    (YieldsList-from_first (λ x. x) handlers_left (handlers c.args.self.now) c.handlers.ensures.table)
