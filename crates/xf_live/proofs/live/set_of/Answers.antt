use Rattle.std.proofs.Common.{sym, ◌∙◌}
use Rattle.std.proofs.lemmas.List.{get_or_past}
use Rattle.xf_live.specs.Set.{no_registers}
use Rattle.xf_live.proofs.live.set_of.Goals as goal

pub returns-in-None : goal.returns-in-None
returns-in-None c = c.new.ensures.is ∙ sym (get_or_past c.args.sets.now c.args.number no_registers c.in-None.ensures.lookup.3)
