use Rattle.std.proofs.Common.{◌≤◌, length, sym, arith}
use Rattle.std.proofs.lemmas.Bool.{ltb-false}
use Rattle.xf_homes.specs.PlannedMethod.{source}
use Rattle.xf_code.proofs.Reaching.{end-reached}
use Rattle.xf_code.proofs.emitter.Emitter.first_reached.Goals as goal

pub returns-in-None : goal.returns-in-None
returns-in-None c =
    let past : length c.args.self.now.next.now ≤ c.args.place = ltb-false c.args.place (length c.args.self.now.next.now) (sym c.in-None.ensures.lookup.0) in
    sym (end-reached (source c.args.self.now.plan) c.args.place (omega (arith, past, c.args.self.now.reached.size)))
