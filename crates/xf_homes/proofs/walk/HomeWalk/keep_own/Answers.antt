use Rattle.std.proofs.Common.{sym, ◌∙◌}
use Rattle.xf_homes.specs.Walk.{local_of}
use Rattle.xf_homes.specs.Subject.{frames_of}
use Rattle.xf_homes.proofs.Asking.{same-kept}
use Rattle.xf_homes.proofs.walk.HomeWalk.keep_own.Goals as goal

pub returns-then-same_value : goal.returns-then-same_value
returns-then-same_value c =
    let s = c.args.self.now in
    let value = local_of (frames_of s c.args.place) c.args.x in
    let is = sym c.local-value.ensures ∙ (c.same_value.ensures c.if-same_value.true ∙ c.last_local.ensures) in
    same-kept (frames_of s) c.args.homes.now.keys c.args.last c.args.x value is c.requires
