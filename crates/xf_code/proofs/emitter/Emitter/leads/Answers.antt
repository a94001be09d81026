use Rattle.std.proofs.Common.{◌≡◌, length, All, ap, sym, subst, ◌∙◌, arith}
use Rattle.jc_decode.specs.Listing.{targets}
use Rattle.xf_emission.specs.Jump.{IsNearBy, each_once}
use Rattle.xf_emission.proofs.Ways.{ways-few}
use Rattle.xf_code.proofs.Leading.{ways-all}
use Rattle.xf_code.proofs.emitter.Emitter.leads.Goals as goal

pub put_ways-requires-clause-few : goal.put_ways-requires-clause-few
put_ways-requires-clause-few c =
    let all = targets c.args.self.now.plan.walk.code.bytes.now c.args.fork.placed in
    let is : c.as_slice.result.now ≡ each_once all = c.as_slice.ensures.keys ∙ c.in_ok-ways.ensures in
    omega (arith, ap length is, ways-few all, c.requires.few)

pub put_ways-requires-clause-near : goal.put_ways-requires-clause-near
put_ways-requires-clause-near c =
    let all = targets c.args.self.now.plan.walk.code.bytes.now c.args.fork.placed in
    let is : c.as_slice.result.now ≡ each_once all = c.as_slice.ensures.keys ∙ c.in_ok-ways.ensures in
    subst (All IsNearBy) (sym is) (ways-all IsNearBy all c.requires.places)
