use Rattle.std.proofs.Common.{◌+◌, ◌<◌, length, arith}
use Rattle.card_verify.proofs.Answering.{accepted-more}
use Rattle.card_verify.proofs.Totals.{cost-more, cost-within-all}
use Rattle.card_verify.proofs.Tallies.{counts-none, counts-by, count-most}
use Rattle.card_verify.proofs.acceptance.accept_counted.Goals as goal

pub methods-init : goal.methods-init
methods-init g c =
    record {
      accepted = λ n lt. absurd (omega (arith, lt));
      counted = counts-none c.args.world.now;
      most = omega arith;
      inside = omega arith;
      cost = λ digits short. omega arith;
    }

pub methods-preserved : goal.methods-preserved
methods-preserved g c = record {
  accepted = accepted-more c.args.world.now c.methods.method c.methods.invariant.accepted c.in-Ok.ensures.accepted;
  counted =
      counts-by c.args.world.now c.methods.method c.methods.by_index c.methods.invariant.counted c.in-Ok.by c.from-by_index.result c.from-by_index.ensures
      c.in-Ok.ensures.by_index;
  cost =
      λ digits short. cost-more c.args.world.now digits c.methods.method c.args.steps.now c.methods.steps c.verify_counted.new.steps
      (c.methods.invariant.cost digits short)
      (c.verify_counted.ensures.cost digits (short c.methods.method (omega (arith, c.methods-test.true, c.method_count-method-end.ensures.is))));
  inside = omega (arith, c.methods-test.true, c.method_count-method-end.ensures.is);
  most = count-most c.methods.method c.methods.by_index c.methods.invariant.most c.in-Ok.by c.from-by_index.result c.from-by_index.ensures;
}

pub returns-in-Err-clause-refused : goal.returns-in-Err-clause-refused
returns-in-Err-clause-refused g c = record { before = c.methods.invariant.accepted; here = c.in-Err.ensures.refused }

pub returns-in-Err-clause-cost : goal.returns-in-Err-clause-cost
returns-in-Err-clause-cost g c = λ digits short.
    let inside : c.methods.method < length c.args.world.now.methods = omega (arith, c.methods-test.true, c.method_count-method-end.ensures.is) in
    let so_far = cost-more c.args.world.now digits c.methods.method c.args.steps.now c.methods.steps c.verify_counted.new.steps
    (c.methods.invariant.cost digits short) (c.verify_counted.ensures.cost digits (short c.methods.method inside)) in
    cost-within-all c.args.world.now digits (c.methods.method + 1) c.args.steps.now c.verify_counted.new.steps (omega (arith, inside)) so_far

pub returns-clause-cost : goal.returns-clause-cost
returns-clause-cost g c =
    λ digits short. cost-within-all c.args.world.now digits c.methods.method c.args.steps.now c.methods.steps c.methods.invariant.inside
    (c.methods.invariant.cost digits short)
