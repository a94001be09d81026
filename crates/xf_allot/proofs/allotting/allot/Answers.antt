use Rattle.std.proofs.Common.{◌≡◌, ℕ, drop, length, ap, arith, rules, subst}
use Rattle.xf_allot.specs.declared.allotting.Allotment.{Allotment}
use Rattle.xf_allot.specs.Allotting.{Gives}
use Rattle.jc_control.specs.Subject.{method, world_of}
use Rattle.xf_allot.specs.Variable.{IsFirstOf}
use Rattle.xf_allot.proofs.Variables.{allotted-all, allotted-more, numbers-more}
use Rattle.xf_allot.proofs.allotting.allot.Goals as goal

pub variables-preserved : goal.variables-preserved
variables-preserved c =
    let types = c.args.types.now in
    let k = c.in-Some.variable in
    let old = c.variables.allotment in
    let says = c.len-in-variables.ensures in
    let count : c.len-in-variables.result ≡ length old.numbers.items = omega (arith, says) in
    let new : Allotment = record { given = c.push.new.self; numbers = c.number.new.numbers } in
    let gives : Gives (world_of c.args.subject.now) (method c.args.subject.now) k old new = record {
      at = c.least_fit-at.result;
      least = search (rules, c.least_fit-at.ensures.least);
      most = c.least_fit-at.ensures.most;
      given = c.in_ok-push.ensures.items;
      numbers = c.in_ok-number.ensures;
    } in
    record {
      allotted = allotted-more (world_of c.args.subject.now) (method c.args.subject.now) types c.requires.few k old new
          c.variables.invariant.allotted
          (subst (λ (n : ℕ). IsFirstOf n (drop n types) k) count c.in-Some.ensures.some) gives;
    }

pub variables-smaller : goal.variables-smaller
variables-smaller c =
    let more = numbers-more c.variables.allotment.numbers.items c.least_fit-at.result c.in-Some.variable.width c.in-Some.ensures.some.some in
    let grown = ap length c.in_ok-number.ensures in
    let test = c.variables-test.true in
    let len = c.len.ensures in
    omega (arith, more, grown, test, len)

pub returns : goal.returns
returns c =
    let past = c.variables-test.false in
    let count = c.len.ensures in
    allotted-all (world_of c.args.subject.now) (method c.args.subject.now) c.args.types.now c.variables.allotment (omega (arith, past, count))
    c.variables.invariant.allotted
