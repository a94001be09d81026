use Rattle.std.proofs.Common.{MatchBool, arith, rules, subst}
use Rattle.xf_allot.specs.Allotting.{MeetsOne}
use Rattle.jc_control.specs.Subject.{method, world_of}
use Rattle.xf_allot.specs.Variable.{variable_of}
use Rattle.xf_allot.proofs.Variables.{one-interferes, meets-more, none-meet}
use Rattle.xf_allot.proofs.fitting.interfere.Goals as goal

pub registers-init : goal.registers-init
registers-init c = record { end = search rules; from = search rules; none = λ n from lt apart. omega (arith, from, lt) }

pub returns-then-meets : goal.returns-then-meets
returns-then-meets c =
    let w = world_of c.args.subject.now in
    let m = method c.args.subject.now in
    let j = variable_of c.args.first in
    let k = variable_of c.args.second in
    let x = c.registers.register in
    let test = c.registers-test.true in
    let end = c.registers.invariant.end in
    one-interferes w m j k x (record { from = c.registers.invariant.from; before = omega (arith, test, end) })
    (subst (λ b. MatchBool b (MeetsOne w m x k) (¬ (MeetsOne w m x k))) c.if-meets.true c.meets.ensures)

pub registers-preserved : goal.registers-preserved
registers-preserved c =
    let w = world_of c.args.subject.now in
    let m = method c.args.subject.now in
    let k = variable_of c.args.second in
    let x = c.registers.register in
    let from = c.registers.invariant.from in
    record {
      end = c.registers.invariant.end;
      from = omega (arith, from);
      none = meets-more w m k c.args.first.register x c.registers.invariant.none
          (subst (λ b. MatchBool b (MeetsOne w m x k) (¬ (MeetsOne w m x k))) c.if-meets.false c.meets.ensures);
    }

pub returns : goal.returns
returns c =
    let w = world_of c.args.subject.now in
    let m = method c.args.subject.now in
    let past = c.registers-test.false in
    let end = c.registers.invariant.end in
    none-meet w m (variable_of c.args.first) (variable_of c.args.second) c.registers.register (omega (arith, past, end)) c.registers.invariant.none
