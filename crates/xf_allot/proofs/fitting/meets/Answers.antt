use Rattle.std.proofs.Common.{◌<◌, ◌+◌, MatchBool, arith, rules, subst}
use Rattle.jc_control.specs.Subject.{method, world_of}
use Rattle.xf_allot.specs.Variable.{variable_of}
use Rattle.xf_allot.proofs.Variables.{found-here, none-more, none-found}
use Rattle.xf_live.specs.Interference.{Tells}
use Rattle.xf_allot.proofs.fitting.meets.Goals as goal

pub registers-init : goal.registers-init
registers-init c = record { end = search rules; from = search rules; none = λ n from lt apart. omega (arith, from, lt) }

pub returns-then-has : goal.returns-then-has
returns-then-has c =
    let w = world_of c.args.subject.now in
    let m = method c.args.subject.now in
    let k = variable_of c.args.variable in
    let x = c.args.register in
    let y = c.registers.other in
    let test = c.registers-test.true in
    let end = c.registers.invariant.end in
    let inside = c.requires.variable.inside in
    let here : y < k.register + k.width = omega (arith, test, end) in
    found-here w m c.args.found.now c.requires.found k x y (omega (arith, c.ranges.register.fits)) (omega (arith, here, inside))
    c.registers.invariant.from here
    (subst (λ b. MatchBool b (Tells c.args.found.now x y) (¬ (Tells c.args.found.now x y))) c.if-has.true c.has.ensures)

pub registers-preserved : goal.registers-preserved
registers-preserved c =
    let w = world_of c.args.subject.now in
    let m = method c.args.subject.now in
    let k = variable_of c.args.variable in
    let x = c.args.register in
    let y = c.registers.other in
    let test = c.registers-test.true in
    let end = c.registers.invariant.end in
    let inside = c.requires.variable.inside in
    let from = c.registers.invariant.from in
    record {
      end = end;
      from = omega (arith, from);
      none = none-more w m c.args.found.now c.requires.found k.register x y (omega (arith, c.ranges.register.fits)) (omega (arith, test, end, inside))
          c.registers.invariant.none
          (subst (λ b. MatchBool b (Tells c.args.found.now x y) (¬ (Tells c.args.found.now x y))) c.if-has.false c.has.ensures);
    }

pub returns : goal.returns
returns c =
    let w = world_of c.args.subject.now in
    let m = method c.args.subject.now in
    let past = c.registers-test.false in
    let end = c.registers.invariant.end in
    none-found w m c.args.found.now c.requires.found (variable_of c.args.variable) c.args.register c.registers.other (omega (arith, past, end))
    c.registers.invariant.none
