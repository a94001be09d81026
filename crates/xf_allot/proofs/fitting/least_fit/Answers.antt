use Rattle.std.proofs.Common.{◌≡◌, MatchBool, arith, subst}
use Rattle.xf_allot.specs.Allotting.{AllFit}
use Rattle.jc_control.specs.Subject.{method, world_of}
use Rattle.xf_allot.proofs.Variables.{fits-least, last-fits, unfit-more}
use Rattle.xf_allot.proofs.fitting.least_fit.Goals as goal

pub returns-then-fits-clause-least : goal.returns-then-fits-clause-least
returns-then-fits-clause-least c =
    let w = world_of c.args.subject.now in
    let m = method c.args.subject.now in
    let k = c.args.variable in
    let at = c.registers.at in
    let before = c.args.before.now in
    fits-least w m k before at c.registers.invariant.from c.registers.invariant.none
    (subst (λ b. MatchBool b (AllFit w m k at before) (¬ (AllFit w m k at before))) c.if-fits.true c.fits.ensures)

pub registers-preserved : goal.registers-preserved
registers-preserved c =
    let w = world_of c.args.subject.now in
    let m = method c.args.subject.now in
    let k = c.args.variable in
    let at = c.registers.at in
    let before = c.args.before.now in
    let from = c.registers.invariant.from in
    let lt = c.registers-test.true in
    record {
      from = omega (arith, from);
      within = omega (arith, lt);
      none = unfit-more w m k before m.rec.nargs at c.registers.invariant.none
          (subst (λ b. MatchBool b (AllFit w m k at before) (¬ (AllFit w m k at before))) c.if-fits.false c.fits.ensures);
    }

pub returns-clause-least : goal.returns-clause-least
returns-clause-least c =
    let w = world_of c.args.subject.now in
    let m = method c.args.subject.now in
    let k = c.args.variable in
    let at = c.registers.at in
    let before = c.args.before.now in
    let within = c.registers.invariant.within in
    let past = c.registers-test.false in
    let same : k.register ≡ at = omega (arith, within, past) in
    fits-least w m k before at c.registers.invariant.from c.registers.invariant.none
    (subst (λ n. AllFit w m k n before) same (last-fits w m k before c.requires.before))
