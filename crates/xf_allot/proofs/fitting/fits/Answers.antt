use Rattle.std.proofs.Common.{List, MatchBool, get_or, subst}
use Rattle.std.proofs.lemmas.List.{take_all}
use Rattle.std.proofs.lemmas.List.Elements.{All-more}
use Rattle.jc_base.specs.declared.ty.Ty.TheVariants.{Bottom}
use Rattle.law_share.specs.Sharing.{FitsBeside}
use Rattle.xf_allot.specs.declared.fitting.Allotted.{Allotted}
use Rattle.xf_allot.specs.Allotting.{AllFit}
use Rattle.jc_control.specs.Subject.{method, world_of}
use Rattle.xf_allot.specs.Variable.{allotted_of, variable_of}
use Rattle.xf_allot.proofs.fitting.fits.Goals as goal

abbrev blank : Allotted
blank = record { variable = record { register = 0; width = 0; ty = Bottom }; at = 0 }

pub others-preserved : goal.others-preserved
others-preserved c =
    let w = world_of c.args.subject.now in
    let m = method c.args.subject.now in
    let k = variable_of c.args.variable in
    let at = c.args.at in
    let before = c.args.before.now in
    let n = c.others.other-index in
    record {
      fit = All-more (λ (other : Allotted). FitsBeside w m k at (allotted_of other)) before n blank c.others-test.true c.others.invariant.fit
          (subst
          (λ b. MatchBool b (FitsBeside w m k at (allotted_of (get_or before n blank))) (¬ (FitsBeside w m k at (allotted_of (get_or before n blank)))))
          c.if-not-fits_beside.false c.fits_beside.ensures);
    }

pub returns : goal.returns
returns c =
    let w = world_of c.args.subject.now in
    let m = method c.args.subject.now in
    subst (λ (others : List Allotted). AllFit w m c.args.variable c.args.at others) (take_all c.others.other-index c.args.before.now c.others-test.false)
    c.others.invariant.fit
