-- The law of rewritten methods.
use Rattle.std.proofs.Common.{Option, IfSome, refl, sym, subst}
use Rattle.jc_base.specs.declared.ty.Ty.TheVariants.{Top}
use Rattle.jc_base.specs.World.{Linked}
use Rattle.jc_base.proofs.SameTypes.{same_type-decides}
use Rattle.jc_rules.specs.Demand.{Frame}
use Rattle.jc_rules.specs.Flow.{IsDerived}
use Rattle.xf_homes.specs.Source.{Source}
use Rattle.xf_homes.proofs.Serving.{homes-serve}
use Rattle.xf_emission.specs.Emission.{rewritten}
use Rattle.law_laid.specs.Laid.{record_with}
use Rattle.law_rewritten_typing.specs.Laws.{RewrittenIsTyped}
use Rattle.law_rewritten_typing.proofs.Ready.{IsReady}
use Rattle.law_rewritten_typing.specs.Premises.{AreTypingLaws}
use Rattle.law_rewritten_typing.proofs.Running.{IsRecordFor}
use Rattle.law_rewritten_typing.proofs.AskedAsNamed.{are-asked}
use Rattle.law_rewritten_typing.proofs.Whole.{rewritten-typed}

pub record-for : (s : Source) → IsRecordFor s.method.rec (record_with s.method.rec (rewritten s))
unfolding rewritten
record-for s = record { room = refl; home = refl; sig = refl }

pub rewritten-is-typed : (w : Linked) → AreTypingLaws w → RewrittenIsTyped w
rewritten-is-typed w laws s own code has mo flow derived marks are few =
    let l : AreTypingLaws s.world = subst AreTypingLaws (sym own) laws in
    let ready : IsReady s = record {
      typing = flow;
      has = has;
      whole = λ p f e. l.derived s.method p f mo (subst (λ (o : Option Frame). IfSome o (IsDerived s.world s.method Top p)) e (derived p));
      marks = marks;
      serve = homes-serve same_type-decides s.world s.method s.frames s.homes are;
      few = few;
    } in
    rewritten-typed s l ready code mo are (are-asked s l ready code mo (record_with s.method.rec (rewritten s)) (record-for s))
