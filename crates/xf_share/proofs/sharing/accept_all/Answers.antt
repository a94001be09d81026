-- each method has a card typing, or there is a first that is refused
use Rattle.std.proofs.Common.{refl, subst}
use Rattle.card_verify.specs.Answers.{AreAccepted}
use Rattle.jc_control.specs.Method.{method_with}
use Rattle.xf_last.proofs.Passing.{all-carded, below-carded, refused-method}
use Rattle.xf_share.proofs.sharing.accept_all.Goals as goal

pub returns-in-Ok-clause-accepted : goal.returns-in-Ok-clause-accepted
returns-in-Ok-clause-accepted c = all-carded c.args.world.now (subst AreAccepted c.in-Ok.ensures.world c.in-Ok.ensures.accepted)

pub returns-in-Err-clause-end : goal.returns-in-Err-clause-end
returns-in-Err-clause-end c = λ ps.
    let w = c.args.world.now in
    let n = c.in-Err.method in
    let first = c.in-Err.ensures.refused in
    record {
      method = method_with w n first.here.rec;
      numbered = refl;
      first = record {
        asked = refused-method w c.classes-classes.ensures.links n c.in-Err.fault first.here;
        earlier = below-carded w n first.before;
        lacks = first.here.refused.none;
      };
      kept = first.here.refused.kept;
      refused = first.here.refused.refused;
    }
