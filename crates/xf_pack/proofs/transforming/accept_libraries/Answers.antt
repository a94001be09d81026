-- each method of the libraries has a card typing, or there is a first that is refused
use Rattle.std.proofs.Common.{refl, arith}
use Rattle.card_verify.proofs.Answering.{accepted-more}
use Rattle.jc_control.specs.Method.{method_with}
use Rattle.xf_last.proofs.Passing.{below-carded, library-below, refused-method}
use Rattle.xf_pack.proofs.transforming.accept_libraries.Goals as goal

pub returns-in-Err-clause-end : goal.returns-in-Err-clause-end
returns-in-Err-clause-end c = λ ps.
    let w = c.args.world.now in
    let n = c.methods.method in
    let here = c.in-Err.ensures.refused in
    record {
      method = method_with w n here.rec;
      numbered = refl;
      first = record {
        asked = record {
          method = refused-method w c.classes-classes.ensures.links n c.in-Err.fault here;
          before = c.requires.before n here.rec here.is c.methods-test.true;
        };
        earlier = λ m asked lt. below-carded w n c.methods.invariant m asked.method lt;
        lacks = here.refused.none;
      };
      kept = here.refused.kept;
      refused = here.refused.refused;
    }

pub methods-preserved : goal.methods-preserved
methods-preserved c = accepted-more c.args.world.now c.methods.method c.methods.invariant c.in-Ok.ensures.accepted

pub returns-clause-accepted : goal.returns-clause-accepted
returns-clause-accepted c = λ m of.
    let lt = library-below c.args.world.now c.args.first c.requires m of in
    below-carded c.args.world.now c.methods.method c.methods.invariant m of.method (omega (arith, lt, c.methods-test.false))
