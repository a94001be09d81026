use Rattle.std.proofs.Common.{◌++◌, ◌∷◌, [], sym, subst}
use Rattle.jc_decode.specs.Instructions.{rest_of}
use Rattle.jc_decode.specs.Listing.{listing}
use Rattle.jc_decode.specs.Places.{IsTargetIn}
use Rattle.jc_control.proofs.Elements.{at-last}
use Rattle.card_verify.specs.Ahead.{IsLeastFrom}
use Rattle.card_verify.specs.Verifier.{method}
use Rattle.card_verify.proofs.Nearest.{led-more, led-all, next-whole}
use Rattle.card_verify.proofs.verify.Verifier.target_from.Goals as goal

pub walk-preserved : goal.walk-preserved
walk-preserved c =
    let code = c.args.self.now.subject.code.bytes.now in
    record {
      whole =
          next-whole c.walk.yielded (rest_of c.walk.placed-iterator) c.in-Some.placed (rest_of c.next.new.self) (listing code) c.walk.invariant.whole
          c.in-Some.ensures.steps;
      least = subst (IsLeastFrom (IsTargetIn code (c.walk.yielded ++ c.in-Some.placed ∷ [])) c.args.from) (sym c.nearest-best.ensures)
          (led-more code c.args.from c.walk.yielded c.in-Some.placed c.walk.best c.walk.invariant.least);
    }

pub returns : goal.returns
returns c =
    led-all (method c.args.self.now) c.args.from c.walk.yielded c.walk.best
    (at-last c.walk.yielded (rest_of c.walk.placed-iterator) (listing c.args.self.now.subject.code.bytes.now) c.walk.invariant.whole c.in-None.ensures.steps.0)
    c.walk.invariant.least
