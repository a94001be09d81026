use Rattle.std.proofs.Common.{length, refl, rules, arith}
use Rattle.std.specs.Prelude.{FitsSigned}
use Rattle.std.specs.Int.{w32}
use Rattle.std.proofs.lemmas.Int.{to_z-of_z}
use Rattle.std.proofs.lemmas.List.Elements.{All-push}
use Rattle.jc_base.proofs.Lists.{All-slice_get}
use Rattle.jc_decode.specs.Instructions.{rest_of}
use Rattle.jc_decode.specs.Listing.{listing, targets}
use Rattle.jc_control.proofs.Elements.{at-next, go-on, contained-in, first-failing}
use Rattle.card_verify.specs.Refusal.{IsListedTarget, LeadsToListed}
use Rattle.card_verify.proofs.Costs.{sum-more-cost, sum-within}
use Rattle.card_verify.proofs.scan.first_lacking.Goals as goal

pub first_lacking_of-requires-clause-decoded : goal.first_lacking_of-requires-clause-decoded
first_lacking_of-requires-clause-decoded g c =
    let code = c.args.code.bytes.now in
    let i = c.in-Some.placed in
    let whole = at-next c.walk.yielded (rest_of c.walk.placed-iterator) i (rest_of c.next.new.self) (listing code) c.walk.invariant.whole
    c.in-Some.ensures.steps in
    (c.instructions_are_listed.ensures code).decodes i (contained-in c.walk.yielded i (rest_of c.next.new.self) (listing code) whole)

pub returns-in-Some-first_lacking_of-clause-some : goal.returns-in-Some-first_lacking_of-clause-some
returns-in-Some-first_lacking_of-clause-some g c =
    let code = c.args.code.bytes.now in
    let i = c.in-Some.placed in
    let whole = at-next c.walk.yielded (rest_of c.walk.placed-iterator) i (rest_of c.next.new.self) (listing code) c.walk.invariant.whole
    c.in-Some.ensures.steps in
    let lacks = c.in-Some-first_lacking_of.ensures.some in
    let t = c.in-Some-first_lacking_of.target in
    let fits : FitsSigned w32 t = search rules in
    rw (to_z-of_z w32 t fits) (record {
      number = length c.walk.yielded;
      from = i;
      at = refl;
      instruction = first-failing (LeadsToListed code c.args.index.now) c.walk.yielded i (rest_of c.next.new.self) (listing code) whole c.walk.invariant.so_far
          (λ leads. lacks.1.fails (All-slice_get (IsListedTarget c.args.index.now) (targets code i) lacks.0 t leads lacks.1.here));
      target_number = lacks.0;
      lacks = lacks.1;
    })

pub returns-in-Some-first_lacking_of-clause-cost : goal.returns-in-Some-first_lacking_of-clause-cost
returns-in-Some-first_lacking_of-clause-cost g c = λ b lt.
    let code = c.args.code.bytes.now in
    let i = c.in-Some.placed in
    let whole = at-next c.walk.yielded (rest_of c.walk.placed-iterator) i (rest_of c.next.new.self) (listing code) c.walk.invariant.whole
    c.in-Some.ensures.steps in
    omega (
      arith,
      c.walk.invariant.cost b lt,
      c.first_lacking_of.ensures.cost b lt,
      sum-within (λ j. length (targets code j)) c.walk.yielded i
          (rest_of c.next.new.self) (listing code) b whole,
    )

pub walk-preserved : goal.walk-preserved
walk-preserved g c =
    let code = c.args.code.bytes.now in
    let i = c.in-Some.placed in
    let whole = at-next c.walk.yielded (rest_of c.walk.placed-iterator) i (rest_of c.next.new.self) (listing code) c.walk.invariant.whole
    c.in-Some.ensures.steps in
    record {
      so_far = All-push (LeadsToListed code c.args.index.now) c.walk.yielded i c.walk.invariant.so_far c.in-None-first_lacking_of.ensures.none;
      whole = go-on c.walk.yielded i (rest_of c.next.new.self) (listing code) whole;
      forward = omega (arith, c.walk.invariant.forward, c.first_lacking_of.ensures.forward);
      cost =
          λ b lt. omega (
            arith,
            c.walk.invariant.cost b lt,
            c.first_lacking_of.ensures.cost b lt,
            sum-more-cost (λ j. length (targets code j))
                c.walk.yielded i b,
          );
    }
