use Rattle.std.proofs.Common.{length, ap, arith, rules}
use Rattle.std.proofs.lemmas.List.Elements.{All-push}
use Rattle.std.specs.Prelude.{FitsSigned}
use Rattle.std.specs.Int.{w32}
use Rattle.std.proofs.lemmas.Int.{to_z-of_z}
use Rattle.jc_control.specs.Walk.{rest_of}
use Rattle.jc_decode.specs.Listing.{listing, targets}
use Rattle.jc_control.specs.WellFormed.{IsTargetPlace}
use Rattle.jc_control.specs.declared.control.Flaw.TheVariants.{BadTarget}
use Rattle.jc_control.specs.Scan.{LeadsToPlaces}
use Rattle.jc_control.proofs.Elements.{at-next, go-on, contained-in, first-failing}
use Rattle.jc_control.proofs.PlacesWithin.{next-within, next-end}
use Rattle.jc_control.proofs.scan.check_targets.Goals as goal
use Rattle.jc_base.proofs.Lists.{All-slice_get}

pub stray_target-requires-clause-decoded : goal.stray_target-requires-clause-decoded
stray_target-requires-clause-decoded c =
    let code = c.args.code.bytes.now in
    let i = c.in-Some.placed in
    let whole = at-next c.walk.yielded (rest_of c.walk.placed-iterator) i (rest_of c.next.new.self) (listing code) c.walk.invariant.whole
    c.in-Some.ensures.steps in
    (c.instructions_are_listed.ensures code).decodes i (contained-in c.walk.yielded i (rest_of c.next.new.self) (listing code) whole)

pub returns-in-Some-stray_target-clause-flawed : goal.returns-in-Some-stray_target-clause-flawed
returns-in-Some-stray_target-clause-flawed c =
    let code = c.args.code.bytes.now in
    let i = c.in-Some.placed in
    let whole = at-next c.walk.yielded (rest_of c.walk.placed-iterator) i (rest_of c.next.new.self) (listing code) c.walk.invariant.whole
    c.in-Some.ensures.steps in
    let fits : FitsSigned w32 c.in-Some-stray_target.target = search rules in
    let stray = c.in-Some-stray_target.ensures.some in
    record {
      number = length c.walk.yielded;
      from = i;
      instruction = first-failing (LeadsToPlaces code) c.walk.yielded i (rest_of c.next.new.self) (listing code) whole c.walk.invariant.so_far
          (λ leads. stray.1.fails (All-slice_get (IsTargetPlace code) (targets code i) stray.0 c.in-Some-stray_target.target leads stray.1.here));
      target_number = stray.0;
      target = c.in-Some-stray_target.target;
      target_is = stray.1;
      is = ap (BadTarget i.place) (to_z-of_z w32 c.in-Some-stray_target.target fits);
    }

pub overflow_cast-end : goal.overflow_cast-end
overflow_cast-end c =
    let code = c.args.code.bytes.now in
    let i = c.in-Some.placed in
    let whole = at-next c.walk.yielded (rest_of c.walk.placed-iterator) i (rest_of c.next.new.self) (listing code) c.walk.invariant.whole
    c.in-Some.ensures.steps in
    let within = next-within code (c.instructions_are_listed.ensures code) c.walk.yielded i (rest_of c.next.new.self) whole in
    omega (arith, within, c.requires.short)

pub overflow_add-end : goal.overflow_add-end
overflow_add-end c =
    let code = c.args.code.bytes.now in
    let i = c.in-Some.placed in
    let whole = at-next c.walk.yielded (rest_of c.walk.placed-iterator) i (rest_of c.next.new.self) (listing code) c.walk.invariant.whole
    c.in-Some.ensures.steps in
    let within = next-within code (c.instructions_are_listed.ensures code) c.walk.yielded i (rest_of c.next.new.self) whole in
    omega (arith, within, c.requires.short)

pub walk-preserved : goal.walk-preserved
walk-preserved c =
    let code = c.args.code.bytes.now in
    let i = c.in-Some.placed in
    let whole = at-next c.walk.yielded (rest_of c.walk.placed-iterator) i (rest_of c.next.new.self) (listing code) c.walk.invariant.whole
    c.in-Some.ensures.steps in
    record {
      so_far = All-push (LeadsToPlaces code) c.walk.yielded i c.walk.invariant.so_far c.in-None-stray_target.ensures.none;
      whole = go-on c.walk.yielded i (rest_of c.next.new.self) (listing code) whole;
      end = next-end code (c.instructions_are_listed.ensures code) c.walk.yielded i (rest_of c.next.new.self) whole;
    }
