use Rattle.std.proofs.Common.{length, sym, subst, ◌∙◌, rules}
use Rattle.std.proofs.lemmas.Bool.{false≢true}
use Rattle.std.specs.Prelude.{FitsSigned}
use Rattle.std.specs.Int.{w32}
use Rattle.std.proofs.lemmas.Int.{to_z-of_z}
use Rattle.std.proofs.lemmas.List.Elements.{All-push}
use Rattle.jc_decode.specs.Listing.{targets}
use Rattle.jc_control.specs.WellFormed.{IsTargetPlace}
use Rattle.jc_control.specs.Targets.{rest_of}
use Rattle.jc_control.proofs.Elements.{at-next, go-on, first-failing}
use Rattle.jc_control.proofs.scan.stray_target.Goals as goal

pub returns-then-not-has_target-clause-some : goal.returns-then-not-has_target-clause-some
returns-then-not-has_target-clause-some c =
    let code = c.args.code.bytes.now in
    let t = c.in-Some.target in
    let fits : FitsSigned w32 t = search rules in
    let whole = at-next c.targets.yielded (rest_of c.targets.target-iterator) t (rest_of c.next.new.self) (targets code c.args.placed)
    c.targets.invariant.whole c.in-Some.ensures.steps in
    let found = first-failing (IsTargetPlace code) c.targets.yielded t (rest_of c.next.new.self) (targets code c.args.placed) whole c.targets.invariant.so_far
    (λ here. false≢true (sym c.if-not-has_target.true ∙ c.has_target.ensures.1 (subst (IsTargetPlace code) (sym (to_z-of_z w32 t fits)) here))) in
    (length c.targets.yielded, rw (to_z-of_z w32 t fits) found)

pub targets-preserved : goal.targets-preserved
targets-preserved c =
    let code = c.args.code.bytes.now in
    let t = c.in-Some.target in
    let fits : FitsSigned w32 t = search rules in
    let whole = at-next c.targets.yielded (rest_of c.targets.target-iterator) t (rest_of c.next.new.self) (targets code c.args.placed)
    c.targets.invariant.whole c.in-Some.ensures.steps in
    record {
      so_far =
          All-push (IsTargetPlace code) c.targets.yielded t c.targets.invariant.so_far
          (subst (IsTargetPlace code) (to_z-of_z w32 t fits) (c.has_target.ensures.0 c.if-not-has_target.false));
      whole = go-on c.targets.yielded t (rest_of c.next.new.self) (targets code c.args.placed) whole;
    }
