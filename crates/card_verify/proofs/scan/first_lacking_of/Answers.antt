use Rattle.std.proofs.Common.{length, sym, subst, rules, arith}
use Rattle.std.specs.Prelude.{FitsSigned}
use Rattle.std.specs.Int.{w32}
use Rattle.std.proofs.lemmas.Int.{to_z-of_z}
use Rattle.std.proofs.lemmas.List.Elements.{All-push}
use Rattle.jc_decode.specs.Listing.{targets}
use Rattle.jc_control.specs.Targets.{rest_of}
use Rattle.jc_control.proofs.Elements.{at-next, go-on, first-failing}
use Rattle.card_verify.proofs.Landing.{when-true, when-false}
use Rattle.card_verify.specs.Refusal.{IsListedTarget}
use Rattle.card_verify.proofs.Costs.{one-more-cost, cost-within}
use Rattle.card_verify.proofs.scan.first_lacking_of.Goals as goal

pub returns-then-not-is_listed_target-clause-some : goal.returns-then-not-is_listed_target-clause-some
returns-then-not-is_listed_target-clause-some g c =
    let all = targets c.args.code.bytes.now c.args.placed in
    let t = c.in-Some.target in
    let fits : FitsSigned w32 t = search rules in
    let whole = at-next c.targets.yielded (rest_of c.targets.target-iterator) t (rest_of c.next.new.self) all c.targets.invariant.whole
    c.in-Some.ensures.steps in
    let found = first-failing (IsListedTarget c.args.index.now) c.targets.yielded t (rest_of c.next.new.self) all whole c.targets.invariant.so_far
    (λ here. when-false (IsListedTarget c.args.index.now _) c.is_listed_target.result c.is_listed_target.ensures.told c.if-not-is_listed_target.true
    (subst (IsListedTarget c.args.index.now) (sym (to_z-of_z w32 t fits)) here)) in
    (length c.targets.yielded, rw (to_z-of_z w32 t fits) found)

pub returns-then-not-is_listed_target-clause-cost : goal.returns-then-not-is_listed_target-clause-cost
returns-then-not-is_listed_target-clause-cost g c = λ b lt.
    let all = targets c.args.code.bytes.now c.args.placed in
    let t = c.in-Some.target in
    let whole = at-next c.targets.yielded (rest_of c.targets.target-iterator) t (rest_of c.next.new.self) all c.targets.invariant.whole
    c.in-Some.ensures.steps in
    omega (arith, c.targets.invariant.cost b lt, c.is_listed_target.ensures.cost b lt, cost-within c.targets.yielded t (rest_of c.next.new.self) all b whole)

pub targets-preserved : goal.targets-preserved
targets-preserved g c =
    let all = targets c.args.code.bytes.now c.args.placed in
    let t = c.in-Some.target in
    let fits : FitsSigned w32 t = search rules in
    let whole = at-next c.targets.yielded (rest_of c.targets.target-iterator) t (rest_of c.next.new.self) all c.targets.invariant.whole
    c.in-Some.ensures.steps in
    record {
      so_far = All-push (IsListedTarget c.args.index.now) c.targets.yielded t c.targets.invariant.so_far
          (subst (IsListedTarget c.args.index.now) (to_z-of_z w32 t fits)
          (when-true (IsListedTarget c.args.index.now _) c.is_listed_target.result c.is_listed_target.ensures.told c.if-not-is_listed_target.false));
      whole = go-on c.targets.yielded t (rest_of c.next.new.self) all whole;
      forward = omega (arith, c.targets.invariant.forward, c.is_listed_target.ensures.forward);
      cost = λ b lt. omega (arith, c.targets.invariant.cost b lt, c.is_listed_target.ensures.cost b lt, one-more-cost c.targets.yielded t b);
    }
