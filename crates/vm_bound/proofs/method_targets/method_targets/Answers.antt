use Rattle.std.proofs.Common.{◌≡◌, List, None, Some, sym, subst}
use Rattle.std.specs.Prelude.{Option, IsSomeAnd}
use Rattle.jc_base.specs.declared.record.MethodRec.{MethodRec}
use Rattle.jc_decode.specs.declared.insn.Placed.{Placed}
use Rattle.jc_decode.specs.Instructions.{rest_of}
use Rattle.vm_bound.specs.Edges.{target}
use Rattle.vm_bound.proofs.Targeting.{IsWalked, walk-none, walk-some, walk-ends}
use Rattle.vm_bound.proofs.method_targets.method_targets.Goals as goal

pub walk-preserved-in_default : goal.walk-preserved-in_default
walk-preserved-in_default c =
    let w = c.args.world.now in
    let rec = c.method-record.result.now in
    let is = c.method-record.ensures.is in
    let left = rest_of c.next.new.self in
    let p = c.in-Some.placed in
    let found = c.walk.targets.items in
    let before = subst (λ (ps : List Placed). IsWalked w c.args.method rec ps found) c.in-Some.ensures.steps
    (subst (λ (o : Option MethodRec). IsSomeAnd o (λ r. IsWalked w c.args.method r (rest_of c.walk.placed-iterator) found)) is c.walk.invariant) in
    let none : target w rec p ≡ None =
    sym (subst (λ (o : Option MethodRec). IsSomeAnd o (λ r. None ≡ target w r p)) is c.in_default.ensures.is) in
    subst (λ (o : Option MethodRec). IsSomeAnd o (λ r. IsWalked w c.args.method r left found)) (sym is)
    (walk-none w c.args.method rec is p left found none before)

pub walk-preserved : goal.walk-preserved
walk-preserved c =
    let w = c.args.world.now in
    let rec = c.method-record.result.now in
    let is = c.method-record.ensures.is in
    let left = rest_of c.next.new.self in
    let p = c.in-Some.placed in
    let v = c.in-Some-target.vertex in
    let found = c.walk.targets.items in
    let before = subst (λ (ps : List Placed). IsWalked w c.args.method rec ps found) c.in-Some.ensures.steps
    (subst (λ (o : Option MethodRec). IsSomeAnd o (λ r. IsWalked w c.args.method r (rest_of c.walk.placed-iterator) found)) is c.walk.invariant) in
    let leads : target w rec p ≡ Some v =
    sym (subst (λ (o : Option MethodRec). IsSomeAnd o (λ r. Some v ≡ target w r p)) is c.in-Some-target.ensures.is) in
    let grown = walk-some w c.args.method rec is p v left found leads c.in-Some-target.ensures.fit before in
    subst (λ (o : Option MethodRec). IsSomeAnd o (λ r. IsWalked w c.args.method r left c.push.new.self.items)) (sym is)
    (subst (IsWalked w c.args.method rec left) (sym c.in_ok-push.ensures.items) grown)

pub returns : goal.returns
returns c =
    let w = c.args.world.now in
    let is = c.method-record.ensures.is in
    let found = c.walk.targets.items in
    walk-ends w c.args.method c.method-record.result.now is (rest_of c.walk.placed-iterator) found c.in-None.ensures.steps.0
    (subst (λ (o : Option MethodRec). IsSomeAnd o (λ r. IsWalked w c.args.method r (rest_of c.walk.placed-iterator) found)) is c.walk.invariant)
