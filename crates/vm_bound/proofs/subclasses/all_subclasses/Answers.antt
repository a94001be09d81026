use Rattle.std.proofs.Common.{◌≡◌, ◌++◌, ◌∷◌, [], ℕ, length, sym, ap, ◌∙◌, subst, arith}
use Rattle.std.specs.Prelude.{Some}
use Rattle.std.proofs.lemmas.List.{length-set}
use Rattle.jc_base.specs.Class.{parent_of, IsNextOnChain}
use Rattle.jc_base.proofs.Chains.{next_on_chain}
use Rattle.jc_base.proofs.Climbs.{parent_of-class}
use Rattle.vm_bound.proofs.Subclassing.{AreSubclassesBelow, subclasses-is, subclasses-end}
use Rattle.vm_bound.proofs.subclasses.all_subclasses.Goals as goal

pub add-requires : goal.add-requires
add-requires c =
    let t = c.args.world.now.classes in
    let class = c.classes.class in
    let parent = c.in-Some.parent in
    let link : parent_of t class ≡ Some parent = sym c.parent.ensures ∙ c.in-Some.is in
    let next : IsNextOnChain t class parent = next_on_chain t class parent c.classes-facts.ensures.links.chains (parent_of-class t class parent link) link in
    let l = next.class.number in
    omega (arith, l, c.classes.invariant.long)

pub classes-preserved : goal.classes-preserved
classes-preserved c =
    let t = c.args.world.now.classes in
    let class = c.classes.class in
    let parent = c.in-Some.parent in
    let rows = c.classes.rows.items in
    let link : parent_of t class ≡ Some parent = sym c.parent.ensures ∙ c.in-Some.is in
    let is = c.in_ok-add.ensures in
    record {
      long = ap length is.set_is ∙ length-set rows parent (is.before ++ class ∷ []) ∙ c.classes.invariant.long;
      subclasses = subclasses-is t class parent rows c.add.new.rows.items link is c.classes.invariant.subclasses;
    }

pub returns-clause-subclasses : goal.returns-clause-subclasses
returns-clause-subclasses c =
    let t = c.args.world.now.classes in
    let rows = c.classes.rows.items in
    let end : c.classes.class ≡ length t.records =
    omega (arith, c.class_count-class-end.ensures.is, c.classes-test.false, c.classes.auto.class-end) in
    subclasses-end t rows (subst (λ (n : ℕ). AreSubclassesBelow t n rows) end c.classes.invariant.subclasses)
