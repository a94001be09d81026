use Rattle.std.proofs.Common.{sym, ◌∙◌, subst}
use Rattle.std.proofs.lemmas.Bool.{eq-eqb, ne_eqb}
use Rattle.jc_base.specs.Class.{ClassTable, IsNextOnChain, IsEndOfChain}
use Rattle.jc_base.specs.Dispatch.{package_of}
use Rattle.vm_act.proofs.Climbing.{nearest-here, nearest-next, nearest-end}
use Rattle.vm_act.proofs.calling.nearest_of.Goals as goal

pub returns-then-home_of-home-clause-is : goal.returns-then-home_of-home-clause-is
returns-then-home_of-home-clause-is c =
    let t = c.args.world.now.classes in
    sym (sym c.climb.invariant.same
    ∙ nearest-here t c.args.home c.climb.at (eq-eqb (package_of t c.climb.at) c.args.home (sym c.home_of.ensures ∙ c.if-home_of-home.true)))

pub climb-preserved : goal.climb-preserved
climb-preserved c =
    let t = c.args.world.now.classes in
    let Next : ClassTable → Type 0 = λ u. IsNextOnChain u c.climb.at c.in-Some.parent in
    let next : IsNextOnChain t c.climb.at c.in-Some.parent = subst Next c.classes.ensures.is c.in-Some.ensures.climbs in
    record {
      class = next.class;
      same =
          sym (nearest-next t c.args.home c.climb.at c.in-Some.parent next
          (ne_eqb (package_of t c.climb.at) c.args.home (λ same. c.if-home_of-home.false (c.home_of.ensures ∙ same))))
          ∙ c.climb.invariant.same;
    }

pub returns-in-None-clause-is : goal.returns-in-None-clause-is
returns-in-None-clause-is c =
    let t = c.args.world.now.classes in
    let End : ClassTable → Type 0 = λ u. IsEndOfChain u c.climb.at in
    let end : IsEndOfChain t c.climb.at = subst End c.classes.ensures.is c.in-None.ensures.ends in
    sym (sym c.climb.invariant.same
    ∙ nearest-end t c.args.home c.climb.at end
    (ne_eqb (package_of t c.climb.at) c.args.home (λ same. c.if-home_of-home.false (c.home_of.ensures ∙ same))))
