use Rattle.std.proofs.Common.{sym, ◌∙◌, subst}
use Rattle.jc_base.specs.Class.{ClassTable, IsNextOnChain, IsEndOfChain}
use Rattle.vm_step.proofs.Search.{implements-next, implements-end, implements-here, or-first}
use Rattle.vm_step.proofs.instance.implements.Goals as goal

pub returns-then-names : goal.returns-then-names
returns-then-names c =
    let t = c.args.world.now.classes in
    sym (sym c.climb.invariant.same ∙ implements-here t c.climb.at c.args.sought (sym c.names.ensures.is ∙ c.if-names.true))

pub climb-preserved : goal.climb-preserved
climb-preserved c =
    let t = c.args.world.now.classes in
    let Next : ClassTable → Type 0 = λ u. IsNextOnChain u c.climb.at c.in-Some.parent in
    let next : IsNextOnChain t c.climb.at c.in-Some.parent = subst Next c.classes.ensures.is c.in-Some.ensures.climbs in
    record {
      class = next.class;
      left = c.names.ensures.left c.if-names.false;
      same =
          sym (implements-next t c.climb.at c.in-Some.parent c.args.sought next ∙ or-first _ _ (sym c.names.ensures.is ∙ c.if-names.false))
          ∙ c.climb.invariant.same;
    }

pub returns-in-None : goal.returns-in-None
returns-in-None c =
    let t = c.args.world.now.classes in
    let End : ClassTable → Type 0 = λ u. IsEndOfChain u c.climb.at in
    let end : IsEndOfChain t c.climb.at = subst End c.classes.ensures.is c.in-None.ensures.ends in
    sym (sym c.climb.invariant.same ∙ implements-end t c.climb.at c.args.sought end (sym c.names.ensures.is ∙ c.if-names.false))
