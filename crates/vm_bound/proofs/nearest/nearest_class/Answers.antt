use Rattle.std.proofs.Common.{sym, ◌∙◌, subst}
use Rattle.std.specs.Prelude.{Some, None}
use Rattle.jc_base.specs.Class.{ClassTable, IsNextOnChain, IsEndOfChain}
use Rattle.vm_bound.proofs.Serving.{nearest-itself, nearest-nowhere, nearest-same, serving-above}
use Rattle.vm_bound.proofs.nearest.nearest_class.Goals as goal

pub returns-then-names : goal.returns-then-names
returns-then-names c =
    let t = c.args.world.now.classes in
    nearest-same t c.args.interface c.climb.at c.args.class (Some c.climb.at) c.climb.invariant.same
    (nearest-itself t c.args.interface c.climb.at (sym c.names.ensures ∙ c.if-names.true))

pub climb-preserved : goal.climb-preserved
climb-preserved c =
    let t = c.args.world.now.classes in
    let Next : ClassTable → Type 0 = λ u. IsNextOnChain u c.climb.at c.in-Some.parent in
    let next : IsNextOnChain t c.climb.at c.in-Some.parent = subst Next c.classes.ensures.is c.in-Some.ensures.climbs in
    record {
      class = next.class;
      same =
          sym (serving-above t c.args.interface c.climb.at c.in-Some.parent next (sym c.names.ensures ∙ c.if-names.false)) ∙ c.climb.invariant.same;
    }

pub returns-in-None : goal.returns-in-None
returns-in-None c =
    let t = c.args.world.now.classes in
    let End : ClassTable → Type 0 = λ u. IsEndOfChain u c.climb.at in
    let end : IsEndOfChain t c.climb.at = subst End c.classes.ensures.is c.in-None.ensures.ends in
    nearest-same t c.args.interface c.climb.at c.args.class None c.climb.invariant.same
    (nearest-nowhere t c.args.interface c.climb.at end (sym c.names.ensures ∙ c.if-names.false))
