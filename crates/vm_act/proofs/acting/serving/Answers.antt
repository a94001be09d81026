use Rattle.std.proofs.Common.{sym, ◌∙◌, ap, subst}
use Rattle.std.specs.Prelude.{find}
use Rattle.jc_base.specs.Class.{ClassTable, IsNextOnChain, IsEndOfChain}
use Rattle.vm_act.proofs.Climbing.{Is, own-entries, serving-here, serving-next, serving-end}
use Rattle.vm_act.proofs.acting.serving.Goals as goal

pub returns-in-Some : goal.returns-in-Some
returns-in-Some c =
    let t = c.args.world.now.classes in
    let own = own-entries t c.climb.at c.class.result.now c.class.ensures.is ∙ sym c.as_slice.ensures in
    sym c.climb.invariant.same
    ∙ serving-here t c.args.interface c.climb.at c.in-Some.entry.now (ap (find (Is c.args.interface)) own ∙ c.in-Some.ensures)

pub climb-preserved : goal.climb-preserved
climb-preserved c =
    let t = c.args.world.now.classes in
    let own = own-entries t c.climb.at c.class.result.now c.class.ensures.is ∙ sym c.as_slice.ensures in
    let Next : ClassTable → Type 0 = λ u. IsNextOnChain u c.climb.at c.in-Some-parent.parent in
    let next : IsNextOnChain t c.climb.at c.in-Some-parent.parent = subst Next c.classes.ensures.is c.in-Some-parent.ensures.climbs in
    record {
      class = next.class;
      same =
          sym (serving-next t c.args.interface c.climb.at c.in-Some-parent.parent next (ap (find (Is c.args.interface)) own ∙ c.in-None.ensures))
          ∙ c.climb.invariant.same;
    }

pub returns-in-None-parent : goal.returns-in-None-parent
returns-in-None-parent c =
    let t = c.args.world.now.classes in
    let own = own-entries t c.climb.at c.class.result.now c.class.ensures.is ∙ sym c.as_slice.ensures in
    let End : ClassTable → Type 0 = λ u. IsEndOfChain u c.climb.at in
    let end : IsEndOfChain t c.climb.at = subst End c.classes.ensures.is c.in-None-parent.ensures.ends in
    sym c.climb.invariant.same ∙ serving-end t c.args.interface c.climb.at end (ap (find (Is c.args.interface)) own ∙ c.in-None.ensures)
