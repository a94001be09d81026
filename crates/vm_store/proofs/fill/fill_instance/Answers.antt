use Rattle.std.proofs.Common.{◌+◌, ◌-◌, length, ap, sym, ◌∙◌, subst}
use Rattle.jc_base.specs.Class.{ClassTable, IsNextOnChain, IsEndOfChain}
use Rattle.vm_store.proofs.Instances.{filled-nothing, own_cells_is, fits-above, filled-next, filled-whole}
use Rattle.vm_store.proofs.fill.fill_instance.Goals as goal

pub climb-init : goal.climb-init
climb-init g c = filled-nothing g.C.CellForm.cells c.args.world.now.classes c.args.cells.now c.args.from c.args.class c.requires.class

pub climb-preserved : goal.climb-preserved
climb-preserved g c =
    let t = c.args.world.now.classes in
    let k = g.C.CellForm.cells in
    let own = c.as_slice-own.result.now in
    let Next : ClassTable → Type 0 = λ t. IsNextOnChain t c.climb.at c.in-Some.parent in
    let next : IsNextOnChain t c.climb.at c.in-Some.parent = subst Next c.classes.ensures.is c.in-Some.ensures.climbs in
    filled-next k t c.args.cells.now c.climb.cells c.fill_own.new.cells c.args.from c.args.class c.climb.at _ c.climb.invariant own
    (own_cells_is t c.climb.at c.class-record.result.now c.class-record.ensures.is ∙ sym c.as_slice-own.ensures) c.fill_own.ensures c.in-Some.parent next
    (ap (λ n. c.args.from + (n - length own)) (sym c.class-record.ensures.cells))
    (fits-above k t c.args.cells.now c.climb.cells c.args.from c.args.class c.climb.at c.climb.invariant c.requires.room)

pub returns-in-None : goal.returns-in-None
returns-in-None g c =
    let t = c.args.world.now.classes in
    let k = g.C.CellForm.cells in
    let own = c.as_slice-own.result.now in
    let End : ClassTable → Type 0 = λ t. IsEndOfChain t c.climb.at in
    let end : IsEndOfChain t c.climb.at = subst End c.classes.ensures.is c.in-None.ensures.ends in
    filled-whole k t c.args.cells.now c.climb.cells c.fill_own.new.cells c.args.from c.args.class c.climb.at _ c.climb.invariant own
    (own_cells_is t c.climb.at c.class-record.result.now c.class-record.ensures.is ∙ sym c.as_slice-own.ensures) c.fill_own.ensures end
    (ap (λ n. c.args.from + (n - length own)) (sym c.class-record.ensures.cells))
    (fits-above k t c.args.cells.now c.climb.cells c.args.from c.args.class c.climb.at c.climb.invariant c.requires.room)
