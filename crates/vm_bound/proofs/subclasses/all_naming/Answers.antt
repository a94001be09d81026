use Rattle.std.proofs.Common.{List, get_or, ◌∙◌, subst, arith}
use Rattle.std.proofs.lemmas.Option.{slice_get-get_or}
use Rattle.jc_base.specs.declared.record.Iface.{Iface}
use Rattle.vm_bound.specs.Runs.{AreAdded}
use Rattle.vm_bound.proofs.Names.{naming-more, naming-ends}
use Rattle.vm_bound.proofs.subclasses.all_naming.Goals as goal

pub class-class-requires : goal.class-class-requires
class-class-requires c =
    let order = c.args.order.now in
    let at = c.positions.at in
    (c.requires.order.only at (get_or order at 0) (slice_get-get_or order at 0 c.positions-test.true)).number

pub positions-preserved : goal.positions-preserved
positions-preserved c =
    let t = c.args.world.now.classes in
    let order = c.args.order.now in
    let at = c.positions.at in
    let rows = c.positions.rows.items in
    let new = c.add_to_each.new.rows.items in
    let added = subst (λ (es : List Iface). AreAdded rows es at new) c.as_slice.ensures c.in_ok-add_to_each.ensures in
    record {
      long = added.count ∙ c.positions.invariant.long;
      below = naming-more t order at (get_or order at 0) c.class-class.result.now rows new (slice_get-get_or order at 0 c.positions-test.true)
          c.class-class.ensures.is added c.positions.invariant.below;
    }

pub returns-clause-naming : goal.returns-clause-naming
returns-clause-naming c =
    let past = c.positions-test.false in
    naming-ends c.args.world.now.classes c.args.order.now c.positions.at c.positions.rows.items (omega (arith, past)) c.positions.invariant.below
