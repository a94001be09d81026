use Rattle.std.proofs.Common.{ap, ◌∙◌, arith, rules}
use Rattle.cap_class.specs.ClassPart.{class_seen}
use Rattle.jc_resolve.specs.Homes.{object_at, description_at}
use Rattle.jc_resolve.specs.TypedFields.{own_found}
use Rattle.jc_resolve.proofs.FieldCounts.{own_sized}
use Rattle.jc_resolve.proofs.OwnCells.{class_cells}
use Rattle.jc_resolve.proofs.class_records.named_proper.Goals as goal

pub returns-clause-is : goal.returns-clause-is
returns-clause-is c =
    let own = class_cells c.args.home.index.now (object_at c.args.home) c.args.home.number c.args.home.of_package.now c.args.fields.now
    (class_seen c.args.class)
    c.own_at.result.now c.in_ok-own.own.items c.requires.fields c.requires.once (c.own_at.ensures ∙ ap (own_found c.args.fields.now) c.offset.ensures)
    c.in_ok-own.ensures in
    first_of (search (rules, own), grind (arith, own))

pub returns-clause-sized : goal.returns-clause-sized
returns-clause-sized c =
    let own = class_cells c.args.home.index.now (object_at c.args.home) c.args.home.number c.args.home.of_package.now c.args.fields.now
    (class_seen c.args.class)
    c.own_at.result.now c.in_ok-own.own.items c.requires.fields c.requires.once (c.own_at.ensures ∙ ap (own_found c.args.fields.now) c.offset.ensures)
    c.in_ok-own.ensures in
    record {
      public = c.in_ok-public.ensures.sized;
      visible = c.in_ok-visible.ensures.sized;
      own =
          own_sized c.args.home.index.now (object_at c.args.home) c.args.home.number (description_at c.args.home)
          c.descriptor-descriptor.result (class_seen c.args.class).offset
          c.of-2.result c.descriptor-descriptor.ensures (c.of-2.ensures ∙ own);
    }
