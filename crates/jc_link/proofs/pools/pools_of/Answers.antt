use Rattle.std.proofs.Common.{arith, ◌∙◌}
use Rattle.jc_resolve.proofs.Totals.{classes_total}
use Rattle.jc_link.proofs.Counted.{records_counted, named_counted}
use Rattle.jc_link.proofs.OwnRecords.{room_there}
use Rattle.jc_link.proofs.pools.pools_of.Goals as goal

pub field_sites-requires-clause-count : goal.field_sites-requires-clause-count
field_sites-requires-clause-count c =
    records_counted c.args.names.now.classes _ c.args.classes.now c.requires.cells
    ∙ named_counted c.args.names.now c.facts.ensures.classes
    ∙ classes_total c.args.names.now.packages

pub field_sites-requires-clause-few : goal.field_sites-requires-clause-few
field_sites-requires-clause-few c = omega (arith, records_counted c.args.names.now.classes _ c.args.classes.now c.requires.cells, c.facts.ensures.few_classes)

pub field_sites-requires-clause-room : goal.field_sites-requires-clause-room
field_sites-requires-clause-room c = room_there c.args.names.now c.args.classes.now c.facts.ensures.classes c.requires.linked c.requires.cells
