use Rattle.jc_classes.proofs.Agreed.{due-tells}
use Rattle.jc_classes.proofs.SameTypes.{same_signature-exact}
use Rattle.jc_classes.proofs.Linking.{due-links}
use Rattle.jc_classes.proofs.made_list.tables.Goals as goal

pub returns-clause-tells : goal.returns-clause-tells
returns-clause-tells c = due-tells c.args.lineage.now c.args.classes.now c.args.methods.now c.tables_or_fault.result c.tables_or_fault.ensures

pub returns-clause-linked : goal.returns-clause-linked
returns-clause-linked c =
    due-links c.args.lineage.now c.args.classes.now c.args.methods.now c.tables_or_fault.result c.tables_or_fault.ensures c.requires.outline c.facts.ensures
    c.requires.known c.requires.lines

pub returns-clause-signatures : goal.returns-clause-signatures
returns-clause-signatures c = same_signature-exact
