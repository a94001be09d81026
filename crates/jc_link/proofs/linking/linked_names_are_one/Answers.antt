use Rattle.jc_classes.proofs.Above.{tells-above}
use Rattle.jc_classes.proofs.SameTypes.{same_signature-exact}
use Rattle.jc_link.proofs.NamesOne.{names-one-each}
use Rattle.jc_link.proofs.linking.linked_names_are_one.Goals as goal

pub returns-clause-names : goal.returns-clause-names
returns-clause-names c = λ ps roles w is. names-one-each ps roles w is

pub returns-clause-above : goal.returns-clause-above
returns-clause-above c = λ cs. tells-above cs

pub returns-clause-signatures : goal.returns-clause-signatures
returns-clause-signatures c = same_signature-exact
