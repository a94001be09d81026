use Rattle.jc_tests.proofs.OneMethod.{few_classes, all_linked}
use Rattle.jc_tests.proofs.one_method.class_index.Goals as goal

pub of-requires-clause-few : goal.of-requires-clause-few
of-requires-clause-few c = rw c.requires.table few_classes

pub of-requires-clause-links : goal.of-requires-clause-links
of-requires-clause-links c = rw c.requires.table (all_linked c.args.methods.now)

pub of-requires-clause-known : goal.of-requires-clause-known
of-requires-clause-known c = rw c.requires.table c.requires.known
