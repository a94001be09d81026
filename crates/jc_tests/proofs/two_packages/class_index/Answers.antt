use Rattle.jc_tests.proofs.TwoPackages.{few_classes, few_methods, all_linked, classes_known}
use Rattle.jc_tests.proofs.two_packages.class_index.Goals as goal

pub of-requires-clause-few : goal.of-requires-clause-few
of-requires-clause-few c = rw c.requires.table few_classes

pub of-requires-clause-few_methods : goal.of-requires-clause-few_methods
of-requires-clause-few_methods c = rw c.requires.methods few_methods

pub of-requires-clause-links : goal.of-requires-clause-links
of-requires-clause-links c = rw (c.requires.table, c.requires.methods) all_linked

pub of-requires-clause-known : goal.of-requires-clause-known
of-requires-clause-known c = rw (c.requires.table, c.requires.methods) classes_known
