use Rattle.jc_tests.proofs.TwoPackages.{are_classes}
use Rattle.jc_tests.proofs.two_packages.table.Goals as goal

pub of-requires : goal.of-requires
of-requires c = rw c.in_ok-records.ensures are_classes
