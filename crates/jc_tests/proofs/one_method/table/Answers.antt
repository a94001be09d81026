use Rattle.jc_tests.proofs.OneMethod.{are_classes}
use Rattle.jc_tests.proofs.one_method.table.Goals as goal

pub of-requires : goal.of-requires
of-requires c = rw c.in_ok-records.ensures are_classes
