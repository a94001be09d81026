use Rattle.xf_tests.proofs.CopyRefused.{missing-copy-is-refused}
use Rattle.xf_tests.proofs.ReloadRefused.{missing-reload-is-refused}
use Rattle.xf_tests.proofs.ZeroRefused.{zero-is-refused}
use Rattle.xf_tests.proofs.refused.wrong_rewritings_are_refused.Goals as goal

pub returns-clause-zero : goal.returns-clause-zero
returns-clause-zero c = zero-is-refused

pub returns-clause-copies : goal.returns-clause-copies
returns-clause-copies c = missing-copy-is-refused

pub returns-clause-reloads : goal.returns-clause-reloads
returns-clause-reloads c = missing-reload-is-refused
