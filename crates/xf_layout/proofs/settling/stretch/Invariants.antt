use Rattle.std.proofs.Common.{◌≤◌, ◌+◌}
use Rattle.xf_layout.specs.Form.{begins}
use Rattle.xf_layout.proofs.settling.stretch.Given as goal

abbrev pub invariant-items : goal.invariant-items
invariant-items l = begins l.forms l.from + l.bytes ≤ begins l.forms l.n
