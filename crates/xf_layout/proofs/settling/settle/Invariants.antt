use Rattle.xf_layout.specs.Settling.{Settles}
use Rattle.xf_layout.proofs.settling.settle.Given as goal

abbrev pub invariant-jumps : goal.invariant-jumps
invariant-jumps l = Settles l.items l.fn.forms.items l.forms.items
