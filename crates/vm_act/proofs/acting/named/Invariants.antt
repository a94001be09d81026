use Rattle.std.proofs.Common.{◌≡◌, ◌==◌, drop}
use Rattle.std.specs.Prelude.{find}
use Rattle.vm_act.proofs.acting.named.Given as goal

abbrev pub invariant-entries : goal.invariant-entries
invariant-entries l = find (λ e. e.class == l.interface) (drop l.entry-index l.entries) ≡ find (λ e. e.class == l.interface) l.entries
