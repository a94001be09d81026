use Rattle.std.proofs.Common.{◌≡◌, ◌-◌, ◌≤◌, false, length}
use Rattle.std.specs.List.{AllWithin}
use Rattle.jc_flow.proofs.table.next_set.Given as goal

abbrev pub invariant-search : goal.invariant-search
invariant-search l = (l.fn.from ≤ l.at) × (l.at ≤ length l.flags) × AllWithin (λ b. b ≡ false) l.flags l.fn.from l.at

abbrev pub decreases-search : goal.decreases-search
decreases-search l = length l.flags - l.at
