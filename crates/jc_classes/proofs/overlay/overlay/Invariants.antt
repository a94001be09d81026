use Rattle.std.proofs.Common.{◌≡◌, ◌≤◌, max, map, length}
use Rattle.std.specs.List.{range_with_len}
use Rattle.jc_classes.specs.Entries.{overlaid_at, reach}
use Rattle.jc_classes.proofs.overlay.overlay.Given as goal

abbrev pub invariant-tokens : goal.invariant-tokens
invariant-tokens l =
    (l.entries.items ≡ map (overlaid_at l.fn.table l.fn.inherited) (range_with_len 0 l.token))
    × (l.token ≤ max (length l.fn.inherited) (reach l.fn.table))
