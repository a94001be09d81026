use Rattle.std.proofs.Common.{◌≡◌, ◌++◌, drop, map}
use Rattle.law_renumbered.specs.Symbols.{range_of}
use Rattle.xf_share.proofs.numbering.ranges.Given as goal

abbrev pub invariant-handlers : goal.invariant-handlers
invariant-handlers l = l.ranges.items ++ map range_of (drop l.handler-index l.handlers) ≡ map range_of l.handlers
