use Rattle.std.proofs.Common.{◌≤◌, take, All}
use Rattle.digraph.specs.Ranks.{rank_of}
use Rattle.digraph.proofs.search.never_rise.Given as goal

abbrev pub invariant-row : goal.invariant-row
invariant-row l = All (λ w. rank_of l.ranks w ≤ l.rank) (take l.w-index l.row)
