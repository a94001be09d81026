use Rattle.std.proofs.Common.{◌≡◌, ◌≤◌, length, drop, map}
use Rattle.law_share.specs.Sharing.{end_of}
use Rattle.xf_allot.specs.Variable.{allotted_of}
use Rattle.xf_allot.proofs.allotting.Allotment.end.Given as goal

abbrev pub invariant-given : goal.invariant-given
invariant-given l = record {
  within : l.left ≤ length l.self.given.items;
  end : l.end ≡ end_of l.fn.arguments (map allotted_of (drop l.left l.self.given.items));
}

abbrev pub decreases-given : goal.decreases-given
decreases-given l = l.left
