use Rattle.std.proofs.Common.{take}
use Rattle.std.specs.Prelude.{Contains}
use Rattle.vm_bound.specs.Vertices.{Extends}
use Rattle.vm_bound.specs.Rows.{AreNumbers}
use Rattle.vm_bound.proofs.meanings.Meanings.row.Given as goal

abbrev pub invariant-vertices : goal.invariant-vertices
invariant-vertices l = record {
  numbers : AreNumbers l.methods l.self (Contains (take l.vertex-index l.vertices)) l.row;
  extends : Extends l.fn.self l.self;
}
