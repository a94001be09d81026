-- What lists of moves between homes rest on.
use Rattle.jc_base.specs.Laws.{ClassesAreObjects, SameTypeDecides}
use Rattle.jc_base.specs.World.{Linked}
use Rattle.jc_rules.specs.FlowLaws.{AreRules}
use Rattle.xf_homes.specs.Laws.{HomesServe}
use Rattle.law_rewritten_typing.specs.Edges.{CellsFillStack, EdgesCarry, NeededHaveHomes}
use Rattle.law_homes.specs.Moves.{IsExecutable}

-- laws of the source's world v, and that code can run in w
pub record AreMoveLaws (v w : Linked) : Type 0 where
  pub serve : HomesServe v
  pub needed : NeededHaveHomes v
  pub fill : CellsFillStack v
  pub carry : EdgesCarry v
  pub rules : AreRules v
  pub objects : ClassesAreObjects v.classes
  pub same_is : SameTypeDecides
  pub world : IsExecutable w
