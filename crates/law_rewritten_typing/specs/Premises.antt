-- What the typing of rewritten code rests on.
use Rattle.jc_base.specs.Laws.{ClassesAreObjects}
use Rattle.jc_base.specs.World.{Linked}
use Rattle.jc_ops.specs.Entry.{RestsOnEntry}
use Rattle.jc_ops.specs.Next.{OperationsGoAlike}
use Rattle.jc_ops.specs.Sound.{OperationsAreSound}
use Rattle.jc_rules.specs.FlowLaws.{AreRules}
use Rattle.jc_rules.specs.Footprint.{OperationNamesNone}
use Rattle.jc_rules.specs.Laws.{OperationFalls, OperationKeeps, OperationRests}
use Rattle.jc_rules.specs.Whole.{OperationKeepsWhole}
use Rattle.law_rewritten_typing.specs.Whole.{DerivedAreWhole}

-- the laws of worlds and of rules that a card typing of rewritten code rests on
pub record AreTypingLaws (w : Linked) : Type 0 where
  pub objects : ClassesAreObjects w.classes
  pub rules : AreRules w
  pub alike : OperationsGoAlike w
  pub sound : OperationsAreSound w
  pub falls : OperationFalls w
  pub keeps : OperationKeeps w
  pub none : OperationNamesNone w
  pub rests : OperationRests w
  pub entry : RestsOnEntry w
  pub whole : OperationKeepsWhole w
  pub derived : DerivedAreWhole w
