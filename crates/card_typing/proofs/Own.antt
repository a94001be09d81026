-- What holds of a method of the world, of its start and of the classes that its handlers catch.
use Rattle.std.proofs.Common.{◌≡◌, ◌+◌, length, All}
use Rattle.jc_base.specs.declared.ty.Ty.TheVariants.{Bottom}
use Rattle.jc_base.specs.Order.{IsKnown}
use Rattle.jc_base.specs.World.{Linked, IsWorld}
use Rattle.jc_control.specs.Method.{Method, IsMethodOf}
use Rattle.jc_rules.specs.Flow.{start_frame, IsNotFresh}
use Rattle.jc_rules.proofs.Types.{declared-not_fresh}
use Rattle.jc_rules.proofs.Starts.{own-class, start-all, start-counted}
use Rattle.jc_base.proofs.Orders.{declared-known}

module _ (w : Linked) (is : IsWorld w) (m : Method) (mo : IsMethodOf w m) where
  pub start-length : length (start_frame m.rec Bottom).regs ≡ m.rec.nargs + m.rec.max_locals
  start-length = start-counted w is m mo Bottom

  pub start-known : All (IsKnown w.classes) (start_frame m.rec Bottom).regs
  start-known = start-all w is m mo Bottom (IsKnown w.classes) (own-class w is m mo) (declared-known w.classes) tt

  pub start-ready : All IsNotFresh (start_frame m.rec Bottom).regs
  start-ready = start-all w is m mo Bottom IsNotFresh tt (declared-not_fresh w.classes) tt
