use Rattle.jc_control.proofs.Living.{live-from, live-to}
use Rattle.jc_control.proofs.reached.ControlFlow.is_live.Goals as goal

pub returns-clause-live : goal.returns-clause-live
returns-clause-live c = λ m control listed. (
  λ h. live-from m c.args.self.now control c.args.handler listed (c.has_reached.ensures.0 h),
  λ live. c.has_reached.ensures.1 (live-to m c.args.self.now control c.args.handler live),
)
