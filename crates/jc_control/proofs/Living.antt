-- Live handlers, leaders and the places that control reaches.
use Rattle.std.proofs.Common.{ℕ, Contains}
use Rattle.jc_base.specs.declared.record.Handler.{Handler}
use Rattle.jc_control.specs.Method.{Method}
use Rattle.jc_control.specs.Control.{IsReached, follows, caught, jumped, IsLeader, led_to, entered, IsLive}
use Rattle.jc_control.specs.ControlFlow.{Marked, IsControlFlow, IsMarkedLive}

pub live-from : (m : Method) (s : Marked) → IsControlFlow m s → (h : Handler) → Contains m.rec.handlers h → IsMarkedLive s h → IsLive m h
live-from m s control h listed live = record { listed = listed; place = live.place; reached = (control.reached live.place).0 live.marked; covers = live.covers }

pub live-to : (m : Method) (s : Marked) → IsControlFlow m s → (h : Handler) → IsLive m h → IsMarkedLive s h
live-to m s control h live = record { place = live.place; marked = (control.reached live.place).1 live.reached; covers = live.covers }

pub leader-reached : (m : Method) (q : ℕ) → IsLeader m q → IsReached m q
leader-reached m _ (led_to stands reached among) = follows stands reached (jumped among)
leader-reached m _ (entered reached listed covers) = caught reached listed covers
