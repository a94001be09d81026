use Rattle.std.proofs.Common.{arith}
use Rattle.jc_control.specs.Control.{Covers, caught, entered}
use Rattle.jc_control.specs.Subject.{method}
use Rattle.jc_control.specs.Traversal.{ReachesPlace, Grows, IsSoundTraversal, IsCaught}
use Rattle.jc_control.proofs.Growing.{on-ok, led-sound, led-grows, led-here}
use Rattle.jc_control.proofs.PlacesWithin.{place-inside}
use Rattle.jc_control.proofs.traversal.Traversal.enter.Goals as goal

pub lead-requires-clause-reached : goal.lead-requires-clause-reached
lead-requires-clause-reached c =
    let inside = place-inside c.args.subject.code.bytes.now c.args.subject.listed c.args.handler.entry c.requires.formed.entry in
    omega (arith, c.requires.sound.reached_size)

pub lead-requires-clause-leaders : goal.lead-requires-clause-leaders
lead-requires-clause-leaders c =
    let inside = place-inside c.args.subject.code.bytes.now c.args.subject.listed c.args.handler.entry c.requires.formed.entry in
    omega (arith, c.requires.sound.leaders_size)

pub returns-clause-sound : goal.returns-clause-sound
returns-clause-sound c =
    let m = method c.args.subject in
    let inside = place-inside m.code c.args.subject.listed c.args.handler.entry c.requires.formed.entry in
    let covers : Covers c.args.handler c.args.place = c.if-not-covers.ensures in
    on-ok (ReachesPlace c.args.handler.entry c.args.self.now c.lead.new.self) (IsSoundTraversal m c.lead.new.self) c.lead.result
    (λ r. led-sound m c.args.handler.entry c.args.self.now c.lead.new.self c.requires.sound (omega arith) c.lead.ensures.leaders r
    (caught c.requires.reached c.requires.stands covers) (entered c.requires.reached c.requires.stands covers)) c.lead.ensures.reached

pub returns-clause-grows : goal.returns-clause-grows
returns-clause-grows c =
    let m = method c.args.subject in
    let inside = place-inside m.code c.args.subject.listed c.args.handler.entry c.requires.formed.entry in
    on-ok (ReachesPlace c.args.handler.entry c.args.self.now c.lead.new.self) (Grows c.args.self.now c.lead.new.self) c.lead.result
    (λ r. led-grows m c.args.handler.entry c.args.self.now c.lead.new.self c.requires.sound (omega arith) c.lead.ensures.leaders r) c.lead.ensures.reached

pub returns-clause-caught : goal.returns-clause-caught
returns-clause-caught c =
    let m = method c.args.subject in
    let inside = place-inside m.code c.args.subject.listed c.args.handler.entry c.requires.formed.entry in
    on-ok (ReachesPlace c.args.handler.entry c.args.self.now c.lead.new.self) (IsCaught c.lead.new.self c.args.place c.args.handler) c.lead.result
    (λ r covers. led-here m c.args.handler.entry c.args.self.now c.lead.new.self c.requires.sound (omega arith) c.lead.ensures.leaders r)
    c.lead.ensures.reached
