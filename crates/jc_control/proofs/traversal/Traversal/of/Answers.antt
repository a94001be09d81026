use Rattle.std.proofs.Common.{◌+◌, length, arith, refl, sym}
use Rattle.jc_control.specs.Control.{begins}
use Rattle.jc_control.specs.Subject.{method}
use Rattle.jc_control.proofs.Growing.{kept, reached-sound, reached-grows, reached-found, taken-pending, visited-closed}
use Rattle.jc_control.proofs.Closing.{none-sound, none-closed, traversed}
use Rattle.jc_control.proofs.traversal.Traversal.of.Goals as goal

pub work-init : goal.work-init
work-init c =
    let m = method c.args.subject in
    let s = c.in_ok-traversal.traversal in
    let t = c.reach.new.self in
    let size = length m.code + 1 in
    let none = none-sound m s size refl c.in_ok-traversal.ensures.reached c.in_ok-traversal.ensures.leaders c.in_ok-traversal.ensures.pending in
    let grows = reached-grows m 0 s t none (omega arith) c.reach.ensures.leaders c.in_ok-reach.ensures.reached in
    record {
      sound = reached-sound m 0 s t none (omega arith) c.reach.ensures.leaders c.in_ok-reach.ensures.reached begins;
      closed = none-closed m s size c.in_ok-traversal.ensures.reached t grows;
      start = reached-found m 0 s t none (omega arith) c.reach.ensures.leaders c.in_ok-reach.ensures.reached;
    }

pub visit-requires-clause-reached : goal.visit-requires-clause-reached
visit-requires-clause-reached c =
    let m = method c.args.subject in
    let s = c.work.traversal in
    c.work.invariant.sound.reached c.in-Some.place
    (c.work.invariant.sound.pending c.in-Some.place (taken-pending m c.in-Some.place s c.take.new.self c.in-Some.ensures.some))

pub work-preserved : goal.work-preserved
work-preserved c =
    let m = method c.args.subject in
    let s = c.work.traversal in
    let t = c.take.new.self in
    let u = c.visit.new.self in
    let takes = c.in-Some.ensures.some in
    let done = c.in_ok-visit.ensures in
    record {
      sound = done.sound;
      closed = visited-closed m c.in-Some.place s t takes u done.grows done.closed c.work.invariant.closed;
      start = done.grows.reached 0 (kept s.reached t.reached 0 (sym takes.reached) c.work.invariant.start);
    }

pub returns : goal.returns
returns c =
    traversed (method c.args.subject) c.work.traversal c.take.new.self c.work.invariant.sound c.work.invariant.closed c.work.invariant.start
    c.in_default.ensures.none c.args.listing.now c.requires.listing c.requires.formed
