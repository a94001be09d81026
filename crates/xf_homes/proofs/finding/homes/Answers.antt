use Rattle.std.proofs.Common.{◌≡◌, Some, ◌∙◌, ap, arith}
use Rattle.jc_base.specs.Linked.{IsMethod}
use Rattle.jc_control.specs.Subject.{method}
use Rattle.jc_rules.specs.Typing.{state_at}
use Rattle.xf_homes.specs.Walk.{argument_homes, code_events, with_events}
use Rattle.xf_homes.specs.Answer.{IsTypingOf}
use Rattle.xf_homes.proofs.Answered.{flaw-never, answered-homes, answered-end}
use Rattle.xf_homes.proofs.finding.homes.Goals as goal

pub unreachable-requires : goal.unreachable-requires
unreachable-requires c =
    let s = c.of-subject.result in
    flaw-never c.flaws_decide.ensures s.world.now c.args.typing.now (Some (method s)) c.in-Err-Flawed.field-0 c.in-Err-Flawed.field-0-0
    c.in-Err-Flawed.field-0-is (rw (c.of-subject.ensures.is, ← c.of-subject.ensures.world) at c.requires.typing) c.in-Err-Flawed.ensures.flawed

pub find-requires : goal.find-requires
find-requires c =
    let s = c.of-subject.result in
    record { method = s.there; short = omega (arith, s.short) }

pub returns : goal.returns
returns c =
    let s = c.of-subject.result in
    let w = s.world.now in
    let m = method s in
    let typed : IsTypingOf w m c.args.typing.now = rw (c.of-subject.ensures.is, ← c.of-subject.ensures.world) at c.requires.typing in
    let is : c.find.new.homes.keys ≡ with_events (argument_homes m.rec) (code_events w m (state_at c.args.typing.now) c.in-Ok.control.leaders) =
    c.in_ok-find.ensures ∙ ap (λ hs. with_events hs (code_events w m (state_at c.args.typing.now) c.in-Ok.control.leaders)) c.in_ok-homes.ensures in
    let placed = c.instructions_are_placed.ensures m typed.least.typing.formed in
    let links : IsMethod w.infos w.pools w.classes m.rec = rw c.of-subject.ensures.world c.of-subject.ensures.links in
    record {
      homes =
          rw (c.of-subject.ensures.is, ← c.of-subject.ensures.world)
          (answered-homes w m c.args.typing.now typed c.in-Ok.control c.in-Ok.ensures.formed placed s.listed s.there links
          c.types_are_ordered.ensures.same c.find.new.homes.keys is c.counted.result c.counted.ensures.homes);
      end =
          rw (c.of-subject.ensures.is, ← c.of-subject.ensures.world)
          (answered-end w m c.args.typing.now typed c.in-Ok.control c.in-Ok.ensures.formed placed s.listed s.there links
          c.types_are_ordered.ensures.same c.find.new.homes.keys is c.counted.result c.counted.ensures.end);
    }
