use Rattle.std.proofs.Common.{sym, All}
use Rattle.jc_decode.specs.declared.insn.Placed.{Placed}
use Rattle.jc_control.specs.Subject.{method}
use Rattle.jc_control.specs.Traversal.{Grows, IsCaught, IsClosedAt}
use Rattle.jc_control.proofs.Closing.{closed-at-end, stands-reached, closed-after}
use Rattle.jc_control.proofs.Growing.{on-ok, on-both, grows-on}
use Rattle.jc_control.proofs.traversal.Traversal.visit.Goals as goal

pub returns-in-Err-clause-closed : goal.returns-in-Err-clause-closed
returns-in-Err-clause-closed c =
    closed-at-end (method c.args.subject) c.args.subject.listed c.requires.formed c.args.self.now c.args.place c.in-Err.field-0 c.requires.reached
    (sym c.in-Err.ensures.value)

pub fall-requires-clause-stands : goal.fall-requires-clause-stands
fall-requires-clause-stands c =
    stands-reached (method c.args.subject) c.args.subject.listed c.requires.formed (record { place = c.args.place; insn = c.in-Ok.insn }) c.requires.reached
    (sym c.in-Ok.ensures.value)

pub jump-requires-clause-stands : goal.jump-requires-clause-stands
jump-requires-clause-stands c =
    stands-reached (method c.args.subject) c.args.subject.listed c.requires.formed (record { place = c.args.place; insn = c.in-Ok.insn }) c.requires.reached
    (sym c.in-Ok.ensures.value)

pub returns-clause-grows : goal.returns-clause-grows
returns-clause-grows c =
    let fell = c.fall.new.self in
    let jumped = c.jump.new.self in
    let after = c.catch.new.self in
    on-ok (Grows jumped after) (Grows c.args.self.now after) c.catch.result
    (λ g. grows-on c.args.self.now fell after c.in_ok-fall.ensures.grows (grows-on fell jumped after c.in_ok-jump.ensures.grows g)) c.catch.ensures.grows

pub returns-clause-closed : goal.returns-clause-closed
returns-clause-closed c =
    let m = method c.args.subject in
    let i : Placed = record { place = c.args.place; insn = c.in-Ok.insn } in
    let stands = stands-reached m c.args.subject.listed c.requires.formed i c.requires.reached (sym c.in-Ok.ensures.value) in
    let fell = c.fall.new.self in
    let jumped = c.jump.new.self in
    let after = c.catch.new.self in
    on-both (Grows jumped after) (All (IsCaught after c.args.place) m.rec.handlers) (IsClosedAt m after c.args.place) c.catch.result
    (λ g caught. closed-after m c.args.subject.listed fell jumped after i c.in_ok-jump.ensures.grows g stands c.in_ok-fall.ensures.next
    c.in_ok-jump.ensures.led caught) c.catch.ensures.grows c.catch.ensures.caught
