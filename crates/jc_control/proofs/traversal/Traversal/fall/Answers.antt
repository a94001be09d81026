use Rattle.std.proofs.Common.{◌+◌, arith, sym, ◌∙◌, rules, IsTrue}
use Rattle.jc_decode.specs.Listing.{falls}
use Rattle.jc_control.specs.Control.{IsReached, follows, falls_through}
use Rattle.jc_control.specs.Flags.{IsFlagged}
use Rattle.jc_control.specs.Subject.{method}
use Rattle.jc_control.specs.Traversal.{ReachesPlace, Grows, IsSoundTraversal}
use Rattle.jc_control.proofs.Growing.{on-ok, reached-sound, reached-grows, reached-found}
use Rattle.jc_control.proofs.traversal.Traversal.fall.Goals as goal

pub overflow_cast-placed : goal.overflow_cast-placed
overflow_cast-placed c =
    let within = c.args.subject.listed.within c.args.placed c.requires.stands in
    let short = c.args.subject.short in
    omega (arith, within, short)

pub overflow_add-placed : goal.overflow_add-placed
overflow_add-placed c =
    let within = c.args.subject.listed.within c.args.placed c.requires.stands in
    let short = c.args.subject.short in
    omega (arith, within, short)

pub reach-requires : goal.reach-requires
reach-requires c =
    let within = c.args.subject.listed.within c.args.placed c.requires.stands in
    omega (arith, within, c.requires.sound.reached_size)

pub returns-clause-sound : goal.returns-clause-sound
returns-clause-sound c =
    let m = method c.args.subject in
    let within = c.args.subject.listed.within c.args.placed c.requires.stands in
    let place = c.args.placed.place + c.args.placed.insn.len in
    let goes : IsTrue (falls c.args.placed.insn.op) = search (rules, sym c.falls.ensures ∙ c.if-not-falls.false) in
    let here : IsReached m place = follows c.requires.stands c.requires.reached (falls_through goes) in
    on-ok (ReachesPlace place c.args.self.now c.reach.new.self) (IsSoundTraversal m c.reach.new.self) c.reach.result
    (λ r. reached-sound m place c.args.self.now c.reach.new.self c.requires.sound within c.reach.ensures.leaders r here) c.reach.ensures.reached

pub returns-clause-grows : goal.returns-clause-grows
returns-clause-grows c =
    let m = method c.args.subject in
    let within = c.args.subject.listed.within c.args.placed c.requires.stands in
    let place = c.args.placed.place + c.args.placed.insn.len in
    on-ok (ReachesPlace place c.args.self.now c.reach.new.self) (Grows c.args.self.now c.reach.new.self) c.reach.result
    (λ r. reached-grows m place c.args.self.now c.reach.new.self c.requires.sound within c.reach.ensures.leaders r) c.reach.ensures.reached

pub returns-clause-next : goal.returns-clause-next
returns-clause-next c =
    let m = method c.args.subject in
    let within = c.args.subject.listed.within c.args.placed c.requires.stands in
    let place = c.args.placed.place + c.args.placed.insn.len in
    on-ok (ReachesPlace place c.args.self.now c.reach.new.self) (IsTrue (falls c.args.placed.insn.op) → IsFlagged c.reach.new.self.reached place)
    c.reach.result
    (λ r goes. reached-found m place c.args.self.now c.reach.new.self c.requires.sound within c.reach.ensures.leaders r) c.reach.ensures.reached
