use Rattle.std.proofs.Common.{◌+◌, ◌*◌, sym, ◌∙◌, arith}
use Rattle.card_typing.specs.Typing.{IsLeastOver}
use Rattle.card_typing.proofs.Sound.{met-is-sound}
use Rattle.card_typing.proofs.OneRefusal.{met-is-one}
use Rattle.card_verify.specs.Counted.{instruction_count}
use Rattle.card_verify.specs.Verifier.{method, world_of}
use Rattle.card_verify.specs.Walk.{IsFinished}
use Rattle.card_verify.proofs.Answering.{begun-start, least-of, on-ok}
use Rattle.card_verify.proofs.Passing.{passes-within}
use Rattle.card_typing.proofs.Own.{start-length}
use Rattle.card_verify.proofs.verify.Verifier.verify_over.Goals as goal

pub start-requires : goal.start-requires
start-requires g c =
    c.requires.slices.registers ∙ sym
    (start-length c.args.self.now.subject.world.now c.rule_laws.ensures.world (method c.args.self.now) c.args.self.now.subject.there)

pub settle-requires-clause-verifier : goal.settle-requires-clause-verifier
settle-requires-clause-verifier g c =
    let w = world_of c.args.self.now in
    let m = method c.args.self.now in
    let marked = g.M.Marks.marks c.args.marks.now in
    record {
      known = c.args.self.now.subject.there;
      formed = c.requires.formed;
      world = c.rule_laws.ensures.world;
      sound = met-is-sound w c.rule_laws.ensures c.rule_raises.ensures.raises m marked c.args.self.now.subject.there;
      one = met-is-one w c.rule_laws.ensures m marked c.args.self.now.subject.there;
      order = c.instructions_are_listed.ensures;
      records = c.card_laws.ensures.records;
    }

pub settle-requires-clause-begun : goal.settle-requires-clause-begun
settle-requires-clause-begun g c =
    begun-start c.args.self.now (g.M.Marks.marks c.args.marks.now) c.start.new.regs c.args.stack.now c.start.ensures
    (record { registers = c.start.auto.regs ∙ c.requires.slices.registers; cells = c.requires.slices.cells })

pub returns-clause-typing : goal.returns-clause-typing
returns-clause-typing g c =
    let v = c.args.self.now in
    let marked = g.M.Marks.marks c.args.marks.now in
    on-ok (IsFinished v marked c.settle.new.regs) (IsLeastOver (world_of v) (method v) marked c.settle.new.regs) c.settle.result
    (least-of v marked c.rule_laws.ensures c.rule_raises.ensures.raises c.rule_raises.ensures.rests c.instructions_are_placed.ensures
    c.instructions_are_listed.ensures c.args.self.now.subject.there c.requires.formed c.requires.targets c.requires.places
    (c.card_laws.ensures.met (method v) c.args.self.now.subject.there) c.settle.new.regs)
    c.settle.ensures.finished

pub returns-clause-cost : goal.returns-clause-cost
returns-clause-cost g c = λ most takes.
    let v = c.args.self.now in
    omega (
      arith,
      c.settle.ensures.cost most takes,
      passes-within (world_of v) (method v) c.start.new.regs (instruction_count (method v) * (most + 1))
          (c.start.auto.regs ∙ c.requires.slices.registers),
    )
