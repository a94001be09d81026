use Rattle.std.proofs.Common.{rules, ◌≡◌, ◌+◌, ◌++◌, ◌∷◌, [], suc, length, Some, option_map, slice_get, Contains, sym, ◌∙◌}
use Rattle.std.proofs.Common.{ap, subst, arith, length-append}
use Rattle.std.proofs.lemmas.Bool.Decides.{nat_tests}
use Rattle.jc_base.specs.declared.ty.Ty.TheVariants.{Bottom}
use Rattle.jc_base.specs.World.{code_of}
use Rattle.jc_base.proofs.CodeLengths.{length-short}
use Rattle.jc_control.specs.Method.{Method, IsMethodOf}
use Rattle.jc_control.proofs.Elements.{at-last}
use Rattle.jc_decode.specs.Instructions.{rest_of}
use Rattle.jc_decode.specs.Listing.{listing}
use Rattle.jc_rules.specs.declared.effect.Mode.TheVariants.{Card}
use Rattle.jc_rules.specs.Apply.{frame_of}
use Rattle.jc_rules.specs.Flow.{start_frame}
use Rattle.jc_rules.specs.Stack.{cells}
use Rattle.card_typing.specs.Pass.{HasAfterPasses}
use Rattle.card_typing.proofs.Sites.{rule-is-of-record}
use Rattle.jc_control.proofs.OwnMethod.{to-method, record-fact, is-method, own-length}
use Rattle.card_verify.proofs.Landing.{no-cells}
use Rattle.card_verify.proofs.Nearest.{next-whole}
use Rattle.link_tests.proofs.Walked.{IsComing, after-one, coming-begun, coming-next, known-here, met-here, stands-there}
use Rattle.link_tests.proofs.once.passes_once.Goals as goal

pub walk-init : goal.walk-init
walk-init c =
    let w = c.args.world.now in
    let bytes : option_map (code_of w.infos) (slice_get w.methods c.args.number) ≡ Some c.of-code.result.bytes.now = cc in
    let m : Method = record { number = c.args.number; rec = c.method-rec.result.now; code = c.of-code.result.bytes.now } in
    let len = own-length w c.args.number c.method-rec.result.now c.of-code.result.bytes.now c.code.result.now c.method-rec.ensures.is c.of-code.ensures
    c.code.ensures.len in
    let mo : IsMethodOf w m = is-method w c.args.number c.method-rec.result.now c.of-code.result.bytes.now c.method-rec.ensures.is bytes len
    c.requires.code in
    record {
      whole = search rules;
      coming =
          coming-begun w m (c.are_none.ensures c.if-not-are_none.false) mo.filled c.args.regs.now (cells c.args.stack.now 0)
          (record-fact w c.args.number c.method-rec.result.now c.of-code.result.bytes.now c.method-rec.ensures.is bytes
          (λ r. c.args.regs.now ≡ (start_frame r Bottom).regs) c.requires.begun) (no-cells c.args.stack.now);
      registers =
          record-fact w c.args.number c.method-rec.result.now c.of-code.result.bytes.now c.method-rec.ensures.is bytes
          (λ r. length c.args.regs.now ≡ r.nargs + r.max_locals) c.requires.registers;
      stack =
          record-fact w c.args.number c.method-rec.result.now c.of-code.result.bytes.now c.method-rec.ensures.is bytes
          (λ r. length c.args.stack.now ≡ r.max_stack) c.requires.cells;
    }

pub apply-requires-clause-regs_known : goal.apply-requires-clause-regs_known
apply-requires-clause-regs_known c =
    let w = c.args.world.now in
    let bytes : option_map (code_of w.infos) (slice_get w.methods c.args.number) ≡ Some c.of-code.result.bytes.now = cc in
    let m : Method = record { number = c.args.number; rec = c.method-rec.result.now; code = c.of-code.result.bytes.now } in
    let len = own-length w c.args.number c.method-rec.result.now c.of-code.result.bytes.now c.code.result.now c.method-rec.ensures.is c.of-code.ensures
    c.code.ensures.len in
    let mo : IsMethodOf w m = is-method w c.args.number c.method-rec.result.now c.of-code.result.bytes.now c.method-rec.ensures.is bytes len
    c.requires.code in
    let there = stands-there c.walk.yielded (rest_of c.walk.placed-iterator) c.in-Some.placed (rest_of c.next.new.self)
    (listing c.of-code.result.bytes.now) c.walk.invariant.whole c.in-Some.ensures.steps in
    (known-here w m c.rule_laws.ensures c.rule_raises.ensures.raises mo (length c.walk.yielded) c.walk.at c.in-Some.placed c.walk.regs
    (cells c.walk.stack c.walk.depth) c.walk.invariant.coming (c.may_stand.ensures.here c.if-not-may_stand.false)
    ((c.instructions_are_listed.ensures c.of-code.result.bytes.now).inside c.in-Some.placed there)).regs

pub apply-requires-clause-stack_known : goal.apply-requires-clause-stack_known
apply-requires-clause-stack_known c =
    let w = c.args.world.now in
    let bytes : option_map (code_of w.infos) (slice_get w.methods c.args.number) ≡ Some c.of-code.result.bytes.now = cc in
    let m : Method = record { number = c.args.number; rec = c.method-rec.result.now; code = c.of-code.result.bytes.now } in
    let len = own-length w c.args.number c.method-rec.result.now c.of-code.result.bytes.now c.code.result.now c.method-rec.ensures.is c.of-code.ensures
    c.code.ensures.len in
    let mo : IsMethodOf w m = is-method w c.args.number c.method-rec.result.now c.of-code.result.bytes.now c.method-rec.ensures.is bytes len
    c.requires.code in
    let there = stands-there c.walk.yielded (rest_of c.walk.placed-iterator) c.in-Some.placed (rest_of c.next.new.self)
    (listing c.of-code.result.bytes.now) c.walk.invariant.whole c.in-Some.ensures.steps in
    (known-here w m c.rule_laws.ensures c.rule_raises.ensures.raises mo (length c.walk.yielded) c.walk.at c.in-Some.placed c.walk.regs
    (cells c.walk.stack c.walk.depth) c.walk.invariant.coming (c.may_stand.ensures.here c.if-not-may_stand.false)
    ((c.instructions_are_listed.ensures c.of-code.result.bytes.now).inside c.in-Some.placed there)).stack

pub overflow_add-at : goal.overflow_add-at
overflow_add-at c =
    let there = stands-there c.walk.yielded (rest_of c.walk.placed-iterator) c.in-Some.placed (rest_of c.next.new.self)
    (listing c.of-code.result.bytes.now) c.walk.invariant.whole c.in-Some.ensures.steps in
    let within = (c.instructions_are_listed.ensures c.of-code.result.bytes.now).within c.in-Some.placed there in
    let len = own-length c.args.world.now c.args.number c.method-rec.result.now c.of-code.result.bytes.now c.code.result.now c.method-rec.ensures.is
    c.of-code.ensures c.code.ensures.len in
    let short = length-short _ c.method-rec.result.now.code_len c.method-rec.ensures.links.code in
    let place = c.from.ensures in
    omega (arith, within, short, len, place)

pub walk-preserved : goal.walk-preserved
walk-preserved c =
    let w = c.args.world.now in
    let m : Method = record { number = c.args.number; rec = c.method-rec.result.now; code = c.of-code.result.bytes.now } in
    let bytes : option_map (code_of w.infos) (slice_get w.methods c.args.number) ≡ Some c.of-code.result.bytes.now = cc in
    let len = own-length w c.args.number c.method-rec.result.now c.of-code.result.bytes.now c.code.result.now c.method-rec.ensures.is c.of-code.ensures
    c.code.ensures.len in
    let mo : IsMethodOf w m = is-method w c.args.number c.method-rec.result.now c.of-code.result.bytes.now c.method-rec.ensures.is bytes len
    c.requires.code in
    let i = c.in-Some.placed in
    let there = stands-there c.walk.yielded (rest_of c.walk.placed-iterator) i (rest_of c.next.new.self)
    (listing c.of-code.result.bytes.now) c.walk.invariant.whole c.in-Some.ensures.steps in
    let lt = (c.instructions_are_listed.ensures c.of-code.result.bytes.now).inside i there in
    let here = c.may_stand.ensures.here c.if-not-may_stand.false in
    let o = c.in-Ok.outcome in
    let before = frame_of c.walk.regs c.walk.stack c.walk.depth in
    let after = frame_of c.apply.new.regs c.apply.new.stack o.depth in
    let left = c.if-not-leaves_well.false in
    let more : length (c.walk.yielded ++ i ∷ []) ≡ suc (length c.walk.yielded) = omega (arith, length-append c.walk.yielded (i ∷ [])) in
    let at : c.from.result + i.insn.len ≡ i.place + i.insn.len = ap (λ n. n + i.insn.len) c.from.ensures in
    let next : IsComing w m (suc (length c.walk.yielded)) (i.place + i.insn.len) after.regs after.stack =
    coming-next w m (c.are_none.ensures c.if-not-are_none.false) (length c.walk.yielded) i before after o
    (met-here w m (length c.walk.yielded) c.walk.at i c.walk.regs (cells c.walk.stack c.walk.depth) c.walk.invariant.coming here lt) there
    (λ first. ap (cells c.walk.stack) (c.may_stand.ensures.empty c.if-not-may_stand.false first) ∙ no-cells c.walk.stack)
    ((rule-is-of-record w).applies m i.place i.insn Card before after o mo c.in-Ok.ensures.applies)
    (λ j. ap (cells c.apply.new.stack) (c.leaves_well.ensures.jumps left j) ∙ no-cells c.apply.new.stack)
    (c.leaves_well.ensures.falls left)
    (λ e. ap (cells c.apply.new.stack) (c.leaves_well.ensures.ends left e) ∙ no-cells c.apply.new.stack) in
    record {
      whole =
          next-whole c.walk.yielded (rest_of c.walk.placed-iterator) i (rest_of c.next.new.self) (listing c.of-code.result.bytes.now)
          c.walk.invariant.whole c.in-Some.ensures.steps;
      coming =
          subst (λ n. IsComing w m n (c.from.result + i.insn.len) after.regs after.stack) (sym more)
          (subst (λ n. IsComing w m (suc (length c.walk.yielded)) n after.regs after.stack) (sym at) next);
      registers = c.apply.auto.regs ∙ c.walk.invariant.registers;
      stack = c.apply.auto.stack ∙ c.walk.invariant.stack;
    }

pub returns : goal.returns
returns c = λ t.
    let w = c.args.world.now in
    let m : Method = record { number = c.args.number; rec = c.method-rec.result.now; code = c.of-code.result.bytes.now } in
    let bytes : option_map (code_of w.infos) (slice_get w.methods c.args.number) ≡ Some c.of-code.result.bytes.now = cc in
    let end : c.walk.at ≡ length c.of-code.result.bytes.now = grind (arith, nat_tests, t) in
    let all = at-last c.walk.yielded (rest_of c.walk.placed-iterator) (listing c.of-code.result.bytes.now) c.walk.invariant.whole
    c.in-None.ensures.steps.0 in
    to-method w c.args.number c.method-rec.result.now c.of-code.result.bytes.now c.method-rec.ensures.is bytes
    (λ k. HasAfterPasses w k (Contains (0 ∷ [])) 1 c.walk.regs)
    (after-one w m (length c.walk.yielded) c.walk.regs (cells c.walk.stack c.walk.depth)
    (subst (λ n. IsComing w m (length c.walk.yielded) n c.walk.regs (cells c.walk.stack c.walk.depth)) end c.walk.invariant.coming) (ap length all))
