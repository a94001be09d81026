use Rattle.std.proofs.Common.{inl, refl, arith}
use Rattle.jc_rules.specs.Apply.{frame_of}
use Rattle.card_verify.specs.Indexed.{subject, world_in, listed}
use Rattle.card_verify.proofs.Verified.{none-over, kept-over, bound-whole, counted-sooner, counted-by-state}
use Rattle.card_verify.proofs.index_verify.Indexed.verify.Goals as goal

pub returns-in-Ok-clause-none : goal.returns-in-Ok-clause-none
returns-in-Ok-clause-none g c =
    let x = c.args.self.now in
    none-over (world_in x) (subject x) (listed x) c.verify_types.new.regs c.verify_types.new.stack c.verify_types.result c.index_laws.ensures.denies
    x.verifier.subject.there c.verify_types.ensures.refused

pub returns-in-Ok-clause-cost : goal.returns-in-Ok-clause-cost
returns-in-Ok-clause-cost g c = λ b lt.
    let x = c.args.self.now in
    omega (arith, c.check.ensures.cost b lt, c.verify_types.ensures.cost b lt, bound-whole (world_in x) (subject x) (listed x) b)

pub returns-in-Err-clause-none : goal.returns-in-Err-clause-none
returns-in-Err-clause-none g c =
    let x = c.args.self.now in
    let kept = frame_of c.args.regs.now c.args.stack.now c.in-Err.fault.depth in
    c.index_laws.ensures.denies (subject x) (listed x) c.in-Err.fault kept x.verifier.subject.there (c.in-Err.ensures.refused kept)

pub returns-in-Err-clause-refused : goal.returns-in-Err-clause-refused
returns-in-Err-clause-refused g c = c.in-Err.ensures.refused (frame_of c.args.regs.now c.args.stack.now c.in-Err.fault.depth)

pub returns-in-Err-clause-cost : goal.returns-in-Err-clause-cost
returns-in-Err-clause-cost g c = λ b lt.
    let x = c.args.self.now in
    omega (arith, c.check.ensures.cost b lt, bound-whole (world_in x) (subject x) (listed x) b)

pub returns-in-Ok-clause-counted : goal.returns-in-Ok-clause-counted
returns-in-Ok-clause-counted g c =
    let x = c.args.self.now in
    counted-sooner (world_in x) (subject x) (listed x) c.args.steps.now c.check.new.steps c.verify_types.new.steps c.in-Ok.ensures.read
    c.verify_types.new.regs c.verify_types.result c.verify_types.ensures.counted

pub returns-in-Ok-clause-counted_to : goal.returns-in-Ok-clause-counted_to
returns-in-Ok-clause-counted_to g c =
    let x = c.args.self.now in
    counted-by-state (world_in x) (subject x) (listed x) c.args.steps.now c.check.new.steps c.verify_types.new.steps c.in-Ok.ensures.read
    c.verify_types.new.regs c.verify_types.new.stack c.verify_types.result c.verify_types.ensures.counted_to

pub returns-in-Err-clause-counted_to : goal.returns-in-Err-clause-counted_to
returns-in-Err-clause-counted_to g c = inl (c.in-Err.ensures.form, c.in-Err.ensures.read_to)

pub returns-in-Ok-clause-as_before : goal.returns-in-Ok-clause-as_before
returns-in-Ok-clause-as_before g c =
    let x = c.args.self.now in
    kept-over (world_in x) (subject x) (listed x) c.verify_types.new.regs c.verify_types.new.stack c.verify_types.result _ c.card_laws.ensures.told
    c.in-Ok.ensures.formed c.in-Ok.ensures.index c.verify_types.ensures.refused

pub returns-in-Err-clause-as_before : goal.returns-in-Err-clause-as_before
returns-in-Err-clause-as_before g c = λ h. (refl, refl)
