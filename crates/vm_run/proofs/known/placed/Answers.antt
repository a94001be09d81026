use Rattle.std.proofs.Common.{sym, ap, ◌∙◌, List, ℕ, arith}
use Rattle.jc_decode.specs.Decoding.{decoded}
use Rattle.vm_step.specs.Methods.{code_at}
use Rattle.vm_run.proofs.Found.{known-there, known-ends, known-reads, code-short}
use Rattle.vm_run.proofs.known.placed.Goals as goal

pub returns-in-Some-clause-is : goal.returns-in-Some-clause-is
returns-in-Some-clause-is c =
    let code = code_at c.args.world.now c.args.method in
    sym (known-there code (c.instructions_are_listed.ensures code) c.args.place c.in-Some.insn c.requires.there
    (λ i h. c.in-Some.ensures i (ap (λ (bs : List ℕ). decoded bs c.args.place) c.code.ensures.is ∙ h)))

pub returns-in-Some-clause-within : goal.returns-in-Some-clause-within
returns-in-Some-clause-within c =
    let code = code_at c.args.world.now c.args.method in
    let ends = known-ends code (c.instructions_are_listed.ensures code) c.args.place c.in-Some.insn c.requires.there
    (λ i h. c.in-Some.ensures i (ap (λ (bs : List ℕ). decoded bs c.args.place) c.code.ensures.is ∙ h)) in
    let short = code-short _ code c.code.ensures.is c.code.ensures.short in omega arith

pub returns-in-None-clause-is : goal.returns-in-None-clause-is
returns-in-None-clause-is c =
    let code = code_at c.args.world.now c.args.method in
    absurd (known-reads code (c.instructions_are_listed.ensures code) c.args.place c.requires.there
    (λ i h. c.in-None.ensures i (ap (λ (bs : List ℕ). decoded bs c.args.place) c.code.ensures.is ∙ h)))
