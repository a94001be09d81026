use Rattle.std.proofs.Common.{◌≡◌, ⊎_elim, Some, sym, ap, ◌∙◌, arith}
use Rattle.std.proofs.lemmas.Bool.{cases_lt, false≢true}
use Rattle.jc_decode.specs.Names.{name}
use Rattle.jc_decode.proofs.NameTable.{names-apart}
use Rattle.jc_decode.proofs.names.opcode_named.Goals as goal

pub returns-then-has_name-clause-found : goal.returns-then-has_name-clause-found
returns-then-has_name-clause-found c = (c.opcodes-test.true, c.has_name.ensures.0 c.if-has_name.true)

pub returns-then-has_name-clause-given : goal.returns-then-has_name-clause-given
returns-then-has_name-clause-given c =
    λ op h. ap Some (names-apart c.opcodes.op op c.opcodes-test.true h.0 (sym (c.has_name.ensures.0 c.if-has_name.true) ∙ h.1))

pub opcodes-preserved : goal.opcodes-preserved
opcodes-preserved c =
    λ op below same.
    ⊎_elim (λ before. c.opcodes.invariant op before same)
    (λ past.
    let here : op ≡ c.opcodes.op = omega (arith, below, past) in
    false≢true (sym c.if-has_name.false ∙ c.has_name.ensures.1 (same ∙ ap name here)))
    (cases_lt op c.opcodes.op)
