use Rattle.std.proofs.Common.{◌≡◌, ◌+◌, ◌-◌, ◌*◌, ℕ, take, drop, ap, ◌∙◌, arith}
use Rattle.jc_decode.specs.Names.{width}
use Rattle.jc_decode.specs.declared.names.TheConstants.{NAMES}
use Rattle.jc_decode.proofs.NameTable.{piece-name, IsAscii-table, width-narrow, name-past}
use Rattle.jc_decode.proofs.names.opcode_name.Goals as goal

pub overflow_add-start : goal.overflow_add-start
overflow_add-start c = let narrow = width-narrow c.args.op c.if-op-lt185.true in omega (arith, narrow, c.width.ensures, c.if-op-lt185.true)

pub range-requires-clause-start_boundary : goal.range-requires-clause-start_boundary
range-requires-clause-start_boundary c =
    λ _. (omega arith, λ a b. absurd (omega (arith, IsAscii-table (16 * c.args.op))))

pub range-requires-clause-end_boundary : goal.range-requires-clause-end_boundary
range-requires-clause-end_boundary c =
    (omega (arith, width-narrow c.args.op c.if-op-lt185.true, c.width.ensures), λ a b. absurd (omega (arith, IsAscii-table (16 * c.args.op + c.width.result))))

pub returns-then-op-lt185 : goal.returns-then-op-lt185
returns-then-op-lt185 c =
    let narrow : 16 * c.args.op + c.width.result - 16 * c.args.op ≡ width c.args.op = omega (arith, c.width.ensures) in
    c.range.ensures.value ∙ ap (λ (n : ℕ). take n (drop (16 * c.args.op) NAMES.now)) narrow ∙ piece-name c.args.op c.if-op-lt185.true

pub returns-else-op-lt185 : goal.returns-else-op-lt185
returns-else-op-lt185 c = name-past c.args.op (omega (arith, c.if-op-lt185.false))
