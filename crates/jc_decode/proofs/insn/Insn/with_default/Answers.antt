use Rattle.std.proofs.Common.{◌≡◌, ◌∙◌, ap, arith}
use Rattle.std.specs.Prelude.{ℤ}
use Rattle.std.specs.Int.{w16}
use Rattle.std.proofs.lemmas.Int.{to_z-of_z}
use Rattle.jc_decode.proofs.Defaults.{default-same, default-allowed, default-table, default-cases, few-cases}
use Rattle.jc_decode.proofs.insn.Insn.with_default.Goals as goal

made : (c : goal.After-leading) → c.leading.result ≡ record c.args.self { x = c.args.offset }
made c = c.leading.ensures ∙ ap (λ (d : ℤ). record c.args.self { x = d }) (to_z-of_z w16 c.args.offset c.ranges.offset)

pub returns-clause-same : goal.returns-clause-same
returns-clause-same c = rw (made c) (default-same c.args.self c.args.offset c.requires.switch)

pub returns-clause-allowed : goal.returns-clause-allowed
returns-clause-allowed c =
    rw (made c) (default-allowed c.args.code.bytes.now c.args.at c.args.self c.args.offset c.are_bytes.ensures c.requires.switch c.requires.table
    c.ranges.offset)

pub returns-clause-table : goal.returns-clause-table
returns-clause-table c = rw (made c) (default-table c.args.code.bytes.now c.args.at c.args.self c.args.offset c.requires.table)

pub returns-clause-cases : goal.returns-clause-cases
returns-clause-cases c = rw (made c) (default-cases c.args.code.bytes.now c.args.at c.args.self c.args.offset)

pub returns-clause-few : goal.returns-clause-few
returns-clause-few c = omega (arith, few-cases c.args.code.bytes.now c.args.at c.args.self c.requires.table, c.requires.short)
