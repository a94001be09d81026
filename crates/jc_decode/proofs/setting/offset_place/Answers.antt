use Rattle.std.proofs.Common.{◌≡◌, ◌+◌, ◌*◌, ℕ, ap, ◌∙◌, sym, arith}
use Rattle.jc_decode.specs.declared.layout.Cases.TheVariants.{Absent, Range, Pairs}
use Rattle.jc_decode.specs.Decoding.{pair_width}
use Rattle.jc_decode.proofs.Written.{offset_place-by, offset_place-none}
use Rattle.jc_decode.proofs.setting.offset_place.Goals as goal

pub returns-in-Err : goal.returns-in-Err
returns-in-Err c = c.from.ensures ∙ sym (offset_place-none c.args.at c.args.insn c.args.n c.in-Err.field-0 (sym c.in-Err.ensures))

pub overflow_mul-result : goal.overflow_mul-result
overflow_mul-result c = omega (arith, offset_place-by c.args.at c.args.insn c.args.n c.in-Ok.layout Range (sym c.in-Ok.ensures) c.in-Range.is)

pub overflow_add-result : goal.overflow_add-result
overflow_add-result c = omega (arith, offset_place-by c.args.at c.args.insn c.args.n c.in-Ok.layout Range (sym c.in-Ok.ensures) c.in-Range.is)

pub overflow_mul-result-in-Pairs : goal.overflow_mul-result-in-Pairs
overflow_mul-result-in-Pairs c =
    let pairs : (c.width-in-Pairs.result + 2) * c.args.n ≡ pair_width c.in-Pairs.key * c.args.n = ap (λ (w : ℕ). (w + 2) * c.args.n)
    c.width-in-Pairs.ensures in
    omega (arith, pairs, offset_place-by c.args.at c.args.insn c.args.n c.in-Ok.layout (Pairs c.in-Pairs.key) (sym c.in-Ok.ensures) c.in-Pairs.is)

pub overflow_add-result-in-Pairs-2 : goal.overflow_add-result-in-Pairs-2
overflow_add-result-in-Pairs-2 c =
    let pairs : (c.width-in-Pairs.result + 2) * c.args.n ≡ pair_width c.in-Pairs.key * c.args.n = ap (λ (w : ℕ). (w + 2) * c.args.n)
    c.width-in-Pairs.ensures in
    omega (arith, pairs, offset_place-by c.args.at c.args.insn c.args.n c.in-Ok.layout (Pairs c.in-Pairs.key) (sym c.in-Ok.ensures) c.in-Pairs.is)

pub overflow_add-result-in-Pairs-3 : goal.overflow_add-result-in-Pairs-3
overflow_add-result-in-Pairs-3 c =
    let pairs : (c.width-in-Pairs.result + 2) * c.args.n ≡ pair_width c.in-Pairs.key * c.args.n = ap (λ (w : ℕ). (w + 2) * c.args.n)
    c.width-in-Pairs.ensures in
    omega (arith, pairs, offset_place-by c.args.at c.args.insn c.args.n c.in-Ok.layout (Pairs c.in-Pairs.key) (sym c.in-Ok.ensures) c.in-Pairs.is)

pub returns-in-Absent : goal.returns-in-Absent
returns-in-Absent c = omega (arith, offset_place-by c.args.at c.args.insn c.args.n c.in-Ok.layout Absent (sym c.in-Ok.ensures) c.in-Absent.is)

pub returns-in-Range : goal.returns-in-Range
returns-in-Range c = omega (arith, offset_place-by c.args.at c.args.insn c.args.n c.in-Ok.layout Range (sym c.in-Ok.ensures) c.in-Range.is)

pub returns-in-Pairs : goal.returns-in-Pairs
returns-in-Pairs c =
    let pairs : (c.width-in-Pairs.result + 2) * c.args.n ≡ pair_width c.in-Pairs.key * c.args.n = ap (λ (w : ℕ). (w + 2) * c.args.n)
    c.width-in-Pairs.ensures in
    omega (arith, pairs, offset_place-by c.args.at c.args.insn c.args.n c.in-Ok.layout (Pairs c.in-Pairs.key) (sym c.in-Ok.ensures) c.in-Pairs.is)
