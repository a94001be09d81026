use Rattle.std.proofs.Common.{◌≡◌, ◌∙◌, ℤ, to_z, of_z, w32, w64, ap, sym, rules}
use Rattle.std.specs.Prelude.{Bool, FitsSigned}
use Rattle.std.proofs.lemmas.Int.{to_z-of_z}
use Rattle.jc_decode.specs.Cases.{cases}
use Rattle.jc_decode.specs.Listing.{jumps}
use Rattle.cap_listing.specs.Numbers.{shown_first}
use Rattle.cap_listing.proofs.Appending.{numbers_pushed}
use Rattle.cap_listing.proofs.numbers.push_numbers.Goals as goal

pub returns : goal.returns
returns c =
    let i = c.args.insn in
    let fits : FitsSigned w32 c.args.insn.x = search rules in
    let first : c.first.result ≡ shown_first (jumps c.args.insn.op) c.args.place c.args.insn.x =
    c.first.ensures ∙ ap (λ (j : Bool). shown_first j c.args.place (to_z w32 (of_z w32 c.args.insn.x))) c.jumps.ensures
    ∙ ap (λ (z : ℤ). shown_first (jumps c.args.insn.op) c.args.place z) (to_z-of_z w32 c.args.insn.x fits) in
    let second : c.from.result ≡ c.args.insn.y = search rules in
    let third : c.from-2.result ≡ c.args.insn.z = search rules in
    let fits_first : FitsSigned w64 c.first.result = search rules in
    let fits_second : FitsSigned w64 c.from.result = search rules in
    let fits_third : FitsSigned w64 c.from-2.result = search rules in
    numbers_pushed c.args.place i (cases c.args.code.bytes.now c.args.at i) c.in-Ok.layout (sym c.in-Ok.ensures)
    c.args.out.now.items c.push_operand.new.out.items c.push_operand-2.new.out.items c.push_operand-3.new.out.items c.push_cases.new.out.items
    (to_z w64 (of_z w64 c.first.result)) (to_z w64 (of_z w64 c.from.result)) (to_z w64 (of_z w64 c.from-2.result))
    (to_z-of_z w64 c.first.result fits_first ∙ first) (to_z-of_z w64 c.from.result fits_second ∙ second)
    (to_z-of_z w64 c.from-2.result fits_third ∙ third)
    c.in_ok-push_operand.ensures c.in_ok-push_operand-2.ensures c.in_ok-push_operand-3.ensures c.in_ok-push_cases.ensures
