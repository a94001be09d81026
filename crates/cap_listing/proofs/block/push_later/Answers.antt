use Rattle.std.proofs.Common.{◌∙◌, ◌++◌, ℤ, List, ap, to_z, of_z, w32, rules}
use Rattle.std.specs.Prelude.{FitsSigned}
use Rattle.std.proofs.lemmas.Int.{to_z-of_z}
use Rattle.cap_listing.specs.Numbers.{first_number, after_operand, table_of}
use Rattle.cap_listing.proofs.Pushed.{later-pushed}
use Rattle.cap_listing.proofs.block.push_later.Goals as goal

pub returns : goal.returns
returns c =
    let l = c.args.layout in
    let y = c.take_number-second.result.0 in
    let z = c.take_number-third.result.0 in
    let second : FitsSigned w32 y = search rules in
    let third : FitsSigned w32 z = search rules in
    later-pushed l c.args.place c.args.numbers.now c.args.out.now.items c.push_operand.new.out.items c.push_operand-2.new.out.items
    c.push_table.new.out.items (to_z w32 (of_z w32 y)) (to_z w32 (of_z w32 z)) (to_z-of_z w32 y second ∙ c.take_number-second.ensures.first)
    (to_z-of_z w32 z third ∙ c.take_number-third.ensures.first ∙ ap first_number c.take_number-second.ensures.rest)
    c.in_ok-push_operand.ensures c.in_ok-push_operand-2.ensures
    (c.in_ok-push_table.ensures
    ∙ ap (λ (ns : List ℤ). c.push_operand-2.new.out.items ++ table_of l.cases c.args.place ns)
    (c.take_number-third.ensures.rest ∙ ap (after_operand l.z) c.take_number-second.ensures.rest))
