use Rattle.std.proofs.Common.{◌∙◌, ◌++◌, ℤ, List, ap, sym, to_z, of_z, w32, w64, rules}
use Rattle.std.specs.Prelude.{Bool, FitsSigned}
use Rattle.std.proofs.lemmas.Int.{to_z-of_z}
use Rattle.jc_decode.specs.Listing.{jumps}
use Rattle.cap_listing.specs.Numbers.{read_first, later_bytes}
use Rattle.cap_listing.proofs.Pushed.{block-pushed}
use Rattle.cap_listing.proofs.block.push_block.Goals as goal

pub returns : goal.returns
returns c =
    let n = c.take_number-first.result.0 in
    let short : FitsSigned w32 n = search rules in
    let fits : FitsSigned w64 c.read_first.result = search rules in
    block-pushed c.args.place c.args.op c.args.numbers.now c.in-Ok.layout (sym c.in-Ok.ensures) c.args.out.now.items c.push.new.self.items
    c.push_kept.new.out.items c.push_later.new.out.items (to_z w64 (of_z w64 c.read_first.result))
    (to_z-of_z w64 c.read_first.result fits ∙ c.read_first.ensures
    ∙ ap (λ (j : Bool). read_first j c.args.place (to_z w32 (of_z w32 n))) c.jumps.ensures
    ∙ ap (λ (z : ℤ). read_first (jumps c.args.op) c.args.place z) (to_z-of_z w32 n short ∙ c.take_number-first.ensures.first))
    c.in_ok-push.ensures.items c.in_ok-push_kept.ensures
    (c.in_ok-push_later.ensures
    ∙ ap (λ (ns : List ℤ). c.push_kept.new.out.items ++ later_bytes c.in-Ok.layout c.args.place ns) c.take_number-first.ensures.rest)
