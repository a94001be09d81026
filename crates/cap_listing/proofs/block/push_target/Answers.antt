use Rattle.std.proofs.Common.{◌∙◌, ◌++◌, ◌-ℤ◌, ℤ, pos, ap, w32, w64, rules}
use Rattle.std.specs.Prelude.{FitsSigned}
use Rattle.std.proofs.lemmas.Int.{to_z-of_z}
use Rattle.jc_decode.specs.declared.layout.Operand.TheVariants.{S2}
use Rattle.cap_listing.specs.Numbers.{kept_bytes}
use Rattle.cap_listing.proofs.block.push_target.Goals as goal

pub returns : goal.returns
returns c =
    let fits : FitsSigned w64 c.read_first.result = search rules in
    let short : FitsSigned w32 c.args.target = search rules in
    c.in_ok-push_kept.ensures
    ∙ ap (λ (z : ℤ). c.args.out.now.items ++ kept_bytes S2 z)
    (to_z-of_z w64 c.read_first.result fits ∙ c.read_first.ensures
    ∙ ap (λ (y : ℤ). y -ℤ pos c.args.place) (to_z-of_z w32 c.args.target short))
