use Rattle.std.proofs.Common.{◌≡◌, ◌∙◌, ◌++◌, ℤ, ap, w64, rules}
use Rattle.std.specs.Prelude.{FitsSigned}
use Rattle.std.proofs.lemmas.Int.{to_z-of_z}
use Rattle.cap_listing.specs.Numbers.{kept_bytes}
use Rattle.cap_listing.proofs.block.push_operand.Goals as goal

pub returns : goal.returns
returns c =
    let same : c.from.result ≡ c.args.number = search rules in
    let fits : FitsSigned w64 c.from.result = search rules in
    c.in_ok-push_kept.ensures
    ∙ ap (λ (z : ℤ). c.args.out.now.items ++ kept_bytes c.args.operand z) (to_z-of_z w64 c.from.result fits ∙ same)
