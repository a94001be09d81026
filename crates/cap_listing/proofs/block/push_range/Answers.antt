use Rattle.std.proofs.Common.{◌∙◌, ◌-ℤ◌, ℤ, pos, get_or, ap, w32, rules}
use Rattle.std.specs.Prelude.{FitsSigned}
use Rattle.std.proofs.lemmas.Int.{to_z-of_z}
use Rattle.cap_listing.proofs.Pushed.{range-step}
use Rattle.cap_listing.proofs.block.push_range.Goals as goal

pub targets-preserved : goal.targets-preserved
targets-preserved c =
    let ns = c.args.numbers.now in
    let n = c.targets.target-index in
    let fits : FitsSigned w32 (get_or ns n (pos 0)) = search rules in
    range-step c.args.place ns n (pos 0) c.targets.out.items c.push_target.new.out.items _ c.targets-test.true
    (ap (λ (z : ℤ). z -ℤ pos c.args.place) (to_z-of_z w32 (get_or ns n (pos 0)) fits)) c.in_ok-push_target.ensures
    ∙ c.targets.invariant
