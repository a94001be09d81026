use Rattle.std.proofs.Common.{subst, sym, ap, ◌∙◌, rules}
use Rattle.std.specs.Prelude.{FitsSigned, ℤ, pos, ◌≤ℤ◌, ◌<ℤ◌, unsigned_abs}
use Rattle.std.specs.Int.{w32}
use Rattle.std.proofs.lemmas.Int.{to_z-of_z}
use Rattle.xf_code.proofs.Leading.{near-low, near-high}
use Rattle.xf_code.proofs.jump.target_place.Goals as goal

pub place_of-requires-clause-low : goal.place_of-requires-clause-low
place_of-requires-clause-low c =
    let fits : FitsSigned w32 c.args.target = search rules in
    subst (λ (x : ℤ). pos 0 ≤ℤ x) (sym (to_z-of_z w32 c.args.target fits)) (near-low c.args.target c.requires)

pub place_of-requires-clause-high : goal.place_of-requires-clause-high
place_of-requires-clause-high c =
    let fits : FitsSigned w32 c.args.target = search rules in
    subst (λ (x : ℤ). x <ℤ pos 65536) (sym (to_z-of_z w32 c.args.target fits)) (near-high c.args.target c.requires)

pub returns : goal.returns
returns c =
    let fits : FitsSigned w32 c.args.target = search rules in
    ap unsigned_abs (c.place_of.ensures ∙ to_z-of_z w32 c.args.target fits)
