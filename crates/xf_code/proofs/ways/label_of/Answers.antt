use Rattle.std.proofs.Common.{◌≡◌, ◌∙◌, sym, ap, Some, None, position, rules}
use Rattle.std.specs.Prelude.{ℤ, FitsSigned}
use Rattle.std.specs.Int.{w32}
use Rattle.std.specs.Ordering.{int_eq}
use Rattle.std.proofs.lemmas.Int.{to_z-of_z}
use Rattle.xf_code.proofs.Leading.{found-label, no-label}
use Rattle.xf_code.proofs.ways.label_of.Goals as goal

pub returns-in-Some : goal.returns-in-Some
returns-in-Some c =
    let fits : FitsSigned w32 c.args.target = search rules in
    let at : Some c.in-Some.n ≡ position (int_eq c.args.target) c.args.ways.now.keys =
    sym c.in-Some.is ∙ (c.get_index_of.ensures.index ∙ ap (λ (x : ℤ). position (int_eq x) c.args.ways.now.keys) (to_z-of_z w32 c.args.target fits)) in
    c.label_at.ensures ∙ found-label c.args.ways.now.keys c.args.labels.now c.args.target c.in-Some.n at

pub returns-in-None : goal.returns-in-None
returns-in-None c =
    let fits : FitsSigned w32 c.args.target = search rules in
    let at : None ≡ position (int_eq c.args.target) c.args.ways.now.keys =
    sym c.in-None.is ∙ (c.get_index_of.ensures.index ∙ ap (λ (x : ℤ). position (int_eq x) c.args.ways.now.keys) (to_z-of_z w32 c.args.target fits)) in
    no-label c.args.ways.now.keys c.args.labels.now c.args.target c.requires at
