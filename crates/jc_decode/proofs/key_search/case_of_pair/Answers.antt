use Rattle.std.proofs.Common.{None, Some, ℤ, FitsSigned, w32, ap, subst, ◌∙◌, rules}
use Rattle.std.proofs.lemmas.Int.{to_z-of_z}
use Rattle.jc_decode.specs.Keys.{IsPlaceOfKey}
use Rattle.jc_decode.proofs.KeySearches.{pair-found}
use Rattle.jc_decode.proofs.key_search.case_of_pair.Goals as goal

pub returns-in-Some : goal.returns-in-Some
returns-in-Some c =
    let xs = c.args.code.bytes.now in
    let fits : FitsSigned w32 c.args.key = search rules in
    let found = subst (λ (k : ℤ). IsPlaceOfKey c.args.form xs c.args.table c.args.count k (Some c.in-Some.n)) (to_z-of_z w32 c.args.key fits)
    c.in-Some.ensures in
    ap Some c.pair_case.ensures
    ∙ pair-found c.args.form xs c.args.table c.args.count c.args.key (Some c.in-Some.n) c.requires.bytes fits c.requires.rising found

pub returns-in-None : goal.returns-in-None
returns-in-None c =
    let xs = c.args.code.bytes.now in
    let fits : FitsSigned w32 c.args.key = search rules in
    let found = subst (λ (k : ℤ). IsPlaceOfKey c.args.form xs c.args.table c.args.count k None) (to_z-of_z w32 c.args.key fits) c.in-None.ensures in
    pair-found c.args.form xs c.args.table c.args.count c.args.key None c.requires.bytes fits c.requires.rising found
