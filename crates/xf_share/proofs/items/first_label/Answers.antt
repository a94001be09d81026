use Rattle.std.proofs.Common.{◌≡◌, ◌∙◌, sym, rules, Some}
use Rattle.std.specs.Prelude.{FitsSigned, slice_get}
use Rattle.std.specs.Int.{w32}
use Rattle.std.proofs.lemmas.Int.{to_z-of_z}
use Rattle.jc_decode.specs.Listing.{targets}
use Rattle.jc_decode.proofs.Elements.{Contains-slice_get}
use Rattle.xf_share.proofs.Leading.{first-number, no-number, target-fits}
use Rattle.xf_share.proofs.items.first_label.Goals as goal

pub place_of-requires-clause-low : goal.place_of-requires-clause-low
place_of-requires-clause-low c =
    let t = c.in-Some.target in
    let fits : FitsSigned w32 t = search rules in
    let at : slice_get (targets c.args.code.bytes.now c.args.placed) 0 ≡ Some t = sym c.target.ensures ∙ c.in-Some.is in
    rw (to_z-of_z w32 t fits)
    ((target-fits c.args.code.bytes.now c.args.placed t c.requires.readable c.requires.stands (Contains-slice_get _ 0 t at)).0)

pub place_of-requires-clause-high : goal.place_of-requires-clause-high
place_of-requires-clause-high c =
    let t = c.in-Some.target in
    let fits : FitsSigned w32 t = search rules in
    let at : slice_get (targets c.args.code.bytes.now c.args.placed) 0 ≡ Some t = sym c.target.ensures ∙ c.in-Some.is in
    rw (to_z-of_z w32 t fits)
    ((target-fits c.args.code.bytes.now c.args.placed t c.requires.readable c.requires.stands (Contains-slice_get _ 0 t at)).1)

pub returns-in-Some : goal.returns-in-Some
returns-in-Some c =
    let t = c.in-Some.target in
    let fits : FitsSigned w32 t = search rules in
    let at : slice_get (targets c.args.code.bytes.now c.args.placed) 0 ≡ Some t = sym c.target.ensures ∙ c.in-Some.is in
    first-number (targets c.args.code.bytes.now c.args.placed) t c.place_of.result at (c.place_of.ensures ∙ to_z-of_z w32 t fits)

pub returns-in-None : goal.returns-in-None
returns-in-None c = no-number (targets c.args.code.bytes.now c.args.placed) (sym c.target.ensures ∙ c.in-None.is)
