use Rattle.std.proofs.Common.{◌≡◌, ◌∙◌, List, Option, Ok, sym, ap, subst}
use Rattle.std.specs.Prelude.{Bool}
use Rattle.jc_decode.specs.declared.symbols.Laid.{Laid}
use Rattle.cap_write.specs.Condition.{MayBeLaid}
use Rattle.cap_listing.specs.declared.method.ListedMethod.{ListedMethod}
use Rattle.cap_listing.specs.Methods.{methods_of}
use Rattle.cap_listing.specs.Placing.{coded, filled, placed, faults, first_refused}
use Rattle.cap_listing.proofs.Placed.{placed-fits, none-refused}
use Rattle.cap_listing.proofs.placing.place.Goals as goal

pub returns-clause-fits : goal.returns-clause-fits
returns-clause-fits c =
    let p = c.args.package.now in
    let ms = c.args.listed.now in
    let owns = c.as_slice-2.ensures ∙ c.in_ok-owns.ensures.value in
    let fine : first_refused (faults (methods_of p) ms) ≡ Ok (tt {0}) =
    ap (λ (o : List ListedMethod). first_refused (faults o ms)) (sym owns)
    ∙ ap (λ (x : List ListedMethod). first_refused (faults c.as_slice-2.result.now x)) (sym c.as_slice.ensures)
    ∙ sym c.check.ensures ∙ c.in_default.is in
    let is : c.in_ok-laid.laid.items ≡ placed p ms = c.in_ok-laid.ensures
    ∙ ap (λ (f : List Bool). filled f c.as_slice-4.result.now) (c.as_slice-3.ensures.value ∙ c.in_ok-flags.ensures)
    ∙ ap (λ (x : List ListedMethod). filled (coded p) x) c.as_slice-4.ensures in
    subst (λ (l : List (Option Laid)). MayBeLaid p l) (sym is) (placed-fits p ms (none-refused (faults (methods_of p) ms) fine))
