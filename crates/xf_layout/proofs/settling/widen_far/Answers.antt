use Rattle.std.proofs.Common.{◌≡◌, List, false, Some, sym, ap, subst, refl, ◌∙◌}
use Rattle.std.specs.Prelude.{slice_get}
use Rattle.xf_layout.specs.declared.form.Form.{Form}
use Rattle.xf_layout.specs.declared.form.Form.TheVariants.{Jump}
use Rattle.xf_layout.specs.Settling.{LeadsFar}
use Rattle.xf_layout.proofs.Settled.{settles-set}
use Rattle.xf_layout.proofs.settling.widen_far.Goals as goal

pub returns : goal.returns
returns c =
    let fs = c.args.forms.now.items in
    let k = c.args.k in
    let label = c.in-Some.label in
    let here : slice_get fs k ≡ Some (Jump label false) =
    ap (λ (xs : List Form). slice_get xs k) (sym c.as_slice.ensures.value) ∙ c.in-Some.ensures in
    let far : LeadsFar fs k label =
    subst (λ (xs : List Form). LeadsFar xs k label) c.as_slice-else-k-len.ensures.value (c.if-not-leads_far.ensures refl) in
    settles-set c.requires.0 c.args.items.now fs k label c.requires.1 here far
