use Rattle.std.proofs.Common.{◌≤◌, ◌∙◌, ◌++◌, List, length, sym, ap, arith}
use Rattle.std.proofs.lemmas.List.{append-nil, drop_all}
use Rattle.cap_listing.specs.declared.method.ListedMethod.{ListedMethod}
use Rattle.cap_listing.proofs.Ends.{texts, texts_are}
use Rattle.cap_listing.proofs.text.listed_text.Goals as goal

pub returns : goal.returns
returns c =
    let ms = c.args.methods.now in
    let out = c.methods.out.items in
    let past : length ms ≤ c.methods.method-index = omega (arith, c.methods-test.false, ap length c.as_slice-method-items.ensures) in
    sym (append-nil out) ∙ ap (λ (l : List ListedMethod). out ++ texts l) (sym (drop_all c.methods.method-index ms past)) ∙ c.methods.invariant
    ∙ texts_are ms
