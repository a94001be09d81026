use Rattle.std.proofs.Common.{◌≡◌, ◌≤◌, ◌+◌, ◌∙◌, ℕ, List, [], ◌∷◌, ◌++◌, length, drop, arith, sym, ap, subst, length-append}
use Rattle.std.specs.Prelude.{slice_index}
use Rattle.std.proofs.lemmas.List.{append-nil, drop_all}
use Rattle.std.proofs.lemmas.Slice.Zip.{AllZip-long}
use Rattle.jc_decode.specs.declared.symbols.Item.{Item}
use Rattle.jc_decode.proofs.Elements.{drop-here}
use Rattle.xf_layout.specs.declared.form.Form.{Form}
use Rattle.xf_layout.specs.Form.{IsForm}
use Rattle.xf_layout.specs.Laid.{Adds, IsNearFrom, ItemsStand}
use Rattle.xf_layout.proofs.Reached.{begins-start, begins-end, begins-more, form-of, form-few, item-reached, form-near, reads-at}
use Rattle.xf_layout.proofs.Stood.{next-stands}
use Rattle.xf_layout.proofs.laying.lay_items.Goals as goal

pub items-init : goal.items-init
items-init c =
    let source = c.args.source.bytes.now in
    let place = slice_index c.args.plan.now.places in
    let fs = c.args.plan.now.forms.items in
    let code = c.in_ok-code.code.items in
    let none : code ≡ [] = c.in_ok-code.ensures.items in
    record {
      here = ap length none ∙ sym (begins-start fs);
      reach = λ after h. subst (λ (n : ℕ). ItemsStand source place (code ++ after) n c.args.items.now fs) (ap length none) h;
    }

pub index-requires : goal.index-requires
index-requires c =
    let fs = c.args.plan.now.forms in
    omega (arith, AllZip-long IsForm c.args.items.now fs.items c.requires.plan.forms, fs.ok.0)

pub lay_item-requires-clause-item : goal.lay_item-requires-clause-item
lay_item-requires-clause-item c =
    let i = c.index-items-k.result in
    let reads = reads-at c.args.source.bytes.now c.args.items.now c.args.plan.now.forms.items c.items.k i c.index.result.now
    c.requires.plan.forms c.requires.items c.items-test.true c.index-items-k.is c.index.ensures in
    (c.args.items.now, reads.is)

pub lay_item-requires-clause-form : goal.lay_item-requires-clause-form
lay_item-requires-clause-form c =
    let i = c.index-items-k.result in
    let fs = c.args.plan.now.forms.items in
    let reads = reads-at c.args.source.bytes.now c.args.items.now fs c.items.k i c.index.result.now
    c.requires.plan.forms c.requires.items c.items-test.true c.index-items-k.is c.index.ensures in
    form-of c.args.items.now fs c.requires.plan.forms c.items.k i c.index.result.now reads.item reads.form

pub lay_item-requires-clause-few : goal.lay_item-requires-clause-few
lay_item-requires-clause-few c =
    let fs = c.args.plan.now.forms.items in
    let reads = reads-at c.args.source.bytes.now c.args.items.now fs c.items.k c.index-items-k.result c.index.result.now
    c.requires.plan.forms c.requires.items c.items-test.true c.index-items-k.is c.index.ensures in
    omega (arith, form-few fs c.items.k c.index.result.now reads.form, c.requires.plan.end, c.requires.few)

pub lay_item-requires-clause-here : goal.lay_item-requires-clause-here
lay_item-requires-clause-here c =
    let end = begins-end c.args.plan.now.forms.items c.items.k in
    let h : length c.items.code.items ≤ 32767 = omega (arith, c.items.invariant.here, end, c.requires.plan.end, c.requires.few) in
    h

pub lay_item-requires-clause-reached : goal.lay_item-requires-clause-reached
lay_item-requires-clause-reached c =
    let source = c.args.source.bytes.now in
    let p = c.args.plan.now in
    let i = c.index-items-k.result in
    let reads = reads-at source c.args.items.now p.forms.items c.items.k i c.index.result.now
    c.requires.plan.forms c.requires.items c.items-test.true c.index-items-k.is c.index.ensures in
    item-reached source c.args.items.now p c.requires.plan c.requires.few i reads.is

pub lay_item-requires-clause-near : goal.lay_item-requires-clause-near
lay_item-requires-clause-near c =
    let source = c.args.source.bytes.now in
    let p = c.args.plan.now in
    let f = c.index.result.now in
    let reads = reads-at source c.args.items.now p.forms.items c.items.k c.index-items-k.result f
    c.requires.plan.forms c.requires.items c.items-test.true c.index-items-k.is c.index.ensures in
    subst (λ (n : ℕ). IsNearFrom (slice_index p.places) n f) (sym c.items.invariant.here)
    (form-near source c.args.items.now p c.requires.plan c.requires.few c.requires.items c.items.k f reads.form)

pub items-preserved : goal.items-preserved
items-preserved c =
    let source = c.args.source.bytes.now in
    let place = slice_index c.args.plan.now.places in
    let items = c.args.items.now in
    let fs = c.args.plan.now.forms.items in
    let k = c.items.k in
    let code = c.items.code.items in
    let new = c.lay_item.new.code.items in
    let i = c.index-items-k.result in
    let f = c.index.result.now in
    let reads = reads-at source items fs k i f
    c.requires.plan.forms c.requires.items c.items-test.true c.index-items-k.is c.index.ensures in
    let adds : Adds source place i f code new = c.in_ok-lay_item.ensures in
    let more = begins-more fs k f reads.form in
    let next_items = drop-here items k i reads.item in
    let next_forms = drop-here fs k f reads.form in
    let long = length-append code adds.piece in
    record {
      here = omega (arith, c.items.invariant.here, more, ap length adds.appended, long, adds.long);
      reach = next-stands source place items fs code new i f (drop (k + 1) items) (drop (k + 1) fs) adds
          (λ after h. c.items.invariant.reach after
          (subst (λ (xs : List Item). ItemsStand source place (code ++ after) (length code) xs (drop k fs)) (sym next_items)
          (subst (λ (gs : List Form). ItemsStand source place (code ++ after) (length code) (i ∷ drop (k + 1) items) gs)
          (sym next_forms) h)));
    }

pub returns : goal.returns
returns c =
    let source = c.args.source.bytes.now in
    let place = slice_index c.args.plan.now.places in
    let items = c.args.items.now in
    let fs = c.args.plan.now.forms.items in
    let k = c.items.k in
    let code = c.items.code.items in
    let same = AllZip-long IsForm items fs c.requires.plan.forms in
    let no_items : drop k items ≡ [] = drop_all k items (omega arith) in
    let no_forms : drop k fs ≡ [] = drop_all k fs (omega (arith, same)) in
    let end : length code ≡ length (code ++ []) = ap length (sym (append-nil code)) in
    let whole : ItemsStand source place (code ++ []) 0 items fs = c.items.invariant.reach []
    (subst (λ (xs : List Item). ItemsStand source place (code ++ []) (length code) xs (drop k fs)) (sym no_items)
    (subst (λ (gs : List Form). ItemsStand source place (code ++ []) (length code) [] gs) (sym no_forms) end)) in
    subst (λ (xs : List ℕ). ItemsStand source place xs 0 items fs) (append-nil code) whole
