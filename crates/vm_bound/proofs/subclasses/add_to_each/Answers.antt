use Rattle.std.proofs.Common.{◌∷◌, [], ◌++◌, List, take, sym, ap, ◌∙◌, subst, arith}
use Rattle.std.proofs.lemmas.List.{take_more}
use Rattle.jc_base.specs.declared.record.Iface.{Iface}
use Rattle.vm_bound.specs.Runs.{AreAdded}
use Rattle.vm_bound.proofs.Names.{added-none, added-more}
use Rattle.vm_bound.proofs.subclasses.add_to_each.Goals as goal

pub entries-init : goal.entries-init
entries-init c = added-none c.args.rows.now.items c.args.at

pub add-requires : goal.add-requires
add-requires c =
    let entries = c.args.entries.now in
    let i = c.entries.entry-index in
    let e = c.entry-item.result in
    let inside = c.requires i e c.entries-test.true in
    let class = ap (λ (x : Iface). x.class) c.entry-item.is in
    let count = c.entries.invariant.count in
    omega (arith, inside, class, count)

pub entries-preserved : goal.entries-preserved
entries-preserved c =
    let old = c.args.rows.now.items in
    let entries = c.args.entries.now in
    let i = c.entries.entry-index in
    let e = c.entry-item.result in
    let at = c.args.at in
    let new = c.add.new.rows.items in
    let more = take_more entries i e c.entries-test.true ∙ ap (λ (x : Iface). take i entries ++ x ∷ []) (sym c.entry-item.is) in
    subst (λ (es : List Iface). AreAdded old es at new) (sym more)
    (added-more old c.entries.rows.items new (take i entries) e at c.entries.invariant c.in_ok-add.ensures)
