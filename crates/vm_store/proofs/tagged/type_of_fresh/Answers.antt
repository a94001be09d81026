use Rattle.std.proofs.Common.{map, ap, sym, ◌∙◌}
use Rattle.vm_store.specs.Typing.{fresh_seen}
use Rattle.vm_store.specs.declared.cell.ObjectHeader.{ObjectHeader}
use Rattle.vm_store.proofs.SeenClasses.{fresh-at}
use Rattle.vm_store.proofs.tagged.type_of_fresh.Goals as goal

pub returns-in-Some : goal.returns-in-Some
returns-in-Some c =
    let kinds = map (λ (h : ObjectHeader). h.kind) c.args.headers.now.items in
    c.fresh.ensures ∙ (ap (fresh_seen c.args.place) (sym c.in-Some.is ∙ c.kind_of.ensures) ∙ sym (fresh-at kinds c.args.handle c.args.place))

pub returns-in-None : goal.returns-in-None
returns-in-None c =
    let kinds = map (λ (h : ObjectHeader). h.kind) c.args.headers.now.items in
    ap (fresh_seen c.args.place) (sym c.in-None.is ∙ c.kind_of.ensures) ∙ sym (fresh-at kinds c.args.handle c.args.place)
