use Rattle.std.proofs.Common.{◌<◌, map, ap, sym, ◌∙◌, arith}
use Rattle.vm_store.specs.Typing.{type_seen}
use Rattle.vm_store.specs.declared.cell.ObjectHeader.{ObjectHeader}
use Rattle.vm_store.proofs.SeenClasses.{type-at}
use Rattle.vm_store.proofs.tagged.type_of_handle.Goals as goal

pub returns-in-Some : goal.returns-in-Some
returns-in-Some c =
    let t = c.args.classes.now in let kinds = map (λ (h : ObjectHeader). h.kind) c.args.headers.now.items in
    let counted : 0 < c.args.handle = omega (arith, c.if-handle-eq0.false) in
    c.ty.ensures ∙ (ap (type_seen t) (sym c.in-Some.is ∙ c.kind_of.ensures) ∙ sym (type-at t kinds c.args.handle counted))

pub returns-in-None : goal.returns-in-None
returns-in-None c =
    let t = c.args.classes.now in let kinds = map (λ (h : ObjectHeader). h.kind) c.args.headers.now.items in
    let counted : 0 < c.args.handle = omega (arith, c.if-handle-eq0.false) in
    ap (type_seen t) (sym c.in-None.is ∙ c.kind_of.ensures) ∙ sym (type-at t kinds c.args.handle counted)
