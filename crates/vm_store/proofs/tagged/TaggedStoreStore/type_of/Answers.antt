use Rattle.std.proofs.Common.{◌≡◌, map, ap, sym, ◌∙◌}
use Rattle.jc_base.specs.declared.ty.Ty.TheVariants.{Bottom}
use Rattle.vm_store.specs.declared.cell.ObjectHeader.{ObjectHeader}
use Rattle.vm_store.specs.Objects.{kinds}
use Rattle.vm_store.specs.Typing.{least_type, type_of_handle, type_of_fresh}
use Rattle.vm_store.proofs.SeenClasses.{kinds-objects}
use Rattle.vm_store.proofs.tagged.TaggedStoreStore.type_of.Goals as goal

pub returns-in-Ref : goal.returns-in-Ref
returns-in-Ref c =
    let s = c.args.self.now in let t = c.args.classes.now in let hs = c.self.inside.headers.items in
    let same : map (λ (h : ObjectHeader). h.kind) hs ≡ kinds s = sym (kinds-objects c.self.inside.cells.items hs) ∙ ap kinds c.self.view_is in
    c.type_of_handle.ensures
    ∙ (ap (λ ks. type_of_handle t ks c.in-Ref.handle) same ∙ ap (least_type t Bottom (kinds s)) (sym c.in-Ref.is))

pub returns-in-Fresh : goal.returns-in-Fresh
returns-in-Fresh c =
    let s = c.args.self.now in let t = c.args.classes.now in let hs = c.self.inside.headers.items in
    let same : map (λ (h : ObjectHeader). h.kind) hs ≡ kinds s = sym (kinds-objects c.self.inside.cells.items hs) ∙ ap kinds c.self.view_is in
    c.type_of_fresh.ensures
    ∙ (ap (λ ks. type_of_fresh ks c.in-Fresh.handle c.in-Fresh.place) same ∙ ap (least_type t Bottom (kinds s)) (sym c.in-Fresh.is))
