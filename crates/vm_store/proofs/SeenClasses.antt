-- What objects are, and their types.
use Rattle.std.proofs.Common.{◌≡◌, ℕ, zero, suc, ◌-◌, ◌<◌, ◌≤◌, false, List, [], ◌∷◌, length, map, get_or, refl, ap, sym}
use Rattle.std.proofs.Common.{arith}
use Rattle.std.specs.Prelude.{slice_get, Some}
use Rattle.vm_store.specs.declared.cell.ObjectKind.{ObjectKind}
use Rattle.vm_store.specs.declared.cell.ObjectHeader.{ObjectHeader}
use Rattle.vm_store.specs.Kind.{kind_of_handle}
use Rattle.vm_store.specs.State.{Object}
use Rattle.vm_store.specs.Layout.{objects_in}
use Rattle.vm_store.specs.Typing.{type_of_handle, type_seen, type_of_fresh, fresh_seen}
use Rattle.std.proofs.lemmas.Option.{slice_get_past, slice_get-map, slice_get-get_or}
use Rattle.jc_base.specs.Class.{ClassTable, is_interface, is_interface_record}

pub not-interface : (t : ClassTable) (c : ℕ) → length t.records ≤ c → is_interface t c ≡ false
unfolding is_interface
not-interface t c h = ap is_interface_record (slice_get_past t.records c h)

-- the kind of the object of a handle
pub kind-at : (kinds : List ObjectKind) (h : ℕ) → 0 < h → kind_of_handle kinds h ≡ slice_get kinds (h - 1)
kind-at kinds zero lt = absurd (omega (arith, lt))
kind-at kinds (suc h) lt = let e : suc h - 1 ≡ h = omega arith in ap (slice_get kinds) (sym e)

pub type-at : (t : ClassTable) (kinds : List ObjectKind) (h : ℕ) → 0 < h → type_of_handle t kinds h ≡ type_seen t (kind_of_handle kinds h)
type-at t kinds zero lt = absurd (omega (arith, lt))
type-at t kinds (suc h) lt = refl

pub fresh-at : (kinds : List ObjectKind) (h p : ℕ) → type_of_fresh kinds h p ≡ fresh_seen p (kind_of_handle kinds h)
fresh-at kinds zero p = refl
fresh-at kinds (suc h) p = refl

pub kind-read :
    (hs : List ObjectHeader) (h : ℕ) (x : ObjectHeader) → 0 < h → h - 1 < length hs → x ≡ get_or hs (h - 1) x
    → Some x.kind ≡ kind_of_handle (map (λ (g : ObjectHeader). g.kind) hs) h
kind-read hs h x counted within read = grind (arith, map, kind-at, slice_get-map, slice_get-get_or)

-- the kinds of the objects are those of their headers
pub kinds-objects : {A : Type 0} (xs : List A) (hs : List ObjectHeader) → map (λ (o : Object A). o.kind) (objects_in xs hs)
    ≡ map (λ (h : ObjectHeader). h.kind) hs
kinds-objects xs [] = refl
kinds-objects xs (h ∷ hs) = ap (λ ks. h.kind ∷ ks) (kinds-objects xs hs)
