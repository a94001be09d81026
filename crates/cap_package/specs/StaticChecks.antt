-- The static fields in the image (JCVM 2.2, section 6.10): the references first, two bytes each, of which the first
-- name the initial arrays; then the primitive values.
use Rattle.std.specs.Prelude.{ℕ, ◌+◌, ◌*◌, ◌/◌, ◌%◌, Bool, List, Option, Some, None, map, min, max, nat_lt, nat_le}
use Rattle.std.specs.Prelude.{slice_get, slice_index, ◌==◌, ◌||◌, ◌&&◌, if◌then◌else◌}
use Rattle.std.specs.List.{list_any}
use Rattle.cap_method.specs.StaticFormat.{Array, Statics}
use Rattle.cap_desc.specs.declared.type_list.TypeItem.{TypeItem}
use Rattle.cap_desc.specs.DescriptorFormat.{FieldDescriptor}
use Rattle.cap_components.specs.Descriptions.{Description, field_type}
use Rattle.cap_package.specs.HeaderChecks.{is_static}
use Rattle.cap_components.specs.declared.fault.PackFault.{PackFault}
use Rattle.cap_components.specs.declared.fault.PackFault.TheVariants.{StaticOverlaps, StaticOutside, NoStaticAt}

-- the offset of a static field in the image
abbrev pub image_offset : FieldDescriptor → ℕ
image_offset f = slice_index f.bytes 1 * 256 + slice_index f.bytes 2

-- the bytes of a value of a type in the image: one for boolean and byte, four for int, two for the others
abbrev pub width_of : TypeItem → ℕ
width_of t = if t.nibble == 2 || t.nibble == 3 then 1 else (if t.nibble == 5 then 4 else 2)

abbrev pub is_reference : TypeItem → Bool
is_reference t = nat_le 6 t.nibble

-- where a static field stands in the image, and of which type it is
pub record ImagePlace : Type 0 where
  pub offset : ℕ
  pub ty : TypeItem

abbrev pub place_by : FieldDescriptor → Option TypeItem → Option ImagePlace
place_by f None = None
place_by f (Some t) = if is_static f.flags then Some (record { offset = image_offset f; ty = t }) else None

unfoldable pub place_in : Description → FieldDescriptor → Option ImagePlace
place_in d f = place_by f (field_type d f.ty)

-- two static fields share a byte
abbrev pub share_by : Option ImagePlace → Option ImagePlace → Option PackFault
share_by None q = None
share_by (Some p) None = None
share_by (Some p) (Some q) =
    if nat_lt (max p.offset q.offset) (min (p.offset + width_of p.ty) (q.offset + width_of q.ty))
    then Some (StaticOverlaps (min p.offset q.offset) (max p.offset q.offset)) else None

unfoldable pub share_fault : Description → Option ImagePlace → FieldDescriptor → Option PackFault
share_fault d p g = share_by p (place_in d g)

abbrev pub share_pair : Description → FieldDescriptor × FieldDescriptor → Option PackFault
share_pair d p = share_fault d (place_in d p.0) p.1

-- a place lies in the part of the image for its kind
abbrev pub is_in_image : Statics → ImagePlace → Bool
is_in_image s p =
    if is_reference p.ty then p.offset % 2 == 0 && nat_le (p.offset + 2) (2 * s.reference_count)
    else nat_le (2 * s.reference_count) p.offset && nat_le (p.offset + width_of p.ty) s.image_size

abbrev pub image_by : Statics → Option ImagePlace → Option PackFault
image_by s None = None
image_by s (Some p) = if is_in_image s p then None else Some (StaticOutside p.offset)

unfoldable pub image_fault : Statics → Description → FieldDescriptor → Option PackFault
image_fault s d f = image_by s (place_in d f)

-- the types of the initial arrays, in the order in which they fill the references
abbrev pub array_kinds : List Array → List ℕ
array_kinds = map (λ (a : Array). a.kind)

-- the type of the initial array that fills the reference at an offset, if one does
unfoldable pub kind_at : List ℕ → ℕ → Option ℕ
kind_at kinds offset = if offset % 2 == 0 then slice_get kinds (offset / 2) else None

-- a field of another type than the initial array that fills its reference
abbrev pub filled_by : Option ℕ → Option ImagePlace → Option PackFault
filled_by None p = None
filled_by (Some kind) None = None
filled_by (Some kind) (Some p) = if p.ty.nibble == kind + 8 then None else Some (StaticOutside p.offset)

unfoldable pub filled_fault : List ℕ → Description → FieldDescriptor → Option PackFault
filled_fault kinds d f = filled_by (kind_at kinds (image_offset f)) (place_in d f)

-- a field stands at an offset of the image
abbrev pub stands_at : ℕ → FieldDescriptor → Bool
stands_at offset f = is_static f.flags && image_offset f == offset

-- one of the fields is static and stands at an offset of the image
abbrev pub is_static_at : List FieldDescriptor → ℕ → Bool
is_static_at fields offset = list_any (stands_at offset) fields

-- an exported offset at which no static field stands
unfoldable pub no_static_fault : (ℕ → Bool) → ℕ → Option PackFault
no_static_fault is_static offset = if is_static offset then None else Some (NoStaticAt offset)
