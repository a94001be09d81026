-- The Descriptor with its info, in which type descriptors stand.
use Rattle.std.specs.Prelude.{ℕ, ◌+◌, ◌-◌, List, [], ◌∷◌, Option, Some, None, option_map, option_and_then, nat_le, ◌==◌}
use Rattle.std.specs.Prelude.{◌&&◌, if◌then◌else◌}
use Rattle.cap_desc.specs.declared.records.DescPart.{DescPart}
use Rattle.cap_desc.specs.declared.type_list.TypeItem.{TypeItem}
use Rattle.cap_desc.specs.DescriptorFormat.{Descriptor}
use Rattle.cap_desc.specs.Descriptors.{descriptor_seen}
use Rattle.cap_desc.specs.TypeFormat.{types_at, type_at}

pub record Description : Type 0 where
  pub info : List ℕ
  pub items : Descriptor

abbrev pub description : DescPart → Description
description d = record { info = d.info.bytes.now; items = descriptor_seen d }

-- the words that a value of a type takes
abbrev pub words_of : TypeItem → ℕ
words_of t = if t.nibble == 5 then 2 else 1

-- the argument words of a method whose descriptor begins with these types; the last is the result, and no
-- argument is void
abbrev pub words_before : TypeItem → List TypeItem → Option ℕ
words_before t [] = Some 0
words_before t (u ∷ us) = if t.nibble == 1 then None else option_map (λ n. words_of t + n) (words_before u us)

-- the argument words of a method's descriptor, where the types have the shape of one
abbrev pub words_in : List TypeItem → Option ℕ
words_in [] = None
words_in (t ∷ ts) = words_before t ts

-- the argument words of the method whose type descriptor stands at an offset
unfoldable pub argument_words : Description → ℕ → Option ℕ
argument_words d offset = option_and_then words_in (types_at d.info (d.items.types_start + offset))

abbrev pub no_void : TypeItem → Option TypeItem
no_void t = if t.nibble == 1 then None else Some t

-- a field's type: one of four numbers for a primitive type, or the offset of a descriptor of one type
unfoldable pub field_type : Description → ℕ → Option TypeItem
field_type d ty =
    if nat_le 0x8002 ty && nat_le ty 0x8005 then Some (record { nibble = ty - 0x8000; class_ref = 0 })
    else option_and_then no_void (type_at d.info (d.items.types_start + ty))
