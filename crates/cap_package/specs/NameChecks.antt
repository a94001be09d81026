-- What dispatch tables, exports and applets name (JCVM 2.2, sections 6.5, 6.8 and 6.12).
use Rattle.std.specs.Prelude.{ℕ, Bool, List, [], ◌∷◌, ◌++◌, Option, Some, None, count_by, ◌==◌, ◌&&◌, nat_lt}
use Rattle.std.specs.Prelude.{if◌then◌else◌}
use Rattle.std.specs.List.{list_any}
use Rattle.cap_pool.specs.ExportFormat.{Exported}
use Rattle.cap_class.specs.ClassFormat.{Class}
use Rattle.cap_desc.specs.DescriptorFormat as described
use Rattle.cap_desc.specs.DescriptorFormat.{MethodDescriptor}
use Rattle.cap_components.specs.declared.fault.PackFault.{PackFault}
use Rattle.cap_components.specs.declared.fault.PackFault.TheVariants.{NoMethodAt, ClassUndescribed}

-- one of the methods stands at an offset
abbrev pub is_method_at : List MethodDescriptor → ℕ → Bool
is_method_at methods offset = list_any (λ (m : MethodDescriptor). m.method_offset == offset) methods

-- an offset at which no method stands
unfoldable pub no_method_fault : (ℕ → Bool) → ℕ → Option PackFault
no_method_fault is_method offset = if is_method offset then None else Some (NoMethodAt offset)

-- 0xFFFF in a dispatch table keeps the superclass's entry
unfoldable pub no_entry_fault : (ℕ → Bool) → ℕ → Option PackFault
no_entry_fault is_method offset = if offset == 0xFFFF then None else no_method_fault is_method offset

-- the entries of the dispatch tables
abbrev pub table_entries : List Class → List ℕ
table_entries [] = []
table_entries (c ∷ cs) = c.public ++ (c.visible ++ table_entries cs)

-- the offsets of the static methods, and of the static fields, that a package exports
abbrev pub exported_methods : List Exported → List ℕ
exported_methods [] = []
exported_methods (c ∷ cs) = c.methods ++ exported_methods cs

abbrev pub exported_fields : List Exported → List ℕ
exported_fields [] = []
exported_fields (c ∷ cs) = c.fields ++ exported_fields cs

-- a class record is not described exactly once
unfoldable pub undescribed_fault : List described.ClassDescriptor → Class → Option PackFault
undescribed_fault descriptions c = if count_by
    (λ (d : described.ClassDescriptor). d.class_ref == c.offset) descriptions == 1 then None
    else Some (ClassUndescribed c.offset)

-- an offset names no class record
unfoldable pub undescribed_class_fault : List Class → ℕ → Option PackFault
undescribed_class_fault classes offset =
    if list_any (λ (c : Class). c.offset == offset) classes then None else Some (ClassUndescribed offset)

-- one of the class records starts at an offset
abbrev pub is_class_at : List Class → ℕ → Bool
is_class_at classes offset = list_any (λ (c : Class). c.offset == offset) classes

-- a reference with a clear high bit is an offset in the Class component, and one with a set high bit is one of an import (JCVM 2.2,
-- section 6.4)
abbrev pub own : (ℕ → Bool) → ℕ → Bool
own is_class reference = nat_lt reference 0x8000 && is_class reference

-- a class reference names no class record of the package
unfoldable pub not_own_fault : List Class → ℕ → Option PackFault
not_own_fault classes reference = if own (is_class_at classes) reference then None else Some (ClassUndescribed reference)

-- a fault of the class record at an offset, unless it is as it must be
abbrev pub class_unless : (ℕ → Bool) → ℕ → Option PackFault
class_unless is_right offset = if is_right offset then None else Some (ClassUndescribed offset)
