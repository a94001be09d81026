-- The values of fields and elements in the cells that keep them (JCVM 2.2, sections 3.1 and 3.3; chapter 7,
-- the instructions that read and write arrays, fields and static fields).
use Rattle.std.specs.Prelude.{ℕ, ◌+◌, ◌%◌, ℤ, List, [], ◌∷◌, ◌++◌, map, reverse}
use Rattle.std.specs.Int.{w8, cast_signed}
use Rattle.jc_base.specs.declared.ty.Kind.{Kind}
use Rattle.jc_base.specs.declared.ty.Kind.TheVariants as fields
use Rattle.vm_store.specs.Cells.{Cells}
use Rattle.vm_store.specs.State.{State, nth}
use Rattle.vm_store.specs.Objects.{with_object_cell, with_static_cell}

-- the value of a kind in the cells from a place on; the high half of an int comes first
abbrev pub value_in : {A : Type 0} → Cells A → Kind → List A → ℕ → List A
value_in k fields.Int cells at = nth k cells at ∷ nth k cells (at + 1) ∷ []
value_in k _ cells at = nth k cells at ∷ []

-- the value of a kind on top of a stack, in the order in which its cells were pushed
abbrev pub value_on : {A : Type 0} → Cells A → Kind → List A → List A
value_on k fields.Int stack = nth k stack 1 ∷ nth k stack 0 ∷ []
value_on k _ stack = nth k stack 0 ∷ []

-- a stack on which a value was pushed
abbrev pub with_value : {A : Type 0} → List A → List A → List A
with_value value stack = reverse value ++ stack

-- the low eight bits of a word, with their sign
abbrev pub byte_of_word : ℕ → ℤ
byte_of_word w = cast_signed w8 (w % 256)

-- a value as a field or an element of a kind keeps it: of a boolean and of a byte the low eight
-- bits, with their sign
abbrev pub kept_value : {A : Type 0} → Cells A → Kind → List A → List A
kept_value k fields.Byte value = map (λ c. k.short (byte_of_word (k.word c))) value
kept_value k _ value = value

-- the state in which the cells of an object from a place on hold a value
abbrev pub with_object_value : {A : Type 0} → State A → ℕ → ℕ → List A → State A
with_object_value s h at [] = s
with_object_value s h at (c ∷ cs) = with_object_value (with_object_cell s h at c) h (at + 1) cs

-- the state in which the static cells from a slot on hold a value
abbrev pub with_static_value : {A : Type 0} → State A → ℕ → List A → State A
with_static_value s slot [] = s
with_static_value s slot (c ∷ cs) = with_static_value (with_static_cell s slot c) (slot + 1) cs
