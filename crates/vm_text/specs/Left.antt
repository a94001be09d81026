-- What is read of the state that a run has left: the values of the static fields, and the arrays of numbers (JCVM 2.2, sections 2.2
-- and 3.1).
use Rattle.std.specs.Prelude.{ℕ, ℤ, List, [], map, Option, Some, None, option_map, option_and_then}
use Rattle.std.specs.List.{range_with_len}
use Rattle.jc_base.specs.declared.ty.Ty.{Ty}
use Rattle.jc_base.specs.declared.record.StaticRec.{StaticRec}
use Rattle.jc_base.specs.World.{Linked}
use Rattle.vm_store.specs.Cells.{Cells}
use Rattle.vm_store.specs.State.{State, Object}
use Rattle.vm_store.specs.Objects.{object_at, element_count}
use Rattle.vm_step.specs.declared.ending.Value.{Value}
use Rattle.vm_defend.specs.Reading.{value_at, numbers_of_kind, element_in}

-- an array of numbers: its type, and its elements in order
pub record NumberArray : Type 0 where
  pub ty : Ty
  pub elements : List ℤ

-- the values of the static fields in the order of their numbers, and for each handle the array of numbers that it names, if it names one
pub record Readout : Type 0 where
  pub statics : List Value
  pub array : ℕ → Option NumberArray

abbrev pub numbers_in : {A : Type 0} → Cells A → Object A → Ty → NumberArray
numbers_in k o ty = record { ty = ty; elements = map (element_in k o.kind o.cells) (range_with_len 0 (element_count o)) }

-- an object as an array of numbers, where it is one
abbrev pub number_array : {A : Type 0} → Cells A → Object A → Option NumberArray
number_array k o = option_map (numbers_in k o) (numbers_of_kind o.kind)

-- what is read of a state of a world
abbrev pub left_by : {A : Type 0} → Cells A → Linked → State A → Readout
left_by k w s =
    record {
      statics = map (λ (f : StaticRec). value_at k f.kind s.statics f.slot) w.statics;
      array = λ h. option_and_then (number_array k) (object_at s h);
    }

abbrev pub elements_in : Option NumberArray → List ℤ
elements_in None = []
elements_in (Some a) = a.elements

-- the elements of the array of a handle
abbrev pub elements_at : Readout → ℕ → List ℤ
elements_at left h = elements_in (left.array h)
