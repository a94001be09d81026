-- The elements of an array of numbers, read one by one and told as a list.
use Rattle.std.proofs.Common.{◌≡◌, ◌<◌, ℕ, zero, suc, ◌+◌, ℤ, Bool, length, Option, Some, None, refl, ap, arith}
use Rattle.std.specs.Prelude.{nat_lt, if◌then◌else◌, map, slice_get, option_map, option_and_then}
use Rattle.std.specs.List.{range_with_len}
use Rattle.std.proofs.lemmas.Bool.{ltb-true, ltb-false}
use Rattle.std.proofs.lemmas.List.FromFn.{length-map-range_with_len}
use Rattle.std.proofs.lemmas.Option.{slice_get_past}
use Rattle.jc_base.specs.declared.ty.Ty.{Ty}
use Rattle.vm_store.specs.Cells.{Cells}
use Rattle.vm_store.specs.State.{State, Object}
use Rattle.vm_store.specs.Objects.{object_at, element_count}
use Rattle.vm_defend.specs.Reading.{numbers_of_kind, if_numbers, element_in, element_of, array_length, array_value}
use Rattle.vm_text.specs.Left.{NumberArray, number_array}

-- an element of the list of what a function gives
given_at : {X : Type 0} (f : ℕ → X) (a n i : ℕ) → i < n → slice_get (map f (range_with_len a n)) i ≡ Some (f (a + i))
given_at f a zero i below = absurd (omega (arith, below))
given_at f a (suc n) zero below = let same : a ≡ a + 0 = omega arith in ap (λ k. Some (f k)) same
given_at f a (suc n) (suc i) below = grind (arith, suc, given_at f (a + 1) n i (omega (arith, below)))

told : (t : Option Ty) (b : Bool) (f : ℕ → ℤ) (n i : ℕ) → nat_lt i n ≡ b
    → (if b then if_numbers t (f i) else None)
    ≡ option_and_then (λ (a : NumberArray). slice_get a.elements i) (option_map (λ ty. record { ty = ty; elements = map f (range_with_len 0 n) }) t)
told x x2 f n i is = grind (arith, given_at, ltb-true, length-map-range_with_len, slice_get_past, ltb-false)

counted : (t : Option Ty) (f : ℕ → ℤ) (n : ℕ)
    → if_numbers t n ≡ option_map (λ (a : NumberArray). length a.elements)
    (option_map (λ ty. record { ty = ty; elements = map f (range_with_len 0 n) }) t)
counted x f n = grind (arith, length-map-range_with_len)

value_in : {A : Type 0} (k : Cells A) (o : Option (Object A)) (i : ℕ)
    → option_and_then (element_of k i) o ≡ option_and_then (λ (a : NumberArray). slice_get a.elements i) (option_and_then (number_array k) o)
value_in k None i = refl
value_in k (Some o) i = told (numbers_of_kind o.kind) (nat_lt i (element_count o)) (element_in k o.kind o.cells) (element_count o) i refl

-- the element of a number is the one in the list
pub value_told : {A : Type 0} (k : Cells A) (s : State A) (h i : ℕ)
    → array_value k s h i ≡ option_and_then (λ (a : NumberArray). slice_get a.elements i) (option_and_then (number_array k) (object_at s h))
value_told k s h i = value_in k (object_at s h) i

count_in : {A : Type 0} (k : Cells A) (o : Option (Object A))
    → option_and_then (λ (x : Object A). if_numbers (numbers_of_kind x.kind) (element_count x)) o
    ≡ option_map (λ (a : NumberArray). length a.elements) (option_and_then (number_array k) o)
count_in k None = refl
count_in k (Some o) = counted (numbers_of_kind o.kind) (element_in k o.kind o.cells) (element_count o)

-- there are as many elements as the list has
pub count_told : {A : Type 0} (k : Cells A) (s : State A) (h : ℕ)
    → array_length s h ≡ option_map (λ (a : NumberArray). length a.elements) (option_and_then (number_array k) (object_at s h))
count_told k s h = count_in k (object_at s h)
