-- What it means that a run begins, and what is there before its frame is made.
use Rattle.std.proofs.Common.{◌≡◌, ◌≤◌, ℕ, suc, Bool, true, false, List, [], ◌∷◌, length, drop}
use Rattle.std.proofs.Common.{refl, arith, Option, Some, None}
use Rattle.std.specs.Prelude.{filter, if◌then◌else◌, not, ◌==◌, slice_get, sum_by}
use Rattle.std.proofs.lemmas.Bool.Decides.{nat_tests}
use Rattle.std.proofs.lemmas.List.{drop-replicate}
use Rattle.jc_base.specs.declared.ty.Ty.{Ty}
use Rattle.jc_base.specs.declared.record.MethodRec.{MethodRec}
use Rattle.jc_base.specs.declared.record.ArrayRec.{ArrayRec}
use Rattle.jc_base.specs.World.{Linked}
use Rattle.vm_store.specs.Cells.{Cells}
use Rattle.vm_store.specs.State.{State, top, with_top, with_entry, entered}
use Rattle.vm_store.specs.Layout.{overwritten}
use Rattle.vm_step.specs.declared.ending.StartFault.{StartFault}
use Rattle.vm_step.specs.Arguments.{Argument, number, null, bytes}
use Rattle.vm_step.specs.Start.{parameters, first_misfit, first_without_room, or_room, entry_fault, start_fault, with_arrays}
use Rattle.vm_step.specs.Start.{cells_handed, initial, entry_state}

-- the entry is a method that takes these arguments
pub record Takes (w : Linked) (entry : ℕ) (args : List Argument) (m : MethodRec) : Type 0 where
  pub is : slice_get w.methods entry ≡ Some m
  pub count : length args ≡ length (parameters m)
  pub fit : first_misfit 0 args (parameters m) ≡ None
  pub room : first_without_room 0 (length w.arrays) (sum_by (λ (a : ArrayRec). length a.initial) w.arrays) args ≡ None

same-count : (a b : ℕ) → not (a == b) ≡ false → a ≡ b
same-count a b h = grind (arith, nat_tests)

none-of : (b : Bool) (f : StartFault) (y : Option StartFault) → (if b then Some f else y) ≡ None → (b ≡ false) × (y ≡ None)
none-of x f y e = grind (arith)

neither : (a b : Option ℕ) → or_room a b ≡ None → (a ≡ None) × (b ≡ None)
neither x b e = grind (arith)

taken-by : (w : Linked) (entry : ℕ) (args : List Argument) (o : Option MethodRec) → slice_get w.methods entry ≡ o → entry_fault w args o ≡ None
    → (m : MethodRec) × Takes w entry args m
taken-by w entry args x e none = grind (arith, none-of, length, neither, same-count)

pub takes : (w : Linked) (entry : ℕ) (args : List Argument) → start_fault w entry args ≡ None → (m : MethodRec) × Takes w entry args m
takes w entry args none = taken-by w entry args (slice_get w.methods entry) refl none

-- a part of a list
pub filter-le : (p : Ty → Bool) (xs : List Ty) → length (filter p xs) ≤ length xs
filter-le p [] = omega arith
filter-le p (x ∷ xs) = go (p x) (filter-le p xs) where
  go : (b : Bool) → length (filter p xs) ≤ length xs → length (if b then x ∷ filter p xs else filter p xs) ≤ suc (length xs)
  go true h = omega arith
  go false h = omega arith

-- arrays of arguments leave the frames
pub arrays-frames : {A : Type 0} (k : Cells A) (args : List Argument) (s : State A) → (with_arrays k args s).frames ≡ s.frames
arrays-frames k [] s = refl
arrays-frames k (number n ∷ args) s = arrays-frames k args s
arrays-frames k (null ∷ args) s = arrays-frames k args s
arrays-frames k (bytes bs ∷ args) s = arrays-frames k args _

-- the registers of a frame whose first ones are written
pub registers-written : {A : Type 0} (k : Cells A) (methods : List MethodRec) (entry : ℕ) (cells : List A)
    → record (entered k methods entry []) { registers = overwritten (entered k methods entry []).registers 0 cells } ≡ entered k methods entry cells
registers-written {A} k methods entry cells = grind (arith, drop, length, drop-replicate)

-- the frame of the entry, over a state without frames
pub entry-made : {A : Type 0} (k : Cells A) (w : Linked) (entry : ℕ) (args : List Argument) (m : MethodRec) (y z : State A)
    → slice_get w.methods entry ≡ Some m
    → y ≡ with_arrays k args (initial k w)
    → z ≡ with_top (with_entry k w.methods y entry)
    (record (top (with_entry k w.methods y entry))
    { registers = overwritten (top (with_entry k w.methods y entry)).registers 0 (cells_handed k (length w.arrays) args (parameters m)) })
    → z ≡ entry_state k w entry args
entry-made {A} k w entry args m y z is e final = grind (arith, arrays-frames, length, registers-written)
