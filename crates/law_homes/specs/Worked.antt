-- Worked cases of held frames, and of values that go from home to home.
use Rattle.std.specs.Prelude.{◌≡◌, pos, [], ◌∷◌}
use Rattle.std.proofs.Common.{refl}
use Rattle.jc_base.specs.declared.ty.Ty.TheVariants.{Short, IntHigh, Class}
use Rattle.jc_ops.specs.declared.operation.Sort.TheVariants as sorts
use Rattle.vm_store.specs.declared.cell.Cell.{Cell}
use Rattle.vm_store.specs.declared.cell.Cell.TheVariants as cells
use Rattle.vm_store.specs.Cells.{tagged}
use Rattle.vm_store.specs.State.{Frame}
use Rattle.law_homes.specs.Held.{slots}
use Rattle.law_homes.specs.Moves.{copied, letter_of, value_in_register}

-- two registers, and an int on the stack: its low half lies on top, and so has the last slot
abbrev frame : Frame Cell
frame =
    record {
      method = 0;
      place = 3;
      registers = cells.Ref 1 ∷ cells.Short (pos 7) ∷ [];
      stack = cells.Low 9 ∷ cells.High 2 ∷ [];
    }

slots_in_order : slots frame ≡ cells.Ref 1 ∷ cells.Short (pos 7) ∷ cells.High 2 ∷ cells.Low 9 ∷ []
slots_in_order = refl

letters : letter_of Short ∷ letter_of IntHigh ∷ letter_of (Class 4) ∷ [] ≡ sorts.Short ∷ sorts.Int ∷ sorts.Reference ∷ []
letters = refl

-- a short is copied to one register, an int to two
short_copied :
    copied tagged sorts.Short 0 2 (cells.Short (pos 7) ∷ cells.Ref 1 ∷ cells.Empty ∷ [])
    ≡ cells.Short (pos 7) ∷ cells.Ref 1 ∷ cells.Short (pos 7) ∷ []
short_copied = refl

int_copied :
    copied tagged sorts.Int 0 2 (cells.High 2 ∷ cells.Low 9 ∷ cells.Empty ∷ cells.Empty ∷ [])
    ≡ cells.High 2 ∷ cells.Low 9 ∷ cells.High 2 ∷ cells.Low 9 ∷ []
int_copied = refl

-- and is loaded with its low half on top
int_loaded : value_in_register sorts.Int 0 (cells.High 2 ∷ cells.Low 9 ∷ []) ≡ cells.Low 9 ∷ cells.High 2 ∷ []
int_loaded = refl
