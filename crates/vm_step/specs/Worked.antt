-- Worked cases of operations, on tagged cells and on words.
use Rattle.std.specs.Prelude.{◌≡◌, ℕ, pos, negsuc, true, List, [], ◌∷◌}
use Rattle.std.proofs.Common.{refl}
use Rattle.jc_base.specs.declared.ty.Kind.TheVariants as fields
use Rattle.jc_ops.specs.declared.operation.Sort.TheVariants as sorts
use Rattle.jc_ops.specs.declared.operation.Width.TheVariants as widths
use Rattle.jc_ops.specs.declared.operation.Move.TheVariants as moves
use Rattle.jc_ops.specs.declared.operation.Operator.TheVariants as operators
use Rattle.jc_ops.specs.declared.operation.Arithmetic.TheVariants as arithmetic
use Rattle.jc_ops.specs.declared.operation.Branch.TheVariants as branches
use Rattle.jc_ops.specs.declared.operation.Order.TheVariants as orders
use Rattle.vm_store.specs.declared.cell.Cell.{Cell}
use Rattle.vm_store.specs.declared.cell.Cell.TheVariants as cells
use Rattle.vm_store.specs.declared.cell.ObjectKind.TheVariants.{Bytes}
use Rattle.vm_store.specs.Cells.{tagged, words}
use Rattle.vm_store.specs.State.{State}
use Rattle.vm_step.specs.declared.ending.Exception.TheVariants.{NullPointer, Arithmetic, ArrayIndex}
use Rattle.vm_step.specs.Act.{goes, raises}
use Rattle.vm_step.specs.Values.{with_load, with_store, with_move, with_increment, arithmetic_act}
use Rattle.vm_step.specs.Branching.{is_taken}
use Rattle.vm_step.specs.Fields.{array_read_act}

-- a state with one frame, without objects and static fields
abbrev at : {A : Type 0} → List A → List A → State A
at registers stack = record {
  frames = record { method = 0; place = 0; registers = registers; stack = stack } ∷ [];
  heap = [];
  statics = [];
}

-- a sum wraps, and the second operand is on top
difference : arithmetic_act tagged (arithmetic.Binary operators.Subtract widths.Short)
    (at [] (cells.Short (pos 1) ∷ cells.Short (negsuc 32767) ∷ []))
    ≡ goes (at [] (cells.Short (pos 32767) ∷ []))
difference = refl

-- the same in words
difference_of_words :
    arithmetic_act words (arithmetic.Binary operators.Subtract widths.Short) (at [] (1 ∷ 32768 ∷ []))
    ≡ goes (at [] (32767 ∷ []))
difference_of_words = refl

-- an int has its low half on top
negated : arithmetic_act tagged (arithmetic.Negate widths.Int) (at [] (cells.Low 1 ∷ cells.High 0 ∷ []))
    ≡ goes (at [] (cells.Low 65535 ∷ cells.High 65535 ∷ []))
negated = refl

by_zero :
    arithmetic_act tagged (arithmetic.Binary operators.Divide widths.Short) (at [] (cells.Short (pos 0) ∷ cells.Short (pos 7) ∷ []))
    ≡ raises Arithmetic
by_zero = refl

-- an empty register is read as zero or as null
empty_short : with_load tagged sorts.Short 0 (at (cells.Empty ∷ []) []) ≡ at (cells.Empty ∷ []) (cells.Short (pos 0) ∷ [])
empty_short = refl

empty_reference : with_load tagged sorts.Reference 0 (at (cells.Empty ∷ []) []) ≡ at (cells.Empty ∷ []) (cells.Ref 0 ∷ [])
empty_reference = refl

-- the high half goes into the first register
stored :
    with_store tagged sorts.Int 0 (at (cells.Empty ∷ cells.Empty ∷ []) (cells.Low 2 ∷ cells.High 1 ∷ []))
    ≡ at (cells.High 1 ∷ cells.Low 2 ∷ []) []
stored = refl

incremented : with_increment words widths.Short 0 (negsuc 0) (at (0 ∷ []) []) ≡ at (65535 ∷ []) []
incremented = refl

-- a copy of the top cell under two; the top cell under the next
copied : with_move {A = ℕ} (moves.CopyUnder 1 2) (at [] (1 ∷ 2 ∷ 3 ∷ [])) ≡ at [] (1 ∷ 2 ∷ 1 ∷ 3 ∷ [])
copied = refl

exchanged : with_move {A = ℕ} (moves.Exchange 1 2) (at [] (1 ∷ 2 ∷ 3 ∷ 4 ∷ [])) ≡ at [] (2 ∷ 3 ∷ 1 ∷ 4 ∷ [])
exchanged = refl

less : is_taken tagged (branches.Shorts orders.Less) (cells.Short (pos 2) ∷ cells.Short (negsuc 0) ∷ []) ≡ true
less = refl

-- an array of two bytes
abbrev bytes : List Cell → State Cell
bytes stack = record (at [] stack) { heap = record { kind = Bytes; cells = cells.Short (pos 5) ∷ cells.Short (negsuc 0) ∷ [] } ∷ [] }

last_byte : array_read_act tagged fields.Byte (bytes (cells.Short (pos 1) ∷ cells.Ref 1 ∷ []))
    ≡ goes (bytes (cells.Short (negsuc 0) ∷ []))
last_byte = refl

past_the_end : array_read_act tagged fields.Byte (bytes (cells.Short (pos 2) ∷ cells.Ref 1 ∷ [])) ≡ raises ArrayIndex
past_the_end = refl

before_the_first : array_read_act tagged fields.Byte (bytes (cells.Short (negsuc 0) ∷ cells.Ref 1 ∷ [])) ≡ raises ArrayIndex
before_the_first = refl

-- null is asked before the index
of_null : array_read_act tagged fields.Byte (bytes (cells.Short (negsuc 0) ∷ cells.Ref 0 ∷ [])) ≡ raises NullPointer
of_null = refl
