-- How a run begins (JCVM 2.2, sections 2.2, 3.1 to 3.5 and 6.10): what the world has from the start, what is handed to the first
-- method, and why a run does not begin.
use Rattle.std.specs.Prelude.{◌≡◌, ℕ, ◌+◌, ℤ, pos, negsuc, Bool, true, false, not, ◌==◌, ◌&&◌, nat_lt, nat_le}
use Rattle.std.specs.Prelude.{if◌then◌else◌, List, [], ◌∷◌, ◌++◌, length, map, filter, flat_map, sum_by, Option, Some, None}
use Rattle.std.specs.Prelude.{option_map, slice_get}
use Rattle.jc_base.specs.declared.ty.Ty.{Ty}
use Rattle.jc_base.specs.declared.ty.Ty.TheVariants.{Short, IntHigh, IntLow, ArrByte}
use Rattle.jc_base.specs.declared.ty.Kind.{Kind}
use Rattle.jc_base.specs.declared.ty.Kind.TheVariants as fields
use Rattle.jc_base.specs.declared.record.MethodRec.{MethodRec}
use Rattle.jc_base.specs.declared.record.StaticRec.{StaticRec}
use Rattle.jc_base.specs.declared.record.ArrayRec.{ArrayRec}
use Rattle.jc_base.specs.Order.{is_reference}
use Rattle.jc_base.specs.Linked.{lacks_code}
use Rattle.jc_base.specs.World.{Linked}
use Rattle.jc_ops.specs.declared.operation.Width.TheVariants as widths
use Rattle.vm_store.specs.declared.cell.ObjectKind.{ObjectKind}
use Rattle.vm_store.specs.declared.cell.ObjectKind.TheVariants.{Bytes, Ints}
use Rattle.vm_store.specs.Cells.{Cells}
use Rattle.vm_arithmetic.specs.Arithmetic.{short_of_word}
use Rattle.vm_store.specs.State.{State, Object, entered}
use Rattle.vm_store.specs.Objects.{with_object, object_limit, cell_limit}
use Rattle.vm_store.specs.Value.{byte_of_word}
use Rattle.vm_step.specs.declared.ending.StartFault.{StartFault}
use Rattle.vm_step.specs.declared.ending.StartFault.TheVariants.{NoEntry, NotStatic, ArgCount, ArgKind, ArgRoom}
use Rattle.vm_step.specs.Arguments.{Argument, number, null, bytes}
use Rattle.vm_step.specs.Numbers.{number_cells}
use Rattle.vm_step.specs.Objects.{kind_of_type}
use Rattle.vm_step.specs.Methods.{of_method}

-- ---- what the world has from the start

-- the cells of the initial words of a static field
abbrev pub field_cells : {A : Type 0} → Cells A → Kind → List ℕ → List A
field_cells k fields.Ref words = map k.reference words
field_cells k fields.Int (high ∷ low ∷ words) = k.high high ∷ k.low low ∷ []
field_cells k fields.Int words = []
field_cells k kind words = map (λ w. k.short (short_of_word w)) words

-- of ints, the high half and then the low one
abbrev pub int_cells : {A : Type 0} → Cells A → List ℕ → List A
int_cells k (high ∷ low ∷ words) = k.high high ∷ k.low low ∷ int_cells k words
int_cells k words = []

-- the cells of the initial words of an array
abbrev pub initial_element_cells : {A : Type 0} → Cells A → ObjectKind → List ℕ → List A
initial_element_cells k Ints words = int_cells k words
initial_element_cells k kind words = map (λ w. k.short (short_of_word w)) words

abbrev pub initial_object : {A : Type 0} → Cells A → ArrayRec → Object A
initial_object k a = record { kind = kind_of_type a.kind; cells = initial_element_cells k (kind_of_type a.kind) a.initial }

-- no frame, the initial arrays by handle, and the static fields by slot
abbrev pub initial : {A : Type 0} → Cells A → Linked → State A
initial k w =
    record {
      frames = [];
      heap = map (initial_object k) w.arrays;
      statics = flat_map (λ (f : StaticRec). field_cells k f.kind f.initial) w.statics;
    }

-- ---- what is handed to the first method

-- each array of bytes among the arguments is made, in their order, with its bytes as elements
abbrev pub with_arrays : {A : Type 0} → Cells A → List Argument → State A → State A
with_arrays k [] s = s
with_arrays k (bytes bs ∷ args) s = with_arrays k args (with_object s Bytes (map (λ b. k.short (byte_of_word b)) bs))
with_arrays k (arg ∷ args) s = with_arrays k args s

-- the cells of an argument for a parameter, before which there are so many objects
abbrev pub argument_cells : {A : Type 0} → Cells A → ℕ → Argument → Ty → List A
argument_cells k objects (number n) Short = number_cells k widths.Short n
argument_cells k objects (number n) ty = number_cells k widths.Int n
argument_cells k objects null ty = k.reference 0 ∷ []
argument_cells k objects (bytes bs) ty = k.reference (objects + 1) ∷ []

abbrev pub arrays_made : Argument → ℕ
arrays_made (bytes bs) = 1
arrays_made arg = 0

-- the cells of all arguments, for the parameters in their order
abbrev pub cells_handed : {A : Type 0} → Cells A → ℕ → List Argument → List Ty → List A
cells_handed k objects (arg ∷ args) (ty ∷ types) =
    argument_cells k objects arg ty ++ cells_handed k (objects + arrays_made arg) args types
cells_handed k objects _ _ = []

-- ---- why a run does not begin

-- the method is called without a receiver, and has code
abbrev pub can_begin : Linked → MethodRec → Bool
can_begin w m = m.is_static && not (lacks_code w.classes m)

-- an int is one parameter, told by the first of its two words
abbrev pub is_parameter : Ty → Bool
is_parameter IntLow = false
is_parameter ty = true

abbrev pub parameters : MethodRec → List Ty
parameters m = filter is_parameter m.sig.args

abbrev pub is_short : ℤ → Bool
is_short (pos n) = nat_lt n 32768
is_short (negsuc n) = nat_lt n 32768

-- whether an argument fits a parameter; that an int is one of 32 bits, the argument says
abbrev pub fits : Argument → Ty → Bool
fits (number n) Short = is_short n
fits (number n) IntHigh = true
fits (number n) ty = false
fits null ty = is_reference ty
fits (bytes bs) ArrByte = true
fits (bytes bs) ty = false

-- the number of the first argument that does not fit its parameter, where they are numbered from n on
abbrev pub first_misfit : ℕ → List Argument → List Ty → Option ℕ
first_misfit n (arg ∷ args) (ty ∷ types) = if fits arg ty then first_misfit (n + 1) args types else Some n
first_misfit n _ _ = None

-- the number of the first argument whose array has no room, where so many objects with so many cells are there before
abbrev pub first_without_room : ℕ → ℕ → ℕ → List Argument → Option ℕ
first_without_room n objects cells [] = None
first_without_room n objects cells (bytes bs ∷ args) =
    if nat_lt objects object_limit && nat_le (cells + length bs) cell_limit
    then first_without_room (n + 1) (objects + 1) (cells + length bs) args
    else Some n
first_without_room n objects cells (arg ∷ args) = first_without_room (n + 1) objects cells args

abbrev pub or_room : Option ℕ → Option ℕ → Option StartFault
or_room (Some n) room = Some (ArgKind n)
or_room None room = option_map ArgRoom room

-- what keeps a method from beginning a run with these arguments: the first of these that holds
abbrev pub method_fault : Linked → MethodRec → List Argument → Option StartFault
method_fault w m args =
    if not (can_begin w m) then Some NotStatic
    else if not (length args == length (parameters m)) then Some (ArgCount (length args) (length (parameters m)))
    else or_room (first_misfit 0 args (parameters m))
    (first_without_room 0 (length w.arrays) (sum_by (λ (a : ArrayRec). length a.initial) w.arrays) args)

abbrev pub entry_fault : Linked → List Argument → Option MethodRec → Option StartFault
entry_fault w args None = Some NoEntry
entry_fault w args (Some m) = method_fault w m args

-- why a run of an entry does not begin with these arguments, where it does not
abbrev pub start_fault : Linked → ℕ → List Argument → Option StartFault
start_fault w entry args = entry_fault w args (slice_get w.methods entry)

-- ---- the state before the first step

-- the frame of the entry over the objects and the static fields
abbrev pub entry_state : {A : Type 0} → Cells A → Linked → ℕ → List Argument → State A
entry_state k w entry args =
    let types = of_method [] parameters (slice_get w.methods entry) in
    record (with_arrays k args (initial k w)) {
      frames = entered k w.methods entry (cells_handed k (length w.arrays) args types) ∷ [];
    }

-- a run of an entry begins with these arguments in this state
pub record Starts {A : Type 0} (k : Cells A) (w : Linked) (entry : ℕ) (args : List Argument) (s : State A) : Type 0 where
  pub begins : start_fault w entry args ≡ None
  pub state : s ≡ entry_state k w entry args
