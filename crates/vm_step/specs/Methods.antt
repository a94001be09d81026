-- What a machine reads of the methods of a world: a method's code, the instruction at a place of it, and the room on its operand stack.
use Rattle.std.specs.Prelude.{ℕ, ◌==◌, List, [], Option, Some, None, find, slice_get}
use Rattle.jc_base.specs.declared.record.Handler.{Handler}
use Rattle.jc_base.specs.declared.record.MethodRec.{MethodRec}
use Rattle.jc_base.specs.World.{Linked, code_of}
use Rattle.jc_decode.specs.declared.insn.Placed.{Placed}
use Rattle.jc_decode.specs.Listing.{listing}

abbrev pub of_method : {X : Type 0} → X → (MethodRec → X) → Option MethodRec → X
of_method none f None = none
of_method none f (Some m) = f m

abbrev pub code_at : Linked → ℕ → List ℕ
code_at w n = of_method [] (code_of w.infos) (slice_get w.methods n)

abbrev pub max_stack_of : Linked → ℕ → ℕ
max_stack_of w n = of_method 0 (λ m. m.max_stack) (slice_get w.methods n)

abbrev pub handlers_of : Linked → ℕ → List Handler
handlers_of w n = of_method [] (λ m. m.handlers) (slice_get w.methods n)

-- the instruction that begins at a place of the code, where one does
unfoldable pub instruction_at : List ℕ → ℕ → Option Placed
instruction_at code place = find (λ (i : Placed). i.place == place) (listing code)
