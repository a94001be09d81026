-- The words that the frames of methods take (JCVM 2.2, section 3.5): three of each frame's own, its registers, and the room of its
-- operand stack.
use Rattle.std.specs.Prelude.{ℕ, ◌+◌, List, [], ◌∷◌, slice_get}
use Rattle.jc_base.specs.declared.record.MethodRec.{MethodRec}
use Rattle.jc_base.specs.World.{Linked}
use Rattle.vm_store.specs.State.{Frame}
use Rattle.vm_step.specs.Methods.{of_method}

abbrev pub words_of_frame : MethodRec → ℕ
words_of_frame m = 3 + m.nargs + m.max_locals + m.max_stack

-- those of a frame of the method of a number
abbrev pub frame_words : Linked → ℕ → ℕ
frame_words w n = of_method 0 words_of_frame (slice_get w.methods n)

-- those of frames together
abbrev pub live_words : {A : Type 0} → Linked → List (Frame A) → ℕ
live_words w [] = 0
live_words w (f ∷ fs) = frame_words w f.method + live_words w fs
