-- What is known of a run in a world whose methods with code have dataflow typings: it meets no fault.
use Rattle.std.specs.Prelude.{⊤}
use Rattle.jc_base.specs.World.{Linked}
use Rattle.vm_step.specs.declared.ending.Ending.{Ending}
use Rattle.vm_step.specs.declared.ending.Ending.TheVariants.{Plain, Faulted}
use Rattle.law_sound.specs.Frames.{Typings}
use Rattle.law_sound.specs.Soundness.{AreTypings, IsTypedOutcome}
use Rattle.vm_defend.specs.Held.{Held, reached}

abbrev pub IsPlainEnding : Ending → Type 0
IsPlainEnding (Plain plain) = ⊤
IsPlainEnding (Faulted fault) = ⊥

-- in such a world a run that was begun is in a typed state
abbrev pub BeginsSafely : Linked → Held → Type 0
BeginsSafely w run = (typings : Typings) → AreTypings w typings → IsTypedOutcome w typings (reached run)

-- and from a typed state it comes to a typed state, and answers no fault
abbrev pub GoesSafely : Linked → Held → Held → Ending → Type 0
GoesSafely w before after answer =
    (typings : Typings) → AreTypings w typings → IsTypedOutcome w typings (reached before)
    → IsTypedOutcome w typings (reached after) × IsPlainEnding answer
