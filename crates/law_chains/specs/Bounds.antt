-- What the greatest chains of calls from an entry say of its runs.
use Rattle.std.specs.Prelude.{ℕ, ◌≤◌, List, length}
use Rattle.digraph.specs.Way.{IsGreatest}
use Rattle.jc_base.specs.World.{Linked}
use Rattle.vm_store.specs.declared.cell.Cell.{Cell}
use Rattle.vm_store.specs.Cells.{tagged}
use Rattle.vm_store.specs.State.{State, frame_limit}
use Rattle.vm_step.specs.declared.ending.Plain.TheVariants.{TooDeep}
use Rattle.vm_step.specs.declared.ending.Ending.TheVariants.{Plain}
use Rattle.vm_step.specs.Arguments.{Argument}
use Rattle.vm_step.specs.Raising.{running, ended}
use Rattle.vm_step.specs.Start.{Starts}
use Rattle.vm_step.specs.Run.{Runs}
use Rattle.jc_base.specs.declared.ty.Ty.{Ty}
use Rattle.law_sound.specs.Soundness.{AreTypedMethods}
use Rattle.law_chains.specs.FrameWords.{frame_words, live_words}
use Rattle.law_chains.specs.Calls.{Calls}

-- one for each method of a chain
abbrev pub one_each : ℕ → ℕ
one_each m = 1

-- a chain of calls from the entry has frames of so many words together, and none has more
abbrev pub IsMostWords : Linked → ℕ → ℕ → Type 0
IsMostWords w entry words = IsGreatest (Calls w) (frame_words w) entry words

-- a chain of calls from the entry has so many methods, and none has more
abbrev pub IsMostFrames : Linked → ℕ → ℕ → Type 0
IsMostFrames w entry frames = IsGreatest (Calls w) one_each entry frames

-- in every state of every run of the entry there are at most so many frames, of at most so many words
abbrev pub RunsStayWithin : Linked → ℕ → ℕ → ℕ → Type 0
RunsStayWithin w entry words frames =
    (args : List Argument) (s z : State Cell) (n : ℕ)
    → Starts tagged w entry args s
    → Runs tagged w n s (running z)
    → (live_words w z.frames ≤ words) × (length z.frames ≤ frames)

-- no run of the entry is too deep
abbrev pub NoneIsTooDeep : Linked → ℕ → Type 0
NoneIsTooDeep w entry =
    (args : List Argument) (s z : State Cell) (n : ℕ)
    → Starts tagged w entry args s
    → ¬ (Runs tagged w n s (ended (Plain TooDeep) z))

-- in a world of typed methods, whatever the type of registers that are unset, the greatest chains bound every run
abbrev pub ChainsBoundRuns : Linked → Type 0
ChainsBoundRuns w =
    (unset : Ty) (entry words frames : ℕ)
    → AreTypedMethods w unset
    → IsMostWords w entry words
    → IsMostFrames w entry frames
    → RunsStayWithin w entry words frames × (frames ≤ frame_limit → NoneIsTooDeep w entry)
