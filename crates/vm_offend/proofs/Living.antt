-- The words of live frames are those of the frames of a state.
use Rattle.std.proofs.Common.{arith}
use Rattle.std.proofs.Common.{◌≡◌, ℕ, ◌+◌, List, [], ◌∷◌, refl, ap}
use Rattle.std.specs.Prelude.{Option, map}
use Rattle.jc_base.specs.World.{Linked}
use Rattle.vm_store.specs.declared.cell.Cell.{Cell}
use Rattle.vm_store.specs.Cells.{word_of}
use Rattle.vm_store.specs.State.{Frame, State, map_frame, erased}
use Rattle.vm_step.specs.declared.ending.Ending.{Ending}
use Rattle.vm_step.specs.Raising.{Outcome}
use Rattle.vm_run.specs.Turn.{with_ending}
use Rattle.law_erasure.specs.Erasure.{erased_outcome}
use Rattle.law_chains.specs.FrameWords.{frame_words, live_words}
use Rattle.vm_offend.specs.declared.machine.Machine.{Machine}
use Rattle.vm_offend.specs.Words.{frames_in}
use Rattle.vm_offend.specs.Held.{AreWordsOf, state_of}

live-erased : (w : Linked) (fs : List (Frame Cell)) → live_words w (map (map_frame word_of) fs) ≡ live_words w fs
live-erased w [] = refl
live-erased w (f ∷ fs) = ap (λ n. frame_words w f.method + n) (live-erased w fs)

pub state-with : (e : Option Ending) (s : State ℕ) → state_of (with_ending e s) ≡ s
state-with x s = grind (arith)

pub state-erased : (o : Outcome Cell) → state_of (erased_outcome o) ≡ erased (state_of o)
state-erased x = grind (arith)

pub live-words-of : (w : Linked) (m : Machine) (ram heap statics : List ℕ) (o : Outcome Cell) → AreWordsOf w m ram heap statics o
    → live_words w (frames_in w.methods ram m.counts.frames) ≡ live_words w (state_of o).frames
live-words-of w m ram heap statics o are = grind (arith, state-erased o, live-erased w (state_of o).frames, state-with)
