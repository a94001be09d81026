-- What is summed along chains of calls.
use Rattle.std.specs.Prelude.{◌≡◌, ℕ, ◌<◌, List, length}
use Rattle.jc_base.specs.World.{Linked}
use Rattle.digraph.specs.Graph.{weight_of}
use Rattle.digraph.specs.Helpers.{MeasureNothing}
use Rattle.law_chains.specs.FrameWords.{frame_words}
use Rattle.law_chains.specs.Bounds.{one_each}
use Rattle.vm_bound.specs.declared.weighing.Measure.{Measure}
use Rattle.vm_bound.specs.declared.weighing.Measure.TheVariants.{Words, Frames}

-- what a method measures
abbrev pub measure : Linked → Measure → ℕ → ℕ
measure w Words n = frame_words w n
measure w Frames n = one_each n

-- at most: three words, and three numbers of one byte
abbrev pub most_each : Measure → ℕ
most_each Words = 768
most_each Frames = 1

-- the methods weigh what they measure, and the other vertices nothing
pub record AreWeights (w : Linked) (by : Measure) (weights : List ℕ) : Type 0 where
  pub methods : (n : ℕ) → n < length w.methods → weight_of weights n ≡ measure w by n
  pub others : MeasureNothing (weight_of weights) (length w.methods)
