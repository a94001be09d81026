-- The greatest chains of calls bound every run.
use Rattle.std.proofs.Common.{◌≡◌, ℕ, suc, ◌+◌, ◌<◌, ◌≤◌, List, [], ◌∷◌, length, map, refl, ap, arith}
use Rattle.jc_base.specs.World.{Linked, IsWorld}
use Rattle.digraph.specs.Way.{Way, way_ends, way_goes, total, IsGreatest}
use Rattle.vm_store.specs.declared.cell.Cell.{Cell}
use Rattle.vm_store.specs.State.{Frame, frame_limit}
use Rattle.vm_step.specs.Raising.{running, ended}
use Rattle.vm_step.specs.declared.ending.Plain.TheVariants.{TooDeep}
use Rattle.vm_step.specs.declared.ending.Ending.TheVariants.{Plain}
use Rattle.law_sound.proofs.TypingsByNumber.{methods-have-typings}
use Rattle.law_chains.specs.FrameWords.{frame_words, live_words}
use Rattle.law_chains.specs.Calls.{Calls}
use Rattle.law_chains.specs.Stacked.{methods_on, IsStacked, entry_alone, called_on, AreStacked, IsTooLong}
use Rattle.law_chains.specs.Bounds.{one_each, IsMostFrames, ChainsBoundRuns}
use Rattle.law_chains.proofs.Stacking.{runs-keep-to-calls}

pub total-one : (ms : List ℕ) → total one_each ms ≡ length ms
total-one [] = refl
total-one (m ∷ ms) = let rest = total-one ms in omega (arith, rest)

words-of : (w : Linked) (fs : List (Frame Cell)) → live_words w fs ≡ total (frame_words w) (map (λ (f : Frame Cell). f.method) fs)
words-of w [] = refl
words-of w (f ∷ fs) = ap (λ n. frame_words w f.method + n) (words-of w fs)

length-methods : (fs : List (Frame Cell)) → length (map (λ (f : Frame Cell). f.method) fs) ≡ length fs
length-methods [] = refl
length-methods (f ∷ fs) = ap (λ n. suc n) (length-methods fs)

module _ (w : Linked) (entry : ℕ) (measure : ℕ → ℕ) where
  -- a chain of the same methods, which goes on from the last
  record Chained (sum : ℕ) : Type 0 where
    chain : List ℕ
    is_way : Way (Calls w) entry chain
    measures : total measure chain ≡ sum

  chained : (m : ℕ) (ms rest : List ℕ) → IsStacked w entry (m ∷ ms) → Way (Calls w) m rest → Chained (total measure ms + total measure rest)
  chained m ms rest entry_alone way = record { chain = rest; is_way = way; measures = omega arith }
  chained m whole rest (called_on {m = n} {ms = ms} call more) way = grind (arith, chained n ms (n ∷ rest) more (way_goes call way))

  -- so the methods of the frames measure at most what a chain does
  stacked-most : (ms : List ℕ) (most : ℕ) → IsGreatest (Calls w) measure entry most → AreStacked w entry ms → total measure ms ≤ most
  stacked-most [] most greatest h = omega arith
  stacked-most (m ∷ ms) most greatest h = grind (arith, chained m ms (m ∷ []) h way_ends)

pub chains-bound-runs : (w : Linked) → IsWorld w → ChainsBoundRuns w
chains-bound-runs w world unset entry words frames methods most_words most_frames =
    let has = methods-have-typings w unset methods in
    let keeps = runs-keep-to-calls w world has.typings entry in (
      λ args s z n starts runs.
          let stacked = keeps args s n (running z) has.are starts runs in (
            rw (words-of w z.frames) (stacked-most w entry (frame_words w) (methods_on z) words most_words stacked),
            let l = stacked-most w entry one_each (methods_on z) frames most_frames stacked in
                omega (arith, l, total-one (methods_on z), length-methods z.frames),
          ),
      λ few args s z n starts runs.
          let long : IsTooLong w entry = keeps args s n (ended (Plain TooDeep) z) has.are starts runs in
          go w entry frames most_frames few long.methods long.stacked long.long,
    )
  where
    go : (w : Linked) (entry frames : ℕ) → IsMostFrames w entry frames → frames ≤ frame_limit → (ms : List ℕ) → IsStacked w entry ms
        → frame_limit < length ms → ⊥
    go w entry frames most few [] stacked long = absurd (omega arith)
    go w entry frames most few (m ∷ ms) stacked long =
        let l = stacked-most w entry one_each (m ∷ ms) frames most stacked in omega (arith, l, total-one (m ∷ ms))
