-- Frames of methods of a world.
use Rattle.std.proofs.Common.{◌<◌, ℕ, List, [], ◌∷◌, length}
use Rattle.std.specs.Prelude.{All}
use Rattle.std.proofs.lemmas.List.Elements.{All-tail}
use Rattle.jc_base.specs.World.{Linked}
use Rattle.vm_store.specs.State.{Frame, State, other_frames, without_top}
use Rattle.vm_run.specs.Turn.{AreMethods}

module _ {A : Type 0} where
  rest-known : (n : ℕ) (fs : List (Frame A)) → All (λ f. f.method < n) fs → All (λ f. f.method < n) (other_frames fs)
  rest-known n [] all = all
  rest-known n (f ∷ fs) all = All-tail (λ (f : Frame A). f.method < n) f fs all

  pub rest_known : (w : Linked) (s : State A) → AreMethods w s → AreMethods w (without_top s)
  rest_known w s known = record { known = rest-known (length w.methods) s.frames known.known }
