-- What holds of a list and of one more holds of all of them.
use Rattle.std.specs.Prelude.{All}
use Rattle.std.proofs.lemmas.List.Elements.{All-append, All-cons, All-nil}
use Rattle.std.proofs.Common.{List, [], ◌∷◌, ◌++◌}

pub one_more : {X : Type 0} (P : X → Type 0) (xs : List X) (x : X) → All P xs → P x → All P (xs ++ x ∷ [])
one_more P xs x h k = All-append P xs (x ∷ []) h (All-cons P x [] k (All-nil P))
