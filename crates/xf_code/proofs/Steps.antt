-- Steps of loops that append items.
use Rattle.std.proofs.Common.{arith}
use Rattle.std.proofs.Common.{◌≡◌, List, [], ◌++◌, sym, ◌∙◌, ap, append_assoc}
use Rattle.std.proofs.lemmas.List.{append-nil}

-- what is appended was first among what is left
pub goes-on : {X : Type 0} (items step rest left whole now : List X) → rest ≡ step ++ left → now ≡ items ++ step → items ++ rest ≡ whole
    → now ++ left ≡ whole
goes-on items step rest left whole now first is inv = grind (arith, append_assoc)

-- nothing is left
pub ended : {X : Type 0} (items rest whole : List X) → rest ≡ [] → items ++ rest ≡ whole → items ≡ whole
ended items rest whole none inv = sym (append-nil items) ∙ ap (λ xs. items ++ xs) (sym none) ∙ inv
