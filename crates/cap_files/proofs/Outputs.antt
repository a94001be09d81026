-- What is known of an output after each piece that it takes.
use Rattle.std.proofs.Common.{arith}
use Rattle.std.proofs.Common.{◌≡◌, ℕ, List, [], ◌++◌, length, take, drop, Option, IfSome, IsSomeAnd, sym, ap, ◌∙◌, append_assoc}
use Rattle.std.proofs.Math.Seq.{take-append_seam}
use Rattle.std.proofs.lemmas.List.{take-append-drop, append-nil}
use Rattle.cap_files.specs.Sink.{TakesWhole}

pub taken_then : (a b c : Option (List ℕ)) (g h : List ℕ) → TakesWhole a g b → TakesWhole b h c → TakesWhole a (g ++ h) c
taken_then a b x g h before now = grind (arith, append_assoc)

pub taken_on : (a b c : Option (List ℕ)) (piece left given after : List ℕ) (k : ℕ) → piece ≡ given ++ left → TakesWhole a given b
    → TakesWhole b (take k left) c → after ≡ drop k left
    → (x : List ℕ) × (piece ≡ x ++ after) × TakesWhole a x c
taken_on a b c piece left given after k whole before now farther = grind (arith, take, take-append-drop, append_assoc, drop, taken_then)

-- at most the first bytes of the piece were taken
abbrev pub TakenFirst : Option (List ℕ) → List ℕ → Option (List ℕ) → Type 0
TakenFirst before piece after = IfSome after (λ now. IsSomeAnd before (λ text. (n : ℕ) × (now ≡ text ++ take n piece)))

pub taken_first : (a c : Option (List ℕ)) (piece first : List ℕ) (n : ℕ) → first ≡ take n piece → TakesWhole a first c → TakenFirst a piece c
taken_first a x piece first n begins now = grind (arith)

pub taken_no_more : (a b c : Option (List ℕ)) (piece left given : List ℕ) → piece ≡ given ++ left → TakesWhole a given b → TakesWhole b [] c
    → TakenFirst a piece c
taken_no_more a b c piece left given whole before now =
    taken_first a c piece (given ++ []) (length given) (append-nil given ∙ sym (ap (take (length given)) whole ∙ take-append_seam given left))
    (taken_then a b c given [] before now)
