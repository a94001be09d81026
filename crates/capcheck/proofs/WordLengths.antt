-- No word is longer than the longest.
use Rattle.std.proofs.Common.{◌≤◌, ℕ, List, [], ◌∷◌, length, All, arith}
use Rattle.std.specs.Prelude.{max}
use Rattle.std.proofs.lemmas.List.Elements.{All-nil, All-cons}
use Rattle.capcheck.specs.Start.{in_32_bits, longest_from}

longest_from-least : (least : ℕ) (words : List (List ℕ)) → least ≤ longest_from least words
longest_from-least least [] = omega arith
longest_from-least least (word ∷ words) =
    let more = longest_from-least (max least (in_32_bits (length word))) words in
    let most : least ≤ max least (in_32_bits (length word)) = omega arith in
    omega (arith, more, most)

pub none_longer : (least : ℕ) (words : List (List ℕ)) → All (λ word. in_32_bits (length word) ≤ longest_from least words) words
none_longer least [] = All-nil (λ word. in_32_bits (length word) ≤ longest_from least [])
none_longer least (word ∷ words) =
    let more = longest_from-least (max least (in_32_bits (length word))) words in
    let most : in_32_bits (length word) ≤ max least (in_32_bits (length word)) = omega arith in
    All-cons (λ w. in_32_bits (length w) ≤ longest_from (max least (in_32_bits (length word))) words) word words (omega (arith, more, most))
    (none_longer (max least (in_32_bits (length word))) words)
