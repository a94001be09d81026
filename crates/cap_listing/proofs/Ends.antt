-- The last line of a code, where its instructions don't reach to its end.
use Rattle.std.proofs.Common.{◌≡◌, ◌<◌, ◌≤◌, ◌⊎◌, inl, inr, ℕ, List, [], ◌∷◌, ◌++◌, length, drop, map, refl, ap}
use Rattle.std.proofs.Common.{◌∙◌, arith, append_assoc}
use Rattle.std.specs.Prelude.{codes}
use Rattle.std.proofs.lemmas.Bool.{cases_lt}
use Rattle.std.proofs.lemmas.List.{append-nil, drop_all, length-drop}
use Rattle.jc_decode.specs.Listing.{listing, listing_end}
use Rattle.cap_listing.specs.declared.method.ListedMethod.{ListedMethod}
use Rattle.cap_listing.specs.Words.{joined, text_of_lines}
use Rattle.cap_listing.specs.Text.{instruction_words, bytes_words, rest_lines, code_lines, head_words}
use Rattle.cap_listing.specs.Text.{handler_words, begun_lines, end_words, text_of}
use Rattle.cap_listing.proofs.Words.{text-append}
use Rattle.cap_listing.proofs.Grow.{lists-all}
use Rattle.cap_listing.proofs.Runs.{ends-inside}

pub end_inside : (code : List ℕ) → listing_end code ≤ length code
end_inside code = ends-inside code 0 (listing code) (omega arith) (lists-all code)

lines-none : (n : ℕ) (bytes : List ℕ) → bytes ≡ [] → rest_lines n bytes ≡ []
lines-none n bytes e = ap (rest_lines n) e

lines-some : (n : ℕ) (bytes : List ℕ) → 0 < length bytes → rest_lines n bytes ≡ bytes_words n bytes ∷ []
lines-some n y h = grind (arith)

pub rest_none : (n : ℕ) (code : List ℕ) → n ≡ length code → text_of_lines (rest_lines n (drop n code)) ≡ []
rest_none n code e = ap text_of_lines (lines-none n (drop n code) (drop_all n code (omega (arith, e))))

pub rest_some : (n : ℕ) (code : List ℕ) → n ≤ length code → (n ≡ length code → ⊥)
    → text_of_lines (rest_lines n (drop n code)) ≡ joined (bytes_words n (drop n code)) ++ 10 ∷ []
rest_some n code le h =
    ap text_of_lines (lines-some n (drop n code) (by (cases_lt n (length code)))) ∙ append-nil (joined (bytes_words n (drop n code)) ++ 10 ∷ [])
  where
    by : (n < length code) ⊎ (length code ≤ n) → 0 < length (drop n code)
    by (inl lt) = omega (arith, lt, length-drop n code)
    by (inr ge) = absurd (h (omega (arith, ge, le)))

-- a code's text in two parts
pub text_parts : (code : List ℕ)
    → text_of_lines (code_lines code)
    ≡ text_of_lines (map (instruction_words code) (listing code)) ++ text_of_lines (rest_lines (listing_end code) (drop (listing_end code) code))
text_parts code = text-append (map (instruction_words code) (listing code)) (rest_lines (listing_end code) (drop (listing_end code) code))

-- the texts of methods, one after the other
abbrev pub texts : List ListedMethod → List ℕ
texts [] = []
texts (m ∷ ms) = text_of_lines (begun_lines m ++ end_words ∷ []) ++ texts ms

pub texts_are : (ms : List ListedMethod) → texts ms ≡ text_of ms
texts_are [] = refl
texts_are (m ∷ ms) = grind (arith, text-append, append_assoc, texts_are ms)

-- a method's text in four parts
pub method_parts : (m : ListedMethod)
    → text_of_lines (begun_lines m ++ end_words ∷ [])
    ≡ joined (head_words m) ++ 10 ∷ (text_of_lines (code_lines m.laid.code) ++ (text_of_lines (map handler_words m.laid.handlers) ++ codes "end\n"))
method_parts m = grind (arith, text-append, append_assoc)
