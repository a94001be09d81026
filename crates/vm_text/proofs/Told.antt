-- Lines and elements that are written one after the other.
use Rattle.std.proofs.Common.{◌≡◌, ◌<◌, ℕ, zero, suc, ◌+◌, ℤ, List, [], ◌∷◌, ◌++◌, length, Option, Some, None, refl, sym, ap, subst}
use Rattle.std.proofs.Common.{◌∙◌, append_assoc, append-nil, arith}
use Rattle.std.specs.Prelude.{take, slice_get, option_map, option_and_then}
use Rattle.std.specs.List.{flat_map}
use Rattle.std.proofs.lemmas.Grind.{flat_map-append}
use Rattle.std.proofs.lemmas.Option.{slice_get_within, get_or_from_slice_get}
use Rattle.std.proofs.lemmas.List.{take_more}
use Rattle.vm_step.specs.declared.ending.Value.{Value}
use Rattle.cap_text.specs.Ending.{static_line, static_lines, element_text}
use Rattle.cap_text.specs.Room.{Roomed, Writes}
use Rattle.cap_text.proofs.Rooms.{both}
use Rattle.vm_text.specs.Left.{NumberArray, elements_in}

pub nothing : (a : Roomed) → Writes a a []
nothing a = record { text = sym (append-nil a.text); used = omega arith; whole = omega arith }

-- ---- elements

pub counted : (o : Option NumberArray) (count : ℕ) → option_map (λ (a : NumberArray). length a.elements) o ≡ Some count
    → length (elements_in o) ≡ count
counted x count is = grind (arith)

pub element_found : (o : Option NumberArray) (i : ℕ) (r : Option ℤ) → r ≡ option_and_then (λ (a : NumberArray). slice_get a.elements i) o
    → slice_get (elements_in o) i ≡ r
element_found x i r is = grind (arith)

pub one_element : (a b c : Roomed) (xs : List ℤ) (i : ℕ) (x : ℤ) → slice_get xs i ≡ Some x
    → Writes a b (flat_map element_text (take i xs)) → Writes b c (element_text x) → Writes a c (flat_map element_text (take (i + 1) xs))
one_element a b c xs i x is before one =
    let taken : take (i + 1) xs ≡ take i xs ++ x ∷ [] = take_more xs i x (slice_get_within xs i x is)
    ∙ ap (λ y. take i xs ++ y ∷ []) (get_or_from_slice_get xs i x x is) in
    let all : flat_map element_text (take (i + 1) xs) ≡ flat_map element_text (take i xs) ++ element_text x
    = ap (flat_map element_text) taken ∙ flat_map-append element_text (take i xs) (x ∷ [])
    ∙ ap (λ t. flat_map element_text (take i xs) ++ t) (append-nil (element_text x)) in
    subst (Writes a c) (sym all) (both a b c (flat_map element_text (take i xs)) (element_text x) before one)

-- ---- static fields

lines_joined : (m : ℕ) (xs : List Value) (x : Value) → static_lines m (xs ++ x ∷ []) ≡ static_lines m xs ++ static_line (m + length xs) x
lines_joined m [] x = let same : m ≡ m + 0 = omega arith in append-nil (static_line m x) ∙ ap (λ k. static_line k x) same
lines_joined m (y ∷ ys) x = grind (arith, length, suc, append_assoc, lines_joined (m + 1) ys x)

pub one_field : (a b c : Roomed) (xs : List Value) (n : ℕ) (x : Value) → length (take n xs) ≡ n → slice_get xs n ≡ Some x
    → Writes a b (static_lines 0 (take n xs)) → Writes b c (static_line n x) → Writes a c (static_lines 0 (take (n + 1) xs))
one_field a b c xs n x long is before one =
    let place : 0 + length (take n xs) ≡ n = omega (arith, long) in
    let taken : take (n + 1) xs ≡ take n xs ++ x ∷ [] = take_more xs n x (slice_get_within xs n x is)
    ∙ ap (λ y. take n xs ++ y ∷ []) (get_or_from_slice_get xs n x x is) in
    let all : static_lines 0 (take (n + 1) xs) ≡ static_lines 0 (take n xs) ++ static_line n x
    = ap (static_lines 0) taken ∙ lines_joined 0 (take n xs) x ∙ ap (λ k. static_lines 0 (take n xs) ++ static_line k x) place in
    subst (Writes a c) (sym all) (both a b c (static_lines 0 (take n xs)) (static_line n x) before one)

-- ---- within a list

pub not_missing : {X : Type 0} (xs : List X) (i : ℕ) → i < length xs → slice_get xs i ≡ None → ⊥
not_missing [] i below none = omega (arith, below)
not_missing (x ∷ xs) zero below none = absurd (cc)
not_missing (x ∷ xs) (suc i) below none = not_missing xs i (omega (arith, below)) none

pub taken : {X : Type 0} (xs : List X) (n : ℕ) → n < length xs → length (take n xs) ≡ n
taken [] n below = absurd (omega (arith, below))
taken (x ∷ xs) zero below = refl
taken (x ∷ xs) (suc n) below = ap suc (taken xs n (omega (arith, below)))
