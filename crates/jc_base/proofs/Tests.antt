-- Tests of each element of a list, and of one, decide facts of them.
use Rattle.std.proofs.Common.{arith}
use Rattle.std.proofs.Common.{◌≡◌, inl, inr, Bool, true, List, [], ◌∷◌, Some, refl, subst, sym}
use Rattle.std.specs.Prelude.{All, find}
use Rattle.std.specs.List.{list_all, list_any}
use Rattle.std.proofs.lemmas.Bool.{false≢true, or_cases, and_parts, or_left, or_right, and_from}
use Rattle.std.proofs.lemmas.List.Elements.{All-nil, All-cons, All-head, All-tail}
use Rattle.jc_base.specs.Each.{IsAmong}

pub All-from_test : {X : Type 0} (p : X → Bool) (P : X → Type 0) → ((x : X) → p x ≡ true → P x) → (xs : List X) → list_all p xs ≡ true
    → All P xs
All-from_test p P sound [] h = All-nil P
All-from_test p P sound (x ∷ xs) h =
    let two = and_parts (p x) (list_all p xs) h in
    All-cons P x xs (sound x two.0) (All-from_test p P sound xs two.1)

pub test-from_All : {X : Type 0} (p : X → Bool) (P : X → Type 0) → ((x : X) → P x → p x ≡ true) → (xs : List X) → All P xs
    → list_all p xs ≡ true
test-from_All p P complete [] all = refl
test-from_All p P complete (x ∷ xs) all =
    and_from (p x) (list_all p xs) (complete x (All-head P x xs all)) (test-from_All p P complete xs (All-tail P x xs all))

pub some-from_test : {X : Type 0} (p : X → Bool) (xs : List X) → list_any p xs ≡ true → (x : X) × IsAmong x xs × (p x ≡ true)
some-from_test p [] h = absurd (false≢true h)
some-from_test p (x ∷ xs) h = elim (or_cases (p x) (list_any p xs) h) [
  | inl here ↦ (x, inl refl, here)
  | inr more ↦ let rest = some-from_test p xs more in (rest.0, inr rest.1, rest.2)
]

pub test-from_some : {X : Type 0} (p : X → Bool) (xs : List X) (x : X) → IsAmong x xs → p x ≡ true → list_any p xs ≡ true
test-from_some p [] x among h = absurd among
test-from_some p (y ∷ ys) x (inl here) h = or_left (p y) (list_any p ys) (subst (λ z. p z ≡ true) (sym here) h)
test-from_some p (y ∷ ys) x (inr later) h = or_right (p y) (list_any p ys) (test-from_some p ys x later h)

found-by : {X : Type 0} (p : X → Bool) (x : X) (xs : List X) (a : X) (b : Bool) → p x ≡ b
    → (find p xs ≡ Some a → (p a ≡ true) × IsAmong a xs) → find p (x ∷ xs) ≡ Some a
    → (p a ≡ true) × IsAmong a (x ∷ xs)
found-by p x xs a x2 e rest h = grind (arith)

-- what a search finds passes the test, and is one of the elements
pub found-passes : {X : Type 0} (p : X → Bool) (xs : List X) (a : X) → find p xs ≡ Some a → (p a ≡ true) × IsAmong a xs
found-passes p [] a h = absurd cc
found-passes p (x ∷ xs) a h = found-by p x xs a (p x) refl (found-passes p xs a) h

pub same_truth : (b d : Bool) → (b ≡ true → d ≡ true) → (d ≡ true → b ≡ true) → b ≡ d
same_truth x d f g = grind (arith)
