-- What holds of each element, and of one among them, by recursion and by position.
use Rattle.std.proofs.Common.{inl, inr, List, [], ◌∷◌, refl, subst, arith, Contains, All, ◌++◌, ◌⊎◌, map}
use Rattle.std.proofs.lemmas.List.Elements.{All-nil, All-cons, All-head, All-tail, Contains-append_right, Contains-append_cases, Contains-push_cases}
use Rattle.jc_base.specs.Each.{Each, IsAmong}

pub All-from_Each : {X : Type 0} (P : X → Type 0) (xs : List X) → Each P xs → All P xs
All-from_Each P [] each = All-nil P
All-from_Each P (x ∷ xs) each = All-cons P x xs each.0 (All-from_Each P xs each.1)

pub Each-from_All : {X : Type 0} (P : X → Type 0) (xs : List X) → All P xs → Each P xs
Each-from_All P [] all = tt
Each-from_All P (x ∷ xs) all = (All-head P x xs all, Each-from_All P xs (All-tail P x xs all))

pub Contains-from_IsAmong : {X : Type 0} (x : X) (xs : List X) → IsAmong x xs → Contains xs x
Contains-from_IsAmong x [] among = absurd among
Contains-from_IsAmong x (y ∷ ys) (inl here) = (0, omega arith, here)
Contains-from_IsAmong x (y ∷ ys) (inr later) = Contains-append_right (y ∷ []) ys x (Contains-from_IsAmong x ys later)

pub IsAmong-from_Contains : {X : Type 0} (x : X) (xs : List X) → Contains xs x → IsAmong x xs
IsAmong-from_Contains x [] at = absurd (omega (arith, at.1))
IsAmong-from_Contains x (y ∷ ys) at = elim (Contains-append_cases (y ∷ []) ys x at) [
  | inl first ↦ elim (Contains-push_cases [] y x first) [
    | inl none ↦ absurd (omega (arith, none.1))
    | inr here ↦ inl here
  ]
  | inr later ↦ inr (IsAmong-from_Contains x ys later)
]

pub Each-at : {X : Type 0} (P : X → Type 0) (x : X) (xs : List X) → Each P xs → IsAmong x xs → P x
Each-at P x [] each among = absurd among
Each-at P x (y ∷ ys) each (inl here) = subst P here each.0
Each-at P x (y ∷ ys) each (inr later) = Each-at P x ys each.1 later

pub Each-append : {X : Type 0} (P : X → Type 0) (xs ys : List X) → Each P xs → Each P ys → Each P (xs ++ ys)
Each-append P [] ys each others = others
Each-append P (x ∷ xs) ys each others = (each.0, Each-append P xs ys each.1 others)

pub Each-weaker : {X : Type 0} (P Q : X → Type 0) → ((x : X) → P x → Q x) → (xs : List X) → Each P xs → Each Q xs
Each-weaker P Q f [] each = tt
Each-weaker P Q f (x ∷ xs) each = (f x each.0, Each-weaker P Q f xs each.1)

-- one of two lists, one after the other, is among the one or the other
pub IsAmong-append_cases : {X : Type 0} (x : X) (xs ys : List X) → IsAmong x (xs ++ ys) → IsAmong x xs ⊎ IsAmong x ys
IsAmong-append_cases x [] ys among = inr among
IsAmong-append_cases x (y ∷ xs) ys (inl here) = inl (inl here)
IsAmong-append_cases x (y ∷ xs) ys (inr later) = elim (IsAmong-append_cases x xs ys later) [ inl a ↦ inl (inr a) | inr b ↦ inr b ]

pub Each-from_among : {X : Type 0} (P : X → Type 0) (xs : List X) → ((x : X) → IsAmong x xs → P x) → Each P xs
Each-from_among P [] f = tt
Each-from_among P (x ∷ xs) f = (f x (inl refl), Each-from_among P xs (λ y among. f y (inr among)))

pub Each-map : {X Y : Type 0} (P : Y → Type 0) (f : X → Y) (xs : List X) → Each (λ x. P (f x)) xs → Each P (map f xs)
Each-map P f [] a = tt {0}
Each-map P f (x ∷ xs) a = (a.0, Each-map P f xs a.1)
