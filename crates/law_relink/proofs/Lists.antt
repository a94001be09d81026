-- Lists that are the same seen by a view.
use Rattle.std.proofs.Common.{◌≡◌, ◌<◌, ℕ, zero, suc, List, [], ◌∷◌, ◌++◌, length, take, drop, map, flat_map, slice_get, get_or}
use Rattle.std.proofs.Common.{position, Bool, true, cond, not, Option, Some, ◌⊎◌, inl, inr, option_and_then, refl, ap, arith}
use Rattle.std.specs.List.{position_or_len}
use Rattle.std.proofs.lemmas.List.Quantifiers.{position-Some}
use Rattle.law_package.proofs.Lists.{Each, Has}

pub map_last : {X Y : Type 0} (g : X → Y) (ps : List X) (p q : X) → g q ≡ g p → map g (ps ++ q ∷ []) ≡ map g (ps ++ p ∷ [])
map_last g [] p q e = ap (λ y. y ∷ []) e
map_last g (x ∷ ps) p q e = ap (λ ys. g x ∷ ys) (map_last g ps p q e)

pub length_last : {X : Type 0} (ps : List X) (p q : X) → length (ps ++ q ∷ []) ≡ length (ps ++ p ∷ [])
length_last [] p q = refl
length_last (x ∷ ps) p q = ap suc (length_last ps p q)

-- what is asked of a view of an element
pub get_view : {X Y Z : Type 0} (g : X → Y) (h : Y → Option Z) (xs : List X) (k : ℕ)
    → option_and_then (λ x. h (g x)) (slice_get xs k) ≡ option_and_then h (slice_get (map g xs) k)
get_view g h [] k = refl
get_view g h (x ∷ xs) zero = refl
get_view g h (x ∷ xs) (suc k) = get_view g h xs k

pub take_view : {X Y : Type 0} (g : X → Y) (k : ℕ) (xs : List X) → map g (take k xs) ≡ take k (map g xs)
take_view g zero xs = refl
take_view g (suc k) [] = refl
take_view g (suc k) (x ∷ xs) = ap (λ ys. g x ∷ ys) (take_view g k xs)

-- the first that passes a test is found by the answers of the test
first_alike : {X Y : Type 0} (p : X → Bool) (q : Y → Bool) (xs : List X) (ys : List Y) → map p xs ≡ map q ys
    → (position_or_len p xs ≡ position_or_len q ys) × (length xs ≡ length ys)
first_alike p q [] [] e = (refl, refl)
first_alike p q [] (y ∷ ys) e = absurd cc
first_alike p q (x ∷ xs) [] e = absurd cc
first_alike p q (x ∷ xs) (y ∷ ys) e =
    let h : p x ≡ q y = cc in
    let t : map p xs ≡ map q ys = cc in
    grind (arith, h, t, cond, not, suc, first_alike p q xs ys t)

pub position_alike : {X Y : Type 0} (p : X → Bool) (q : Y → Bool) (xs : List X) (ys : List Y) → map p xs ≡ map q ys
    → position p xs ≡ position q ys
position_alike p q xs ys e = grind (arith, first_alike, cond, length)

pub flat_last : {X Y : Type 0} (f : X → List Y) (ps : List X) (p q : X) → f q ≡ f p
    → flat_map f (ps ++ q ∷ []) ≡ flat_map f (ps ++ p ∷ [])
flat_last f [] p q e = ap (λ ys. ys ++ []) e
flat_last f (x ∷ ps) p q e = ap (λ ys. f x ++ ys) (flat_last f ps p q e)

-- the elements before the last
pub get_earlier : {X : Type 0} (xs : List X) (p q : X) (j : ℕ) → j < length xs
    → slice_get (xs ++ q ∷ []) j ≡ slice_get (xs ++ p ∷ []) j
get_earlier [] p q j lt = absurd (omega arith)
get_earlier (x ∷ xs) p q zero lt = refl
get_earlier (x ∷ xs) p q (suc j) lt = get_earlier xs p q j (omega arith)

-- ---- what holds of each element

pub get_each : {X : Type 0} (P : X → Type 0) (xs : List X) → ((n : ℕ) (x : X) → slice_get xs n ≡ Some x → P x) → Each P xs
get_each P [] h = tt
get_each P (x ∷ xs) h = (h 0 x refl, get_each P xs (λ n. h (suc n)))

pub each_take : {X : Type 0} (P : X → Type 0) (n : ℕ) (xs : List X) → Each P xs → Each P (take n xs)
each_take P zero xs h = tt
each_take P (suc n) [] h = tt
each_take P (suc n) (x ∷ xs) h = (h.0, each_take P n xs h.1)

pub each_drop : {X : Type 0} (P : X → Type 0) (n : ℕ) (xs : List X) → Each P xs → Each P (drop n xs)
each_drop P zero xs h = h
each_drop P (suc n) [] h = tt
each_drop P (suc n) (x ∷ xs) h = each_drop P n xs h.1

-- ---- elements

get_has : {X : Type 0} (xs : List X) (i : ℕ) (d : X) → i < length xs → Has xs (get_or xs i d)
get_has [] i d lt = absurd (omega arith)
get_has (x ∷ xs) zero d lt = inl refl
get_has (x ∷ xs) (suc i) d lt = inr (get_has xs i d (omega arith))

pub position_has : {X : Type 0} (t : X → Bool) (xs : List X) (n : ℕ) → position t xs ≡ Some n → (x : X) × Has xs x × (t x ≡ true)
position_has t [] n e = absurd cc
position_has t (x ∷ xs) n e = let k = position-Some t (x ∷ xs) n x e in (get_or (x ∷ xs) n x, get_has (x ∷ xs) n x k.0, k.1)

pub has_append : {X : Type 0} (xs ys : List X) (x : X) → Has (xs ++ ys) x → Has xs x ⊎ Has ys x
has_append [] ys x h = inr h
has_append (y ∷ xs) ys x (inl s) = inl (inl s)
has_append (y ∷ xs) ys x (inr h) = by (has_append xs ys x h)
  where
    by : Has xs x ⊎ Has ys x → Has (y ∷ xs) x ⊎ Has ys x
    by (inl k) = inl (inr k)
    by (inr k) = inr k
