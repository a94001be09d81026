-- Lists with more after them.
use Rattle.std.proofs.Common.{◌≡◌, ◌≤◌, ◌+◌, ℕ, zero, suc, List, [], ◌∷◌, ◌++◌, length, take, map, slice_get, position, Bool, false}
use Rattle.std.proofs.Common.{cond, Some, None, IfSome, refl, sym, ap, ◌∙◌, arith}
use Rattle.std.specs.List.{position_from}
use Rattle.std.proofs.lemmas.Iterator.Adapters.{position_from-zero}
use Rattle.std.proofs.Math.Seq.{take-append_seam}
use Rattle.law_added.specs.Added.{Begins}

-- what holds of each element after the first ones
pub each_after : {X : Type 0} (P : X → Type 0) (xs ys : List X) → ((n : ℕ) → IfSome (slice_get ys n) P)
    → (n : ℕ) → length xs ≤ n → IfSome (slice_get (xs ++ ys) n) P
each_after P [] ys h n le = h n
each_after P (x ∷ xs) ys h zero le = absurd (omega (arith, le))
each_after P (x ∷ xs) ys h (suc n) le = each_after P xs ys h n (omega (arith, le))

pub begins : {X : Type 0} (xs ys rest : List X) → ys ≡ xs ++ rest → Begins xs ys
begins xs ys rest e = ap (take (length xs)) e ∙ take-append_seam xs rest

-- where nothing that was added passes a test, the first that does is the same
found_from : {X : Type 0} (t : X → Bool) (n : ℕ) (ys : List X) → ((k : ℕ) → IfSome (slice_get ys k) (λ y. t y ≡ false))
    → position_from t n ys ≡ None
found_from t n [] h = refl
found_from t n (y ∷ ys) h =
    ap (λ b. cond b (Some n) (position_from t (n + 1) ys)) (h 0) ∙ found_from t (n + 1) ys (λ k. h (suc k))

front_from : {X : Type 0} (t : X → Bool) (n : ℕ) (xs ys : List X) → ((k : ℕ) → IfSome (slice_get ys k) (λ y. t y ≡ false))
    → position_from t n (xs ++ ys) ≡ position_from t n xs
front_from t n [] ys h = found_from t n ys h
front_from t n (x ∷ xs) ys h = ap (λ o. cond (t x) (Some n) o) (front_from t (n + 1) xs ys h)

pub position_front : {X : Type 0} (t : X → Bool) (xs ys : List X) → ((k : ℕ) → IfSome (slice_get ys k) (λ y. t y ≡ false))
    → position t (xs ++ ys) ≡ position t xs
position_front t xs ys h = position_from-zero t (xs ++ ys) ∙ front_from t 0 xs ys h ∙ sym (position_from-zero t xs)

-- what is made of each element
pub map_alike : {X Y : Type 0} (f g : X → Y) (xs : List X) → ((n : ℕ) → IfSome (slice_get xs n) (λ x. f x ≡ g x)) → map f xs ≡ map g xs
map_alike f g [] h = refl
map_alike f g (x ∷ xs) h = ap (λ y. y ∷ map f xs) (h 0) ∙ ap (λ ys. g x ∷ ys) (map_alike f g xs (λ n. h (suc n)))
