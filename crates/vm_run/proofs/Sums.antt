-- One more of a list that is gone through.
use Rattle.std.proofs.Common.{◌≡◌, ◌<◌, ◌≤◌, ◌+◌, ℕ, zero, suc, List, [], ◌∷◌, ◌++◌, length, take, map, sym, ap}
use Rattle.std.proofs.Common.{◌∙◌, arith, Some, true}
use Rattle.std.specs.Prelude.{slice_get, sum_by, flat_map, nat_lt, nat_le, ◌&&◌}
use Rattle.std.proofs.lemmas.Bool.Decides.{nat_tests}
use Rattle.std.proofs.lemmas.List.{map-append, flat_map_more}
use Rattle.std.proofs.lemmas.List.Sums.{sum_by_push, sum_by-take-le}
use Rattle.std.proofs.lemmas.Bool.{and_from}
use Rattle.jc_decode.proofs.Elements.{next-take}

module _ {X : Type 0} where
  pub there-inside : (xs : List X) (n : ℕ) (x : X) → slice_get xs n ≡ Some x → n < length xs
  there-inside [] n x e = absurd (cc)
  there-inside (y ∷ ys) zero x e = omega arith
  there-inside (y ∷ ys) (suc n) x e = let r = there-inside ys n x e in omega arith

  pub sum-next : (f : X → ℕ) (xs : List X) (n : ℕ) (x : X) → slice_get xs n ≡ Some x → sum_by f (take (n + 1) xs) ≡ sum_by f (take n xs) + f x
  sum-next f xs n x e = ap (sum_by f) (next-take xs n x e) ∙ sum_by_push f (take n xs) x

  pub sum-most : (f : X → ℕ) (xs : List X) (n : ℕ) (x : X) → slice_get xs n ≡ Some x → sum_by f (take n xs) + f x ≤ sum_by f xs
  sum-most f xs n x e = omega (arith, sum_by-take-le f xs (n + 1), sum-next f xs n x e)

  pub flat-next : {A : Type 0} (f : X → List A) (xs : List X) (n : ℕ) (x : X) → slice_get xs n ≡ Some x
      → flat_map f (take (n + 1) xs) ≡ flat_map f (take n xs) ++ f x
  flat-next f xs n x e = ap (flat_map f) (next-take xs n x e) ∙ flat-push (take n xs) where
    flat-push : (ys : List X) → flat_map f (ys ++ x ∷ []) ≡ flat_map f ys ++ f x
    flat-push ys = sym (flat_map_more f [] ys x)

  pub map-next : {A : Type 0} (f : X → A) (xs : List X) (n : ℕ) (x : X) → slice_get xs n ≡ Some x
      → map f (take (n + 1) xs) ≡ map f (take n xs) ++ f x ∷ []
  map-next f xs n x e = ap (map f) (next-take xs n x e) ∙ map-append f (take n xs) (x ∷ [])

pub room-is : (objects cells : ℕ) → objects < 4096 → cells ≤ 32768 → (nat_lt objects 4096 && nat_le cells 32768) ≡ true
room-is objects cells few small = grind (arith, nat_tests, and_from)
