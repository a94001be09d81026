-- Counting what passes a test, in lists that are seen side by side.
use Rattle.std.proofs.Common.{◌≡◌, ℕ, zero, suc, ◌+◌, List, [], ◌∷◌, ◌++◌, length, map, take, Bool, false, cond, Option, Some, None, refl}
use Rattle.std.proofs.Common.{arith}
use Rattle.std.specs.Prelude.{count_by, is_some}
use Rattle.std.proofs.lemmas.List.Sums.{sum_by-cons, sum_by-append}
use Rattle.jc_decode.specs.declared.symbols.Laid.{Laid}
use Rattle.cap_index.specs.TargetIndex.{AreExact}
use Rattle.law_package.proofs.Lists.{Each}

count-cons : {X : Type 0} (f : X → Bool) (x : X) (xs : List X) → count_by f (x ∷ xs) ≡ cond (f x) 1 0 + count_by f xs
count-cons f x xs = sum_by-cons (λ y. cond (f y) 1 0) x xs

pub count-append : {X : Type 0} (f : X → Bool) (xs ys : List X) → count_by f (xs ++ ys) ≡ count_by f xs + count_by f ys
count-append f xs ys = sum_by-append (λ y. cond (f y) 1 0) xs ys

pub count-none : {X : Type 0} (f : X → Bool) (xs : List X) → Each (λ x. f x ≡ false) xs → count_by f xs ≡ 0
count-none f [] h = refl
count-none f (x ∷ xs) h = grind (arith, count-cons, cond, count-none f xs h.1)

-- as many pass where each passes the one test exactly where it passes the other
module _ {X Y Z : Type 0} (f : X → Bool) (g : Y → Bool) (a : Z → X) (b : Z → Y) where
  pub count-alike : (zs : List Z) → Each (λ z. f (a z) ≡ g (b z)) zs → count_by f (map a zs) ≡ count_by g (map b zs)
  count-alike [] h = refl
  count-alike (z ∷ zs) h = grind (arith, count-cons, map, cond, count-alike zs h.1)

  pub count-alike-before : (n : ℕ) (zs : List Z) → Each (λ z. f (a z) ≡ g (b z)) zs
      → count_by f (take n (map a zs)) ≡ count_by g (take n (map b zs))
  count-alike-before zero zs h = refl
  count-alike-before (suc n) [] h = refl
  count-alike-before (suc n) (z ∷ zs) h = grind (arith, count-cons, take, map, cond, count-alike-before n zs h.1)

-- there is an exact index for each code that is laid
pub exact-many : (laid : List (Option Laid)) (lists : List (List ℕ)) → AreExact laid lists → length lists ≡ count_by is_some laid
exact-many [] [] e = refl
exact-many [] (x ∷ xs) e = absurd e
exact-many (None ∷ ls) xs e = let rest = exact-many ls xs e in let all = count-cons {X = Option Laid} is_some None ls in omega (arith, rest, all)
exact-many (Some l ∷ ls) [] e = absurd e
exact-many (Some l ∷ ls) (x ∷ xs) e = grind (arith, exact-many ls xs e.1, count-cons is_some (Some l) ls)
