-- Lists in which each thing is so related to all after it.
use Rattle.std.proofs.Common.{◌≡◌, ℕ, zero, suc, ◌<◌, Bool, true, false, ltb, List, [], ◌∷◌, ◌++◌, Some, refl, subst, arith}
use Rattle.std.specs.Prelude.{slice_get}
use Rattle.std.proofs.lemmas.Bool.{ltb-true, ltb-false}
use Rattle.jc_base.specs.Each.{Each}
use Rattle.jc_base.proofs.Eaching.{Each-append}

pub each-split : {X : Type 0} (P : X → Type 0) (xs ys : List X) → Each P (xs ++ ys) → Each P xs × Each P ys
each-split P [] ys a = (tt {0}, a)
each-split P (x ∷ xs) ys a = let r = each-split P xs ys a.1 in ((a.0, r.0), r.1)

pub each-at : {X : Type 0} (P : X → Type 0) (xs : List X) (i : ℕ) (x : X) → Each P xs → slice_get xs i ≡ Some x → P x
each-at P [] i x a e = absurd cc
each-at P (y ∷ ys) zero x a e = let same : y ≡ x = cc in subst P same a.0
each-at P (y ∷ ys) (suc i) x a e = each-at P ys i x a.1 e

-- each thing and all after it are so related
abbrev pub Pairwise : {X : Type 0} → (X → X → Type 0) → List X → Type 0
Pairwise R [] = Unit {0}
Pairwise R (x ∷ xs) = Each (R x) xs × Pairwise R xs

pub pairwise-append : {X : Type 0} (R : X → X → Type 0) (xs ys : List X) → Pairwise R xs → Pairwise R ys → Each (λ x. Each (R x) ys) xs
    → Pairwise R (xs ++ ys)
pairwise-append R [] ys a b c = b
pairwise-append R (x ∷ xs) ys a b c = (Each-append (R x) xs ys a.0 c.0, pairwise-append R xs ys a.1 b c.1)

pub record IsSplit {X : Type 0} (R : X → X → Type 0) (xs ys : List X) : Type 0 where
  pub front : Pairwise R xs
  pub back : Pairwise R ys
  pub across : Each (λ x. Each (R x) ys) xs

pub pairwise-split : {X : Type 0} (R : X → X → Type 0) (xs ys : List X) → Pairwise R (xs ++ ys) → IsSplit R xs ys
pairwise-split R [] ys a = record { front = tt {0}; back = a; across = tt {0} }
pairwise-split R (x ∷ xs) ys a = grind (arith, each-split (R x) xs ys a.0, pairwise-split R xs ys a.1)

pairwise-at : {X : Type 0} (R : X → X → Type 0) (xs : List X) (i j : ℕ) (x y : X) → Pairwise R xs → i < j → slice_get xs i ≡ Some x
    → slice_get xs j ≡ Some y → R x y
pairwise-at R [] i j x y a lt e f = absurd cc
pairwise-at R (z ∷ zs) zero zero x y a lt e f = absurd (omega arith)
pairwise-at R (z ∷ zs) zero (suc j) x y a lt e f = let same : z ≡ x = cc in subst (λ w. R w y) same (each-at (R z) zs j y a.0 f)
pairwise-at R (z ∷ zs) (suc i) zero x y a lt e f = absurd (omega arith)
pairwise-at R (z ∷ zs) (suc i) (suc j) x y a lt e f = pairwise-at R zs i j x y a.1 (omega arith) e f

-- two things that are not so related, whichever comes first, are one
pub one-place : {X : Type 0} (R : X → X → Type 0) (xs : List X) (i j : ℕ) (x y : X) → Pairwise R xs → slice_get xs i ≡ Some x
    → slice_get xs j ≡ Some y → (R x y → ⊥) → (R y x → ⊥) → i ≡ j
one-place R xs i j x y a e f before after = by (ltb i j) (ltb j i) refl refl
  where
    by : (b c : Bool) → ltb i j ≡ b → ltb j i ≡ c → i ≡ j
    by true c d g = absurd (before (pairwise-at R xs i j x y a (ltb-true i j d) e f))
    by false true d g = absurd (after (pairwise-at R xs j i y x a (ltb-true j i g) f e))
    by false false d g =
        let le = ltb-false i j d in
        let ge = ltb-false j i g in
        omega arith
