-- Reading what holds of the elements of a list at one of them.
use Rattle.std.proofs.Common.{◌≡◌, ℕ, zero, suc, ◌+◌, ◌<◌, ◌≤◌, List, [], ◌∷◌, ◌++◌, length, reverse, Option, Some, drop, take}
use Rattle.std.proofs.Common.{sym, ap, subst, arith, refl, set}
use Rattle.std.specs.Prelude.{All, IfSome, slice_get, sum_by, IsSomeAnd}
use Rattle.jc_base.specs.declared.ty.Kind.{Kind}
use Rattle.jc_base.specs.declared.record.StaticRec.{StaticRec}
use Rattle.jc_base.specs.Cell.{width}
use Rattle.std.proofs.lemmas.List.{length-reverse, reverse-reverse, get_or-reverse}
use Rattle.std.proofs.lemmas.List.Sums.{sum_by-cons}
use Rattle.std.proofs.lemmas.List.Elements.{All-head, All-tail}
use Rattle.jc_base.specs.Linked.{list_at}

pub All-slice_get : {X : Type 0} (P : X → Type 0) (xs : List X) (n : ℕ) (x : X) → All P xs → slice_get xs n ≡ Some x → P x
All-slice_get P [] n x all e = absurd cc
All-slice_get P (y ∷ ys) zero x all e =
    let same : y ≡ x = cc in
    subst P same (All-head P y ys all)
All-slice_get P (y ∷ ys) (suc n) x all e = All-slice_get P ys n x (All-tail P y ys all) e

pub IfSome-is : {X : Type 0} (P : X → Type 0) (o : Option X) (x : X) → IfSome o P → o ≡ Some x → P x
IfSome-is x x2 x22 h e = grind (arith)

-- a value of which something holds
pub IsSomeAnd-some : {X : Type 0} (P : X → Type 0) (o : Option X) → IsSomeAnd o P → (x : X) × (o ≡ Some x) × P x
IsSomeAnd-some x x2 h = grind (arith)

pub IsSomeAnd-from : {X : Type 0} (P : X → Type 0) (o : Option X) (x : X) → o ≡ Some x → P x → IsSomeAnd o P
IsSomeAnd-from {X} P o x e h = subst (λ (p : Option X). IsSomeAnd p P) (sym e) h

-- the list of a number is the element there
pub list_at-slice_get : {X : Type 0} (xss : List (List X)) (n : ℕ) (xs : List X) → slice_get xss n ≡ Some xs → list_at xss n ≡ xs
list_at-slice_get [] n xs e = absurd cc
list_at-slice_get (ys ∷ yss) zero xs e = cc
list_at-slice_get (ys ∷ yss) (suc n) xs e = list_at-slice_get yss n xs e

-- what stands in the first of two lists, and after it
pub slice_get-front : {X : Type 0} (xs ys : List X) (n : ℕ) (x : X) → slice_get xs n ≡ Some x → slice_get (xs ++ ys) n ≡ Some x
slice_get-front [] ys n x e = absurd cc
slice_get-front (y ∷ xs) ys zero x e = e
slice_get-front (y ∷ xs) ys (suc n) x e = slice_get-front xs ys n x e

pub slice_get-farther : {X : Type 0} (xs ys : List X) (k n : ℕ) → n ≡ length xs + k → slice_get (xs ++ ys) n ≡ slice_get ys k
slice_get-farther [] ys k n e = grind (arith)
slice_get-farther (x ∷ xs) ys k zero e = absurd (omega arith)
slice_get-farther (x ∷ xs) ys k (suc n) e =
    let less : n ≡ length xs + k = omega arith in
    slice_get-farther xs ys k n less

pub slice_get-some : {X : Type 0} (xs : List X) (n : ℕ) → n < length xs → (x : X) × (slice_get xs n ≡ Some x)
slice_get-some [] n h = absurd (omega arith)
slice_get-some (x ∷ xs) zero h = (x, refl)
slice_get-some (x ∷ xs) (suc n) h = slice_get-some xs n (omega arith)

-- what stands in a list that is written at one place
pub slice_get-set_here : {X : Type 0} (xs : List X) (i : ℕ) (x : X) → i < length xs → slice_get (set xs i x) i ≡ Some x
slice_get-set_here [] i x h = absurd (omega arith)
slice_get-set_here (y ∷ ys) zero x h = refl
slice_get-set_here (y ∷ ys) (suc i) x h = slice_get-set_here ys i x (omega arith)

pub slice_get-set_other : {X : Type 0} (xs : List X) (i j : ℕ) (x : X) → (i ≡ j → ⊥) → slice_get (set xs i x) j ≡ slice_get xs j
slice_get-set_other [] i j x ne = refl
slice_get-set_other (y ∷ ys) zero zero x ne = absurd (ne refl)
slice_get-set_other (y ∷ ys) zero (suc j) x ne = refl
slice_get-set_other (y ∷ ys) (suc i) zero x ne = refl
slice_get-set_other (y ∷ ys) (suc i) (suc j) x ne = slice_get-set_other ys i j x (λ e. ne (ap suc e))

-- what holds of each element, last first
pub All-reverse : {X : Type 0} (P : X → Type 0) (xs : List X) → All P xs → All P (reverse xs)
All-reverse P xs all k d lt = grind (arith, length, length-reverse, get_or-reverse)

pub All-turned : {X : Type 0} (P : X → Type 0) (xs : List X) → All P (reverse xs) → All P xs
All-turned P xs all = subst (All P) (reverse-reverse xs) (All-reverse P (reverse xs) all)

one_at_least : (k : Kind) → 1 ≤ width k
one_at_least kind = grind (arith)

-- each static field takes a cell
pub statics_fit : (fs : List StaticRec) → length fs ≤ sum_by (λ f. width f.kind) fs
statics_fit [] = omega arith
statics_fit (f ∷ fs) = rw sum_by-cons (omega (arith, one_at_least f.kind, statics_fit fs))

-- an element of what is left, or of the front
pub slice_get-drop : {X : Type 0} (i j : ℕ) (xs : List X) → slice_get (drop i xs) j ≡ slice_get xs (i + j)
slice_get-drop zero j xs = let e : 0 + j ≡ j = omega arith in rw e refl
slice_get-drop (suc i) j [] = refl
slice_get-drop (suc i) j (x ∷ xs) = let e : suc i + j ≡ suc (i + j) = omega arith in rw e (slice_get-drop i j xs)

pub slice_get-take : {X : Type 0} (n j : ℕ) (xs : List X) → j < n → slice_get (take n xs) j ≡ slice_get xs j
slice_get-take zero j xs h = absurd (omega arith)
slice_get-take (suc n) j [] h = refl
slice_get-take (suc n) zero (x ∷ xs) h = refl
slice_get-take (suc n) (suc j) (x ∷ xs) h = slice_get-take n j xs (omega arith)

pub slice_get-left : {X : Type 0} (xs ys : List X) (n : ℕ) → n < length xs → slice_get (xs ++ ys) n ≡ slice_get xs n
slice_get-left [] ys n lt = absurd (omega (arith, lt))
slice_get-left (x ∷ xs) ys zero lt = refl
slice_get-left (x ∷ xs) ys (suc n) lt = slice_get-left xs ys n (omega (arith, lt))
