-- Elements of lists by their numbers, and lists that are gone over from the front.
use Rattle.std.proofs.Common.{◌≡◌, ◌<◌, ℕ, zero, suc, Some, List, [], ◌∷◌, ◌++◌, length, take, refl, sym, ap, ◌∙◌, arith}
use Rattle.std.proofs.Common.{append_assoc, Contains, All}
use Rattle.std.specs.Prelude.{slice_get}
use Rattle.std.proofs.lemmas.List.{append-nil}
use Rattle.jc_decode.proofs.Elements.{Contains-slice_get}
use Rattle.jc_control.specs.FirstFailing.{IsFirstFailing}
use Rattle.jc_base.proofs.Lists.{All-slice_get}

-- where a list is gone over, the next element is the one of the number of those before it
pub here-in : {A : Type 0} (before : List A) (x : A) (after whole : List A) → before ++ x ∷ after ≡ whole → slice_get whole (length before) ≡ Some x
here-in [] x after whole h = rw (← h) refl
here-in (y ∷ ys) x after whole h = rw (← h) (here-in ys x after (ys ++ x ∷ after) refl)

pub before-in : {A : Type 0} (before after whole : List A) → before ++ after ≡ whole → take (length before) whole ≡ before
before-in [] after whole h = refl
before-in (y ∷ ys) after whole h = rw (← h) (ap (λ (zs : List _). y ∷ zs) (before-in ys after (ys ++ after) refl))

pub contained-in : {A : Type 0} (before : List A) (x : A) (after whole : List A) → before ++ x ∷ after ≡ whole → Contains whole x
contained-in before x after whole h = Contains-slice_get whole (length before) x (here-in before x after whole h)

pub go-on : {A : Type 0} (before : List A) (x : A) (after whole : List A) → before ++ x ∷ after ≡ whole → (before ++ x ∷ []) ++ after ≡ whole
go-on before x after whole h = append_assoc before (x ∷ []) after ∙ h

pub slice_get-take : {A : Type 0} (xs : List A) (k n : ℕ) (x : A) → k < n → slice_get xs k ≡ Some x → slice_get (take n xs) k ≡ Some x
slice_get-take [] k n x h e = absurd (cc)
slice_get-take (y ∷ ys) k zero x h e = absurd (omega arith)
slice_get-take (y ∷ ys) zero (suc n) x h e = e
slice_get-take (y ∷ ys) (suc k) (suc n) x h e = slice_get-take ys k n x (omega arith) e

-- an element before the n-th is among the first n
pub taken-in : {A : Type 0} (P : A → Type 0) (xs : List A) (k n : ℕ) (x : A) → All P (take n xs) → k < n → slice_get xs k ≡ Some x → P x
taken-in P xs k n x all h e = All-slice_get P (take n xs) k x all (slice_get-take xs k n x h e)

-- a step along a list
pub at-next : {A : Type 0} (before rest : List A) (x : A) (after whole : List A) → before ++ rest ≡ whole → rest ≡ x ∷ after
    → before ++ x ∷ after ≡ whole
at-next before rest x after whole h e = ap (λ (r : List _). before ++ r) (sym e) ∙ h

pub at-last : {A : Type 0} (before rest whole : List A) → before ++ rest ≡ whole → rest ≡ [] → before ≡ whole
at-last before rest whole h e = sym (append-nil before) ∙ ap (λ (r : List _). before ++ r) (sym e) ∙ h

-- the next element fails where those before it do not
pub first-failing : {A : Type 0} (P : A → Type 0) (before : List A) (x : A) (after whole : List A) → before ++ x ∷ after ≡ whole → All P before
    → ¬ P x
    → IsFirstFailing P whole (length before) x
first-failing P before x after whole h all fails = grind (arith, here-in, before-in)
