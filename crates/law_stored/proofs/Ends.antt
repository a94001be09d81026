-- Lists with a last element.
use Rattle.std.proofs.Common.{arith}
use Rattle.std.proofs.Common.{◌≡◌, List, [], ◌∷◌, ◌++◌, refl, ap}
use Rattle.std.specs.List.{AllZip}

-- the elements beside those of a list with a last one
pub record HasLast {A B : Type 0} (R : A → B → Type 0) (xs : List A) (x : A) (ys : List B) : Type 0 where
  pub front : List B
  pub end : B
  pub are : ys ≡ front ++ end ∷ []
  pub beside : AllZip R xs front
  pub at : R x end

pub last_beside : {A B : Type 0} (R : A → B → Type 0) (xs : List A) (x : A) (ys : List B) → AllZip R (xs ++ x ∷ []) ys → HasLast R xs x ys
last_beside R [] x [] h = absurd h
last_beside R [] x (y ∷ []) h = record { front = []; end = y; are = refl; beside = tt; at = h.0 }
last_beside R [] x (y ∷ z ∷ zs) h = absurd h.1
last_beside R (x' ∷ xs) x [] h = absurd h
last_beside R (x' ∷ xs) x (y ∷ ys) h =
    let rest = last_beside R xs x ys h.1 in
    record { front = y ∷ rest.front; end = rest.end; are = ap (λ zs. y ∷ zs) rest.are; beside = (h.0, rest.beside); at = rest.at }

pub with_last_beside : {A B : Type 0} (R : A → B → Type 0) (xs : List A) (ys : List B) (x : A) (y : B) → AllZip R xs ys → R x y
    → AllZip R (xs ++ x ∷ []) (ys ++ y ∷ [])
with_last_beside R [] [] x y h r = (r, tt)
with_last_beside R [] (b ∷ ys) x y h r = absurd h
with_last_beside R (a ∷ xs) [] x y h r = absurd h
with_last_beside R (a ∷ xs) (b ∷ ys) x y h r = (h.0, with_last_beside R xs ys x y h.1 r)

-- beside no element stands none
pub none_beside : {A B : Type 0} (R : A → B → Type 0) (ys : List B) → AllZip R [] ys → ys ≡ []
none_beside x x2 h = grind (arith)
