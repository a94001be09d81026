-- Cells written one after another from a place on.
use Rattle.std.proofs.Common.{◌≡◌, ℕ, zero, suc, ◌+◌, ◌-◌, ◌*◌, ◌<◌, ◌≤◌, List, [], ◌∷◌, ◌++◌, length, take, drop, map}
use Rattle.std.proofs.Common.{set, refl, sym, ◌∙◌, ap, arith, length-take}
use Rattle.std.proofs.lemmas.List.{append-nil, append_assoc, length-append, set-append_right, take-append-drop, drop_at, drop_more, take-append-le, take-take}
use Rattle.vm_store.specs.declared.cell.ObjectKind.{ObjectKind}
use Rattle.vm_store.specs.Kind.{element_width}
use Rattle.vm_store.specs.Cells.{Cells}
use Rattle.vm_store.specs.Objects.{repeated, array_cells}
use Rattle.vm_store.specs.Layout.{overwritten}

pub overwritten-nil : {A : Type 0} (xs : List A) (from : ℕ) → xs ≡ overwritten xs from []
overwritten-nil xs from = sym (ap (λ n. take from xs ++ drop n xs) (omega arith) ∙ take-append-drop from xs)

-- one cell more
pub overwritten-more :
    {A : Type 0} (xs ys : List A) (from p : ℕ) (v : A)
    → p ≡ from + length ys → p < length xs → set (overwritten xs from ys) p v ≡ overwritten xs from (ys ++ v ∷ [])
overwritten-more xs ys from p v at lt =
    let front : length (take from xs) ≡ from = omega (arith, length-take from xs, at) in
    let rest = drop (from + length ys) xs in
    let le : from ≤ p = omega (arith, at) in
    let le' : length ys ≤ p - from = omega (arith, at) in
    let past : p - from - length ys ≡ 0 = omega (arith, at) in
    let less : from + length ys < length xs = omega (arith, at, lt) in
    let further : from + length (ys ++ v ∷ []) ≡ from + length ys + 1 = omega (arith, length-append ys (v ∷ [])) in
    set-append_right (take from xs) (ys ++ rest) from p v front le
    ∙ ap (λ zs. take from xs ++ zs)
    (set-append_right ys rest (length ys) (p - from) v refl le'
    ∙ (ap (λ k. ys ++ set rest k v) past
    ∙ (ap (λ zs. ys ++ zs) (first_set xs (from + length ys) v less)
    ∙ (sym (append_assoc ys (v ∷ []) (drop (from + length ys + 1) xs)) ∙ ap (λ k. (ys ++ v ∷ []) ++ drop k xs) (sym further)))))
  where
    first_set : {A : Type 0} (xs : List A) (n : ℕ) (v : A) → n < length xs → set (drop n xs) 0 v ≡ v ∷ drop (n + 1) xs
    first_set xs n v lt = ap (λ zs. set zs 0 v) (drop_more xs n v lt)

pub repeated-more : {A : Type 0} (n : ℕ) (xs : List A) → repeated n xs ++ xs ≡ repeated (n + 1) xs
repeated-more {A} n xs = let next : suc n ≡ n + 1 = omega arith in go n ∙ ap (λ k. repeated k xs) next
  where
    go : (n : ℕ) → repeated n xs ++ xs ≡ xs ++ repeated n xs
    go zero = sym (append-nil xs)
    go (suc n) = append_assoc xs (repeated n xs) xs ∙ ap (λ ys. xs ++ ys) (go n)

pub length-repeated : {A : Type 0} (n w : ℕ) (xs : List A) → length xs ≡ w → length (repeated n xs) ≡ w * n
length-repeated zero w xs e = omega arith
length-repeated (suc n) w xs e = length-append xs (repeated n xs) ∙ (omega (arith, e, length-repeated n w xs e))

-- one copy more
pub filled-more :
    {A : Type 0} (xs cells : List A) (from n : ℕ) (v : A)
    → cells ≡ overwritten xs from (repeated n (v ∷ [])) → from + n < length xs
    → set cells (from + n) v ≡ overwritten xs from (repeated (n + 1) (v ∷ []))
filled-more xs cells from n v e lt = grind (arith, length, length-repeated, set, overwritten-more, repeated-more)

pub filled_ints-more :
    {A : Type 0} (xs cells : List A) (from n : ℕ) (v w : A)
    → cells ≡ overwritten xs from (repeated n (v ∷ w ∷ [])) → from + 2 * n + 1 < length xs
    → set (set cells (from + 2 * n) v) (from + 2 * n + 1) w ≡ overwritten xs from (repeated (n + 1) (v ∷ w ∷ []))
filled_ints-more xs cells from n v w e lt =
    let ys = repeated n (v ∷ w ∷ []) in
    let len : length ys ≡ 2 * n = length-repeated n 2 (v ∷ w ∷ []) refl in
    let first : from + 2 * n ≡ from + length ys = ap (λ k. from + k) (sym len) in
    let second : from + 2 * n + 1 ≡ from + length (ys ++ v ∷ []) = omega (arith, len, length-append ys (v ∷ [])) in
    ap (λ zs. set (set zs (from + 2 * n) v) (from + 2 * n + 1) w) e
    ∙ (ap (λ zs. set zs (from + 2 * n + 1) w) (overwritten-more xs ys from (from + 2 * n) v first (omega arith))
    ∙ (overwritten-more xs (ys ++ v ∷ []) from (from + 2 * n + 1) w second lt
    ∙ (ap (overwritten xs from) (append_assoc ys (v ∷ []) (w ∷ []))
    ∙ ap (overwritten xs from) (repeated-more n (v ∷ w ∷ [])))))

-- what lies before others that were written is written too
pub overwritten-before :
    {A : Type 0} (xs ys zs : List A) (from p : ℕ)
    → p ≡ from + length ys → p ≤ length xs → overwritten (overwritten xs p zs) from ys ≡ overwritten xs from (ys ++ zs)
overwritten-before xs ys zs from p at le =
    let rest = drop (p + length zs) xs in
    let front : length (take p xs) ≡ p = omega (arith, length-take p xs) in
    let less : from ≤ p = omega (arith, at) in
    let cut : from ≤ length (take p xs) = omega (arith, front, at) in
    let end : p + length zs ≡ from + length (ys ++ zs) = omega (arith, at, length-append ys zs) in
    ap (λ ws. ws ++ (ys ++ drop (from + length ys) (take p xs ++ (zs ++ rest))))
    (take-append-le from (take p xs) (zs ++ rest) cut ∙ take-take from p xs less)
    ∙ ap (λ ws. take from xs ++ ws)
    (ap (λ k. ys ++ drop k (take p xs ++ (zs ++ rest))) (sym at)
    ∙ (ap (λ ws. ys ++ ws) (drop_at (take p xs) (zs ++ rest) p front)
    ∙ (sym (append_assoc ys zs rest) ∙ ap (λ k. (ys ++ zs) ++ drop k xs) end)))

pub length-array : {A : Type 0} (k : Cells A) (kind : ObjectKind) (n : ℕ) → length (array_cells k kind n) ≡ element_width kind * n
length-array k x n = grind (arith, length-repeated, map)
