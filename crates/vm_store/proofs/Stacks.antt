-- A stack that lies in memory with its top last is the reverse of the list of its cells.
use Rattle.std.proofs.Common.{◌≡◌, ℕ, ◌-◌, ◌≤◌, List, [], ◌∷◌, ◌++◌, length, take, drop, map, reverse, refl, sym, ◌∙◌, ap}
use Rattle.std.proofs.Common.{arith, length-drop}
use Rattle.std.proofs.lemmas.List.{map-append, take-append-drop, reverse-append, length-reverse, take_at, drop_at, take-take, take_all, drop_all, append-nil}
use Rattle.std.proofs.lemmas.List.{append_assoc}
use borrow.Rule.Slice.PartMut.{put_mid}
use Rattle.vm_store.specs.State.{rotated}

-- the reverse of a list, parted where its last n elements begin
reverse_parted : {A : Type 0} (xs : List A) (n : ℕ) → reverse xs ≡ reverse (drop (length xs - n) xs) ++ reverse (take (length xs - n) xs)
reverse_parted xs n = ap reverse (sym (take-append-drop (length xs - n) xs)) ∙ reverse-append (take (length xs - n) xs) (drop (length xs - n) xs)

length_last : {A : Type 0} (xs : List A) (n : ℕ) → n ≤ length xs → length (reverse (drop (length xs - n) xs)) ≡ n
length_last xs n h = length-reverse (drop (length xs - n) xs) ∙ (length-drop (length xs - n) xs ∙ (omega arith))

pub drop-reverse : {A : Type 0} (xs : List A) (n : ℕ) → n ≤ length xs → drop n (reverse xs) ≡ reverse (take (length xs - n) xs)
drop-reverse xs n h =
    ap (drop n) (reverse_parted xs n) ∙ drop_at (reverse (drop (length xs - n) xs)) (reverse (take (length xs - n) xs)) n (length_last xs n h)

pub take-reverse : {A : Type 0} (xs : List A) (n : ℕ) → n ≤ length xs → take n (reverse xs) ≡ reverse (drop (length xs - n) xs)
take-reverse xs n h =
    ap (take n) (reverse_parted xs n) ∙ take_at (reverse (drop (length xs - n) xs)) (reverse (take (length xs - n) xs)) n (length_last xs n h)

-- the cells ms in which the top of the stack ends are turned by some to the right
pub reverse-turned :
    {A : Type 0} (xs ms : List A) (count by : ℕ) → count ≤ length xs → by ≤ count → ms ≡ drop (length xs - count) xs
    → reverse (take (length xs - count) xs ++ (drop (count - by) ms ++ take (count - by) ms)) ≡ rotated count by (reverse xs)
reverse-turned xs ms count by h b e =
    let whole : length ms ≡ count = ap length e ∙ (length-drop (length xs - count) xs ∙ (omega arith)) in
    let few : by ≤ length ms = omega arith in
    let within : length ms - by ≡ count - by = ap (λ n. n - by) whole in
    let last : take count (reverse xs) ≡ reverse ms = take-reverse xs count h ∙ ap reverse (sym e) in
    let others : drop by (take count (reverse xs)) ≡ reverse (take (count - by) ms) =
    ap (drop by) last ∙ (drop-reverse ms by few ∙ ap (λ n. reverse (take n ms)) within) in
    let first : take by (reverse xs) ≡ reverse (drop (count - by) ms) =
    sym (take-take by count (reverse xs) b)
    ∙ (ap (take by) last ∙ (take-reverse ms by few ∙ ap (λ n. reverse (drop n ms)) within)) in
    let rest : drop count (reverse xs) ≡ reverse (take (length xs - count) xs) = drop-reverse xs count h in
    let parts : reverse (drop (count - by) ms ++ take (count - by) ms) ≡ reverse (take (count - by) ms) ++ reverse (drop (count - by) ms) =
    reverse-append (drop (count - by) ms) (take (count - by) ms) in
    reverse-append (take (length xs - count) xs) (drop (count - by) ms ++ take (count - by) ms)
    ∙ (ap (λ y. y ++ reverse (take (length xs - count) xs)) parts
    ∙ (append_assoc (reverse (take (count - by) ms)) (reverse (drop (count - by) ms)) (reverse (take (length xs - count) xs))
    ∙ (cc)))

-- what is left once the last n cells are gone
pub discarded : {A : Type 0} (xs ys : List A) (m n : ℕ) → n ≤ length xs → m ≡ length xs - n → ys ≡ take m xs
    → reverse ys ≡ drop n (reverse xs)
discarded xs ys m n h e k = ap reverse (k ∙ ap (λ i. take i xs) e) ∙ sym (drop-reverse xs n h)

-- the part of the stack from k on, as a call gives it back that turned it by some to the right
pub rotated_in_place :
    {A : Type 0} (xs ys ms : List A) (k n count by : ℕ)
    → count ≤ length xs → by ≤ count → k ≡ length xs - count → n ≡ length xs - k → ms ≡ take n (drop k xs)
    → ys ≡ drop (length ms - by) ms ++ take (length ms - by) ms → reverse (put_mid k n xs ys) ≡ rotated count by (reverse xs)
rotated_in_place xs ys ms k n count by h b from size part e =
    let rest : length (drop k xs) ≤ n = omega (arith, length-drop k xs) in
    let whole : ms ≡ drop k xs = part ∙ take_all n (drop k xs) rest in
    let len : length ms ≡ count = ap length whole ∙ (length-drop k xs ∙ (omega arith)) in
    let same : ms ≡ drop (length xs - count) xs = whole ∙ ap (λ i. drop i xs) from in
    let none : drop n (drop k xs) ≡ [] = drop_all n (drop k xs) rest in
    let turned : ys ≡ drop (count - by) ms ++ take (count - by) ms = e ∙ ap (λ i. drop (i - by) ms ++ take (i - by) ms) len in
    let all : put_mid k n xs ys ≡ take (length xs - count) xs ++ (drop (count - by) ms ++ take (count - by) ms) =
    ap (λ r. take k xs ++ (ys ++ r)) none
    ∙ (ap (λ r. take k xs ++ r) (append-nil ys)
    ∙ (ap (λ r. take k xs ++ r) turned ∙ ap (λ i. take i xs ++ (drop (count - by) ms ++ take (count - by) ms)) from)) in
    ap reverse all ∙ reverse-turned xs ms count by h b same

pub reverse-map : {A B : Type 0} (f : A → B) (xs : List A) → reverse (map f xs) ≡ map f (reverse xs)
reverse-map f [] = refl
reverse-map f (x ∷ xs) =
    reverse-append (f x ∷ []) (map f xs)
    ∙ (ap (λ y. y ++ f x ∷ []) (reverse-map f xs)
    ∙ (sym (map-append f (reverse xs) (x ∷ [])) ∙ ap (map f) (sym (reverse-append (x ∷ []) xs))))
