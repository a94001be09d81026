-- Lemmas on the stack that a slice with a depth holds.
use Rattle.std.proofs.Common.{◌≡◌, ℕ, ◌+◌, ◌-◌, ◌<◌, ◌≤◌, List, [], ◌∷◌, ◌++◌, length, take, drop, reverse, map, set, refl}
use Rattle.std.proofs.Common.{sym, ◌∙◌, ap, subst, arith, append_assoc, length-append, length-take, length-drop}
use Rattle.std.proofs.lemmas.List.{reverse-append, take-append-drop, take_more_set, length-reverse}
use Rattle.std.proofs.lemmas.List.{drop-take, take-append-le, drop-append-le, map-append}
use Rattle.std.proofs.lemmas.List.{length-map, take-take}
use Rattle.std.proofs.lemmas.List.Edits.{take-paste}
use Rattle.std.proofs.lemmas.Slice.{take-put_mid}
use Rattle.std.proofs.Math.Seq.{take-append_seam, drop-append_seam, take-add, paste}
use borrow.Rule.Slice.PartMut.{put_mid, mid_of}
use Rattle.jc_base.specs.declared.ty.Ty.{Ty}
use Rattle.jc_rules.specs.Stack.{cells}

module _ {X : Type 0} where
  pub take_first : (k : ℕ) (xs ys : List X) → length xs ≡ k → take k (xs ++ ys) ≡ xs
  take_first k xs ys e = subst (λ n. take n (xs ++ ys) ≡ xs) e (take-append_seam xs ys)

  drop_first : (k : ℕ) (xs ys : List X) → length xs ≡ k → drop k (xs ++ ys) ≡ ys
  drop_first k xs ys e = subst (λ n. drop n (xs ++ ys) ≡ ys) e (drop-append_seam xs ys)

  -- a list whose last k elements are b, from after
  reverse-parts : (k : ℕ) (a b : List X) → length b ≡ k → (take k (reverse (a ++ b)) ≡ reverse b) × (drop k (reverse (a ++ b)) ≡ reverse a)
  reverse-parts k a b e = grind (arith, reverse-append, take_first, reverse, length-reverse, drop_first)

  turned : (m n : ℕ) (a b c : List X) → length c ≡ m → length b ≡ n →
      take n (drop m (c ++ (b ++ a))) ++ (take m (c ++ (b ++ a)) ++ drop (m + n) (c ++ (b ++ a))) ≡ b ++ (c ++ a)
  turned m n a b c ec eb =
      let under : take n (drop m (c ++ (b ++ a))) ≡ b = ap (take n) (drop_first m c (b ++ a) ec) ∙ take_first n b a eb in
      let top : take m (c ++ (b ++ a)) ≡ c = take_first m c (b ++ a) ec in
      let rest : drop (m + n) (c ++ (b ++ a)) ≡ a =
      ap (drop (m + n)) (sym (append_assoc c b a)) ∙ drop_first (m + n) (c ++ b) a (length-append c b ∙ cc) in
      cc

  -- the top cells c change places with the cells b under them
  exchanged : (m n : ℕ) (a b c : List X) → length c ≡ m → length b ≡ n →
      reverse (a ++ (c ++ b)) ≡ take n (drop m (reverse (a ++ (b ++ c)))) ++ (take m (reverse (a ++ (b ++ c))) ++ drop (m + n) (reverse (a ++ (b ++ c))))
  exchanged m n a b c ec eb = grind (arith, reverse, reverse-append, append_assoc, turned, length-reverse)

  -- a copy c of the top goes under the top cells b
  copied_under : (a b c : List X) → reverse (a ++ (c ++ b)) ≡ reverse b ++ (reverse c ++ reverse a)
  copied_under a b c = rw (reverse-append a (c ++ b), reverse-append c b) (append_assoc (reverse b) (reverse c) (reverse a))

-- a cell is pushed
pub cells-push : (s : List Ty) (d : ℕ) (ty : Ty) → d < length s → cells (set s d ty) (d + 1) ≡ ty ∷ cells s d
unfolding cells
cells-push s d ty h = ap reverse (take_more_set s d ty h) ∙ reverse-append (take d s) (ty ∷ [])

length_top : (k : ℕ) (s : List Ty) (d : ℕ) → k ≤ d → d ≤ length s → length (take k (drop (d - k) s)) ≡ k
length_top k s d h g = simp (length-take, length-drop) (omega arith)

-- the cells under the top k are those of a smaller depth
pub drop-cells : (k : ℕ) (s : List Ty) (d : ℕ) → k ≤ d → d ≤ length s → drop k (cells s d) ≡ cells s (d - k)
unfolding cells
drop-cells k s d h g =
    grind (arith, take-add (d - k) k s, reverse-parts k (take (d - k) s) (take k (drop (d - k) s)) (length_top k s d h g), reverse)

-- the top cells change places with those under them
pub cells-exchanged : (s r : List Ty) (d m n : ℕ) → m + n ≤ d → d ≤ length s →
    r ≡ drop n (mid_of (d - m - n) (d - (d - m - n)) s) ++ take n (mid_of (d - m - n) (d - (d - m - n)) s) →
    cells (put_mid (d - m - n) (d - (d - m - n)) s r) d ≡ take n (drop m (cells s d)) ++ (take m (cells s d) ++ drop (m + n) (cells s d))
unfolding cells
cells-exchanged s r d m n h g e =
    let at : ℕ = d - m - n in
    let region : List Ty = mid_of at (d - at) s in
    let long : length region ≡ m + n = simp (length-take, length-drop) (omega arith) in
    let parts : take n region ++ drop n region ≡ region = take-append-drop n region in
    let whole : take d s ≡ take at s ++ region = subst (λ k. take k s ≡ take at s ++ take (d - at) (drop at s)) (omega arith) (take-add at (d - at) s) in
    let low : length (take n region) ≡ n = omega (arith, long, length-take n region) in
    let high : length (drop n region) ≡ m = omega (arith, long, length-drop n region) in
    let size : length r ≡ m + n = ap length e ∙ length-append (drop n region) (take n region) ∙ omega arith in
    let now : take d (put_mid at (d - at) s r) ≡ take at s ++ r = take-put_mid at (d - at) s r d (omega arith) (omega arith) in
    let turned_over : reverse (take at s ++ (drop n region ++ take n region))
    ≡ take n
    (drop m (reverse (take at s ++ (take n region ++ drop n region)))) ++ (take m (reverse (take at s ++ (take n region ++ drop n region))) ++ drop
    (m + n) (reverse (take at s ++ (take n region ++ drop n region)))) =
    exchanged m n (take at s) (take n region) (drop n region) high low in
    let before : take at s ++ (take n region ++ drop n region) ≡ take d s = ap (λ xs. take at s ++ xs) parts ∙ sym whole in
    ap reverse (now ∙ ap (λ xs. take at s ++ xs) e)
    ∙ subst
    (λ w. reverse (take at s ++ (drop n region ++ take n region)) ≡ take n (drop m (reverse w)) ++ (take m (reverse w) ++ drop (m + n) (reverse w)))
    before turned_over

-- a copy of the top cells goes under the top ones
pub cells-copied : (s t r : List Ty) (d m n : ℕ) → m ≤ d → n ≤ d → d + m ≤ length s → length t ≡ length s →
    t ≡ paste s d (drop (d - m) s) (d - (d - m)) →
    r ≡ drop (length (mid_of (d - n) (d + m - (d - n)) t) - m) (mid_of (d - n) (d + m - (d - n)) t) ++ take
    (length (mid_of (d - n) (d + m - (d - n)) t) - m) (mid_of (d - n) (d + m - (d - n)) t) →
    cells (put_mid (d - n) (d + m - (d - n)) t r) (d + m) ≡ take n (cells s d) ++ (take m (cells s d) ++ drop n (cells s d))
unfolding cells
cells-copied s t r d m n hm hn g of_t et er =
    let at : ℕ = d - n in
    let a : List Ty = take at s in
    let b : List Ty = take n (drop at s) in
    let c : List Ty = take m (drop (d - m) s) in
    let region : List Ty = mid_of at (d + m - at) t in
    let top_n : a ++ b ≡ take d s = sym (subst (λ k. take k s ≡ a ++ b) (omega arith) (take-add at n s)) in
    let top_m : take (d - m) s ++ c ≡ take d s = sym (subst (λ k. take k s ≡ take (d - m) s ++ c) (omega arith) (take-add (d - m) m s)) in
    let of_b : length b ≡ n = length_top n s d hn (omega arith) in
    let of_c : length c ≡ m = length_top m s d hm (omega arith) in
    let of_s : length (take d s) ≡ d = simp length-take (omega arith) in
    let same_m : d - (d - m) ≡ m = omega arith in
    let pasted : t ≡ paste s d (drop (d - m) s) m = subst (λ k. t ≡ paste s d (drop (d - m) s) k) same_m et in
    let copied : take (d + m) t ≡ take d s ++ c =
    ap (take (d + m)) pasted ∙ take-paste s d (drop (d - m) s) m (omega arith) (simp length-drop (omega arith)) in
    let same_k : at + (d + m - at) ≡ d + m = omega arith in
    let drop_b : drop at (take d s) ≡ b = subst (λ k. drop at (take k s) ≡ b) (omega arith) (drop-take at n s) in
    let is_region : region ≡ b ++ c =
    sym (drop-take at (d + m - at) t)
    ∙ ap (λ k. drop at (take k t)) same_k
    ∙ ap (drop at) copied
    ∙ drop-append-le at (take d s) c (omega arith)
    ∙ ap (λ xs. xs ++ c) drop_b in
    let of_region : length region ≡ n + m = ap length is_region ∙ length-append b c ∙ omega arith in
    let turned_over : r ≡ c ++ b =
    er
    ∙ ap (λ k. drop k region ++ take k region) (omega arith)
    ∙ ap (λ xs. drop n xs ++ take n xs) is_region
    ∙ ap (λ xs. xs ++ take n (b ++ c)) (drop_first n b c of_b)
    ∙ ap (λ xs. c ++ xs) (take_first n b c of_b) in
    let rest : take at t ≡ a =
    sym (take-take at (d + m) t (omega arith))
    ∙ ap (take at) copied
    ∙ take-append-le at (take d s) c (omega arith)
    ∙ take-take at d s (omega arith) in
    let of_r : length r ≡ m + n = ap length turned_over ∙ length-append c b ∙ omega arith in
    let now : take (d + m) (put_mid at (d + m - at) t r) ≡ a ++ (c ++ b) =
    take-put_mid at (d + m - at) t r (d + m) (omega arith) (omega arith)
    ∙ ap (λ xs. xs ++ r) rest
    ∙ ap (λ xs. a ++ xs) turned_over in
    let first_n : take n (reverse (take d s)) ≡ reverse b = subst (λ w. take n (reverse w) ≡ reverse b) top_n (reverse-parts n a b of_b).0 in
    let past_n : drop n (reverse (take d s)) ≡ reverse a = subst (λ w. drop n (reverse w) ≡ reverse a) top_n (reverse-parts n a b of_b).1 in
    let first_m : take m (reverse (take d s)) ≡ reverse c = subst (λ w. take m (reverse w) ≡ reverse c) top_m
    (reverse-parts m (take (d - m) s) c of_c).0 in
    let all : reverse (take (d + m) (put_mid at (d + m - at) t r)) ≡ reverse b ++ (reverse c ++ reverse a) = ap reverse now ∙ copied_under a b c in
    cc (all, first_n, past_n, first_m)

pub map-reverse : {X Y : Type 0} (f : X → Y) (xs : List X) → map f (reverse xs) ≡ reverse (map f xs)
map-reverse f [] = refl
map-reverse f (x ∷ xs) =
    grind (arith, reverse-append (x ∷ []) xs, map-append f (reverse xs) (x ∷ []), map-reverse f xs, reverse-append (f x ∷ []) (map f xs))

-- what is done to each cell of the slice is done to each cell of the stack
pub cells-map : (f : Ty → Ty) (s r : List Ty) (d : ℕ) → d ≤ length s → r ≡ map f (take d s) → cells (r ++ drop d s) d ≡ map f (cells s d)
unfolding cells
cells-map f s r d h e = grind (arith, length-map, length-take, reverse, take_first, map-reverse)

pub length-cells : (s : List Ty) (d : ℕ) → d ≤ length s → length (cells s d) ≡ d
unfolding cells
length-cells s d h = length-reverse (take d s) ∙ length-take d s ∙ omega arith
