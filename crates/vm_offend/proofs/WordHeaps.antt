-- The objects in the words of the heap: headers first, and all cells from word 12,288 on.
use Rattle.std.proofs.Common.{◌≡◌, ℕ, zero, suc, ◌+◌, ◌-◌, ◌*◌, ◌<◌, ◌≤◌, true, false, List, [], ◌∷◌, ◌++◌, length}
use Rattle.std.proofs.Common.{take, drop, set, get_or, refl, sym, ◌∙◌, ap, inl, inr, arith, length-drop, length-take, length-set}
use Rattle.std.specs.Prelude.{nat_lt}
use Rattle.std.proofs.lemmas.List.{get_or-set_other, get_or-set_same, get_or_append_left, get_or-append_right, get_or-take, length-append, length_push}
use Rattle.std.proofs.lemmas.List.{drop-set-lt, drop-set-add, drop_at, drop_all, append-nil}
use Rattle.std.proofs.lemmas.Bool.{cases_lt}
use Rattle.std.proofs.lemmas.Bool.Decides.{nat_tests}
use borrow.Rule.Slice.PartMut.{put_mid}
use Rattle.vm_store.specs.declared.cell.ObjectKind.{ObjectKind}
use Rattle.vm_store.specs.declared.cell.ObjectHeader.{ObjectHeader}
use Rattle.vm_store.specs.Kind.{IsNumbered}
use Rattle.vm_offend.specs.Words.{kind_of_word, word_of_kind, header_at, headers_in, HaveKindWords}

-- ---- the word of a kind

class_less : (c : ℕ) → c < 4096 → nat_lt c 0x8000 ≡ true
class_less c h = grind (arith, nat_tests)

array_not_less : (c : ℕ) → nat_lt (0x8000 + c) 0x8000 ≡ false
array_not_less c = grind (arith, nat_tests)

array_less : (c : ℕ) → c < 4096 → nat_lt (0x8000 + c) 0xF000 ≡ true
array_less c h = grind (arith, nat_tests)

pub kind-word : (k : ObjectKind) → IsNumbered k → kind_of_word (word_of_kind k) ≡ k
kind-word kind h = grind (arith, class_less, array_not_less, array_less)

-- ---- headers

pub length-headers_in : (ws : List ℕ) (n : ℕ) → length (headers_in ws n) ≡ n
length-headers_in ws zero = refl
length-headers_in ws (suc n) = length_push (headers_in ws n) (header_at ws n) ∙ (omega (arith, length-headers_in ws n))

pub header-read : (ws : List ℕ) (n k : ℕ) (d : ObjectHeader) → k < n → get_or (headers_in ws n) k d ≡ header_at ws k
header-read ws zero k d lt = absurd (omega (arith, lt))
header-read ws (suc n) k d lt =
    elim (cases_lt k n) [
      | inl less ↦
          get_or_append_left (headers_in ws n) (header_at ws n ∷ []) d k (omega (arith, length-headers_in ws n, less)) ∙ header-read ws n k d less
      | inr most ↦
          let at : k ≡ n = omega (arith, lt, most) in
          let none : k - n ≡ 0 = omega (arith, at) in
          get_or-append_right (headers_in ws n) (header_at ws n ∷ []) n k d (length-headers_in ws n) most
          ∙ (ap (λ i. get_or (header_at ws n ∷ []) i d) none ∙ ap (header_at ws) (sym at))
    ]

-- words that agree up to a place have the same headers there
same_header : (xs ys : List ℕ) (n m : ℕ) → ((k : ℕ) → k < 3 * m → get_or xs k 0 ≡ get_or ys k 0) → n < m → header_at xs n ≡ header_at ys n
same_header xs ys n m same lt = grind (arith, get_or)

pub same_headers : (xs ys : List ℕ) (n m : ℕ) → ((k : ℕ) → k < 3 * m → get_or xs k 0 ≡ get_or ys k 0) → n ≤ m
    → headers_in xs n ≡ headers_in ys n
same_headers xs ys zero m same le = refl
same_headers xs ys (suc n) m same le = grind (arith, same_header, same_headers xs ys n m same (omega arith))

-- words that agree on the headers tell the kinds alike
pub kinds-kept : (xs ys : List ℕ) (n : ℕ) → ((k : ℕ) → k < 3 * n → get_or xs k 0 ≡ get_or ys k 0) → HaveKindWords ys n → HaveKindWords xs n
kinds-kept xs ys n same have k lt = grind (arith, get_or)

-- ---- a write to a cell

module _ (heap : List ℕ) (n p v : ℕ) (few : n ≤ 4096) where
  pub cell-headers : headers_in (set heap (12288 + p) v) n ≡ headers_in heap n
  cell-headers = same_headers (set heap (12288 + p) v) heap n n (λ k lt. get_or-set_other heap (12288 + p) k v 0 (omega arith)) (omega arith)

  pub cell-kinds : HaveKindWords heap n → HaveKindWords (set heap (12288 + p) v) n
  cell-kinds = kinds-kept (set heap (12288 + p) v) heap n (λ k lt. get_or-set_other heap (12288 + p) k v 0 (omega arith))

  pub cell-cells : drop 12288 (set heap (12288 + p) v) ≡ set (drop 12288 heap) p v
  cell-cells = drop-set-add 12288 heap p v

-- ---- a new object: its cells, and then its header

module _ (heap ws : List ℕ) (n size : ℕ) (h : ObjectHeader) (few : n < 4096) (len : length heap ≡ 45056) (whole : size ≡ length heap - 12288)
    (same : length ws ≡ size) (numbered : IsNumbered h.kind) where
  front : length (take 12288 heap) ≡ 12288
  front = omega (arith, length-take 12288 heap, len)

  filled : List ℕ
  filled = put_mid 12288 size heap ws

  filled_word : (k : ℕ) → k < 12288 → get_or (put_mid 12288 size heap ws) k 0 ≡ get_or heap k 0
  filled_word k lt =
      get_or_append_left (take 12288 heap) (ws ++ drop size (drop 12288 heap)) 0 k (omega (arith, front)) ∙ get_or-take 12288 heap k 0 lt

  filled_length : length (put_mid 12288 size heap ws) ≡ 45056
  filled_length =
      length-append (take 12288 heap) (ws ++ drop size (drop 12288 heap))
      ∙ omega (arith, front, whole, same, len, length-append ws (drop size (drop 12288 heap)), length-drop size (drop 12288 heap), length-drop 12288 heap)

  filled_cells : drop 12288 (put_mid 12288 size heap ws) ≡ ws
  filled_cells =
      let rest : drop size (drop 12288 heap) ≡ [] = drop_all size (drop 12288 heap) (omega (arith, whole, length-drop 12288 heap)) in
      drop_at (take 12288 heap) (ws ++ drop size (drop 12288 heap)) 12288 front ∙ (ap (λ zs. ws ++ zs) rest ∙ append-nil ws)

  -- the words with the header
  headed : List ℕ
  headed = set (set (set (put_mid 12288 size heap ws) (3 * n) (word_of_kind h.kind)) (3 * n + 1) h.start) (3 * n + 2) h.elements

  pub new-cells : drop 12288 (set (set (set (put_mid 12288 size heap ws) (3 * n) (word_of_kind h.kind)) (3 * n + 1) h.start) (3 * n + 2) h.elements) ≡ ws
  new-cells =
      let ws₀ = put_mid 12288 size heap ws in
      let ws₁ = set ws₀ (3 * n) (word_of_kind h.kind) in
      let ws₂ = set ws₁ (3 * n + 1) h.start in
      drop-set-lt 12288 ws₂ (3 * n + 2) h.elements (omega arith)
      ∙ (drop-set-lt 12288 ws₁ (3 * n + 1) h.start (omega arith) ∙ (drop-set-lt 12288 ws₀ (3 * n) (word_of_kind h.kind) (omega arith) ∙ filled_cells))

  pub new-length : length (set (set (set (put_mid 12288 size heap ws) (3 * n) (word_of_kind h.kind)) (3 * n + 1) h.start) (3 * n + 2) h.elements) ≡ 45056
  new-length = grind (arith, set, length-set, filled_length)

  old_word :
      (k : ℕ) → k < 3 * n
      → get_or (set (set (set (put_mid 12288 size heap ws) (3 * n) (word_of_kind h.kind)) (3 * n + 1) h.start) (3 * n + 2) h.elements) k 0 ≡ get_or heap k 0
  old_word k lt = grind (arith, set, get_or-set_other, filled_word)

  old_headers : headers_in (set (set (set (put_mid 12288 size heap ws) (3 * n) (word_of_kind h.kind)) (3 * n + 1) h.start) (3 * n + 2) h.elements) n
      ≡ headers_in heap n
  old_headers = grind (arith, set, same_headers, old_word)

  new_word : get_or (set (set (set (put_mid 12288 size heap ws) (3 * n) (word_of_kind h.kind)) (3 * n + 1) h.start) (3 * n + 2) h.elements) (3 * n) 0
      ≡ word_of_kind h.kind
  new_word = grind (arith, set, get_or-set_other, get_or-set_same, filled_length)

  new_header : header_at (set (set (set (put_mid 12288 size heap ws) (3 * n) (word_of_kind h.kind)) (3 * n + 1) h.start) (3 * n + 2) h.elements) n ≡ h
  new_header = grind (arith, set, length, length-set, filled_length, get_or, new_word, get_or-set_other, get_or-set_same, kind-word)

  pub new-headers : headers_in (set (set (set (put_mid 12288 size heap ws) (3 * n) (word_of_kind h.kind)) (3 * n + 1) h.start) (3 * n + 2) h.elements)
      (n + 1) ≡ headers_in heap n ++ h ∷ []
  new-headers =
      let ws₃ = set (set (set (put_mid 12288 size heap ws) (3 * n) (word_of_kind h.kind)) (3 * n + 1) h.start) (3 * n + 2) h.elements in
      let next : n + 1 ≡ suc n = omega arith in
      ap (headers_in ws₃) next ∙ (ap (λ hs. hs ++ header_at ws₃ n ∷ []) old_headers ∙ ap (λ g. headers_in heap n ++ g ∷ []) new_header)

  pub new-kinds : HaveKindWords heap n
      → HaveKindWords (set (set (set (put_mid 12288 size heap ws) (3 * n) (word_of_kind h.kind)) (3 * n + 1) h.start) (3 * n + 2) h.elements) (n + 1)
  new-kinds have k lt = grind (arith, set, cases_lt, kinds-kept, old_word, new_header, get_or, new_word)
