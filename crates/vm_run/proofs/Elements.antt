-- Arrays whose elements are written one after another.
use Rattle.std.proofs.Common.{◌≡◌, ◌<◌, ◌≤◌, ◌+◌, ◌*◌, ◌/◌, ◌%◌, ℕ, zero, suc, List, [], ◌∷◌, ◌++◌, length, take}
use Rattle.std.proofs.Common.{map, get_or, refl, sym, ap, ◌∙◌, arith, length-take}
use Rattle.std.specs.Prelude.{sum_by, All}
use Rattle.std.proofs.lemmas.List.{length-map, map-append, take_more, take_all, append_assoc, length-append}
use Rattle.std.proofs.lemmas.List.Sums.{sum_by-cons}
use Rattle.std.proofs.lemmas.List.Elements.{All-head, All-tail}
use Rattle.jc_base.specs.declared.ty.Ty.{Ty}
use Rattle.jc_base.specs.declared.ty.Ty.TheVariants as types
use Rattle.jc_base.specs.declared.record.ArrayRec.{ArrayRec}
use Rattle.jc_base.specs.Cell.{AreElementsOf}
use Rattle.vm_store.specs.declared.cell.ObjectKind.{ObjectKind}
use Rattle.vm_store.specs.declared.cell.ObjectKind.TheVariants.{Ints}
use Rattle.vm_store.specs.Kind.{element_width}
use Rattle.vm_store.specs.Cells.{Cells}
use Rattle.vm_store.specs.State.{State, Object}
use Rattle.vm_store.specs.Objects.{object_cells, with_object, with_object_cell, array_cells}
use Rattle.vm_store.specs.Layout.{overwritten}
use Rattle.vm_store.proofs.Fills.{length-array}
use Rattle.vm_step.specs.Objects.{kind_of_type}
use Rattle.vm_step.specs.Start.{int_cells, initial_element_cells, initial_object}
use Rattle.vm_run.proofs.WritesInOrder.{last-cells, last-cell-more, length-overwritten, overwritten-whole}

-- a new array of elements of one cell each, of which the first i are written
pub record IsFilled {A : Type 0} (k : Cells A) (kind : ObjectKind) (f : ℕ → A) (words : List ℕ) (s z : State A) (i : ℕ) : Type 0 where
  pub state : z ≡ with_object s kind (overwritten (array_cells k kind (length words)) 0 (map f (take i words)))

module _ {A : Type 0} {k : Cells A} {kind : ObjectKind} {f : ℕ → A} {words : List ℕ} {s z : State A} {i : ℕ} (filled : IsFilled k kind f words s z i)
    (narrow : element_width kind ≡ 1) where
  zeros : List A
  zeros = array_cells k kind (length words)

  size : length zeros ≡ length words
  unfolding zeros
  size = length-array k kind (length words) ∙ (ap (λ w. w * length words) narrow ∙ omega arith)

  done-size : i ≤ length words → length (map f (take i words)) ≡ i
  done-size le = length-map (take i words) f ∙ omega (arith, length-take i words)

  pub element-there : {h : ℕ} → h ≡ length s.heap + 1 → i < length words → i < length (object_cells z h)
  unfolding zeros
  element-there {h} at lt =
      let d = done-size (omega arith) in
      let fits = size in
      let all = ap length (last-cells s z kind (overwritten zeros 0 (map f (take i words))) h filled.state at)
      ∙ length-overwritten zeros (map f (take i words)) 0 (omega arith) in
      omega (arith, all)

  pub element-more : {h : ℕ} {y : State A} (v : A) → h ≡ length s.heap + 1 → i < length words → v ≡ f (get_or words i 0)
      → y ≡ with_object_cell z h i v → IsFilled k kind f words s y (i + 1)
  unfolding zeros
  element-more {h} v at lt is more =
      let d = done-size (omega arith) in
      let fits = size in
      let next : map f (take i words) ++ v ∷ [] ≡ map f (take (i + 1) words) =
      ap (λ (x : A). map f (take i words) ++ x ∷ []) is
      ∙ (sym (map-append f (take i words) (get_or words i 0 ∷ [])) ∙ ap (map f) (sym (take_more words i 0 lt))) in
      record {
        state = more ∙ (last-cell-more s z kind zeros (map f (take i words)) h i v filled.state at (sym d) (omega arith)
            ∙ ap (λ (done : List A). with_object s kind (overwritten zeros 0 done)) next);
      }

  pub all-filled : length words ≤ i → z ≡ with_object s kind (map f words)
  unfolding zeros
  all-filled le = grind (arith, zeros, map, take_all, overwritten-whole, length-map, size)

-- ---- ints

doubled : ℕ → ℕ
doubled zero = zero
doubled (suc n) = suc (suc (doubled n))

doubled-is : (n : ℕ) → doubled n ≡ 2 * n
unfolding doubled
doubled-is zero = refl
doubled-is (suc n) = let r = doubled-is n in omega arith

module _ {A : Type 0} (k : Cells A) where
  pair-more : (i : ℕ) (ws : List ℕ) → suc (doubled i) < length ws
      → int_cells k (take (suc (suc (doubled i))) ws) ≡ int_cells k (take (doubled i) ws) ++ k.high (get_or ws (doubled i) 0) ∷ k.low
      (get_or ws (suc (doubled i)) 0) ∷ []
  unfolding doubled
  pair-more zero [] lt = absurd (omega arith)
  pair-more zero (a ∷ []) lt = absurd (omega arith)
  pair-more zero (a ∷ b ∷ ws) lt = refl
  pair-more (suc i) [] lt = absurd (omega arith)
  pair-more (suc i) (a ∷ []) lt = absurd (omega arith)
  pair-more (suc i) (a ∷ b ∷ ws) lt = ap (λ (xs : List A). k.high a ∷ k.low b ∷ xs) (pair-more i ws (omega arith))

  pub int-more : (i : ℕ) (ws : List ℕ) → 2 * i + 1 < length ws
      → (int_cells k (take (2 * i) ws) ++ k.high (get_or ws (2 * i) 0) ∷ []) ++ k.low (get_or ws (2 * i + 1) 0) ∷ []
      ≡ int_cells k (take (2 * (i + 1)) ws)
  int-more i ws lt =
      let d = doubled-is i in
      let one : suc (doubled i) ≡ 2 * i + 1 = omega arith in
      let two : suc (suc (doubled i)) ≡ 2 * (i + 1) = omega arith in
      append_assoc (int_cells k (take (2 * i) ws)) (k.high (get_or ws (2 * i) 0) ∷ []) (k.low (get_or ws (2 * i + 1) 0) ∷ [])
      ∙ (ap (λ (n : ℕ). int_cells k (take n ws) ++ k.high (get_or ws n 0) ∷ k.low (get_or ws (2 * i + 1) 0) ∷ []) (sym d)
      ∙ (ap (λ (n : ℕ). int_cells k (take (doubled i) ws) ++ k.high (get_or ws (doubled i) 0) ∷ k.low (get_or ws n 0) ∷ []) (sym one)
      ∙ (sym (pair-more i ws (omega arith)) ∙ ap (λ (n : ℕ). int_cells k (take n ws)) two)))

  pair-size : (i : ℕ) (ws : List ℕ) → doubled i ≤ length ws → length (int_cells k (take (doubled i) ws)) ≡ doubled i
  unfolding doubled
  pair-size zero ws le = refl
  pair-size (suc i) [] le = absurd (omega arith)
  pair-size (suc i) (a ∷ []) le = absurd (omega arith)
  pair-size (suc i) (a ∷ b ∷ ws) le = ap (λ n. suc (suc n)) (pair-size i ws (omega arith))

  pub int-size : (i : ℕ) (ws : List ℕ) → 2 * i ≤ length ws → length (int_cells k (take (2 * i) ws)) ≡ 2 * i
  int-size i ws le =
      let d = doubled-is i in ap (λ (n : ℕ). length (int_cells k (take n ws))) (sym d) ∙ (pair-size i ws (omega arith) ∙ d)

  pub ints-size : (ws : List ℕ) → length ws % 2 ≡ 0 → length (int_cells k ws) ≡ length ws
  ints-size ws even =
      let half : 2 * (length ws / 2) ≡ length ws = omega arith in
      ap (λ (xs : List ℕ). length (int_cells k xs)) (sym (take_all (2 * (length ws / 2)) ws (omega arith)))
      ∙ (int-size (length ws / 2) ws (omega arith) ∙ half)

-- a new array of ints, of which the first i are written
pub record AreIntsFilled {A : Type 0} (k : Cells A) (words : List ℕ) (s z : State A) (i : ℕ) : Type 0 where
  pub state : z ≡ with_object s Ints (overwritten (array_cells k Ints (length words / 2)) 0 (int_cells k (take (2 * i) words)))

module _ {A : Type 0} {k : Cells A} {words : List ℕ} {s z : State A} {i : ℕ} (filled : AreIntsFilled k words s z i) (even : length words % 2 ≡ 0) where
  blank : List A
  blank = array_cells k Ints (length words / 2)

  blank-size : length blank ≡ length words
  unfolding blank
  blank-size = length-array k Ints (length words / 2) ∙ omega arith

  -- two cells more
  module _ {h : ℕ} (at : h ≡ length s.heap + 1) (inside : 2 * i + 1 < length words) where
    pub high-there : 2 * i < length (object_cells z h)
    unfolding blank
    high-there =
        let done = int_cells k (take (2 * i) words) in
        let size = int-size k i words (omega arith) in
        let zs = blank-size in
        let all = ap length (last-cells s z Ints (overwritten blank 0 done) h filled.state at) ∙ length-overwritten blank done 0 (omega arith) in
        omega (arith, all)

    high-more : (y : State A) (v : A) → y ≡ with_object_cell z h (2 * i) v
        → y ≡ with_object s Ints (overwritten (array_cells k Ints (length words / 2)) 0 (int_cells k (take (2 * i) words) ++ v ∷ []))
    unfolding blank
    high-more y v is = grind (arith, size, int-size, blank-size, last-cell-more, blank, take)

    pub low-there : {y : State A} (v : A) → y ≡ with_object_cell z h (2 * i) v → 2 * i + 1 < length (object_cells y h)
    unfolding blank
    low-there {y} v is =
        let done = int_cells k (take (2 * i) words) ++ v ∷ [] in
        let size = int-size k i words (omega arith) in
        let zs = blank-size in
        let more : length done ≡ 2 * i + 1 = length-append (int_cells k (take (2 * i) words)) (v ∷ []) ∙ omega arith in
        let all = ap length (last-cells s y Ints (overwritten blank 0 done) h (high-more y v is) at) ∙ length-overwritten blank done 0 (omega arith) in
        omega (arith, all)

    pub low-more : {y x : State A} (v w : A) → y ≡ with_object_cell z h (2 * i) v → x ≡ with_object_cell y h (2 * i + 1) w
        → v ≡ k.high (get_or words (2 * i) 0) → w ≡ k.low (get_or words (2 * i + 1) 0) → AreIntsFilled k words s x (i + 1)
    unfolding blank
    low-more {y} {x} v w first second is was =
        let done = int_cells k (take (2 * i) words) ++ v ∷ [] in
        let size = int-size k i words (omega arith) in
        let zs = blank-size in
        let more : length done ≡ 2 * i + 1 = length-append (int_cells k (take (2 * i) words)) (v ∷ []) ∙ omega arith in
        let all : done ++ w ∷ [] ≡ int_cells k (take (2 * (i + 1)) words) =
        ap (λ (c : A). (int_cells k (take (2 * i) words) ++ c ∷ []) ++ w ∷ []) is
        ∙ (ap (λ (c : A). (int_cells k (take (2 * i) words) ++ k.high (get_or words (2 * i) 0) ∷ []) ++ c ∷ []) was ∙ int-more k i words inside) in
        record {
          state = second ∙ (last-cell-more s y Ints blank done h (2 * i + 1) w (high-more y v first) at (sym more) (omega arith)
              ∙ ap (λ (cells : List A). with_object s Ints (overwritten blank 0 cells)) all);
        }

  pub all-ints-filled : length words / 2 ≤ i → z ≡ with_object s Ints (int_cells k words)
  unfolding blank
  all-ints-filled le = grind (arith, blank, take_all, overwritten-whole, ints-size, blank-size)

-- ---- the cells of initial arrays

pub initial-size : {A : Type 0} (k : Cells A) (a : ArrayRec) → AreElementsOf a.kind a.initial
    → length (initial_element_cells k (kind_of_type a.kind) a.initial) ≡ length a.initial
initial-size k a h = go a.kind h where
  go : (ty : Ty) → AreElementsOf ty a.initial → length (initial_element_cells k (kind_of_type ty) a.initial) ≡ length a.initial
  go types.ArrBool e = length-map a.initial _
  go types.ArrByte e = length-map a.initial _
  go types.ArrShort e = length-map a.initial _
  go types.ArrInt e = ints-size k a.initial e
  go _ e = absurd e

pub initial-count : {A : Type 0} (k : Cells A) (xs : List ArrayRec) → All (λ a. AreElementsOf a.kind a.initial) xs
    → sum_by (λ (o : Object A). length o.cells) (map (initial_object k) xs) ≡ sum_by (λ (a : ArrayRec). length a.initial) xs
initial-count k [] all = refl
initial-count {A} k (a ∷ xs) all =
    let size : Object A → ℕ = λ o. length o.cells in
    let words : ArrayRec → ℕ = λ r. length r.initial in
    sum_by-cons size (initial_object k a) (map (initial_object k) xs)
    ∙ (ap (λ n. n + sum_by size (map (initial_object k) xs)) (initial-size k a (All-head (λ r. AreElementsOf r.kind r.initial) a xs all))
    ∙ (ap (λ n. words a + n) (initial-count k xs (All-tail (λ r. AreElementsOf r.kind r.initial) a xs all)) ∙ sym (sum_by-cons words a xs)))
