-- Cells that are written one after another, in lists and in the object that was made last.
use Rattle.std.proofs.Common.{◌≡◌, ◌<◌, ◌≤◌, ◌+◌, ℕ, suc, List, [], ◌∷◌, ◌++◌, length, take, drop, set, refl}
use Rattle.std.proofs.Common.{sym, ap, ◌∙◌, arith, add-one, length-take, length-append, Some}
use Rattle.std.specs.Prelude.{slice_get}
use Rattle.std.proofs.lemmas.List.{append-nil, append_assoc, take_at, drop_at, drop-drop, length-drop, drop_all}
use Rattle.vm_store.specs.declared.cell.ObjectKind.{ObjectKind}
use Rattle.vm_store.specs.State.{State, Object}
use Rattle.vm_store.specs.Objects.{object_cells, cells_in, write_object, with_object, with_object_cell}
use Rattle.vm_store.specs.Layout.{overwritten}
use Rattle.vm_store.proofs.Fills.{overwritten-nil, overwritten-more}

module _ {A : Type 0} where
  pub cell_written : (xs : List A) (at : ℕ) (v : A) → at < length xs → set xs at v ≡ overwritten xs at (v ∷ [])
  cell_written xs at v lt = ap (λ zs. set zs at v) (overwritten-nil xs at) ∙ overwritten-more xs [] at at v (omega arith) lt

  pub two_written : (xs : List A) (at : ℕ) (v w : A) → at + 1 < length xs → set (set xs at v) (at + 1) w ≡ overwritten xs at (v ∷ w ∷ [])
  two_written xs at v w lt = ap (λ zs. set zs (at + 1) w) (cell_written xs at v (omega arith)) ∙ overwritten-more xs (v ∷ []) at (at + 1) w refl lt

  cut-after : (xs ys : List A) (p n : ℕ) → length xs ≡ p → drop (p + n) (xs ++ ys) ≡ drop n ys
  cut-after xs ys p n e = sym (drop-drop n p (xs ++ ys)) ∙ ap (drop n) (drop_at xs ys p e)

  -- cells after those that were written
  pub overwritten-append : (xs ys zs : List A) (at p : ℕ) → p ≡ at + length ys → p ≤ length xs → overwritten (overwritten xs at ys) p zs
      ≡ overwritten xs at (ys ++ zs)
  overwritten-append xs ys zs at p is le =
      let front = take at xs ++ ys in
      let rest = drop (at + length ys) xs in
      let joined : overwritten xs at ys ≡ front ++ rest = sym (append_assoc (take at xs) ys rest) in
      let size : length front ≡ p = omega (arith, length-append (take at xs) ys, length-take at xs) in
      let end : at + length ys + length zs ≡ at + length (ys ++ zs) = omega (arith, length-append ys zs) in
      ap (λ ws. take p ws ++ (zs ++ drop (p + length zs) ws)) joined
      ∙ (ap (λ ws. ws ++ (zs ++ drop (p + length zs) (front ++ rest))) (take_at front rest p size)
      ∙ (ap (λ ws. front ++ (zs ++ ws))
      (cut-after front rest p (length zs) size ∙ (drop-drop (length zs) (at + length ys) xs ∙ ap (λ n. drop n xs) end))
      ∙ (append_assoc (take at xs) ys (zs ++ drop (at + length (ys ++ zs)) xs)
      ∙ ap (λ ws. take at xs ++ ws) (sym (append_assoc ys zs (drop (at + length (ys ++ zs)) xs))))))

  -- all cells are written
  pub overwritten-whole : (xs ys : List A) → length ys ≡ length xs → overwritten xs 0 ys ≡ ys
  overwritten-whole xs ys e = grind (arith, drop, length, drop_all, append-nil)

  pub length-overwritten : (xs ys : List A) (at : ℕ) → at + length ys ≤ length xs → length (overwritten xs at ys) ≡ length xs
  length-overwritten xs ys at le = grind (arith, length-append, take, drop, length, length-take, length-drop)

  -- ---- the last object

  last-is : (os : List (Object A)) (o : Object A) → slice_get (os ++ o ∷ []) (length os) ≡ Some o
  last-is [] o = refl
  last-is (x ∷ os) o = last-is os o

  last-written : (os : List (Object A)) (o : Object A) (i : ℕ) (v : A) → write_object (os ++ o ∷ []) (length os) i v
      ≡ os ++ record o { cells = set o.cells i v } ∷ []
  last-written [] o i v = refl
  last-written (x ∷ os) o i v = ap (λ rest. x ∷ rest) (last-written os o i v)

  pub last-cells : (s z : State A) (kind : ObjectKind) (cells : List A) (h : ℕ) → z ≡ with_object s kind cells → h ≡ length s.heap + 1
      → object_cells z h ≡ cells
  last-cells s z kind cells h e at =
      let next : h ≡ suc (length s.heap) = at ∙ add-one (length s.heap) in
      ap (λ (x : State A). object_cells x h) e
      ∙ (ap (object_cells (with_object s kind cells)) next ∙ ap cells_in (last-is s.heap (record { kind = kind; cells = cells })))

  pub last-cell-written : (s z : State A) (kind : ObjectKind) (cells : List A) (h i : ℕ) (v : A) → z ≡ with_object s kind cells
      → h ≡ length s.heap + 1
      → with_object_cell z h i v ≡ with_object s kind (set cells i v)
  last-cell-written s z kind cells h i v e at =
      let next : h ≡ suc (length s.heap) = at ∙ add-one (length s.heap) in
      ap (λ (x : State A). with_object_cell x h i v) e
      ∙ (ap (λ n. with_object_cell (with_object s kind cells) n i v) next
      ∙ ap (λ (os : List (Object A)). record s { heap = os }) (last-written s.heap (record { kind = kind; cells = cells }) i v))

  -- one cell more of the last object
  pub last-cell-more :
      (s z : State A) (kind : ObjectKind) (zeros done : List A) (h i : ℕ) (v : A)
      → z ≡ with_object s kind (overwritten zeros 0 done) → h ≡ length s.heap + 1 → i ≡ length done → i < length zeros
      → with_object_cell z h i v ≡ with_object s kind (overwritten zeros 0 (done ++ v ∷ []))
  last-cell-more s z kind zeros done h i v e at is lt =
      last-cell-written s z kind (overwritten zeros 0 done) h i v e at
      ∙ ap (with_object s kind) (overwritten-more zeros done 0 i v (omega arith) lt)
