-- Lists of cells of which one lies below the other.
use Rattle.std.proofs.Common.{◌≡◌, ℕ, zero, suc, List, [], ◌∷◌, ◌++◌, length, take, drop, get_or, set, Option, Some, None, IfSome, slice_get}
use Rattle.std.proofs.Common.{All, refl, ap, arith}
use Rattle.std.specs.Bool.{⊤}
use Rattle.jc_base.specs.declared.ty.Ty.{Ty}
use Rattle.jc_base.specs.declared.ty.Ty.TheVariants.{Top}
use Rattle.jc_base.specs.Class.{ClassTable}
use Rattle.jc_base.specs.Order.{Below, same, joined}
use Rattle.jc_rules.specs.Flow.{CellsBelow, no_cells, more_cells}

-- each element, by recursion
unfoldable pub Each : (Ty → Type 0) → List Ty → Type 0
Each P [] = ⊤
Each P (x ∷ xs) = P x × Each P xs

pub each-from_All : (P : Ty → Type 0) (xs : List Ty) → All P xs → Each P xs
unfolding Each
each-from_All P [] h = tt
each-from_All P (x ∷ xs) h = (h 0 x (omega arith), each-from_All P xs (λ k d lt. h (suc k) d (omega arith)))

pub each-at : (P : Ty → Type 0) (xs : List Ty) (n : ℕ) → Each P xs → IfSome (slice_get xs n) P
unfolding Each
each-at P [] n h = tt
each-at P (x ∷ xs) zero h = h.0
each-at P (x ∷ xs) (suc n) h = each-at P xs n h.1

-- two reads of lists of which one is below the other
unfoldable pub PairAt : ClassTable → Option Ty → Option Ty → Type 0
PairAt t None None = ⊤
PairAt t (Some a) (Some b) = Below t a b
PairAt t _ _ = ⊥

module _ (t : ClassTable) where
  pub cells-at : {xs ys : List Ty} (n : ℕ) → CellsBelow t xs ys → PairAt t (slice_get xs n) (slice_get ys n)
  unfolding PairAt
  cells-at n no_cells = tt
  cells-at zero (more_cells p ps) = p
  cells-at (suc n) (more_cells p ps) = cells-at n ps

  pub cells-or : {xs ys : List Ty} (n : ℕ) → CellsBelow t xs ys → Below t (get_or xs n Top) (get_or ys n Top)
  cells-or n no_cells = same
  cells-or zero (more_cells p ps) = p
  cells-or (suc n) (more_cells p ps) = cells-or n ps

  pub cells-length : {xs ys : List Ty} → CellsBelow t xs ys → length xs ≡ length ys
  cells-length no_cells = refl
  cells-length (more_cells p ps) = ap suc (cells-length ps)

  pub cells-same : (xs : List Ty) → CellsBelow t xs xs
  cells-same [] = no_cells
  cells-same (x ∷ xs) = more_cells same (cells-same xs)

  pub cells-trans : {xs ys zs : List Ty} → CellsBelow t xs ys → CellsBelow t ys zs → CellsBelow t xs zs
  cells-trans no_cells q = q
  cells-trans (more_cells p ps) (more_cells q qs) = more_cells (joined p q) (cells-trans ps qs)

  pub cells-append : {xs ys us vs : List Ty} → CellsBelow t xs ys → CellsBelow t us vs → CellsBelow t (xs ++ us) (ys ++ vs)
  cells-append no_cells q = q
  cells-append (more_cells p ps) q = more_cells p (cells-append ps q)

  pub cells-take : {xs ys : List Ty} (n : ℕ) → CellsBelow t xs ys → CellsBelow t (take n xs) (take n ys)
  cells-take zero ps = no_cells
  cells-take (suc n) no_cells = no_cells
  cells-take (suc n) (more_cells p ps) = more_cells p (cells-take n ps)

  pub cells-drop : {xs ys : List Ty} (n : ℕ) → CellsBelow t xs ys → CellsBelow t (drop n xs) (drop n ys)
  cells-drop zero ps = ps
  cells-drop (suc n) no_cells = no_cells
  cells-drop (suc n) (more_cells p ps) = cells-drop n ps

  pub cells-set : {xs ys : List Ty} {a b : Ty} (n : ℕ) → Below t a b → CellsBelow t xs ys → CellsBelow t (set xs n a) (set ys n b)
  cells-set n q no_cells = no_cells
  cells-set zero q (more_cells p ps) = more_cells q ps
  cells-set (suc n) q (more_cells p ps) = more_cells p (cells-set n q ps)
