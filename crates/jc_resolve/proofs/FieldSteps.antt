-- The cells of fields, field by field.
use Rattle.std.proofs.Common.{◌≡◌, ℕ, suc, ◌+◌, ◌-◌, ◌<◌, Bool, true, false, List, ◌∷◌, ◌++◌, filter, flat_map, sym, refl}
use Rattle.std.proofs.Common.{append_assoc, arith}
use Rattle.std.specs.List.{range_with_len}
use Rattle.std.proofs.lemmas.Grind.{flat_map-append}

pub cells_kept : {X Y : Type 0} (f : X → List Y) (t : X → Bool) (ys : List Y) (x : X) (xs : List X) → t x ≡ true
    → ys ++ flat_map f (filter t (x ∷ xs)) ≡ (ys ++ f x) ++ flat_map f (filter t xs)
cells_kept f t ys x xs e = rw e (sym (append_assoc ys (f x) (flat_map f (filter t xs))))

pub cells_passed : {X Y : Type 0} (f : X → List Y) (t : X → Bool) (ys : List Y) (x : X) (xs : List X) → t x ≡ false
    → ys ++ flat_map f (filter t (x ∷ xs)) ≡ ys ++ flat_map f (filter t xs)
cells_passed f t ys x xs e = rw e refl

pub token_step : {X Y : Type 0} (f : X → List Y) (g : ℕ → List X) (ys : List Y) (a n : ℕ) → a < n
    → ys ++ flat_map f (flat_map g (range_with_len a (n - a))) ≡ (ys ++ flat_map f (g a)) ++ flat_map f
    (flat_map g (range_with_len (a + 1) (n - (a + 1))))
token_step f g ys a n lt = grind (arith, suc, flat_map, flat_map-append, append_assoc)

pub ruleset token_steps = (cells_kept, cells_passed)
