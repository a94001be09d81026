-- A test of each item of a list, item by item.
use Rattle.std.proofs.Common.{◌≡◌, ℕ, ◌+◌, ◌≤◌, drop, Bool, true, false, List, length, Some, sym, ap, ◌∙◌}
use Rattle.std.specs.Prelude.{◌&&◌, slice_get}
use Rattle.std.specs.List.{list_all}
use Rattle.std.proofs.lemmas.List.{drop_all}
use Rattle.cap_package.proofs.Given.{drop_here}

passed_is : {X : Type 0} (p : X → Bool) (xs : List X) (i : ℕ) (x : X) (b : Bool) → slice_get xs i ≡ Some x → p x ≡ b
    → list_all p (drop i xs) ≡ (b && list_all p (drop (i + 1) xs))
passed_is p xs i x b e t = ap (list_all p) (drop_here xs i x e) ∙ ap (λ (c : Bool). c && list_all p (drop (i + 1) xs)) t

-- an item that passes, one that fails, and the end
pub all_next : {X : Type 0} (p : X → Bool) (xs : List X) (i : ℕ) (x : X) → slice_get xs i ≡ Some x → true ≡ p x
    → list_all p (drop i xs) ≡ list_all p xs → list_all p (drop (i + 1) xs) ≡ list_all p xs
all_next p xs i x e t before = sym (passed_is p xs i x true e (sym t)) ∙ before

pub all_fail : {X : Type 0} (p : X → Bool) (xs : List X) (i : ℕ) (x : X) → slice_get xs i ≡ Some x → false ≡ p x
    → list_all p (drop i xs) ≡ list_all p xs → false ≡ list_all p xs
all_fail p xs i x e t before = sym (passed_is p xs i x false e (sym t)) ∙ before

pub all_done : {X : Type 0} (p : X → Bool) (xs : List X) (i : ℕ) → length xs ≤ i → list_all p (drop i xs) ≡ list_all p xs → true ≡ list_all p xs
all_done p xs i h before = sym (ap (list_all p) (drop_all i xs h)) ∙ before

pub ruleset testing = (all_next, all_fail, all_done)
