-- Lists of homes that are gone over from the front.
use Rattle.std.proofs.Common.{◌≡◌, ℕ, suc, ◌+◌, ◌<◌, List, [], ◌∷◌, length, take, drop, sum_by, refl, sym, ◌∙◌, ap}
use Rattle.std.proofs.Common.{arith, drop-cons}
use Rattle.std.specs.Prelude.{get_or}
use Rattle.std.proofs.lemmas.List.{take_more}
use Rattle.std.proofs.lemmas.List.Sums.{sum_by-cons, sum_by-append}
use Rattle.xf_homes.specs.declared.home.Home.{Home}
use Rattle.xf_homes.specs.Value.{type_width}
use Rattle.xf_homes.specs.Order.{register_sum, begins_from}

-- the rest of a list from the n-th element on
rest-cons : (homes : List Home) (n : ℕ) (d : Home) → n < length homes → drop n homes ≡ get_or homes n d ∷ drop (n + 1) homes
rest-cons homes n d lt = let next : suc n ≡ n + 1 = omega arith in drop-cons homes n d lt ∙ ap (λ k. get_or homes n d ∷ drop k homes) next

-- ---- registers

pub sum-none : register_sum [] ≡ 0
unfolding register_sum
sum-none = refl

pub sum-next : (homes : List Home) (n : ℕ) (d : Home) (v : ℕ) → n < length homes → v ≡ type_width (get_or homes n d).ty
    → register_sum (take (n + 1) homes) ≡ register_sum (take n homes) + v
unfolding register_sum
sum-next homes n d v lt e = grind (arith, take_more homes n d lt, take n homes, sum_by, sum_by-append, sum_by-cons)

pub sum-rest : (homes : List Home) (n : ℕ) (d : Home) (v : ℕ) → n < length homes → v ≡ type_width (get_or homes n d).ty
    → register_sum (drop n homes) ≡ v + register_sum (drop (n + 1) homes)
unfolding register_sum
sum-rest homes n d v lt e =
    ap (sum_by (λ h. type_width h.ty)) (rest-cons homes n d lt)
    ∙ sum_by-cons (λ h. type_width h.ty) (get_or homes n d) (drop (n + 1) homes)
    ∙ ap (λ k. k + sum_by (λ h. type_width h.ty) (drop (n + 1) homes)) (sym e)

pub begins-next : (homes : List Home) (n r : ℕ) (d : Home) (v : ℕ) → n < length homes → v ≡ type_width (get_or homes n d).ty
    → begins_from r (drop n homes) ≡ r ∷ begins_from (r + v) (drop (n + 1) homes)
begins-next homes n r d v lt e = grind (arith, rest-cons, drop)
