-- Steps of loops that copy locals and cells.
use Rattle.std.proofs.Common.{◌≡◌, ℕ, zero, suc, ◌+◌, ◌-◌, ◌<◌, ◌≤◌, min, List, [], ◌∷◌, ◌++◌, length, drop, refl}
use Rattle.std.proofs.Common.{◌∙◌, ap, arith}
use Rattle.xf_homes.specs.declared.home.Home.{Home}
use Rattle.xf_homes.specs.Source.{Source}
use Rattle.xf_emission.specs.declared.origin.Origin.{Origin}
use Rattle.jc_decode.specs.declared.symbols.Item.{Item}
use Rattle.xf_emission.specs.Edge.{cell_copies, local_copies, locals_copies}
use Rattle.xf_code.proofs.Steps.{goes-on}

-- the copies of a local are appended, and those of the locals after it are left
pub locals_on : (s : Source) (o : Origin) (q x len : ℕ) (items now whole : List Item) → x < len → now ≡ items ++ local_copies s o q x
    → items ++ locals_copies s o q x (len - x) ≡ whole → now ++ locals_copies s o q (x + 1) (len - (x + 1)) ≡ whole
locals_on s o q x len items now whole lt is left =
    let e : len - x ≡ suc (len - (x + 1)) = omega arith in
    let next : suc x ≡ x + 1 = omega arith in
    goes-on items (local_copies s o q x) _ _ _ now
    (ap (locals_copies s o q x) e ∙ ap (λ k. local_copies s o q x ++ locals_copies s o q k (len - (x + 1))) next) is left

-- one of two lists of cells is at its end
pub cells-past : (s : Source) (hs ks : List Home) (n : ℕ) → min (length hs) (length ks) ≤ n → cell_copies s (drop n hs) (drop n ks) ≡ []
cells-past s [] ks zero le = refl
cells-past s [] ks (suc n) le = refl
cells-past s (h ∷ hs) [] zero le = refl
cells-past s (h ∷ hs) [] (suc n) le = short (drop n hs)
  where
    short : (xs : List Home) → cell_copies s xs [] ≡ []
    short [] = refl
    short (x ∷ xs) = refl
cells-past s (h ∷ hs) (k ∷ ks) zero le = absurd (omega arith)
cells-past s (h ∷ hs) (k ∷ ks) (suc n) le = cells-past s hs ks n (omega arith)
