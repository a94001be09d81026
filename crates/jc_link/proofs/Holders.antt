-- The field that a table tells is the one that stands there.
use Rattle.std.proofs.Common.{◌≡◌, ℕ, Bool, true, cond, List, [], ◌∷◌, Option, Some, find, refl, ap₂, option_map, arith}
use Rattle.std.proofs.Common.{option_and_then, is_some}
use Rattle.jc_base.specs.declared.record.Member.{Member}
use Rattle.jc_base.specs.Class.{ClassTable}
use Rattle.jc_base.proofs.Climbs.{chain-front}
use Rattle.jc_link.specs.declared.sites.Spot.{Spot}
use Rattle.jc_link.specs.Sites.{MemberSite, kept_at, all_entered}
use Rattle.jc_link.specs.Members.{token_of_class, holder_of, field_of, kept_holder, kept_field}
use Rattle.jc_link.proofs.SiteLaws.{only_kept, some_kept}

found_same : (f g : ℕ → Bool) → ((x : ℕ) → f x ≡ g x) → (xs : List ℕ) → find f xs ≡ find g xs
found_same f g e [] = refl
found_same f g e (x ∷ xs) = ap₂ (λ b o. cond b (Some x) o) (e x) (found_same f g e xs)

-- the class itself is the nearest, if it has a field with the token
pub holds_here : (entries : List (Spot × Option Member)) (t : ClassTable) (token at : ℕ) → is_some (kept_at entries (token_of_class at token)) ≡ true
    → kept_holder entries t token at ≡ Some at
holds_here entries t token at h = grind (arith, chain-front t at, find, is_some, cond)

pub field_kept : (sites : List MemberSite) (t : ClassTable) (token c : ℕ) → kept_field (all_entered [] sites) t token c ≡ field_of sites t token c
unfolding field_of holder_of
field_kept sites t token c = grind (arith, option_map, option_and_then, found_same, some_kept, find, only_kept)
