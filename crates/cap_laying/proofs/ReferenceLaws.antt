-- Places that are told from the first on.
use Rattle.std.proofs.Common.{◌≡◌, ℕ, List, [], ◌++◌, refl, ap, ◌∙◌}
use Rattle.cap_laying.specs.declared.location_component.ToldPlaces.{ToldPlaces}
use Rattle.cap_laying.specs.Distances.{distances}
use Rattle.cap_laying.specs.Telling.{AppendsDistances}
use Rattle.cap_laying.proofs.Tellings.{told_more}

pub told_first : (old new : ToldPlaces) (ps : List ℕ) → old.last ≡ 0 → old.bytes.items ≡ [] → AppendsDistances old ps new
    → new.bytes.items ≡ distances 0 ps
told_first old new ps l b t = t.bytes ∙ ap (λ bs. bs ++ distances old.last ps) b ∙ ap (λ k. distances k ps) l

pub told_both : (old middle new : ToldPlaces) (ps qs : List ℕ) → old.last ≡ 0 → old.bytes.items ≡ [] → AppendsDistances old ps middle
    → AppendsDistances middle qs new → new.bytes.items ≡ distances 0 (ps ++ qs)
told_both old middle new ps qs l b t u =
    u.bytes ∙ told_more old middle ps qs (ps ++ qs) (old.bytes.items ++ distances old.last (ps ++ qs)) refl t refl
    ∙ ap (λ bs. bs ++ distances old.last (ps ++ qs)) b ∙ ap (λ k. distances k (ps ++ qs)) l
