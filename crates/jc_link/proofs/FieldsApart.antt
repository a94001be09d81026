-- No two static fields of packages stand at one place.
use Rattle.std.proofs.Common.{◌≡◌, ℕ, ◌+◌, ◌≤◌, List, [], ◌∷◌, ◌++◌, length, map, refl, sym, subst, ◌∙◌, arith}
use Rattle.std.specs.Prelude.{All}
use Rattle.std.proofs.lemmas.List.Elements.{All-nil, All-cons, All-head, All-tail, All-append, All-map, All-weaker}
use Rattle.jc_base.specs.declared.ty.Ty.{Ty}
use Rattle.jc_base.specs.declared.record.StaticRec.{StaticRec}
use Rattle.cap_desc.specs.declared.type_list.TypeItem.{TypeItem}
use Rattle.cap_method.specs.StaticFormat.{Statics}
use Rattle.cap_package.specs.StaticChecks.{ImagePlace}
use Rattle.cap_package.specs.PackageRecord.{PackageRecord}
use Rattle.cap_package.specs.StaticPlaces.{static_places, AreApart}
use Rattle.jc_link.specs.Statics.{StaticSite, site, sites, sites_after, cells_at, static_record, type_of_site, records_from, static_records}
use Rattle.jc_link.specs.KnownFields.{AreStaticsKnown, StandApart}

abbrev IsApart : StaticSite → StaticSite → Type 0
IsApart s r = s.home ≡ r.home → s.place.offset ≡ r.place.offset → ⊥

abbrev AreSitesApart : List StaticSite → Type 0
AreSitesApart [] = Unit {0}
AreSitesApart (s ∷ others) = All (IsApart s) others × AreSitesApart others

-- the fields of packages from a number on are of those packages
homes_from : (home first : ℕ) (ps : List PackageRecord) → All (λ (s : StaticSite). home ≤ s.home) (sites_after home first ps)
homes_from home first [] = All-nil (λ (s : StaticSite). home ≤ s.home)
homes_from home first (p ∷ ps) =
    let P = λ (s : StaticSite). home ≤ s.home in
    let rest = sites_after (home + 1) (first + length p.statics.arrays) ps in
    All-append P (map (site home first p.statics) (static_places p)) rest
    (All-map P (site home first p.statics) (static_places p) (λ k d lt. omega arith))
    (All-weaker (λ (s : StaticSite). home + 1 ≤ s.home) P (λ s le. omega arith) rest (homes_from (home + 1) (first + length p.statics.arrays) ps))

-- the fields of one package, before those of later ones
package_apart : (home first : ℕ) (st : Statics) (places : List ImagePlace) (rest : List StaticSite) → AreApart places
    → All (λ (s : StaticSite). home + 1 ≤ s.home) rest → AreSitesApart rest → AreSitesApart (map (site home first st) places ++ rest)
package_apart home first st [] rest apart later others = others
package_apart home first st (p ∷ places) rest apart later others =
    let here = site home first st p in (
      All-append (IsApart here) (map (site home first st) places) rest
          (All-map (IsApart here) (site home first st) places (λ k d lt same. apart.0 k d lt))
          (All-weaker (λ (s : StaticSite). home + 1 ≤ s.home) (IsApart here) (λ s le same offset. omega arith) rest later),
      package_apart home first st places rest apart.1 later others,
    )

sites_apart : (home first : ℕ) (ps : List PackageRecord) → All AreStaticsKnown ps → AreSitesApart (sites_after home first ps)
sites_apart home first [] known = tt {0}
sites_apart home first (p ∷ ps) known =
    package_apart home first p.statics (static_places p) (sites_after (home + 1) (first + length p.statics.arrays) ps)
    (All-head AreStaticsKnown p ps known).apart
    (homes_from (home + 1) (first + length p.statics.arrays) ps)
    (sites_apart (home + 1) (first + length p.statics.arrays) ps (All-tail AreStaticsKnown p ps known))

one_apart : (told : ℕ → TypeItem → Ty) (f : StaticRec) (s : StaticSite) → f.package ≡ s.home → f.offset ≡ s.place.offset
    → (slot : ℕ) (others : List StaticSite) → All (IsApart s) others
    → All (λ (g : StaticRec). f.package ≡ g.package → f.offset ≡ g.offset → ⊥) (records_from told slot others)
one_apart told f s home offset slot [] all = All-nil (λ (g : StaticRec). f.package ≡ g.package → f.offset ≡ g.offset → ⊥)
one_apart told f s home offset slot (r ∷ others) all =
    All-cons (λ (g : StaticRec). f.package ≡ g.package → f.offset ≡ g.offset → ⊥) (static_record slot r (type_of_site told r))
    (records_from told (slot + cells_at r.place) others)
    (λ e h. All-head (IsApart s) r others all (sym home ∙ e) (sym offset ∙ h))
    (one_apart told f s home offset (slot + cells_at r.place) others (All-tail (IsApart s) r others all))

records_apart : (told : ℕ → TypeItem → Ty) (slot : ℕ) (ss : List StaticSite) → AreSitesApart ss → StandApart (records_from told slot ss)
records_apart told slot [] apart = tt {0}
records_apart told slot (s ∷ ss) apart = (
  one_apart told (static_record slot s (type_of_site told s)) s refl refl (slot + cells_at s.place) ss apart.0,
  records_apart told (slot + cells_at s.place) ss apart.1,
)

pub statics_stand_apart : (told : ℕ → TypeItem → Ty) (ps : List PackageRecord) → All AreStaticsKnown ps → (fields : List StaticRec)
    → fields ≡ static_records told ps → StandApart fields
statics_stand_apart told ps known fields e = subst StandApart (sym e) (records_apart told 0 (sites ps) (sites_apart 0 1 ps known))
