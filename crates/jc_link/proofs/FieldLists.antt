-- Static fields: package after package, and their slots.
use Rattle.std.proofs.Common.{◌≡◌, ℕ, ◌+◌, List, [], ◌∷◌, ◌++◌, length, map, drop, Some, refl, sym, ap, subst, append_assoc}
use Rattle.std.proofs.Common.{arith}
use Rattle.std.specs.Prelude.{slice_get, sum_by}
use Rattle.std.proofs.lemmas.List.Sums.{sum_by-cons, sum_by-append}
use Rattle.jc_base.specs.declared.ty.Ty.{Ty}
use Rattle.jc_base.specs.declared.record.StaticRec.{StaticRec}
use Rattle.jc_base.specs.Cell.{width}
use Rattle.jc_base.specs.Linked.{AreSlots}
use Rattle.cap_desc.specs.declared.type_list.TypeItem.{TypeItem}
use Rattle.cap_method.specs.StaticFormat.{Statics}
use Rattle.cap_package.specs.StaticChecks.{ImagePlace}
use Rattle.cap_package.specs.PackageRecord.{PackageRecord}
use Rattle.cap_package.specs.StaticPlaces.{static_places}
use Rattle.jc_link.specs.Statics.{StaticSite, site, sites, sites_after, cells_at}
use Rattle.jc_link.specs.Statics.{static_cells, static_record, type_of_site, records_from, static_records}
use Rattle.cap_package.proofs.Given.{drop_here}

-- the cells of fields
abbrev pub cells_in : List StaticSite → ℕ
cells_in = sum_by (λ (s : StaticSite). cells_at s.place)

cells_at_home : (home first : ℕ) (s : Statics) (places : List ImagePlace) → cells_in (map (site home first s) places) ≡ sum_by cells_at places
cells_at_home home first s [] = refl
cells_at_home home first s (p ∷ places) =
    omega (
      arith,
      sum_by-cons (λ (x : StaticSite). cells_at x.place) (site home first s p) (map (site home first s) places),
      sum_by-cons cells_at p places,
      cells_at_home home first s places,
    )

records_both : (told : ℕ → TypeItem → Ty) (slot : ℕ) (xs ys : List StaticSite) → records_from told slot (xs ++ ys) ≡ records_from told slot
    xs ++ records_from told (slot + cells_in xs) ys
records_both told slot [] ys = let e : slot + 0 ≡ slot = omega arith in rw e refl
records_both told slot (x ∷ xs) ys =
    let e : slot + cells_in (x ∷ xs) ≡ (slot + cells_at x.place) + cells_in xs = omega (arith, sum_by-cons (λ (s : StaticSite). cells_at s.place) x xs) in
    rw e (ap (λ rest. static_record slot x (type_of_site told x) ∷ rest) (records_both told (slot + cells_at x.place) xs ys))

-- a step of going over the packages
pub statics_more : (told : ℕ → TypeItem → Ty) (before after all : List StaticRec) (ps : List PackageRecord) (n first slot next last : ℕ)
    (p : PackageRecord) → slice_get ps n ≡ Some p
    → before ++ records_from told slot (sites_after n first (drop n ps)) ≡ all
    → after ≡ before ++ records_from told slot (map (site n first p.statics) (static_places p))
    → next ≡ slot + sum_by cells_at (static_places p)
    → last ≡ first + length p.statics.arrays
    → after ++ records_from told next (sites_after (n + 1) last (drop (n + 1) ps)) ≡ all
statics_more told before after all ps n first slot next last p e h pushed to others =
    grind (arith, cells_at_home, drop_here, records_both, append_assoc)

-- ---- slots and cells

pub records_slots : (told : ℕ → TypeItem → Ty) (slot : ℕ) (xs : List StaticSite) → AreSlots slot (records_from told slot xs)
records_slots told slot [] = tt {0}
records_slots told slot (x ∷ xs) = (refl, records_slots told (slot + cells_at x.place) xs)

records_cells : (told : ℕ → TypeItem → Ty) (slot : ℕ) (xs : List StaticSite)
    → sum_by (λ (f : StaticRec). width f.kind) (records_from told slot xs) ≡ cells_in xs
records_cells told slot [] = refl
records_cells told slot (x ∷ xs) =
    omega (
      arith,
      sum_by-cons (λ (f : StaticRec). width f.kind) (static_record slot x (type_of_site told x))
          (records_from told (slot + cells_at x.place) xs),
      sum_by-cons (λ (s : StaticSite). cells_at s.place) x xs,
      records_cells told (slot + cells_at x.place) xs,
    )

sites_cells : (home first : ℕ) (ps : List PackageRecord) → cells_in (sites_after home first ps) ≡ static_cells ps
sites_cells home first [] = refl
sites_cells home first (p ∷ ps) = grind (arith, sum_by-append, cells_at_home, sites_cells (home + 1) (first + length p.statics.arrays) ps)

pub slots_of : (told : ℕ → TypeItem → Ty) (ps : List PackageRecord) (fields : List StaticRec) → fields ≡ static_records told ps → AreSlots 0 fields
slots_of told ps fields e = subst (AreSlots 0) (sym e) (records_slots told 0 (sites ps))

pub cells_of_records : (told : ℕ → TypeItem → Ty) (ps : List PackageRecord) (fields : List StaticRec) → fields ≡ static_records told ps
    → sum_by (λ (f : StaticRec). width f.kind) fields ≡ static_cells ps
cells_of_records told ps fields e = grind (arith, records_cells, sites_cells)
