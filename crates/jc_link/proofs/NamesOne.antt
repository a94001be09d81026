-- Each import, class reference and pool entry of packages that link names one thing.
use Rattle.std.proofs.Common.{◌≡◌, ℕ, zero, suc, ◌+◌, ◌<◌, Bool, true, false, cond}
use Rattle.std.proofs.Common.{eqb, leb, List, [], ◌∷◌, length, take, Option, Some, None}
use Rattle.std.proofs.Common.{refl, sym, ap, subst, ◌∙◌, arith, map, position, option_and_then}
use Rattle.std.specs.Prelude.{slice_get}
use Rattle.std.specs.List.{position_from, filter_map}
use Rattle.std.proofs.lemmas.Bool.{false≢true, and_parts, and_from, eqb-true, eq-eqb, leb-true, le-leb, cases_lt}
use Rattle.std.proofs.lemmas.Slice.Eq.{bytes_eq-Decides}
use Rattle.std.proofs.lemmas.Option.{slice_get_within}
use Rattle.std.proofs.lemmas.List.{length-take}
use Rattle.std.proofs.lemmas.Iterator.Adapters.{position_from-zero}
use Rattle.cap_bytes.specs.ClassReference.{reference_of}
use Rattle.cap_frame.specs.PackageFormat.{Package}
use Rattle.cap_package.specs.PackageRecord.{PackageRecord}
use Rattle.jc_base.specs.World.{Linked}
use Rattle.first_fault.specs.First.{AllEmpty}
use Rattle.jc_resolve.specs.declared.fault.LinkFault.{LinkFault}
use Rattle.jc_resolve.specs.Conditions as names
use Rattle.jc_resolve.specs.Conditions.{class_references, no_package_fault}
use Rattle.jc_resolve.specs.References.{meets_import, import_of, met_by}
use Rattle.jc_resolve.proofs.Faultless.{one_of_get, faultless_at, both_faultless}
use Rattle.jc_resolve.proofs.ConditionLists.{AllEmpty-after}
use Rattle.jc_resolve.proofs.NamesFaultless.{names_faultless}
use Rattle.jc_resolve.proofs.NamedClassLaws.{names-class}
use Rattle.jc_resolve.proofs.ReferenceLaws.{named-refers, refers-only}
use Rattle.jc_classes.proofs.Overlays.{slice_get-range}
use Rattle.jc_link.specs.Naming.{HaveNamedMembers}
use Rattle.jc_link.specs.Pools.{pools}
use Rattle.jc_link.specs.World.{table_of, statics_of, table_conditions, member_conditions, IsLinked}
use Rattle.jc_link.specs.OneEach.{IsAskedFor, NamesPackage, ImportsNameOne, ReferencesNameOne, NamesOneEach}
use Rattle.jc_link.proofs.EachNamed.{all_named}
use Rattle.jc_link.proofs.NamingLaws.{then_some}
use Rattle.jc_base.proofs.Lists.{slice_get-take}

-- ---- the first of a list that passes a test

record IsFirstFound {X : Type 0} (t : X → Bool) (xs : List X) (n : ℕ) : Type 0 where
  pub found : X
  pub there : slice_get xs n ≡ Some found
  pub passes : t found ≡ true
  pub before : (i : ℕ) (x : X) → i < n → slice_get xs i ≡ Some x → t x ≡ false

found-here : {X : Type 0} (t : X → Bool) (x : X) (xs : List X) → t x ≡ true → IsFirstFound t (x ∷ xs) 0
found-here t x xs h = record { found = x; there = refl; passes = h; before = λ i y lt at. absurd (omega (arith, lt)) }

found-later : {X : Type 0} (t : X → Bool) (x : X) (xs : List X) (n : ℕ) → t x ≡ false → IsFirstFound t xs n → IsFirstFound t (x ∷ xs) (suc n)
found-later {X} t x xs n h f = record { found = f.found; there = f.there; passes = f.passes; before = λ i y lt at. before i y lt at }
  where
    before : (i : ℕ) (y : X) → i < suc n → slice_get (x ∷ xs) i ≡ Some y → t y ≡ false
    before zero y lt at = let same : x ≡ y = cc in subst (λ z. t z ≡ false) same h
    before (suc i) y lt at = f.before i y (omega (arith, lt)) at

first-found-from : {X : Type 0} (t : X → Bool) (k : ℕ) (xs : List X) (j : ℕ) → position_from t k xs ≡ Some j
    → (n : ℕ) × (j ≡ k + n) × IsFirstFound t xs n
first-found-from t k [] j h = absurd cc
first-found-from {X} t k (x ∷ xs) j h = by (t x) refl h (λ e. first-found-from t (k + 1) xs j e)
  where
    by : (b : Bool) → t x ≡ b → cond b (Some k) (position_from t (k + 1) xs) ≡ Some j
        → (position_from t (k + 1) xs ≡ Some j → (n : ℕ) × (j ≡ (k + 1) + n) × IsFirstFound t xs n)
        → (n : ℕ) × (j ≡ k + n) × IsFirstFound t (x ∷ xs) n
    by true e h later = let same : k ≡ j = cc in (0, omega (arith, same), found-here t x xs e)
    by false e h later = let r = later h in (suc r.0, omega (arith, r.1), found-later t x xs r.0 e r.2)

first-found : {X : Type 0} (t : X → Bool) (xs : List X) (j : ℕ) → position t xs ≡ Some j → IsFirstFound t xs j
first-found t xs j h = grind (arith, first-found-from, position_from-zero)

-- ---- conditions

-- what the package of a number names is not at fault
named-faultless : (fault : ℕ × ℕ → Option LinkFault) (f : PackageRecord → List ℕ) (j : ℕ) (ps : List PackageRecord) (k : ℕ) (p : PackageRecord)
    → filter_map fault (names.named_after f j ps) ≡ [] → slice_get ps k ≡ Some p → filter_map fault (map (λ n. (j + k, n)) (f p)) ≡ []
named-faultless fault f j [] k p none at = absurd cc
named-faultless fault f j (q ∷ qs) zero p none at =
    let same : q ≡ p = cc in
    let here : j ≡ j + 0 = omega arith in
    let first = (both_faultless fault (map (λ n. (j, n)) (f q)) (names.named_after f (j + 1) qs) none).0 in
    subst (λ i. filter_map fault (map (λ n. (i, n)) (f p)) ≡ []) here (subst (λ r. filter_map fault (map (λ n. (j, n)) (f r)) ≡ []) same first)
named-faultless fault f j (q ∷ qs) (suc k) p none at =
    let next : (j + 1) + k ≡ j + suc k = omega arith in
    let later = (both_faultless fault (map (λ n. (j, n)) (f q)) (names.named_after f (j + 1) qs) none).1 in
    subst (λ i. filter_map fault (map (λ n. (i, n)) (f p)) ≡ []) next (named-faultless fault f (j + 1) qs k p later at)

-- ---- imports

asked-for : (asked : Package) (p : PackageRecord) → meets_import asked p ≡ true → IsAskedFor asked p
asked-for asked p h = grind (arith, and_parts, eqb, leb, bytes_eq-Decides, eqb-true, leb-true)

meets-asked : (asked : Package) (p : PackageRecord) → IsAskedFor asked p → meets_import asked p ≡ true
meets-asked asked p is = grind (arith, and_from, eqb, leb, bytes_eq-Decides, eq-eqb, le-leb)

module _ (ps : List PackageRecord) where
  position-names : (k j : ℕ) (asked : Package) → position (meets_import asked) (take k ps) ≡ Some j → NamesPackage ps k asked j
  position-names k j asked h =
      let f = first-found (meets_import asked) (take k ps) j h in
      let within = slice_get_within (take k ps) j f.found f.there in
      let lt : j < k = omega (arith, within, length-take k ps) in
      record {
        earlier = lt;
        met = record { found = f.found; there = sym (slice_get-take k j ps lt) ∙ f.there; meets = asked-for asked f.found f.passes };
        first = λ i less other.
            let at = slice_get-take k i ps (omega (arith, less, lt)) ∙ other.there in
            false≢true (sym (f.before i other.found less at) ∙ meets-asked asked other.found other.meets);
      }

  one-package : (k : ℕ) (asked : Package) (i j : ℕ) → NamesPackage ps k asked i → NamesPackage ps k asked j → i ≡ j
  one-package k asked i j a b = grind (arith, cases_lt)

  met-some : (k token : ℕ) (o : Option ℕ) → met_by ps k token ≡ o → no_package_fault ps (k, token) ≡ None → (j : ℕ) × (met_by ps k token ≡ Some j)
  unfolding no_package_fault
  met-some k token z e none = grind (arith)

  met-names : (k token j : ℕ) (asked : Package) → import_of ps k token ≡ Some asked → met_by ps k token ≡ Some j → NamesPackage ps k asked j
  unfolding met_by
  met-names k token j asked is h =
      position-names k j asked (sym (ap (option_and_then (λ a. position (meets_import a) (take k ps))) is) ∙ h)

  import-met : AllEmpty (names.conditions ps) → (k token : ℕ) (asked : Package) → import_of ps k token ≡ Some asked
      → (j : ℕ) × (met_by ps k token ≡ Some j)
  import-met none k token asked is =
      let p = then_some (λ (p : PackageRecord). slice_get p.imports token) (slice_get ps k) asked is in
      let lt = slice_get_within p.0.imports token asked p.2 in
      let place : 0 + k ≡ k = omega arith in
      let none-here = named-faultless (no_package_fault ps) names.import_tokens 0 ps k p.0 (names_faultless ps none).imports p.1 in
      let fault = faultless_at (no_package_fault ps) (map (λ n. (0 + k, n)) (names.import_tokens p.0)) token (0 + k, token) none-here
      (slice_get-range (λ n. (0 + k, n)) (length p.0.imports) token lt) in
      met-some k token (met_by ps k token) refl (subst (λ i. no_package_fault ps (i, token) ≡ None) place fault)

  imports-name : AllEmpty (names.conditions ps) → ImportsNameOne ps
  imports-name none = λ k token asked is.
      let met = import-met none k token asked is in
      let here = met-names k token met.0 asked is met.1 in
      (met.0, record { is = here; only = λ other there. one-package k asked other met.0 there here })

  -- ---- class references

  references-name : AllEmpty (names.conditions ps) → ReferencesNameOne ps
  references-name none = λ k n reference p at there.
      let named = names-class ps k p reference none at (one_of_get (class_references p) n reference there) in
      let refers = named-refers ps k reference named.number named.named in (
        named.number,
        named.below,
        record { is = refers; only = λ other h. refers-only ps k (reference_of reference) other named.number h refers },
      )

-- ---- all

module _ (ps : List PackageRecord) (roles : List ℕ) (w : Linked) where
  entries-name : IsLinked ps roles w → HaveNamedMembers ps w.classes w.statics w.pools
  entries-name is =
      let t = table_of ps roles in
      let statics = statics_of ps roles in
      let none = AllEmpty-after (table_conditions ps roles) (member_conditions ps roles) is.faultless in
      let here : HaveNamedMembers ps t statics (pools ps t statics) = all_named ps t statics none.1.0 in
      let a = subst (HaveNamedMembers ps t statics) (sym is.lists.pools) here in
      let b = subst (λ u. HaveNamedMembers ps u statics w.pools) (sym is.lists.classes) a in
      subst (λ fs. HaveNamedMembers ps w.classes fs w.pools) (sym is.lists.statics) b

  pub names-one-each : IsLinked ps roles w → NamesOneEach ps w
  names-one-each is = grind (arith, imports-name, references-name, entries-name)
