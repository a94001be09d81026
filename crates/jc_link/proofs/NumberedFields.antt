-- The fields of all classes, class by class in the order of the classes' numbers.
use Rattle.std.proofs.Common.{◌≡◌, ℕ, zero, suc, ◌+◌, ◌<◌, Bool, true, false, cond, eqb, List, [], ◌∷◌, ◌++◌, length, map}
use Rattle.std.proofs.Common.{append_assoc, Option, Some, None, slice_get, refl, sym, ap, ap₂, ◌∙◌, arith}
use Rattle.std.proofs.lemmas.Bool.Decides.{nat_tests}
use Rattle.std.proofs.lemmas.List.{append-nil, length-map}
use Rattle.cap_class.specs.ClassFormat.{Class}
use Rattle.cap_package.specs.PackageRecord.{PackageRecord}
use Rattle.jc_base.specs.declared.record.Member.{Member}
use Rattle.jc_base.specs.declared.record.Member.TheVariants.{Field}
use Rattle.jc_base.specs.Class.{ClassTable, parent_of, object}
use Rattle.jc_base.specs.Linked.{cells_above}
use Rattle.jc_resolve.specs.OwnFields.{own_with_token}
use Rattle.jc_resolve.specs.Numbering.{NumberedClass, numbered_class, numbered_classes_of, classes_after, numbered_classes}
use Rattle.jc_resolve.specs.declared.field_records.OwnField.{OwnField}
use Rattle.jc_link.specs.declared.sites.Spot.{Spot}
use Rattle.jc_link.specs.Sites.{MemberSite, only, members_standing, same_spot}
use Rattle.jc_link.specs.Members.{token_of_class}
use Rattle.jc_link.specs.Fields.{cells_before, field_site, class_sites, sites_of_classes, sites_after, field_sites}
use Rattle.jc_resolve.proofs.OwnCells.{own_of}

module _ (ps : List PackageRecord) (t : ClassTable) where
  abbrev numbered_sites : ℕ → List NumberedClass → List MemberSite
  numbered_sites c [] = []
  numbered_sites c (n ∷ ns) = class_sites t c (own_of ps (object t) n) ++ numbered_sites (c + 1) ns

  sites_append : (c : ℕ) (ms ns : List NumberedClass) → numbered_sites c (ms ++ ns) ≡ numbered_sites c ms ++ numbered_sites (c + length ms) ns
  sites_append c [] ns = grind (arith)
  sites_append c (m ∷ ms) ns = grind (arith, suc, append_assoc, sites_append (c + 1) ms ns)

  of_package : (k : ℕ) (p : PackageRecord) (c : ℕ) (rs : List Class) → sites_of_classes ps t k p c rs ≡ numbered_sites c (map (numbered_class k p) rs)
  of_package k p c [] = refl
  of_package k p c (r ∷ rs) =
      ap (λ (sites : List MemberSite). class_sites t c (own_of ps (object t) (numbered_class k p r)) ++ sites) (of_package k p (c + 1) rs)

  of_packages : (c k : ℕ) (qs : List PackageRecord) → sites_after ps t c k qs ≡ numbered_sites c (classes_after k qs)
  of_packages c k [] = refl
  of_packages c k (q ∷ qs) =
      let e : c + length q.classes ≡ c + length (numbered_classes_of k q) = ap (λ (n : ℕ). c + n) (sym (length-map q.classes (numbered_class k q))) in
      ap₂ ◌++◌ (of_package k q c q.classes)
      (of_packages (c + length q.classes) (k + 1) qs ∙ ap (λ (i : ℕ). numbered_sites i (classes_after (k + 1) qs)) e)
      ∙ sym (sites_append c (numbered_classes_of k q) (classes_after (k + 1) qs))

  -- ---- the fields with a token of a class

  standing_append : (spot : Spot) (xs ys : List MemberSite) → members_standing (xs ++ ys) spot ≡ members_standing xs spot ++ members_standing ys spot
  standing_append spot [] ys = refl
  standing_append spot (x ∷ xs) ys = by (same_spot spot x.spot) (standing_append spot xs ys)
    where
      by : (b : Bool) → members_standing (xs ++ ys) spot ≡ members_standing xs spot ++ members_standing ys spot
          → cond b (x.member ∷ members_standing (xs ++ ys) spot) (members_standing (xs ++ ys) spot) ≡ cond b (x.member ∷ members_standing xs spot)
          (members_standing xs spot) ++ members_standing ys spot
      by true others = ap (λ (ms : List Member). x.member ∷ ms) others
      by false others = others

  -- a field of a class as the one that stands there
  abbrev pub field_at : ℕ → List OwnField → OwnField → Member
  field_at c own f = Field c (cells_above t (parent_of t c) + cells_before own f.token) f.kind f.ty

  turned : (a b : ℕ) → eqb a b ≡ eqb b a
  turned a b = grind (arith, nat_tests)

  in_class : (c h token : ℕ) (own fs : List OwnField) (b : Bool) → eqb h c ≡ b
      → members_standing (map (field_site (cells_above t (parent_of t c)) c own) fs) (token_of_class h token)
      ≡ cond b (map (field_at c own) (own_with_token fs token)) []
  in_class c h token own [] true e = refl
  in_class c h token own [] false e = refl
  in_class c h token own (f ∷ fs) true e = rw (e, turned token f.token) (by (eqb f.token token) (in_class c h token own fs true e))
    where
      by : (b : Bool) → members_standing (map (field_site (cells_above t (parent_of t c)) c own) fs) (token_of_class h token) ≡ map (field_at c own)
          (own_with_token fs token)
          → cond b (field_at c own f ∷ members_standing (map (field_site (cells_above t (parent_of t c)) c own) fs) (token_of_class h token))
          (members_standing (map (field_site (cells_above t (parent_of t c)) c own) fs) (token_of_class h token))
          ≡ map (field_at c own) (cond b (f ∷ own_with_token fs token) (own_with_token fs token))
      by true others = ap (λ (ms : List Member). field_at c own f ∷ ms) others
      by false others = others
  in_class c h token own (f ∷ fs) false e = rw e (in_class c h token own fs false e)

  abbrev members_at : ℕ → ℕ → Option NumberedClass → List Member
  members_at h token None = []
  members_at h token (Some n) = map (field_at h (own_of ps (object t) n)) (own_with_token (own_of ps (object t) n) token)

  other : (a b : ℕ) → a < b → eqb a b ≡ false
  other a b lt = grind (arith, nat_tests)

  other_back : (a b : ℕ) → a < b → eqb b a ≡ false
  other_back a b lt = grind (arith, nat_tests)

  same : (a : ℕ) → eqb a a ≡ true
  same a = grind (arith, nat_tests)

  none_before : (ns : List NumberedClass) (c h token : ℕ) → h < c → members_standing (numbered_sites c ns) (token_of_class h token) ≡ []
  none_before [] c h token lt = refl
  none_before (n ∷ ns) c h token lt =
      let further : h < c + 1 = omega arith in
      standing_append (token_of_class h token) (class_sites t c (own_of ps (object t) n)) (numbered_sites (c + 1) ns)
      ∙ ap₂ ◌++◌ (in_class c h token (own_of ps (object t) n) (own_of ps (object t) n) false (other h c lt)) (none_before ns (c + 1) h token further)

  located : (ns : List NumberedClass) (c i h token : ℕ) → h ≡ c + i → members_standing (numbered_sites c ns) (token_of_class h token)
      ≡ members_at h token (slice_get ns i)
  located [] c i h token e = refl
  located (n ∷ ns) c zero h token e = grind (arith, standing_append, ap₂, in_class, eqb, none_before, append-nil)
  located (n ∷ ns) c (suc i) h token e =
      let below : c < h = omega arith in
      let further : h ≡ (c + 1) + i = omega arith in
      standing_append (token_of_class h token) (class_sites t c (own_of ps (object t) n)) (numbered_sites (c + 1) ns)
      ∙ ap₂ ◌++◌ (in_class c h token (own_of ps (object t) n) (own_of ps (object t) n) false (other_back c h below))
      (located ns (c + 1) i h token further)

  -- the only field with a token of the class with a number
  pub record StandsIn (h token : ℕ) (m : Member) : Type 0 where
    pub class : NumberedClass
    pub there : slice_get (numbered_classes ps) h ≡ Some class
    pub field : OwnField
    pub one : own_with_token (own_of ps (object t) class) token ≡ field ∷ []
    pub is : field_at h (own_of ps (object t) class) field ≡ m

  one_of : (h token : ℕ) (m : Member) (n : NumberedClass) (fs : List OwnField) → slice_get (numbered_classes ps) h ≡ Some n
      → own_with_token (own_of ps (object t) n) token ≡ fs
      → only (map (field_at h (own_of ps (object t) n)) fs) ≡ Some m → StandsIn h token m
  one_of h token m n [] there e found = absurd cc
  one_of h token m n (f ∷ []) there e found = grind (arith)
  one_of h token m n (f ∷ g ∷ fs) there e found = absurd cc

  found_in : (h token : ℕ) (m : Member) (o : Option NumberedClass) → slice_get (numbered_classes ps) h ≡ o → only (members_at h token o) ≡ Some m
      → StandsIn h token m
  found_in h token m u there found = grind (arith, one_of)

  pub stands_in : (h token : ℕ) (m : Member) → only (members_standing (field_sites ps t) (token_of_class h token)) ≡ Some m → StandsIn h token m
  stands_in h token m found =
      let e : h ≡ 0 + h = omega arith in
      let are : members_standing (field_sites ps t) (token_of_class h token) ≡ members_at h token (slice_get (numbered_classes ps) h) =
      ap (λ (sites : List MemberSite). members_standing sites (token_of_class h token)) (of_packages 0 0 ps) ∙ located (numbered_classes ps) 0 h h token e in
      found_in h token m (slice_get (numbered_classes ps) h) refl (sym (ap only are) ∙ found)
