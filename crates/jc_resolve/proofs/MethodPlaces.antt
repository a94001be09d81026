-- No two methods stand at one place of a Method component, and no two of a package have the same two numbers.
use Rattle.std.proofs.Common.{◌≡◌, ℕ, ◌+◌, ◌<◌, ◌≤◌, ◌⊎◌, Bool, true, false, not, ltb, max, min, cond, List, [], ◌∷◌}
use Rattle.std.proofs.Common.{◌++◌, length, map, Option, Some, None, refl, sym, ap, ◌∙◌, arith, inl, inr}
use Rattle.std.specs.Prelude.{All, slice_get, option_map}
use Rattle.std.specs.List.{filter_map}
use Rattle.std.proofs.lemmas.Bool.{lt-ltb, true≢false}
use Rattle.std.proofs.lemmas.List.Elements.{All-head, All-tail}
use Rattle.std.proofs.lemmas.Option.{slice_get-map}
use Rattle.first_fault.proofs.LeastFaults.{faultless_first}
use Rattle.cap_components.specs.declared.fault.PackFault.{PackFault}
use Rattle.cap_desc.specs.DescriptorFormat as described
use Rattle.cap_desc.specs.DescriptorFormat.{MethodDescriptor}
use Rattle.cap_desc.specs.Members.{methods_but}
use Rattle.cap_package.specs.MethodChecks.{code_end, overlap_fault, overlap_pair, outside_fault}
use Rattle.cap_package.specs.PackageRecord.{PackageRecord, names_interface, described_methods}
use Rattle.cap_package.specs.Pairs.{pairs}
use Rattle.cap_package.proofs.Agreed.{agrees}
use Rattle.cap_package.proofs.HeaderLaws.{ends-within}
use Rattle.cap_package.proofs.Overlaps.{method_some}
use Rattle.jc_base.specs.declared.record.MethodRec.{MethodRec}
use Rattle.jc_base.specs.Each.{Each}
use Rattle.jc_base.proofs.Eaching.{Each-append, Each-weaker}
use Rattle.jc_resolve.specs.declared.fault.RecordPlace.{RecordPlace}
use Rattle.jc_resolve.specs.Named.{IsAgreed}
use Rattle.jc_resolve.specs.NamedMethods.{named_method, named_methods}
use Rattle.jc_resolve.specs.Numbering.{NumberedMethod, numbered_method, is_placed, methods_of_class}
use Rattle.jc_resolve.specs.Numbering.{methods_of_classes, methods_after, numbered_methods}
use Rattle.jc_resolve.specs.Numbering.{place_of_method}
use Rattle.jc_resolve.specs.OwnPlaces.{HaveOwnPlaces}
use Rattle.jc_resolve.proofs.ClassPlaces.{classes_apart}
use Rattle.jc_resolve.proofs.Faultless.{both_faultless}
use Rattle.jc_resolve.proofs.Pairwise.{each-split, Pairwise, pairwise-append, pairwise-split, one-place}

-- ---- the methods that a package describes

each_faultless : {X Y Z : Type 0} (f : Y → Option Z) (g : X → Y) (xs : List X) → filter_map f (map g xs) ≡ [] → Each (λ x. f (g x) ≡ None) xs
each_faultless f g [] e = tt {0}
each_faultless f g (x ∷ xs) e = let both = faultless_first (f (g x)) (filter_map f (map g xs)) e in (both.0, each_faultless f g xs both.1)

all_faultless : {X Z : Type 0} (f : X → Option Z) (xs : List X) → filter_map f xs ≡ [] → Each (λ x. f x ≡ None) xs
all_faultless f [] e = tt {0}
all_faultless f (x ∷ xs) e = let both = faultless_first (f x) (filter_map f xs) e in (both.0, all_faultless f xs both.1)

abbrev IsApart : MethodDescriptor → MethodDescriptor → Type 0
IsApart a b = a.method_offset ≡ b.method_offset → ⊥

shared_by : (fault : PackFault) (b : Bool) → cond b (Some fault) None ≡ None → b ≡ false
shared_by fault y h = grind (arith)

no_share : (info : List ℕ) (a b : MethodDescriptor) → overlap_fault info a b ≡ None
    → ltb (max a.method_offset b.method_offset) (min (min (code_end info a) (code_end info b)) (length info)) ≡ false
unfolding overlap_fault
no_share info a b h = grind (arith, shared_by, min, max, ltb)

-- a method that shares no byte with one that lies in the info stands elsewhere
stands_apart : (info : List ℕ) (a b : MethodDescriptor) → code_end info a ≤ length info → overlap_fault info a b ≡ None → IsApart a b
stands_apart info a b inside none same =
    let first = method_some info a in
    let second = method_some info b in
    let below : max a.method_offset b.method_offset < min (min (code_end info a) (code_end info b)) (length info) = omega arith in
    true≢false (sym (lt-ltb _ _ below) ∙ no_share info a b none)

pairs_apart : (info : List ℕ) (count : ℕ) (ms : List MethodDescriptor) → Each (λ m. outside_fault info count m ≡ None) ms
    → filter_map (overlap_pair info) (pairs ms) ≡ [] → Pairwise IsApart ms
pairs_apart info count [] inside e = tt {0}
pairs_apart info count (m ∷ ms) inside e =
    let both = both_faultless (overlap_pair info) (map (λ n. (m, n)) ms) (pairs ms) e in
    let none = each_faultless (overlap_pair info) (λ n. (m, n)) ms both.0 in (
      Each-weaker (λ n. overlap_fault info m n ≡ None) (IsApart m) (λ n h. stands_apart info m n (ends-within info count m inside.0) h) ms none,
      pairs_apart info count ms inside.1 both.1,
    )

described_apart : (p : PackageRecord) → IsAgreed p → Pairwise IsApart (described_methods p)
described_apart p stands =
    let agreed = agrees p.parts p stands.agree in
    pairs_apart p.methods.info (length p.methods.handlers) (described_methods p)
    (all_faultless (outside_fault p.methods.info (length p.methods.handlers)) (described_methods p) agreed.outside)
    agreed.overlaps

-- ---- methods at places

abbrev At : RecordPlace → NumberedMethod → Type 0
At place m = place_of_method m ≡ Some place

-- no place is that of both
abbrev Differ : NumberedMethod → NumberedMethod → Type 0
Differ m n = (place : RecordPlace) → At place m → At place n → ⊥

offset_by : (b : Bool) (k : ℕ) (m : MethodDescriptor) (place : RecordPlace) → cond b (Some (record { «package» = k; offset = m.method_offset })) None
    ≡ Some place → m.method_offset ≡ place.offset
offset_by x k m place h = grind (arith)

home_by : (b : Bool) (k offset : ℕ) (place : RecordPlace) → cond b (Some (record { «package» = k; offset = offset })) None ≡ Some place
    → k ≡ place.package
home_by x k offset place h = grind (arith)

-- a method whose offset is not that of another, if it stands in the component
abbrev IsElsewhere : MethodDescriptor → NumberedMethod → Type 0
IsElsewhere a n = (place : RecordPlace) → At place n → a.method_offset ≡ place.offset → ⊥

in_class : (a : MethodDescriptor) (k : ℕ) (p : PackageRecord) (number : ℕ) (c : described.ClassDescriptor) (i : ℕ) (ms : List MethodDescriptor)
    → Each (IsApart a) ms → Each (IsElsewhere a) (methods_of_class k p number c i ms)
in_class a k p number c i [] h = tt {0}
in_class a k p number c i (m ∷ ms) h = grind (arith, in_class a k p number c (i + 1) ms h.1)

not_placed : (a : MethodDescriptor) (k : ℕ) (p : PackageRecord) (number : ℕ) (c : described.ClassDescriptor) (i : ℕ) (ms : List MethodDescriptor)
    → is_placed p c ≡ false → Each (IsElsewhere a) (methods_of_class k p number c i ms)
not_placed a k p number c i [] e = tt {0}
not_placed a k p number c i (m ∷ ms) e =
    (λ place at same. nowhere (record { «package» = k; offset = m.method_offset }) place (is_placed p c) e at, not_placed a k p number c (i + 1) ms e)
  where
    nowhere : (here place : RecordPlace) (b : Bool) → b ≡ false → cond b (Some here) None ≡ Some place → ⊥
    nowhere here place true f h = true≢false f
    nowhere here place false f h = cc

module _ (k : ℕ) (p : PackageRecord) where
  abbrev interfaces : ℕ → Bool
  interfaces = names_interface p.classes

  elsewhere : (a : MethodDescriptor) (number : ℕ) (cs : List described.ClassDescriptor) → Each (IsApart a) (methods_but interfaces cs)
      → Each (IsElsewhere a) (methods_of_classes k p number cs)
  elsewhere a number [] h = tt {0}
  elsewhere a number (c ∷ cs) h = by (interfaces c.class_ref) refl h (λ g. elsewhere a (number + 1) cs g)
    where
      by : (b : Bool) → interfaces c.class_ref ≡ b → Each (IsApart a) (cond b (methods_but interfaces cs) (c.methods ++ methods_but interfaces cs))
          → (Each (IsApart a) (methods_but interfaces cs) → Each (IsElsewhere a) (methods_of_classes k p (number + 1) cs))
          → Each (IsElsewhere a) (methods_of_class k p number c 0 c.methods ++ methods_of_classes k p (number + 1) cs)
      by false e g rest =
          let both = each-split (IsApart a) c.methods (methods_but interfaces cs) g in
          Each-append (IsElsewhere a) (methods_of_class k p number c 0 c.methods) (methods_of_classes k p (number + 1) cs)
          (in_class a k p number c 0 c.methods both.0) (rest both.1)
      by true e g rest =
          Each-append (IsElsewhere a) (methods_of_class k p number c 0 c.methods) (methods_of_classes k p (number + 1) cs)
          (not_placed a k p number c 0 c.methods (ap not e)) (rest g)

  -- the methods of a class, before others
  class_differs : (number : ℕ) (c : described.ClassDescriptor) (i : ℕ) (ms : List MethodDescriptor) (others : List NumberedMethod)
      → Pairwise IsApart ms → Each (λ a. Each (IsElsewhere a) others) ms → Pairwise Differ others
      → Pairwise Differ (methods_of_class k p number c i ms ++ others)
  class_differs number c i [] others a b d = d
  class_differs number c i (m ∷ ms) others a b d =
      let P = λ (n : NumberedMethod) (f : IsElsewhere m n) (place : RecordPlace) (here : At place (numbered_method k p number c i m)) (there : At place n).
      f place there (offset_by (is_placed p c) k m place here) in
      let front = Each-weaker (IsElsewhere m) (Differ (numbered_method k p number c i m)) P (methods_of_class k p number c (i + 1) ms)
      (in_class m k p number c (i + 1) ms a.0) in
      let back = Each-weaker (IsElsewhere m) (Differ (numbered_method k p number c i m)) P others b.0 in (
        Each-append (Differ (numbered_method k p number c i m)) (methods_of_class k p number c (i + 1) ms) others front back,
        class_differs number c (i + 1) ms others a.1 b.1 d,
      )

  -- those of a class that stands elsewhere
  unplaced_differs : (number : ℕ) (c : described.ClassDescriptor) (i : ℕ) (ms : List MethodDescriptor) (others : List NumberedMethod)
      → is_placed p c ≡ false → Pairwise Differ others → Pairwise Differ (methods_of_class k p number c i ms ++ others)
  unplaced_differs number c i [] others e d = d
  unplaced_differs number c i (m ∷ ms) others e d =
      (all_differ (methods_of_class k p number c (i + 1) ms ++ others), unplaced_differs number c (i + 1) ms others e d)
    where
      nowhere : (here place : RecordPlace) (b : Bool) → b ≡ false → cond b (Some here) None ≡ Some place → ⊥
      nowhere here place true f h = true≢false f
      nowhere here place false f h = cc

      all_differ : (ns : List NumberedMethod) → Each (Differ (numbered_method k p number c i m)) ns
      all_differ [] = tt {0}
      all_differ (n ∷ ns) = (λ place at there. nowhere (record { «package» = k; offset = m.method_offset }) place (is_placed p c) e at, all_differ ns)

  classes_differ : (number : ℕ) (cs : List described.ClassDescriptor) → Pairwise IsApart (methods_but interfaces cs)
      → Pairwise Differ (methods_of_classes k p number cs)
  classes_differ number [] h = tt {0}
  classes_differ number (c ∷ cs) h = by (interfaces c.class_ref) refl h (λ g. classes_differ (number + 1) cs g)
    where
      by : (b : Bool) → interfaces c.class_ref ≡ b → Pairwise IsApart (cond b (methods_but interfaces cs) (c.methods ++ methods_but interfaces cs))
          → (Pairwise IsApart (methods_but interfaces cs) → Pairwise Differ (methods_of_classes k p (number + 1) cs))
          → Pairwise Differ (methods_of_class k p number c 0 c.methods ++ methods_of_classes k p (number + 1) cs)
      by false e g rest =
          let s = pairwise-split IsApart c.methods (methods_but interfaces cs) g in
          class_differs number c 0 c.methods (methods_of_classes k p (number + 1) cs) s.front
          (Each-weaker (λ a. Each (IsApart a) (methods_but interfaces cs)) (λ a. Each (IsElsewhere a) (methods_of_classes k p (number + 1) cs))
          (λ a f. elsewhere a (number + 1) cs f) c.methods s.across) (rest s.back)
      by true e g rest = unplaced_differs number c 0 c.methods (methods_of_classes k p (number + 1) cs) (ap not e) (rest g)

-- ---- numbers

-- a method of an earlier package, or of an earlier class of it, or before another in its class
abbrev IsEarlier : NumberedMethod → NumberedMethod → Type 0
IsEarlier m n = (m.home < n.home) ⊎ ((m.home ≡ n.home) × ((m.class_no < n.class_no) ⊎ ((m.class_no ≡ n.class_no) × (m.method_no < n.method_no))))

-- a method of the package k
pub record IsOf (k low : ℕ) (n : NumberedMethod) : Type 0 where
  pub home : n.home ≡ k
  pub class : low ≤ n.class_no

pub record IsOfClass (k number low : ℕ) (n : NumberedMethod) : Type 0 where
  pub home : n.home ≡ k
  pub class : n.class_no ≡ number
  pub method : low ≤ n.method_no

of_class : (k : ℕ) (p : PackageRecord) (number : ℕ) (c : described.ClassDescriptor) (i : ℕ) (ms : List MethodDescriptor)
    → Each (IsOfClass k number i) (methods_of_class k p number c i ms)
of_class k p number c i [] = tt {0}
of_class k p number c i (m ∷ ms) = (
  record { home = refl; class = refl; method = omega arith },
  Each-weaker (IsOfClass k number (i + 1)) (IsOfClass k number i)
      (λ n h. let low = h.method in record { home = h.home; class = h.class; method = omega arith }) (methods_of_class k p number c (i + 1) ms)
      (of_class k p number c (i + 1) ms),
)

of_classes : (k : ℕ) (p : PackageRecord) (number : ℕ) (cs : List described.ClassDescriptor) → Each (IsOf k number) (methods_of_classes k p number cs)
of_classes k p number [] = tt {0}
of_classes k p number (c ∷ cs) =
    Each-append (IsOf k number) (methods_of_class k p number c 0 c.methods) (methods_of_classes k p (number + 1) cs)
    (Each-weaker (IsOfClass k number 0) (IsOf k number) (λ n h. let same = h.class in record { home = h.home; class = omega arith })
    (methods_of_class k p number c 0 c.methods) (of_class k p number c 0 c.methods))
    (Each-weaker (IsOf k (number + 1)) (IsOf k number) (λ n h. let low = h.class in record { home = h.home; class = omega arith })
    (methods_of_classes k p (number + 1) cs) (of_classes k p (number + 1) cs))

class_earlier : (k : ℕ) (p : PackageRecord) (number : ℕ) (c : described.ClassDescriptor) (i : ℕ) (ms : List MethodDescriptor)
    (others : List NumberedMethod) → Each (IsOf k (number + 1)) others → Pairwise IsEarlier others
    → Pairwise IsEarlier (methods_of_class k p number c i ms ++ others)
class_earlier k p number c i [] others later d = d
class_earlier k p number c i (m ∷ ms) others later d =
    let here = numbered_method k p number c i m in (
      Each-append (IsEarlier here) (methods_of_class k p number c (i + 1) ms) others
          (Each-weaker (IsOfClass k number (i + 1)) (IsEarlier here) (λ n h. let low = h.method in inr (sym h.home, inr (sym h.class, omega arith)))
          (methods_of_class k p number c (i + 1) ms) (of_class k p number c (i + 1) ms))
          (Each-weaker (IsOf k (number + 1)) (IsEarlier here) (λ n h. let low = h.class in inr (sym h.home, inl (omega arith))) others later),
      class_earlier k p number c (i + 1) ms others later d,
    )

classes_earlier : (k : ℕ) (p : PackageRecord) (number : ℕ) (cs : List described.ClassDescriptor) → Pairwise IsEarlier (methods_of_classes k p number cs)
classes_earlier k p number [] = tt {0}
classes_earlier k p number (c ∷ cs) = grind (arith, class_earlier, of_classes, classes_earlier k p (number + 1) cs)

-- ---- all packages

homes_from : (k : ℕ) (ps : List PackageRecord) → Each (λ (n : NumberedMethod). k ≤ n.home) (methods_after k ps)
homes_from k [] = tt {0}
homes_from k (p ∷ ps) =
    let P = λ (n : NumberedMethod). k ≤ n.home in
    Each-append P (methods_of_classes k p 0 p.description.items.classes) (methods_after (k + 1) ps)
    (Each-weaker (IsOf k 0) P (λ n h. let same = h.home in omega arith) (methods_of_classes k p 0 p.description.items.classes)
    (of_classes k p 0 p.description.items.classes))
    (Each-weaker (λ (n : NumberedMethod). k + 1 ≤ n.home) P (λ n le. omega arith) (methods_after (k + 1) ps) (homes_from (k + 1) ps))

other_homes : (m n : NumberedMethod) → m.home < n.home → Differ m n
other_homes m n lt place here there = grind (arith, home_by)

packages_differ : (k : ℕ) (ps : List PackageRecord) → All IsAgreed ps → Pairwise Differ (methods_after k ps)
packages_differ k [] agreed = tt {0}
packages_differ k (p ∷ ps) agreed =
    let own = methods_of_classes k p 0 p.description.items.classes in
    pairwise-append Differ own (methods_after (k + 1) ps)
    (classes_differ k p 0 p.description.items.classes (described_apart p (All-head IsAgreed p ps agreed)))
    (packages_differ (k + 1) ps (All-tail IsAgreed p ps agreed))
    (Each-weaker (IsOf k 0) (λ m. Each (Differ m) (methods_after (k + 1) ps))
    (λ m h. let same = h.home in Each-weaker (λ (n : NumberedMethod). k + 1 ≤ n.home) (Differ m) (λ n le. other_homes m n (omega arith))
    (methods_after (k + 1) ps) (homes_from (k + 1) ps)) own (of_classes k p 0 p.description.items.classes))

packages_earlier : (k : ℕ) (ps : List PackageRecord) → Pairwise IsEarlier (methods_after k ps)
packages_earlier k [] = tt {0}
packages_earlier k (p ∷ ps) =
    let own = methods_of_classes k p 0 p.description.items.classes in
    pairwise-append IsEarlier own (methods_after (k + 1) ps)
    (classes_earlier k p 0 p.description.items.classes)
    (packages_earlier (k + 1) ps)
    (Each-weaker (IsOf k 0) (λ m. Each (IsEarlier m) (methods_after (k + 1) ps))
    (λ m h. let same = h.home in Each-weaker (λ (n : NumberedMethod). k + 1 ≤ n.home) (IsEarlier m) (λ n le. inl (omega arith))
    (methods_after (k + 1) ps) (homes_from (k + 1) ps)) own (of_classes k p 0 p.description.items.classes))

at_place : (o : Option NumberedMethod) (place : RecordPlace) → option_map place_of_method o ≡ Some (Some place) → (m : NumberedMethod)
    × (o ≡ Some m) × At place m
at_place x place h = grind (arith)

-- the numbers of a method are those of its record
pub record HasNumbers (m : NumberedMethod) (r : MethodRec) : Type 0 where
  pub home : m.home ≡ r.«package»
  pub class : m.class_no ≡ r.class_no
  pub method : m.method_no ≡ r.method_no

same_numbers : (ps : List PackageRecord) (roles : List ℕ) (m : NumberedMethod) → HasNumbers m (named_method ps roles m)
unfolding named_method
same_numbers ps roles m = record { home = refl; class = refl; method = refl }

at_number : (ps : List PackageRecord) (roles : List ℕ) (o : Option NumberedMethod) (r : MethodRec) → option_map (named_method ps roles) o ≡ Some r
    → (m : NumberedMethod) × (o ≡ Some m) × HasNumbers m r
at_number ps roles z r h = grind (arith, same_numbers)

never_earlier : (m n : NumberedMethod) (a b : MethodRec) → HasNumbers m a → HasNumbers n b → a.«package» ≡ b.«package»
    → a.class_no ≡ b.class_no → a.method_no ≡ b.method_no → IsEarlier m n → ⊥
never_earlier m n a b x y home class method d = grind (arith)

numbers_apart : (ps : List PackageRecord) (roles : List ℕ) (i j : ℕ) (a b : MethodRec) → slice_get (named_methods ps roles) i ≡ Some a
    → slice_get (named_methods ps roles) j ≡ Some b → a.«package» ≡ b.«package» → a.class_no ≡ b.class_no → a.method_no ≡ b.method_no
    → i ≡ j
unfolding named_methods
numbers_apart ps roles i j a b e f home class method =
    let m = at_number ps roles (slice_get (numbered_methods ps) i) a (sym (slice_get-map (named_method ps roles) (numbered_methods ps) i) ∙ e) in
    let n = at_number ps roles (slice_get (numbered_methods ps) j) b (sym (slice_get-map (named_method ps roles) (numbered_methods ps) j) ∙ f) in
    one-place IsEarlier (numbered_methods ps) i j m.0 n.0 (packages_earlier 0 ps) m.1 n.1 (never_earlier m.0 n.0 a b m.2 n.2 home class method)
    (never_earlier n.0 m.0 b a n.2 m.2 (sym home) (sym class) (sym method))

-- classes and methods of packages whose parts agree have places and numbers of their own
pub own_places : (ps : List PackageRecord) (roles : List ℕ) → All IsAgreed ps → HaveOwnPlaces ps (named_methods ps roles)
own_places ps roles agreed = grind (arith, classes_apart, numbers_apart, slice_get-map, one-place, packages_differ)
