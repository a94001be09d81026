-- Classes and methods of the packages before keep their numbers, and those of the packages that are added come after them.
use Rattle.std.proofs.Common.{◌≡◌, ◌<◌, ◌≤◌, ◌+◌, ℕ, zero, suc, List, [], ◌∷◌, ◌++◌, length, map, slice_get, position, Bool, true, false}
use Rattle.std.proofs.Common.{Option, Some, None, IfSome, refl, ap, ◌∙◌, arith, append_assoc}
use Rattle.std.specs.Prelude.{◌==◌, ◌&&◌, if◌then◌else◌}
use Rattle.std.proofs.lemmas.List.{map-append}
use Rattle.cap_desc.specs.DescriptorFormat.{ClassDescriptor, MethodDescriptor}
use Rattle.cap_package.specs.PackageRecord.{PackageRecord}
use Rattle.jc_resolve.specs.declared.fault.RecordPlace.{RecordPlace}
use Rattle.jc_resolve.specs.Numbering.{NumberedClass, classes_after, numbered_classes, place_of_class, class_places}
use Rattle.jc_resolve.specs.Numbering.{class_at, same_place, is_interface_number}
use Rattle.jc_resolve.specs.Numbering.{NumberedMethod, numbered_method, methods_of_class, methods_of_classes, methods_after, numbered_methods, place_of_method}
use Rattle.jc_resolve.specs.Numbering.{method_places, is_at, method_at}
use Rattle.law_added.proofs.Lists.{position_front}
use Rattle.jc_base.proofs.Lists.{slice_get-left}

-- ---- numbers of packages

pub other : (a b : ℕ) → a < b → (a == b) ≡ false
other a b lt = grind (arith, lt)

apart_by : (a b : ℕ) (c : Bool) → a < b → (a == b) && c ≡ false
apart_by a b c lt = ap (λ x. x && c) (other a b lt)

-- a property of each of two lists, one after the other
pub each_both : {X : Type 0} (P : X → Type 0) (xs ys : List X) → ((n : ℕ) → IfSome (slice_get xs n) P) → ((n : ℕ) → IfSome (slice_get ys n) P)
    → (n : ℕ) → IfSome (slice_get (xs ++ ys) n) P
each_both P [] ys a b n = b n
each_both P (x ∷ xs) ys a b zero = a 0
each_both P (x ∷ xs) ys a b (suc n) = each_both P xs ys (λ k. a (suc k)) b n

pub each_mapped : {X Y : Type 0} (P : Y → Type 0) (f : X → Y) (xs : List X) → ((n : ℕ) → IfSome (slice_get xs n) (λ x. P (f x)))
    → (n : ℕ) → IfSome (slice_get (map f xs) n) P
each_mapped P f [] h n = tt
each_mapped P f (x ∷ xs) h zero = h 0
each_mapped P f (x ∷ xs) h (suc n) = each_mapped P f xs (λ k. h (suc k)) n

pub every : {X : Type 0} (P : X → Type 0) → ((x : X) → P x) → (xs : List X) (n : ℕ) → IfSome (slice_get xs n) P
every P h [] n = tt
every P h (x ∷ xs) zero = h x
every P h (x ∷ xs) (suc n) = every P h xs n

-- ---- classes

pub classes_split : (k : ℕ) (ps qs : List PackageRecord) → classes_after k (ps ++ qs) ≡ classes_after k ps ++ classes_after (k + length ps) qs
classes_split k [] qs = ap (λ n. classes_after n qs) (let e : k ≡ k + 0 = omega arith in e)
classes_split k (p ∷ ps) qs = grind (arith, length, suc, append_assoc, classes_split (k + 1) ps qs)

-- the classes from a package's number on are of packages from that number on
pub classes_from : (least k : ℕ) (ps : List PackageRecord) → least ≤ k → (n : ℕ) → IfSome (slice_get (classes_after k ps) n) (λ c. least ≤ c.home)
classes_from least k [] le n = tt
classes_from least k (p ∷ ps) le n = grind (arith, each_both, each_mapped, every, classes_from least (k + 1) ps (omega (arith, le)))

-- and before the number of the next one
pub classes_until : (k : ℕ) (ps : List PackageRecord) (n : ℕ) → IfSome (slice_get (classes_after k ps) n) (λ c. c.home < k + length ps)
classes_until k [] n = tt
classes_until k (p ∷ ps) n = grind (arith, suc, length, each_both, each_mapped, every, slice_get, classes_until (k + 1) ps)

-- ---- methods

pub methods_split : (k : ℕ) (ps qs : List PackageRecord) → methods_after k (ps ++ qs) ≡ methods_after k ps ++ methods_after (k + length ps) qs
methods_split k [] qs = ap (λ n. methods_after n qs) (let e : k ≡ k + 0 = omega arith in e)
methods_split k (p ∷ ps) qs = grind (arith, length, suc, append_assoc, methods_split (k + 1) ps qs)

in_class : (P : NumberedMethod → Type 0) (k : ℕ) (p : PackageRecord)
    → ((i : ℕ) (c : ClassDescriptor) (j : ℕ) (m : MethodDescriptor) → P (numbered_method k p i c j m))
    → (i : ℕ) (c : ClassDescriptor) (j : ℕ) (ms : List MethodDescriptor) (n : ℕ) → IfSome (slice_get (methods_of_class k p i c j ms) n) P
in_class P k p h i c j [] n = tt
in_class P k p h i c j (m ∷ ms) zero = h i c j m
in_class P k p h i c j (m ∷ ms) (suc n) = in_class P k p h i c (j + 1) ms n

in_classes : (P : NumberedMethod → Type 0) (k : ℕ) (p : PackageRecord)
    → ((i : ℕ) (c : ClassDescriptor) (j : ℕ) (m : MethodDescriptor) → P (numbered_method k p i c j m))
    → (i : ℕ) (cs : List ClassDescriptor) (n : ℕ) → IfSome (slice_get (methods_of_classes k p i cs) n) P
in_classes P k p h i [] n = tt
in_classes P k p h i (c ∷ cs) n = grind (arith, each_both, in_class, in_classes P k p h (i + 1) cs)

pub methods_from : (least k : ℕ) (ps : List PackageRecord) → least ≤ k → (n : ℕ) → IfSome (slice_get (methods_after k ps) n) (λ m. least ≤ m.home)
methods_from least k [] le n = tt
methods_from least k (p ∷ ps) le n = grind (arith, each_both, in_classes, methods_from least (k + 1) ps (omega (arith, le)))

pub methods_until : (k : ℕ) (ps : List PackageRecord) (n : ℕ) → IfSome (slice_get (methods_after k ps) n) (λ m. m.home < k + length ps)
methods_until k [] n = tt
methods_until k (p ∷ ps) n = grind (arith, suc, length, each_both, in_classes, slice_get, methods_until (k + 1) ps)

-- ---- packages with more after them

module _ (ps qs : List PackageRecord) where
  pub classes_are : numbered_classes (ps ++ qs) ≡ numbered_classes ps ++ classes_after (length ps) qs
  classes_are = classes_split 0 ps qs ∙ ap (λ n. classes_after 0 ps ++ classes_after n qs) (let e : 0 + length ps ≡ length ps = omega arith in e)

  pub methods_are : numbered_methods (ps ++ qs) ≡ numbered_methods ps ++ methods_after (length ps) qs
  methods_are = methods_split 0 ps qs ∙ ap (λ n. methods_after 0 ps ++ methods_after n qs) (let e : 0 + length ps ≡ length ps = omega arith in e)

  -- a place in a package before is that of the same class
  pub class_at_front : (place : RecordPlace) → place.«package» < length ps → class_at (ps ++ qs) place ≡ class_at ps place
  unfolding class_at
  class_at_front place lt =
      ap (λ cs. position (same_place place) (map place_of_class cs)) classes_are
      ∙ ap (position (same_place place)) (map-append place_of_class (numbered_classes ps) (classes_after (length ps) qs))
      ∙ position_front (same_place place) (class_places ps) (map place_of_class (classes_after (length ps) qs))
      (each_mapped (λ (p : RecordPlace). same_place place p ≡ false) place_of_class (classes_after (length ps) qs)
      (λ n. weaker (slice_get (classes_after (length ps) qs) n) (classes_from (length ps) (length ps) qs (omega arith) n)))
    where
      weaker : (o : Option NumberedClass) → IfSome o (λ c. length ps ≤ c.home) → IfSome o (λ c. same_place place (place_of_class c) ≡ false)
      weaker None h = tt
      weaker (Some c) h = apart_by place.«package» c.home (place.offset == c.record_of.offset) (omega (arith, lt, h))

  -- and of the same method
  pub method_at_front : (place : RecordPlace) → place.«package» < length ps → method_at (ps ++ qs) place ≡ method_at ps place
  unfolding method_at
  method_at_front place lt =
      ap (λ ms. position (is_at place) (map place_of_method ms)) methods_are
      ∙ ap (position (is_at place)) (map-append place_of_method (numbered_methods ps) (methods_after (length ps) qs))
      ∙ position_front (is_at place) (method_places ps) (map place_of_method (methods_after (length ps) qs))
      (each_mapped (λ (p : Option RecordPlace). is_at place p ≡ false) place_of_method (methods_after (length ps) qs)
      (λ n. weaker (slice_get (methods_after (length ps) qs) n) (methods_from (length ps) (length ps) qs (omega arith) n)))
    where
      at : (k offset : ℕ) (b : Bool) → length ps ≤ k
          → is_at place (if b then Some (record { «package» = k; offset = offset }) else None) ≡ false
      at k offset true le = apart_by place.«package» k (place.offset == offset) (omega (arith, lt, le))
      at k offset false le = refl

      weaker : (o : Option NumberedMethod) → IfSome o (λ m. length ps ≤ m.home) → IfSome o (λ m. is_at place (place_of_method m) ≡ false)
      weaker x h = grind (arith)

  -- a number below those of the classes that are added is an interface in both or in none
  pub interface_front : (c : ℕ) → c < length (numbered_classes ps) → is_interface_number (ps ++ qs) c ≡ is_interface_number ps c
  unfolding is_interface_number
  interface_front c lt = grind (arith, slice_get, classes_are, slice_get-left, length)
