-- What the rules of instructions read of a world is the same when packages are added to it.
use Rattle.std.proofs.Common.{◌≡◌, ◌<◌, ◌≤◌, ◌+◌, ◌==◌, ◌&&◌, ℕ, zero, suc, Bool, true, false, not, if◌then◌else◌, List, [], ◌∷◌, ◌++◌}
use Rattle.std.proofs.Common.{length}
use Rattle.std.proofs.Common.{find, Option, Some, None, IfSome, slice_get, refl, sym, ◌∙◌, ap, subst, arith, All, cond}
use Rattle.std.proofs.Common.{length-append, append-nil}
use Rattle.std.specs.Prelude.{nat_lt, filter}
use Rattle.std.specs.List.{list_all, range_with_len}
use Rattle.std.proofs.lemmas.Bool.{and_parts, ltb-true, lt-ltb, false≢true}
use Rattle.std.proofs.lemmas.Option.{slice_get_past}
use Rattle.jc_base.specs.declared.record.Member.{Member}
use Rattle.jc_base.specs.declared.record.Member.TheVariants.{ClassOf}
use Rattle.jc_base.specs.declared.record.MethodRec.{MethodRec}
use Rattle.jc_base.specs.Class.{AreClasses, is_interface, is_interface_record, object, chain, list_of, class_in_types}
use Rattle.jc_base.specs.Dispatch.{package_of, public_of, visible_of, entry_at, nearest_of, visible_in, has_body_in, has_body}
use Rattle.jc_base.specs.Dispatch.{all_have_bodies}
use Rattle.jc_base.specs.Dispatch.{is_concrete}
use Rattle.jc_base.specs.Linked.{lacks_code}
use Rattle.jc_base.specs.World.{Linked, member_at}
use Rattle.jc_ops.specs.Resolve.{passes_test, is_described, described}
use Rattle.law_added.proofs.Lists.{each_after}
use Rattle.law_added.proofs.Members.{found_alike, found_below}
use Rattle.law_added.proofs.Tables.{IsGrown, object_front, interface_front, package_front, public_front, visible_front, entry_front}
use Rattle.jc_base.proofs.Lists.{slice_get-left}
use Rattle.std.proofs.lemmas.List.Elements.{filter-append}

-- the first world is the beginning of the second one, as the rules see it
pub record IsBegun (v w : Linked) : Type 0 where
  pub grown : IsGrown (length v.classes.records) v.classes w.classes
  pub few : AreClasses v.classes
  pub many : AreClasses w.classes
  pub added : List MethodRec
  pub methods : w.methods ≡ v.methods ++ added
  -- methods are of classes that are there, and those that are added are of classes that are added
  pub own : (i : ℕ) → IfSome (slice_get v.methods i) (λ m. m.class < length v.classes.records)
  pub apart : (i : ℕ) → IfSome (slice_get added i) (λ m. length v.classes.records ≤ m.class)
  -- entries of constant pools name the same, and Classrefs what is there
  pub pools : (k n : ℕ) (m : Member) → member_at v k n ≡ Some m → member_at w k n ≡ Some m
  pub known : (k n c : ℕ) → member_at v k n ≡ Some (ClassOf c) → c < length v.classes.records

module _ (v w : Linked) (b : IsBegun v w) where
  abbrev count : ℕ
  count = length v.classes.records

  -- ---- methods

  pub method_there : (n : ℕ) (m : MethodRec) → slice_get v.methods n ≡ Some m → slice_get w.methods n ≡ Some m
  method_there n m e =
      ap (λ ms. slice_get ms n) b.methods ∙ slice_get-left v.methods b.added n (within v.methods n m e) ∙ e
    where
      within : (ms : List MethodRec) (n : ℕ) (m : MethodRec) → slice_get ms n ≡ Some m → n < length ms
      within [] n m e = absurd cc
      within (x ∷ xs) zero m e = omega arith
      within (x ∷ xs) (suc n) m e = omega (arith, within xs n m e)

  pub class_there : (n : ℕ) (m : MethodRec) → slice_get v.methods n ≡ Some m → m.class < count
  class_there n m e = subst (λ o. IfSome o (λ m. m.class < count)) e (b.own n)

  pub lacks_same : (n : ℕ) (m : MethodRec) → slice_get v.methods n ≡ Some m → lacks_code w.classes m ≡ lacks_code v.classes m
  lacks_same n m e = rw (interface_front count v.classes w.classes b.grown m.class (class_there n m e)) refl

  -- ---- classes

  -- a number whose record is asked for is that of a class that is there
  past_interface : (c : ℕ) → count ≤ c → is_interface v.classes c ≡ false
  unfolding is_interface
  past_interface c le = ap is_interface_record (slice_get_past v.classes.records c le)

  pub interface_there : (c : ℕ) → is_interface v.classes c ≡ true → c < count
  interface_there c e = by (nat_lt c count) refl
    where
      by : (x : Bool) → nat_lt c count ≡ x → c < count
      by true h = ltb-true c count h
      by false h = absurd (false≢true (sym (past_interface c (grind (arith, h))) ∙ e))

  past_entry : (c token : ℕ) → count ≤ c → entry_at v.classes c token ≡ None
  unfolding entry_at public_of visible_of
  past_entry c token le = rw (slice_get_past v.classes.records c le) (nothing (nat_lt token 128))
    where
      none : Option ℕ
      none = None

      nothing : (x : Bool) → (if x then none else none) ≡ none
      nothing x = grind (arith)

  pub entry_there : (c token n : ℕ) → entry_at v.classes c token ≡ Some n → entry_at w.classes c token ≡ Some n
  entry_there c token n e = by (nat_lt c count) refl
    where
      by : (x : Bool) → nat_lt c count ≡ x → entry_at w.classes c token ≡ Some n
      by true h = entry_front count v.classes w.classes b.grown c token (ltb-true c count h) ∙ e
      by false h = absurd (let none = past_entry c token (grind (arith, h)) in cc)

  pub object_same : object w.classes ≡ object v.classes
  object_same = object_front count v.classes w.classes b.grown

  pub in_types_same : (c : ℕ) → c < count → class_in_types w.classes c ≡ class_in_types v.classes c
  in_types_same c lt = rw (interface_front count v.classes w.classes b.grown c lt, object_same) refl

  -- ---- what an interface describes

  range_both : (a n k : ℕ) → range_with_len a (n + k) ≡ range_with_len a n ++ range_with_len (a + n) k
  range_both a zero k = grind (arith)
  range_both a (suc n) k =
      ap (range_with_len a) (let e : suc n + k ≡ suc (n + k) = omega arith in e)
      ∙ ap (λ xs. a ∷ xs) (range_both (a + 1) n k)
      ∙ ap (λ i. a ∷ (range_with_len (a + 1) n ++ range_with_len i k)) (let e : a + 1 + n ≡ a + suc n = omega arith in e)

  filter_alike : (p q : ℕ → Bool) (a k : ℕ) → ((n : ℕ) → a ≤ n → n < a + k → p n ≡ q n) → filter p (range_with_len a k) ≡ filter q (range_with_len a k)
  filter_alike p q a zero same = refl
  filter_alike p q a (suc k) same =
      ap (λ x. cond x (a ∷ filter p (range_with_len (a + 1) k)) (filter p (range_with_len (a + 1) k))) (same a (omega arith) (omega arith))
      ∙ ap (λ xs. cond (q a) (a ∷ xs) xs) (filter_alike p q (a + 1) k (λ n le lt. same n (omega (arith, le)) (omega (arith, lt))))

  filter_none : (p : ℕ → Bool) (a k : ℕ) → ((n : ℕ) → a ≤ n → p n ≡ false) → filter p (range_with_len a k) ≡ []
  filter_none p a zero none = refl
  filter_none p a (suc k) none =
      ap (λ x. cond x (a ∷ filter p (range_with_len (a + 1) k)) (filter p (range_with_len (a + 1) k))) (none a (omega arith))
      ∙ filter_none p (a + 1) k (λ n le. none n (omega (arith, le)))

  method_front : (n : ℕ) → n < length v.methods → slice_get w.methods n ≡ slice_get v.methods n
  method_front n lt = ap (λ ms. slice_get ms n) b.methods ∙ slice_get-left v.methods b.added n lt

  method_after : (n : ℕ) → length v.methods ≤ n → IfSome (slice_get w.methods n) (λ m. count ≤ m.class)
  method_after n le = grind (arith, slice_get, each_after)

  abbrev describes : ℕ → ℕ → Linked → ℕ → Bool
  describes c token x n = passes_test (is_described c token) (slice_get x.methods n)

  past_described : (c token n : ℕ) → c < count → length v.methods ≤ n → describes c token w n ≡ false
  past_described c token n lt le = by (slice_get w.methods n) (method_after n le)
    where
      by : (o : Option MethodRec) → IfSome o (λ m. count ≤ m.class) → passes_test (is_described c token) o ≡ false
      by None h = refl
      by (Some m) h = let ne : (m.class == c) ≡ false = grind (arith, lt, h) in ap (λ x. x && m.token == token) ne

  pub described_same : (c token : ℕ) → c < count → described w.methods c token ≡ described v.methods c token
  unfolding described
  described_same c token lt =
      let n = length v.methods in
      grind (arith, n, length, length-append, range_both, filter-append, filter_alike, method_front, filter_none, past_described, append-nil)

  -- ---- concrete classes

  body_there : (n : ℕ) → has_body v.methods n ≡ true → has_body w.methods n ≡ true
  body_there n e = by (slice_get v.methods n) refl e
    where
      by : (o : Option MethodRec) → slice_get v.methods n ≡ o → has_body_in o ≡ true → has_body w.methods n ≡ true
      by None at h = absurd cc
      by (Some m) at h = ap has_body_in (method_there n m at) ∙ h

  bodies_there : (ns : List ℕ) → all_have_bodies v.methods ns ≡ true → all_have_bodies w.methods ns ≡ true
  bodies_there [] e = refl
  bodies_there (n ∷ ns) e =
      let parts = and_parts (has_body v.methods n) (all_have_bodies v.methods ns) e in
      grind (arith, parts, body_there, bodies_there ns parts.1)

  nearest_same : (home c : ℕ) → c < count → nearest_of w.classes home c ≡ nearest_of v.classes home c
  unfolding nearest_of
  nearest_same home c lt =
      ap (find (λ a. package_of w.classes a == home)) (b.grown.chains c lt)
      ∙ found_alike (λ a. package_of w.classes a == home) (λ a. package_of v.classes a == home) count
      (λ a less. ap (λ n. n == home) (package_front count v.classes w.classes b.grown a less)) (chain v.classes c) (b.grown.within c lt)

  listed_same : (o : Option ℕ) → IfSome o (λ a. a < count) → list_of (visible_of w.classes) o ≡ list_of (visible_of v.classes) o
  listed_same None h = refl
  listed_same (Some a) h = visible_front count v.classes w.classes b.grown a h

  visible_same : (home c : ℕ) → c < count → visible_in w.classes home c ≡ visible_in v.classes home c
  unfolding visible_in nearest_of
  visible_same home c lt =
      ap (list_of (visible_of w.classes)) (nearest_same home c lt)
      ∙ listed_same (nearest_of v.classes home c) (found_below (λ a. package_of v.classes a == home) count (chain v.classes c) (b.grown.within c lt))

  homes_there : (c : ℕ) → c < count → (xs : List ℕ) → All (λ a. a < count) xs
      → list_all (λ a. all_have_bodies v.methods (visible_in v.classes (package_of v.classes a) c)) xs ≡ true
      → list_all (λ a. all_have_bodies w.methods (visible_in w.classes (package_of w.classes a) c)) xs ≡ true
  homes_there c lt [] h e = refl
  homes_there c lt (x ∷ xs) h e =
      let parts = and_parts (all_have_bodies v.methods (visible_in v.classes (package_of v.classes x) c))
      (list_all (λ a. all_have_bodies v.methods (visible_in v.classes (package_of v.classes a) c)) xs) e in
      let same : visible_in w.classes (package_of w.classes x) c ≡ visible_in v.classes (package_of v.classes x) c =
      ap (λ p. visible_in w.classes p c) (package_front count v.classes w.classes b.grown x (h 0 x (omega arith)))
      ∙ visible_same (package_of v.classes x) c lt in
      let a : all_have_bodies w.methods (visible_in w.classes (package_of w.classes x) c) ≡ true =
      ap (all_have_bodies w.methods) same ∙ bodies_there (visible_in v.classes (package_of v.classes x) c) parts.0 in
      let rest = homes_there c lt xs (λ i d less. h (suc i) d (omega (arith, less))) parts.1 in
      cc

  pub concrete_there : (c : ℕ) → is_concrete v.classes v.methods c ≡ true → is_concrete w.classes w.methods c ≡ true
  unfolding is_concrete
  concrete_there c e =
      let one = and_parts (nat_lt c (length v.classes.records)) _ e in
      let lt : c < count = ltb-true c count one.0 in
      let two = and_parts (not (is_interface v.classes c)) _ one.1 in
      let three = and_parts (all_have_bodies v.methods (public_of v.classes c)) _ two.1 in
      let more : length w.classes.records ≡ count + length b.grown.more = ap length b.grown.records ∙ length-append v.classes.records b.grown.more in
      let first : nat_lt c (length w.classes.records) ≡ true = lt-ltb c (length w.classes.records) (omega (arith, lt, more)) in
      let second : not (is_interface w.classes c) ≡ true = ap not (interface_front count v.classes w.classes b.grown c lt) ∙ two.0 in
      let third : all_have_bodies w.methods (public_of w.classes c) ≡ true =
      ap (all_have_bodies w.methods) (public_front count v.classes w.classes b.grown c lt) ∙ bodies_there (public_of v.classes c) three.0 in
      let fourth : list_all (λ a. all_have_bodies w.methods (visible_in w.classes (package_of w.classes a) c)) (chain w.classes c) ≡ true =
      ap (list_all (λ a. all_have_bodies w.methods (visible_in w.classes (package_of w.classes a) c))) (b.grown.chains c lt)
      ∙ homes_there c lt (chain v.classes c) (b.grown.within c lt) three.1 in
      rw (first, second, third, fourth) refl
