-- The methods of a package and of the same one with other code, side by side.
use Rattle.std.proofs.Common.{◌≡◌, ◌+◌, ℕ, suc, List, [], ◌∷◌, ◌++◌, length, take, drop, map, Bool, true, false, Option, refl, sym, ap}
use Rattle.std.proofs.Common.{subst, ◌∙◌, arith, length-append, length-take, length-drop}
use Rattle.std.specs.Prelude.{if◌then◌else◌}
use Rattle.std.proofs.lemmas.Bool.{false≢true}
use Rattle.std.proofs.lemmas.List.{map-append, take-append-drop, length-map}
use Rattle.jc_base.proofs.Eaching.{Each-append}
use Rattle.cap_desc.specs.DescriptorFormat.{MethodDescriptor, ClassDescriptor}
use Rattle.cap_desc.specs.Members.{methods_of, methods_but}
use Rattle.cap_package.specs.PackageRecord.{PackageRecord}
use Rattle.jc_decode.specs.declared.symbols.Laid.{Laid}
use Rattle.jc_resolve.specs.Numbering.{NumberedMethod, numbered_method, methods_of_class, methods_of_classes}
use Rattle.jc_resolve.proofs.Pairwise.{each-split}
use Rattle.law_package.specs.Changes.{Change, laid_but, sources_from, changes_of}
use Rattle.law_package.specs.Rewritten.{bare_method, bare_class}
use Rattle.law_package.proofs.Lists.{Each}

-- a method of the Descriptor before and after, with the numbers of its class and of itself, its class before and after, and what is
-- laid for it
pub record Twin : Type 0 where
  pub class_no : ℕ
  pub method_no : ℕ
  pub old_class : ClassDescriptor
  pub new_class : ClassDescriptor
  pub old : MethodDescriptor
  pub new : MethodDescriptor
  pub laid : Option Laid

abbrev pub before_in : ℕ → PackageRecord → Twin → NumberedMethod
before_in k p t = numbered_method k p t.class_no t.old_class t.method_no t.old

abbrev pub after_in : ℕ → PackageRecord → Twin → NumberedMethod
after_in k q t = numbered_method k q t.class_no t.new_class t.method_no t.new

abbrev pub laid_in : Twin → Option Laid
laid_in t = t.laid

abbrev pub twins_of_class : ℕ → ClassDescriptor → ClassDescriptor → ℕ → List MethodDescriptor → List MethodDescriptor → List (Option Laid)
    → List Twin
twins_of_class i c d j [] ns ls = []
twins_of_class i c d j (m ∷ ms) [] ls = []
twins_of_class i c d j (m ∷ ms) (n ∷ ns) [] = []
twins_of_class i c d j (m ∷ ms) (n ∷ ns) (l ∷ ls) =
    record { class_no = i; method_no = j; old_class = c; new_class = d; old = m; new = n; laid = l } ∷ twins_of_class i c d (j + 1)
    ms ns ls

abbrev pub twins : ℕ → List ClassDescriptor → List ClassDescriptor → List (Option Laid) → List Twin
twins i [] ds laid = []
twins i (c ∷ cs) [] laid = []
twins i (c ∷ cs) (d ∷ ds) laid = twins_of_class i c d 0 c.methods d.methods (take (length c.methods) laid) ++ twins (i + 1) cs ds
    (drop (length c.methods) laid)

-- ---- classes that are the same but for the places of methods

bare_by : (b : Bool) (ms : List MethodDescriptor) → map bare_method (if b then ms else map bare_method ms) ≡ map bare_method ms
bare_by true ms = refl
bare_by false [] = refl
bare_by false (m ∷ ms) = ap (λ ns. bare_method m ∷ ns) (bare_by false ms)

same_bares : (set : ℕ → Bool) (c d : ClassDescriptor) → bare_class set d ≡ bare_class set c
    → map bare_method d.methods ≡ map bare_method c.methods
same_bares set c d s = grind (arith, bare_by, map)

as_many : (ms ns : List MethodDescriptor) → map bare_method ns ≡ map bare_method ms → length ns ≡ length ms
as_many ms ns e = sym (length-map ns bare_method) ∙ ap length e ∙ length-map ms bare_method

-- the elements that are laid for the methods of the first class
many_taken : (c : ClassDescriptor) (cs : List ClassDescriptor) (laid : List (Option Laid)) → length laid ≡ length (methods_of (c ∷ cs))
    → length (take (length c.methods) laid) ≡ length c.methods
many_taken c cs laid e = grind (arith, length-append, length-take, length)

many_left : (c : ClassDescriptor) (cs : List ClassDescriptor) (laid : List (Option Laid)) → length laid ≡ length (methods_of (c ∷ cs))
    → length (drop (length c.methods) laid) ≡ length (methods_of cs)
many_left c cs laid e = grind (arith, length-append, length-drop, length)

-- ---- the three lists

module _ (k : ℕ) (p q : PackageRecord) where
  before_class : (i : ℕ) (c d : ClassDescriptor) (j : ℕ) (ms ns : List MethodDescriptor) (ls : List (Option Laid)) → length ns ≡ length ms
      → length ls ≡ length ms → map (before_in k p) (twins_of_class i c d j ms ns ls) ≡ methods_of_class k p i c j ms
  before_class i c d j [] ns ls e f = refl
  before_class i c d j (m ∷ ms) [] ls e f = absurd (omega arith)
  before_class i c d j (m ∷ ms) (n ∷ ns) [] e f = absurd (omega arith)
  before_class i c d j (m ∷ ms) (n ∷ ns) (l ∷ ls) e f = grind (arith, before_class i c d (j + 1) ms ns ls (omega arith) (omega arith))

  after_class : (i : ℕ) (c d : ClassDescriptor) (j : ℕ) (ms ns : List MethodDescriptor) (ls : List (Option Laid)) → length ns ≡ length ms
      → length ls ≡ length ms → map (after_in k q) (twins_of_class i c d j ms ns ls) ≡ methods_of_class k q i d j ns
  after_class i c d j [] [] ls e f = refl
  after_class i c d j [] (n ∷ ns) ls e f = absurd (omega arith)
  after_class i c d j (m ∷ ms) [] ls e f = absurd (omega arith)
  after_class i c d j (m ∷ ms) (n ∷ ns) [] e f = absurd (omega arith)
  after_class i c d j (m ∷ ms) (n ∷ ns) (l ∷ ls) e f = grind (arith, after_class i c d (j + 1) ms ns ls (omega arith) (omega arith))

laid_class : (i : ℕ) (c d : ClassDescriptor) (j : ℕ) (ms ns : List MethodDescriptor) (ls : List (Option Laid)) → length ns ≡ length ms
    → length ls ≡ length ms → map laid_in (twins_of_class i c d j ms ns ls) ≡ ls
laid_class i c d j [] ns [] e f = refl
laid_class i c d j [] ns (l ∷ ls) e f = absurd (omega arith)
laid_class i c d j (m ∷ ms) [] ls e f = absurd (omega arith)
laid_class i c d j (m ∷ ms) (n ∷ ns) [] e f = absurd (omega arith)
laid_class i c d j (m ∷ ms) (n ∷ ns) (l ∷ ls) e f = grind (arith, laid_class i c d (j + 1) ms ns ls (omega arith) (omega arith))

-- the twins are those of these methods and of what is laid
pub record AreTwins (k : ℕ) (p q : PackageRecord) (i : ℕ) (cs ds : List ClassDescriptor) (laid : List (Option Laid)) : Type 0 where
  pub before : map (before_in k p) (twins i cs ds laid) ≡ methods_of_classes k p i cs
  pub after : map (after_in k q) (twins i cs ds laid) ≡ methods_of_classes k q i ds
  pub laid_is : map laid_in (twins i cs ds laid) ≡ laid

pub are_twins : (set : ℕ → Bool) (k : ℕ) (p q : PackageRecord) (i : ℕ) (cs ds : List ClassDescriptor) (laid : List (Option Laid))
    → map (bare_class set) ds ≡ map (bare_class set) cs → length laid ≡ length (methods_of cs) → AreTwins k p q i cs ds laid
are_twins set k p q i [] [] [] e f = record { before = refl; after = refl; laid_is = refl }
are_twins set k p q i [] [] (l ∷ ls) e f = absurd (omega arith)
are_twins set k p q i [] (d ∷ ds) laid e f = absurd cc
are_twins set k p q i (c ∷ cs) [] laid e f = absurd cc
are_twins set k p q i (c ∷ cs) (d ∷ ds) laid e f =
    let s : bare_class set d ≡ bare_class set c = cc in
    let t : map (bare_class set) ds ≡ map (bare_class set) cs = cc in
    let many = as_many c.methods d.methods (same_bares set c d s) in
    let taken = many_taken c cs laid f in
    let these = twins_of_class i c d 0 c.methods d.methods (take (length c.methods) laid) in
    let others = twins (i + 1) cs ds (drop (length c.methods) laid) in
    let rest = are_twins set k p q (i + 1) cs ds (drop (length c.methods) laid) t (many_left c cs laid f) in
    grind (arith, many, taken, rest, map-append, map, before_class, take, length, after_class, laid_class, take-append-drop)

-- ---- each twin of a class is one of the changes

abbrev pub change_of : ℕ → Twin → Change
change_of n t = record { source = record { number = n; method = t.old; laid = t.laid }; now = t.new }

-- what holds of each change holds of the one that this twin is
abbrev pub Told : (Change → Type 0) → Twin → Type 0
Told P t = (n : ℕ) × P (change_of n t)

pub record IsTwin (set : ℕ → Bool) (P : Change → Type 0) (t : Twin) : Type 0 where
  pub ref : t.new_class.class_ref ≡ t.old_class.class_ref
  pub bare : bare_method t.new ≡ bare_method t.old
  pub told : set t.old_class.class_ref ≡ false → Told P t

-- the changes of a class, and those of the others
abbrev AreTold : (Change → Type 0) → ℕ → List Twin → List MethodDescriptor → List (Option Laid) → List MethodDescriptor → Type 0
AreTold P n ts rest lrest nrest = Each (Told P) ts × Each P (changes_of (sources_from n rest lrest) nrest)

told_class : (P : Change → Type 0) (n i : ℕ) (c d : ClassDescriptor) (j : ℕ) (ms ns : List MethodDescriptor) (ls : List (Option Laid))
    (rest : List MethodDescriptor) (lrest : List (Option Laid)) (nrest : List MethodDescriptor) → length ns ≡ length ms → length ls ≡ length ms
    → Each P (changes_of (sources_from n (ms ++ rest) (ls ++ lrest)) (ns ++ nrest))
    → AreTold P (n + length ms) (twins_of_class i c d j ms ns ls) rest lrest nrest
told_class P n i c d j [] [] [] rest lrest nrest e f h = grind (arith)
told_class P n i c d j [] [] (l ∷ ls) rest lrest nrest e f h = absurd (omega arith)
told_class P n i c d j [] (m ∷ ns) ls rest lrest nrest e f h = absurd (omega arith)
told_class P n i c d j (m ∷ ms) [] ls rest lrest nrest e f h = absurd (omega arith)
told_class P n i c d j (m ∷ ms) (o ∷ ns) [] rest lrest nrest e f h = absurd (omega arith)
told_class P n i c d j (m ∷ ms) (o ∷ ns) (l ∷ ls) rest lrest nrest e f h =
    let r = told_class P (n + 1) i c d (j + 1) ms ns ls rest lrest nrest (omega arith) (omega arith) h.1 in
    grind (arith, r, length, suc)

is_class : (set : ℕ → Bool) (P : Change → Type 0) (i : ℕ) (c d : ClassDescriptor) (j : ℕ) (ms ns : List MethodDescriptor) (ls : List (Option Laid))
    → d.class_ref ≡ c.class_ref → map bare_method ns ≡ map bare_method ms
    → (set c.class_ref ≡ false → Each (Told P) (twins_of_class i c d j ms ns ls))
    → Each (IsTwin set P) (twins_of_class i c d j ms ns ls)
is_class set P i c d j [] ns ls r e h = tt
is_class set P i c d j (m ∷ ms) [] ls r e h = tt
is_class set P i c d j (m ∷ ms) (n ∷ ns) [] r e h = tt
is_class set P i c d j (m ∷ ms) (n ∷ ns) (l ∷ ls) r e h =
    let a : bare_method n ≡ bare_method m = cc in
    let b : map bare_method ns ≡ map bare_method ms = cc in
    (record { ref = r; bare = a; told = λ f. (h f).0 }, is_class set P i c d (j + 1) ms ns ls r b (λ f. (h f).1))

told_by : (set : ℕ → Bool) (P : Change → Type 0) (n i : ℕ) (c d : ClassDescriptor) (ls lrest : List (Option Laid)) (rest nrest : List MethodDescriptor)
    (others : List Twin) (b : Bool) → set c.class_ref ≡ b → d.class_ref ≡ c.class_ref
    → map bare_method d.methods ≡ map bare_method c.methods → length ls ≡ length c.methods
    → Each P (changes_of (sources_from n (if b then rest else c.methods ++ rest) (if b then lrest else ls ++ lrest))
    (if b then nrest else d.methods ++ nrest))
    → ((k : ℕ) → Each P (changes_of (sources_from k rest lrest) nrest) → Each (IsTwin set P) others)
    → Each (IsTwin set P) (twins_of_class i c d 0 c.methods d.methods ls ++ others)
told_by set P n i c d ls lrest rest nrest others true e r bares long h more =
    Each-append (IsTwin set P) (twins_of_class i c d 0 c.methods d.methods ls) others
    (is_class set P i c d 0 c.methods d.methods ls r bares (λ f. absurd (false≢true (sym f ∙ e)))) (more n h)
told_by set P n i c d ls lrest rest nrest others false e r bares long h more =
    let t = told_class P n i c d 0 c.methods d.methods ls rest lrest nrest (as_many c.methods d.methods bares) long h in
    Each-append (IsTwin set P) (twins_of_class i c d 0 c.methods d.methods ls) others
    (is_class set P i c d 0 c.methods d.methods ls r bares (λ f. t.0)) (more (n + length c.methods) t.1)

pub each_twin : (set : ℕ → Bool) (P : Change → Type 0) (n i : ℕ) (cs ds : List ClassDescriptor) (laid : List (Option Laid))
    → map (bare_class set) ds ≡ map (bare_class set) cs → length laid ≡ length (methods_of cs)
    → Each P (changes_of (sources_from n (methods_but set cs) (laid_but set cs laid)) (methods_but set ds))
    → Each (IsTwin set P) (twins i cs ds laid)
each_twin set P n i [] ds laid e f h = tt
each_twin set P n i (c ∷ cs) [] laid e f h = tt
each_twin set P n i (c ∷ cs) (d ∷ ds) laid e f h =
    let s : bare_class set d ≡ bare_class set c = cc in
    let t : map (bare_class set) ds ≡ map (bare_class set) cs = cc in
    let r : d.class_ref ≡ c.class_ref = ap (λ (x : ClassDescriptor). x.class_ref) s in
    let left = drop (length c.methods) laid in
    told_by set P n i c d (take (length c.methods) laid) (laid_but set cs left) (methods_but set cs) (methods_but set ds)
    (twins (i + 1) cs ds left) (set c.class_ref) refl r (same_bares set c d s) (many_taken c cs laid f)
    (subst (λ b. Each P (changes_of (sources_from n (methods_but set (c ∷ cs)) (laid_but set (c ∷ cs) laid))
    (if b then methods_but set ds else d.methods ++ methods_but set ds))) (ap set r) h)
    (λ k g. each_twin set P k (i + 1) cs ds left t (many_left c cs laid f) g)

-- ---- and each change is one of the twins

change_class : (P : Change → Type 0) (n i : ℕ) (c d : ClassDescriptor) (j : ℕ) (ms ns : List MethodDescriptor) (ls : List (Option Laid))
    (rest : List MethodDescriptor) (lrest : List (Option Laid)) (nrest : List MethodDescriptor) → length ns ≡ length ms → length ls ≡ length ms
    → Each (λ (t : Twin). (k : ℕ) → P (change_of k t)) (twins_of_class i c d j ms ns ls)
    → ((k : ℕ) → Each P (changes_of (sources_from k rest lrest) nrest))
    → Each P (changes_of (sources_from n (ms ++ rest) (ls ++ lrest)) (ns ++ nrest))
change_class P n i c d j [] [] [] rest lrest nrest e f h more = more n
change_class P n i c d j [] [] (l ∷ ls) rest lrest nrest e f h more = absurd (omega arith)
change_class P n i c d j [] (m ∷ ns) ls rest lrest nrest e f h more = absurd (omega arith)
change_class P n i c d j (m ∷ ms) [] ls rest lrest nrest e f h more = absurd (omega arith)
change_class P n i c d j (m ∷ ms) (o ∷ ns) [] rest lrest nrest e f h more = absurd (omega arith)
change_class P n i c d j (m ∷ ms) (o ∷ ns) (l ∷ ls) rest lrest nrest e f h more =
    (h.0 n, change_class P (n + 1) i c d (j + 1) ms ns ls rest lrest nrest (omega arith) (omega arith) h.1 more)

-- what holds of a twin whose class is no interface
abbrev pub OfClass : (ℕ → Bool) → (Change → Type 0) → Twin → Type 0
OfClass set P t = set t.old_class.class_ref ≡ false → (k : ℕ) → P (change_of k t)

of_class : (set : ℕ → Bool) (P : Change → Type 0) (i : ℕ) (c d : ClassDescriptor) (j : ℕ) (ms ns : List MethodDescriptor) (ls : List (Option Laid))
    → set c.class_ref ≡ false → Each (OfClass set P) (twins_of_class i c d j ms ns ls)
    → Each (λ (t : Twin). (k : ℕ) → P (change_of k t)) (twins_of_class i c d j ms ns ls)
of_class set P i c d j [] ns ls e h = tt
of_class set P i c d j (m ∷ ms) [] ls e h = tt
of_class set P i c d j (m ∷ ms) (n ∷ ns) [] e h = tt
of_class set P i c d j (m ∷ ms) (n ∷ ns) (l ∷ ls) e h = (h.0 e, of_class set P i c d (j + 1) ms ns ls e h.1)

change_by : (set : ℕ → Bool) (P : Change → Type 0) (n i : ℕ) (c d : ClassDescriptor) (ls lrest : List (Option Laid))
    (rest nrest : List MethodDescriptor) (b : Bool) → set c.class_ref ≡ b
    → map bare_method d.methods ≡ map bare_method c.methods → length ls ≡ length c.methods
    → Each (OfClass set P) (twins_of_class i c d 0 c.methods d.methods ls)
    → ((k : ℕ) → Each P (changes_of (sources_from k rest lrest) nrest))
    → Each P (changes_of (sources_from n (if b then rest else c.methods ++ rest) (if b then lrest else ls ++ lrest))
    (if b then nrest else d.methods ++ nrest))
change_by set P n i c d ls lrest rest nrest true e bares long h more = more n
change_by set P n i c d ls lrest rest nrest false e bares long h more =
    change_class P n i c d 0 c.methods d.methods ls rest lrest nrest (as_many c.methods d.methods bares) long
    (of_class set P i c d 0 c.methods d.methods ls e h) more

pub each_change : (set : ℕ → Bool) (P : Change → Type 0) (n i : ℕ) (cs ds : List ClassDescriptor) (laid : List (Option Laid))
    → map (bare_class set) ds ≡ map (bare_class set) cs → length laid ≡ length (methods_of cs)
    → Each (OfClass set P) (twins i cs ds laid)
    → Each P (changes_of (sources_from n (methods_but set cs) (laid_but set cs laid)) (methods_but set ds))
each_change set P n i [] ds laid e f h = tt
each_change set P n i (c ∷ cs) [] laid e f h = absurd cc
each_change set P n i (c ∷ cs) (d ∷ ds) laid e f h =
    let s : bare_class set d ≡ bare_class set c = cc in
    let t : map (bare_class set) ds ≡ map (bare_class set) cs = cc in
    let r : d.class_ref ≡ c.class_ref = ap (λ (x : ClassDescriptor). x.class_ref) s in
    let left = drop (length c.methods) laid in
    let parts = each-split (OfClass set P) (twins_of_class i c d 0 c.methods d.methods (take (length c.methods) laid))
    (twins (i + 1) cs ds left) h in
    subst (λ b. Each P (changes_of (sources_from n (methods_but set (c ∷ cs)) (laid_but set (c ∷ cs) laid))
    (if b then methods_but set ds else d.methods ++ methods_but set ds))) (sym (ap set r))
    (change_by set P n i c d (take (length c.methods) laid) (laid_but set cs left) (methods_but set cs) (methods_but set ds)
    (set c.class_ref) refl (same_bares set c d s) (many_taken c cs laid f) parts.0
    (λ k. each_change set P k (i + 1) cs ds left t (many_left c cs laid f) parts.1))
