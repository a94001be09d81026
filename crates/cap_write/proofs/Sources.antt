-- The methods that are written are those of the package's classes, each with the code that is laid for it.
use Rattle.std.proofs.Common.{◌≡◌, ◌≤◌, ◌+◌, ℕ, zero, suc, Bool, true, false, List, [], ◌∷◌, ◌++◌, length, take, drop, map}
use Rattle.std.proofs.Common.{All, Option, Some, refl, sym, ap, subst, ◌∙◌, arith, length-append}
use Rattle.std.specs.Prelude.{if◌then◌else◌}
use Rattle.std.proofs.lemmas.List.{length-map, length-take, length-drop, map-append}
use Rattle.jc_base.proofs.Eaching.{All-from_Each, Each-from_All}
use Rattle.cap_desc.specs.DescriptorFormat.{MethodDescriptor, ClassDescriptor}
use Rattle.cap_desc.specs.Members.{methods_of, methods_but}
use Rattle.cap_components.specs.PackageRecord.{PackageRecord, described_methods, names_interface}
use Rattle.cap_laying.specs.declared.member.Body.{Body}
use Rattle.cap_laying.specs.declared.member.Body.TheVariants as body
use Rattle.cap_laying.specs.declared.member.WrittenMember.{WrittenMember}
use Rattle.jc_decode.specs.declared.symbols.Laid.{Laid}
use Rattle.law_package.specs.Changes.{FormerMethod, laid_but, sources_from, sources}
use Rattle.law_package.specs.Written.{lead_bytes}
use Rattle.law_package.specs.Laying as laying
use Rattle.law_package.specs.Writing as writing
use Rattle.law_package.proofs.Lists.{Each}
use Rattle.cap_write.specs.Described.{SeenMember, body_seen, member_seen, seen_body, seen_method, seen_methods, seen_classes, seen_package}
use Rattle.cap_write.specs.Condition.{no_method, methods_for, AreElements, MayBeLaid}
use Rattle.cap_write.specs.SmallStacks.{BodyHasSmallStack, HaveSmallStacks}

-- ---- an element for each method

methods_counted : (set : ℕ → Bool) (cs : List ClassDescriptor) → length (methods_for set cs) ≡ length (methods_of cs)
methods_counted set [] = refl
methods_counted set (c ∷ cs) = by (set c.class_ref) (methods_counted set cs)
  where
    by : (b : Bool) → length (methods_for set cs) ≡ length (methods_of cs)
        → length ((if b then map no_method c.methods else map Some c.methods) ++ methods_for set cs) ≡ length (c.methods ++ methods_of cs)
    by true r =
        omega (
          arith,
          r,
          length-append (map no_method c.methods) (methods_for set cs),
          length-append c.methods (methods_of cs),
          length-map c.methods no_method,
        )
    by false r =
        omega (
          arith,
          r,
          length-append (map Some c.methods) (methods_for set cs),
          length-append c.methods (methods_of cs),
          length-map {B = Option MethodDescriptor} c.methods Some,
        )

elements_counted : (info : List ℕ) (ms : List (Option MethodDescriptor)) (ls : List (Option Laid)) → AreElements info ms ls → length ls ≡ length ms
elements_counted info [] [] h = refl
elements_counted info [] (l ∷ ls) h = absurd h
elements_counted info (m ∷ ms) [] h = absurd h
elements_counted info (m ∷ ms) (l ∷ ls) h = ap suc (elements_counted info ms ls h.1)

pub laid_each : (p : PackageRecord) (laid : List (Option Laid)) → MayBeLaid p laid → length laid ≡ length (methods_of p.description.items.classes)
laid_each p laid l = grind (arith, elements_counted, methods_counted)

-- those of methods, and those of others after them
front_elements : (info : List ℕ) (xs ys : List (Option MethodDescriptor)) (n : ℕ) (ls : List (Option Laid)) → length xs ≡ n
    → AreElements info (xs ++ ys) ls → AreElements info xs (take n ls) × AreElements info ys (drop n ls)
front_elements info [] ys zero ls e h = (tt, h)
front_elements info [] ys (suc n) ls e h = absurd (omega arith)
front_elements info (x ∷ xs) ys zero ls e h = absurd (omega arith)
front_elements info (x ∷ xs) ys (suc n) [] e h = absurd h
front_elements info (x ∷ xs) ys (suc n) (l ∷ ls) e h = let r = front_elements info xs ys n ls (omega arith) h.1 in ((h.0, r.0), r.1)

both_elements : (info : List ℕ) (xs ys : List (Option MethodDescriptor)) (ks ls : List (Option Laid)) → AreElements info xs ks
    → AreElements info ys ls → AreElements info (xs ++ ys) (ks ++ ls)
both_elements info [] ys [] ls a b = b
both_elements info [] ys (k ∷ ks) ls a b = absurd a
both_elements info (x ∷ xs) ys [] ls a b = absurd a
both_elements info (x ∷ xs) ys (k ∷ ks) ls a b = (a.0, both_elements info xs ys ks ls a.1 b)

-- those of the methods of classes
elements_but : (set : ℕ → Bool) (info : List ℕ) (cs : List ClassDescriptor) (ls : List (Option Laid)) → AreElements info (methods_for set cs) ls
    → AreElements info (map Some (methods_but set cs)) (laid_but set cs ls)
elements_but set info [] [] h = tt
elements_but set info [] (l ∷ ls) h = absurd h
elements_but set info (c ∷ cs) ls h = by (set c.class_ref) h (λ k. elements_but set info cs (drop (length c.methods) ls) k)
  where
    by : (b : Bool) → AreElements info ((if b then map no_method c.methods else map Some c.methods) ++ methods_for set cs) ls
        → (AreElements info (methods_for set cs) (drop (length c.methods) ls)
        → AreElements info (map Some (methods_but set cs)) (laid_but set cs (drop (length c.methods) ls)))
        → AreElements info (map Some (if b then methods_but set cs else c.methods ++ methods_but set cs))
        (if b then laid_but set cs (drop (length c.methods) ls) else take (length c.methods) ls ++ laid_but set cs (drop (length c.methods) ls))
    by true h others =
        let f = front_elements info (map no_method c.methods) (methods_for set cs) (length c.methods) ls (length-map c.methods no_method) h in
        others f.1
    by false h others =
        let f = front_elements info (map Some c.methods) (methods_for set cs) (length c.methods) ls
        (length-map {B = Option MethodDescriptor} c.methods Some) h in
        let rest = others f.1 in
        subst (λ ms. AreElements info ms (take (length c.methods) ls ++ laid_but set cs (drop (length c.methods) ls)))
        (sym (map-append {B = Option MethodDescriptor} Some c.methods (methods_but set cs)))
        (both_elements info (map Some c.methods) (map Some (methods_but set cs)) (take (length c.methods) ls) (laid_but set cs (drop (length c.methods) ls))
        f.0 rest)

-- ---- the members are those of the sources

zipped : List ℕ → List MethodDescriptor → List (Option Laid) → List SeenMember
zipped info [] ls = []
zipped info (m ∷ ms) [] = []
zipped info (m ∷ ms) (l ∷ ls) = seen_method info m l ∷ zipped info ms ls

zipped_both : (info : List ℕ) (ms ns : List MethodDescriptor) (ks ls : List (Option Laid)) → length ks ≡ length ms
    → zipped info (ms ++ ns) (ks ++ ls) ≡ zipped info ms ks ++ zipped info ns ls
unfolding zipped
zipped_both info [] ns [] ls e = refl
zipped_both info [] ns (k ∷ ks) ls e = absurd (omega arith)
zipped_both info (m ∷ ms) ns [] ls e = absurd (omega arith)
zipped_both info (m ∷ ms) ns (k ∷ ks) ls e = ap (λ xs. seen_method info m k ∷ xs) (zipped_both info ms ns ks ls (omega arith))

seen_zipped : (info : List ℕ) (ms : List MethodDescriptor) (ls : List (Option Laid)) → length ms ≤ length ls
    → seen_methods info ms ls ≡ zipped info ms (take (length ms) ls)
unfolding zipped
seen_zipped info [] ls e = refl
seen_zipped info (m ∷ ms) [] e = absurd (omega arith)
seen_zipped info (m ∷ ms) (l ∷ ls) e = ap (λ xs. seen_method info m l ∷ xs) (seen_zipped info ms ls (omega arith))

classes_zipped : (set : ℕ → Bool) (info : List ℕ) (cs : List ClassDescriptor) (ls : List (Option Laid)) → length ls ≡ length (methods_of cs)
    → seen_classes set info cs ls ≡ zipped info (methods_but set cs) (laid_but set cs ls)
unfolding zipped
classes_zipped set info [] ls e = refl
classes_zipped set info (c ∷ cs) ls e =
    let both = length-append c.methods (methods_of cs) in
    let rest : length (drop (length c.methods) ls) ≡ length (methods_of cs) = omega (arith, both, length-drop (length c.methods) ls) in
    by (set c.class_ref) (classes_zipped set info cs (drop (length c.methods) ls) rest)
  where
    by : (b : Bool) → seen_classes set info cs (drop (length c.methods) ls) ≡ zipped info (methods_but set cs)
        (laid_but set cs (drop (length c.methods) ls))
        → (if b then [] else seen_methods info c.methods ls) ++ seen_classes set info cs (drop (length c.methods) ls)
        ≡ zipped info (if b then methods_but set cs else c.methods ++ methods_but set cs)
        (if b then laid_but set cs (drop (length c.methods) ls) else take (length c.methods) ls ++ laid_but set cs (drop (length c.methods) ls))
    by true r = r
    by false r =
        let both = length-append c.methods (methods_of cs) in
        let some : length c.methods ≤ length ls = omega arith in
        let front : length (take (length c.methods) ls) ≡ length c.methods = omega (arith, length-take (length c.methods) ls) in
        ap (λ xs. xs ++ seen_classes set info cs (drop (length c.methods) ls)) (seen_zipped info c.methods ls some)
        ∙ ap (λ xs. zipped info c.methods (take (length c.methods) ls) ++ xs) r
        ∙ sym (zipped_both info c.methods (methods_but set cs) (take (length c.methods) ls) (laid_but set cs (drop (length c.methods) ls)) front)

body_of : (info : List ℕ) (s : FormerMethod) (l : Option Laid) (b : Body) → s.laid ≡ l → body_seen b ≡ seen_body info s.method.method_offset l
    → writing.IsBodyOf info s b
unfolding lead_bytes
body_of info s z u e h = grind (arith)

member_of : (info : List ℕ) (s : FormerMethod) (m : WrittenMember) → member_seen m ≡ seen_method info s.method s.laid → writing.IsMemberOf info s m
member_of info s m h = grind (arith)

members_from : (info : List ℕ) (n : ℕ) (ms : List MethodDescriptor) (ls : List (Option Laid)) (xs : List WrittenMember) → length ls ≡ length ms
    → map member_seen xs ≡ zipped info ms ls → writing.AreMembersOf info (sources_from n ms ls) xs
unfolding zipped
members_from info n [] ls [] e h = tt
members_from info n [] ls (x ∷ xs) e h = absurd (cc)
members_from info n (m ∷ ms) [] xs e h = absurd (omega arith)
members_from info n (m ∷ ms) (l ∷ ls) [] e h = absurd (cc)
members_from info n (m ∷ ms) (l ∷ ls) (x ∷ xs) e h =
    let first : member_seen x ≡ seen_method info m l = cc in
    let rest : map member_seen xs ≡ zipped info ms ls = cc in
    (member_of info (record { number = n; method = m; laid = l }) x first, members_from info (n + 1) ms ls xs (omega arith) rest)

pub members_are : (p : PackageRecord) (laid : List (Option Laid)) (xs : List WrittenMember) → MayBeLaid p laid
    → map member_seen xs ≡ seen_package p laid → writing.AreMembersOf p.methods.info (sources p laid) xs
members_are p laid xs l e = grind (arith, laid_each, elements_counted, elements_but, length-map, members_from, classes_zipped)

-- ---- the words of stack that each needs

stack_of : (info : List ℕ) (s : FormerMethod) (b : Body) → writing.IsBodyOf info s b → BodyHasSmallStack b → writing.LaidHasSmallStack s
stack_of info s z h f = grind (arith)

small_stacks : (info : List ℕ) (ss : List FormerMethod) (ms : List WrittenMember) → writing.AreMembersOf info ss ms
    → Each (λ m. BodyHasSmallStack m.body) ms → Each writing.LaidHasSmallStack ss
small_stacks info [] ms a f = tt
small_stacks info (s ∷ ss) [] a f = absurd a
small_stacks info (s ∷ ss) (m ∷ ms) a f = (stack_of info s m.body a.0.body f.0, small_stacks info ss ms a.1 f.1)

pub all_stacks : (info : List ℕ) (ss : List FormerMethod) (ms : List WrittenMember) → writing.AreMembersOf info ss ms → HaveSmallStacks ms
    → All writing.LaidHasSmallStack ss
all_stacks info ss ms a f = All-from_Each writing.LaidHasSmallStack ss (small_stacks info ss ms a (Each-from_All (λ m. BodyHasSmallStack m.body) ms f))

-- ---- each has code that may be laid for it

laid_all : (p : PackageRecord) (n : ℕ) (ms : List MethodDescriptor) (ls : List (Option Laid)) → AreElements p.methods.info (map Some ms) ls
    → Each (laying.FitsHeader p) (sources_from n ms ls)
laid_all p n [] ls i = tt
laid_all p n (m ∷ ms) [] i = tt
laid_all p n (m ∷ ms) (l ∷ ls) i = (i.0, laid_all p (n + 1) ms ls i.1)

pub are_laid_for : (p : PackageRecord) (laid : List (Option Laid)) → MayBeLaid p laid → laying.AreLaidFor p laid
are_laid_for p laid l =
    let set = names_interface p.classes in
    let cs = p.description.items.classes in
    All-from_Each (laying.FitsHeader p) (sources p laid)
    (laid_all p 0 (described_methods p) (laid_but set cs laid) (elements_but set p.methods.info cs laid l.elements))
