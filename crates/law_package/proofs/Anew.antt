-- Each method of a class with its record as it is written, and with the member that is written for it.
use Rattle.std.proofs.Common.{◌≡◌, ◌+◌, ℕ, zero, suc, List, [], ◌∷◌, ◌++◌, length}
use Rattle.std.proofs.Common.{map, replicate, Bool, true, false, cond, Option, Some, arith}
use Rattle.std.proofs.Common.{None, inl, inr, refl, sym, ap, subst, ◌∙◌}
use Rattle.std.specs.Prelude.{if◌then◌else◌, slice_index, find}
use Rattle.std.proofs.lemmas.List.{map-append}
use Rattle.std.proofs.lemmas.Bool.{eqb-true, eqb-false}
use Rattle.std.proofs.lemmas.Option.{same_Some}
use Rattle.cap_desc.specs.DescriptorFormat.{MethodDescriptor, ClassDescriptor}
use Rattle.cap_desc.specs.Members.{methods_but}
use Rattle.cap_components.specs.PackageRecord.{PackageRecord, described_methods, names_interface}
use Rattle.cap_renewal.specs.declared.new_methods.NewMethod.{NewMethod}
use Rattle.cap_renewal.specs.NewMethods.{at_offset, offset_or, to, new_numbers}
use Rattle.cap_renewal.specs.DescriptorEdits.{renewed_method, renewed_class}
use Rattle.cap_laying.specs.declared.member.WrittenMember.{WrittenMember}
use Rattle.cap_laying.specs.Member.{code_size, handlers_of}
use Rattle.cap_laying.specs.NewPlaces.{new_if, news_from}
use Rattle.cap_laying.specs.Member.{by_offset, size_if}
use Rattle.cap_laying.specs.Blocks.{blocks, handler_indexes}
use Rattle.cap_laying.specs.Members.{new_places, start_of}
use Rattle.cap_laying.specs.Standing.{StandsAnew, AllStand}
use Rattle.jc_decode.specs.declared.symbols.Laid.{Laid}
use Rattle.law_package.specs.Changes.{FormerMethod, Change, sources, changes, changes_of, stood_at, offset_by, now_at, laid_but}
use Rattle.law_package.specs.Rewritten.{bare_method, bare_class}
use Rattle.law_package.specs.Writing.{IsMemberOf, AreMembersOf, IsWrittenAnew, places}
use Rattle.law_package.proofs.Lists.{Each, Has, each_at, each_of, map_each}
use Rattle.law_package.proofs.Zipped.{method_of, sources_method, length_but}
use Rattle.law_package.proofs.Bare.{but_same, same_interfaces}
use Rattle.law_package.proofs.Slots.{slot, kept, slot_none, at_offset_of, by_offset_is}
use Rattle.jc_base.proofs.Eaching.{Each-map}

-- ---- the pairs

pub record Pair : Type 0 where
  pub source : FormerMethod
  pub member : WrittenMember

pub pairs_of : List FormerMethod → List WrittenMember → List Pair
pairs_of [] ms = []
pairs_of (s ∷ ss) [] = []
pairs_of (s ∷ ss) (m ∷ ms) = record { source = s; member = m } ∷ pairs_of ss ms

abbrev pub source_in : Pair → FormerMethod
source_in z = z.source

abbrev pub member_in : Pair → WrittenMember
member_in z = z.member

pub pair_sources : (info : List ℕ) (ss : List FormerMethod) (ms : List WrittenMember) → AreMembersOf info ss ms → map source_in (pairs_of ss ms) ≡ ss
unfolding pairs_of
pair_sources info [] [] a = refl
pair_sources info [] (m ∷ ms) a = absurd a
pair_sources info (s ∷ ss) [] a = absurd a
pair_sources info (s ∷ ss) (m ∷ ms) a = ap (λ xs. s ∷ xs) (pair_sources info ss ms a.1)

pub pair_members : (info : List ℕ) (ss : List FormerMethod) (ms : List WrittenMember) → AreMembersOf info ss ms → map member_in (pairs_of ss ms) ≡ ms
unfolding pairs_of
pair_members info [] [] a = refl
pair_members info [] (m ∷ ms) a = absurd a
pair_members info (s ∷ ss) [] a = absurd a
pair_members info (s ∷ ss) (m ∷ ms) a = ap (λ xs. m ∷ xs) (pair_members info ss ms a.1)

pub pair_each : (info : List ℕ) (ss : List FormerMethod) (ms : List WrittenMember) → AreMembersOf info ss ms
    → Each (λ (z : Pair). IsMemberOf info z.source z.member) (pairs_of ss ms)
unfolding pairs_of
pair_each info [] [] a = tt
pair_each info [] (m ∷ ms) a = absurd a
pair_each info (s ∷ ss) [] a = absurd a
pair_each info (s ∷ ss) (m ∷ ms) a = (a.0, pair_each info ss ms a.1)

-- a method with its record as it is written
abbrev pub change_in : List (Option NewMethod) → Pair → Change
change_in news z = record { source = z.source; now = renewed_method news z.source.method }

changes_are : (info : List ℕ) (news : List (Option NewMethod)) (ss : List FormerMethod) (ms : List WrittenMember) → AreMembersOf info ss ms
    → changes_of ss (map (renewed_method news) (map method_of ss)) ≡ map (change_in news) (pairs_of ss ms)
unfolding pairs_of
changes_are info news [] [] a = refl
changes_are info news [] (m ∷ ms) a = absurd a
changes_are info news (s ∷ ss) [] a = absurd a
changes_are info news (s ∷ ss) (m ∷ ms) a = ap (λ xs. record { source = s; now = renewed_method news s.method } ∷ xs) (changes_are info news ss ms a.1)

-- ---- the Descriptor

but_by : (set : ℕ → Bool) (f : MethodDescriptor → MethodDescriptor) (c : ClassDescriptor) (b : Bool) (us : List ClassDescriptor)
    (vs : List MethodDescriptor) → set c.class_ref ≡ b → methods_but set us ≡ map f vs
    → methods_but set ((if b then c else record c { methods = map f c.methods }) ∷ us) ≡ map f (if b then vs else c.methods ++ vs)
but_by set f c u us vs e h = grind (arith, map-append)

but_renewed : (set : ℕ → Bool) (news : List (Option NewMethod)) (cs : List ClassDescriptor) → methods_but set (map (renewed_class set news) cs)
    ≡ map (renewed_method news) (methods_but set cs)
but_renewed set news [] = refl
but_renewed set news (c ∷ cs) = grind (arith, but_by, but_renewed set news cs)

bare_renewed : (news : List (Option NewMethod)) (ms : List MethodDescriptor) → map bare_method (map (renewed_method news) ms) ≡ map bare_method ms
bare_renewed news [] = refl
bare_renewed news (m ∷ ms) = ap (λ ns. bare_method m ∷ ns) (bare_renewed news ms)

bare_by : (set : ℕ → Bool) (news : List (Option NewMethod)) (c : ClassDescriptor) (b : Bool) → set c.class_ref ≡ b
    → bare_class set (if b then c else record c { methods = map (renewed_method news) c.methods }) ≡ bare_class set c
bare_by set news c true e = refl
bare_by set news c false e =
    ap (λ b. with_methods (if b then map (renewed_method news) c.methods else map bare_method (map (renewed_method news) c.methods))) e
    ∙ ap with_methods (bare_renewed news c.methods)
    ∙ ap (λ b. with_methods (if b then c.methods else map bare_method c.methods)) (sym e)
  where
    with_methods : List MethodDescriptor → ClassDescriptor
    with_methods ms = record c { methods = ms }

pub memberless_classes : (set : ℕ → Bool) (news : List (Option NewMethod)) (cs : List ClassDescriptor)
    → map (bare_class set) (map (renewed_class set news) cs) ≡ map (bare_class set) cs
memberless_classes set news [] = refl
memberless_classes set news (c ∷ cs) = grind (arith, bare_by, memberless_classes set news cs)

abbrev pub pairs_in : PackageRecord → List (Option Laid) → List WrittenMember → List Pair
pairs_in p laid ms = pairs_of (sources p laid) ms

pub all_changes : (p q : PackageRecord) (laid : List (Option Laid)) (ms : List WrittenMember) → IsWrittenAnew p laid ms q
    → changes p laid q ≡ map (change_in (places p ms)) (pairs_in p laid ms)
all_changes p q laid ms w =
    let set = names_interface p.classes in
    let news = places p ms in
    let was : map method_of (sources p laid) ≡ described_methods p = sources_method 0 (described_methods p)
    (laid_but set p.description.items.classes laid) (length_but set p.description.items.classes laid w.each) in
    let is : described_methods q ≡ map (renewed_method news) (map method_of (sources p laid)) =
    but_same (names_interface q.classes) set q.description.items.classes
    (λ n. ap (λ cs. names_interface cs n) w.classes ∙ same_interfaces (to news) p.classes n)
    ∙ ap (λ d. methods_but set d.classes) w.description ∙ but_renewed set news p.description.items.classes ∙ ap (map (renewed_method news)) (sym was) in
    ap (changes_of (sources p laid)) is ∙ changes_are p.methods.info news (sources p laid) ms w.members

-- ---- where a member stands

pub standing : (size room : ℕ) (all ms : List WrittenMember) → AllStand size room all ms → Each (StandsAnew size room all) ms
standing size room all [] a = tt
standing size room all (m ∷ ms) a = (a.0, standing size room all ms a.1)

-- what the Descriptor tells of a method that is written
pub record IsToldOf (news : List (Option NewMethod)) (indexes : List ℕ) (z : Pair) : Type 0 where
  pub offset : (renewed_method news z.source.method).method_offset ≡ to news z.member.offset
  pub count : (renewed_method news z.source.method).bytecode_count ≡ code_size z.member.body
  pub many : (renewed_method news z.source.method).handler_count ≡ length (handlers_of z.member.body)
  pub index : (renewed_method news z.source.method).handler_index ≡ slice_index indexes z.member.offset

pub is_told_of : (info : List ℕ) (size room : ℕ) (all : List WrittenMember) (z : Pair) → IsMemberOf info z.source z.member
    → StandsAnew size room all z.member → IsToldOf (new_places size room all) (handler_indexes size (blocks room all)) z
unfolding new_numbers
is_told_of info size room all z is st = grind (arith)

-- ---- offsets

none_new : (indexes : List ℕ) (at : ℕ) (table : List (Option WrittenMember)) (o : ℕ) → slot table o ≡ None
    → at_offset (news_from indexes at table) o ≡ None
none_new indexes at [] o e = refl
none_new indexes at (s ∷ table) zero e = ap (new_if indexes at) e
none_new indexes at (s ∷ table) (suc o) e = none_new indexes (at + size_if s) table o e

-- where no method stood an offset stays
stays : (size room : ℕ) (ms : List WrittenMember) (o : ℕ) → Each (λ (m : WrittenMember). at_offset_of m ≡ Some o → ⊥) ms
    → to (new_places size room ms) o ≡ o
unfolding to new_places
stays size room ms o h =
    let empty : slot (by_offset size ms) o ≡ None = ap (λ t. slot t o) (by_offset_is size ms) ∙ kept at_offset_of (replicate size None) ms o h
    ∙ slot_none size o in
    ap (offset_or o) (none_new (handler_indexes size (blocks room ms)) (start_of room ms) (by_offset size ms) o empty)

pub data Finding {X : Type 0} (p : X → Bool) (xs : List X) : Type 0 where
  nowhere : find p xs ≡ None → Each (λ x. p x ≡ false) xs → Finding p xs
  first : (x : X) → find p xs ≡ Some x → Has xs x → p x ≡ true → Finding p xs

look : {X : Type 0} (p : X → Bool) (xs : List X) → Finding p xs
look p [] = nowhere refl tt
look p (x ∷ xs) = by (p x) refl (look p xs)
  where
    by : (b : Bool) → p x ≡ b → Finding p xs → Finding p (x ∷ xs)
    by true e others = first x (ap (λ c. cond c (Some x) (find p xs)) e) (inl refl) e
    by false e (nowhere f h) = nowhere (ap (λ c. cond c (Some x) (find p xs)) e ∙ f) (e, h)
    by false e (first y f h t) = first y (ap (λ c. cond c (Some x) (find p xs)) e ∙ f) (inr h) t

pub has_source : {X Y : Type 0} (g : X → Y) (xs : List X) (y : Y) → Has (map g xs) y → (x : X) × Has xs x × (y ≡ g x)
has_source g [] y h = absurd h
has_source g (x ∷ xs) y (inl s) = (x, inl refl, s)
has_source g (x ∷ xs) y (inr h) = let r = has_source g xs y h in (r.0, inr r.1, r.2)

-- names of methods are renewed as the offsets of described methods change
pub renamed : (p q : PackageRecord) (laid : List (Option Laid)) (ms : List WrittenMember) → IsWrittenAnew p laid ms q
    → Each (λ (z : Pair). IsToldOf (places p ms) (handler_indexes (length p.methods.info) (blocks (length p.methods.handlers) ms)) z) (pairs_in p laid ms)
    → (o : ℕ) → now_at (changes p laid q) o ≡ to (places p ms) o
unfolding now_at
renamed p q laid ms w told o =
    ap (λ cs. offset_by o (find (stood_at o) cs)) (all_changes p q laid ms w) ∙ by (look (stood_at o) (map (change_in (places p ms)) (pairs_in p laid ms)))
  where
    at_one : (z : Pair) → IsMemberOf p.methods.info z.source z.member
        → IsToldOf (places p ms) (handler_indexes (length p.methods.info) (blocks (length p.methods.handlers) ms)) z
        → stood_at o (change_in (places p ms) z) ≡ true
        → (renewed_method (places p ms) z.source.method).method_offset ≡ to (places p ms) o
    at_one z is t e = t.offset ∙ ap (to (places p ms)) (is.offset ∙ eqb-true z.source.method.method_offset o e)

    by : Finding (stood_at o) (map (change_in (places p ms)) (pairs_in p laid ms))
        → offset_by o (find (stood_at o) (map (change_in (places p ms)) (pairs_in p laid ms))) ≡ to (places p ms) o
    by (nowhere f h) =
        let zs = pairs_in p laid ms in
        let is = pair_each p.methods.info (sources p laid) ms w.members in
        let none : Each (λ (z : Pair). stood_at o (change_in (places p ms) z) ≡ false) zs = map_each (λ c. stood_at o c ≡ false)
        (change_in (places p ms)) zs h in
        let others : Each (λ (m : WrittenMember). at_offset_of m ≡ Some o → ⊥) ms =
        subst (Each (λ (m : WrittenMember). at_offset_of m ≡ Some o → ⊥)) (pair_members p.methods.info (sources p laid) ms w.members)
        (Each-map (λ (m : WrittenMember). at_offset_of m ≡ Some o → ⊥) member_in zs (each_of (λ (z : Pair). at_offset_of z.member ≡ Some o → ⊥) zs
        (λ z g. λ e. eqb-false z.source.method.method_offset o (each_at (λ (x : Pair). stood_at o (change_in (places p ms) x) ≡ false) zs z none g)
        (sym (each_at (λ (x : Pair). IsMemberOf p.methods.info x.source x.member) zs z is g).offset ∙ same_Some z.member.offset o e)))) in
        ap (offset_by o) f ∙ sym (stays (length p.methods.info) (length p.methods.handlers) ms o others)
    by (first c f h t) = grind (arith, has_source, each_at, pair_each)
