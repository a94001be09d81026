-- What is known of each method of the last package, before and after, where the code that is laid may stand there.
use Rattle.std.proofs.Common.{◌≡◌, ◌<◌, ◌+◌, ℕ, List, Bool, true, false, not, Option, Some, None, ◌&&◌, slice_index, refl, sym, ap, subst}
use Rattle.std.proofs.Common.{◌∙◌, arith}
use Rattle.std.specs.Prelude.{◌==◌}
use Rattle.std.proofs.lemmas.Bool.{false≢true}
use Rattle.cap_desc.specs.DescriptorFormat.{MethodDescriptor, ClassDescriptor}
use Rattle.cap_desc.specs.Members.{methods_but}
use Rattle.cap_method.specs.MethodFormat.{Header}
use Rattle.cap_package.specs.HeaderChecks.{header_in, is_abstract, abstract_fault, abstract_by}
use Rattle.cap_package.specs.PackageRecord.{PackageRecord, names_interface, described_methods}
use Rattle.cap_package.specs.Parts.{Lent}
use Rattle.cap_package.specs.StandsFor.{StandsFor}
use Rattle.cap_laying.specs.HeaderBytes.{is_compact}
use Rattle.cap_laying.specs.Member.{numbers_of}
use Rattle.jc_base.specs.declared.record.MethodRec.{MethodRec}
use Rattle.jc_base.specs.declared.record.Sig.{Sig}
use Rattle.jc_decode.specs.declared.symbols.Laid.{Laid}
use Rattle.jc_resolve.specs.WorldTypes.{declared_signature}
use Rattle.jc_resolve.specs.NamedMethods.{offset_in_info, body_after, body_by, class_described, have_headers, method_with, named_method}
use Rattle.law_package.specs.Changes.{Change, sources, changes, changes_of}
use Rattle.law_package.specs.Written.{IsAs, IsMethodWritten}
use Rattle.law_package.specs.Rewritten.{IsRewritten}
use Rattle.law_package.proofs.Lists.{Each, Has, each_at, each_of, map_each, none_each}
use Rattle.cap_package.proofs.Agreed.{agrees}
use Rattle.law_package.proofs.Zipped.{now_of}
use Rattle.law_package.proofs.Bare.{but_same}
use Rattle.law_package.proofs.Headers.{moved}
use Rattle.law_package.proofs.Facts.{WasWell, wells, news, old_each, all_written, few_by, plain}
use Rattle.law_relink.specs.Replaced.{MayReplace}
use Rattle.law_relink.proofs.Places.{to_set}
use Rattle.law_relink.proofs.Records.{with_header, without_header}
use Rattle.law_relink.proofs.Twins.{Twin, before_in, change_of, Told, IsTwin, OfClass, twins, each_twin, each_change}

-- ---- each change

pub record IsKnown (p q : PackageRecord) (all : List Change) (c : Change) : Type 0 where
  pub has : Has all c
  pub written : IsMethodWritten p q all c
  pub was : WasWell p c.source.method
  pub well : WasWell q c.now
  pub abstract : abstract_fault p.methods.info c.source.method ≡ None

all_known : (parts new_parts : List Lent) (p q : PackageRecord) (laid : List (Option Laid)) → StandsFor parts p
    → StandsFor new_parts q → IsRewritten p laid q → Each (IsKnown p q (changes p laid q)) (changes p laid q)
all_known parts new_parts p q laid s t r =
    let cs = changes p laid q in
    let a = agrees parts p s.agree in
    let written = all_written p q laid r in
    let was = old_each p q laid (WasWell p) r (wells parts p a) in
    let well = map_each (WasWell q) now_of cs (subst (Each (WasWell q)) (sym (news p q laid r))
    (wells new_parts q (agrees new_parts q t.agree))) in
    let bare = old_each p q laid (λ m. abstract_fault p.methods.info m ≡ None) r
    (none_each (abstract_fault p.methods.info) (described_methods p) a.bare) in
    grind (arith, written, was, well, bare, each_of, each_at)

changes_are : (p q : PackageRecord) (laid : List (Option Laid)) → IsRewritten p laid q
    → changes p laid q ≡ changes_of (sources p laid) (methods_but (names_interface p.classes) q.description.items.classes)
changes_are p q laid r = grind (arith, but_same, to_set)

abbrev pub twins_in : PackageRecord → PackageRecord → List (Option Laid) → List Twin
twins_in p q laid = twins 0 p.description.items.classes q.description.items.classes laid

abbrev pub IsKnownTwin : PackageRecord → PackageRecord → List (Option Laid) → Twin → Type 0
IsKnownTwin p q laid t = IsTwin (names_interface p.classes) (IsKnown p q (changes p laid q)) t

pub known_twins : (parts new_parts : List Lent) (p q : PackageRecord) (laid : List (Option Laid)) → StandsFor parts p
    → StandsFor new_parts q → IsRewritten p laid q → Each (IsKnownTwin p q laid) (twins_in p q laid)
known_twins parts new_parts p q laid s t r =
    let set = names_interface p.classes in
    each_twin set (IsKnown p q (changes p laid q)) 0 0 p.description.items.classes q.description.items.classes laid
    r.description.classes r.each
    (subst (Each (IsKnown p q (changes p laid q))) (changes_are p q laid r) (all_known parts new_parts p q laid s t r))

-- what holds of each twin whose class is no interface holds of each change
pub twin_changes : (p q : PackageRecord) (laid : List (Option Laid)) (P : Change → Type 0) → IsRewritten p laid q
    → Each (OfClass (names_interface p.classes) P) (twins_in p q laid) → Each P (changes p laid q)
twin_changes p q laid P r h =
    subst (Each P) (sym (changes_are p q laid r)) (each_change (names_interface p.classes) P 0 0 p.description.items.classes
    q.description.items.classes laid r.description.classes r.each h)

-- ---- headers

-- a method that has a header is one of a class
pub of_class : (ps : List PackageRecord) (k : ℕ) (p : PackageRecord) (c : ClassDescriptor) → have_headers ps k p c ≡ true
    → names_interface p.classes c.class_ref ≡ false
unfolding have_headers
of_class ps k p c e = grind (arith, false≢true)

pub twin_headers : (ps : List PackageRecord) (k : ℕ) (p q : PackageRecord) (laid : List (Option Laid)) (t : Twin)
    → IsRewritten p laid q → IsKnownTwin p q laid t → have_headers ps k q t.new_class ≡ have_headers ps k p t.old_class
unfolding have_headers
twin_headers ps k p q laid t r i = grind (arith, not, to_set)

-- ---- a method that code is laid for

not_abstract : (m : MethodDescriptor) (h : Header) → 0 < m.bytecode_count → abstract_by m (Some h) ≡ None → is_abstract h ≡ false
not_abstract m h some e = by (is_abstract h) (few_by (is_abstract h && not (m.bytecode_count == 0)) _ e)
  where
    by : (b : Bool) → b && not (m.bytecode_count == 0) ≡ false → b ≡ false
    by true f = let z : (m.bytecode_count == 0) ≡ false = grind arith in absurd (false≢true (sym f ∙ ap not z))
    by false f = refl

concrete_in : (info : List ℕ) (m : MethodDescriptor) (h : Header) → header_in info m.method_offset ≡ Some h → 0 < m.bytecode_count
    → abstract_fault info m ≡ None → is_abstract h ≡ false
unfolding abstract_fault
concrete_in info m h there some e = not_abstract m h some (ap (abstract_by m) (sym there) ∙ e)

-- it had a header, which is not abstract, and each handler that is laid catches all or what one of its handlers did
pub record HadCode
    (ps : List PackageRecord) (roles : List ℕ) (k : ℕ) (p q : PackageRecord) (laid : List (Option Laid)) (t : Twin) (l : Laid) : Type 0
  where
    pub headers : have_headers ps k p t.old_class ≡ true
    pub number : ℕ
    pub known : IsKnown p q (changes p laid q) (change_of number t)
    pub concrete : is_abstract known.was.header ≡ false
    pub is : named_method ps roles (before_in k p t)
        ≡ method_with (before_in k p t) (class_described ps k t.old_class)
        (declared_signature ps (slice_index roles 0) k p.description t.old.type_offset)
        (body_after ps (slice_index roles 1) k p t.old known.was.header
        (offset_in_info (t.old.method_offset + known.was.header.size)))

pub had_code : (ps : List PackageRecord) (roles : List ℕ) (k : ℕ) (p q : PackageRecord) (laid : List (Option Laid)) (t : Twin)
    (l : Laid) → IsKnownTwin p q laid t → MayReplace (named_method ps roles (before_in k p t)) l
    → HadCode ps roles k p q laid t l
had_code ps roles k p q laid t l i may = by (have_headers ps k p t.old_class) refl
  where
    by : (b : Bool) → have_headers ps k p t.old_class ≡ b → HadCode ps roles k p q laid t l
    by false e =
        let bare = ap (λ (m : MethodRec). m.code_len) (without_header ps roles k p t.class_no t.old_class t.method_no t.old e) in
        let some = may.filled in
        absurd (omega (arith, bare, some))
    by true e =
        let told = i.told (of_class ps k p t.old_class e) in
        let w = told.1.was in
        let is = with_header ps roles k p t.class_no t.old_class t.method_no t.old w.header e w.there in
        let long : (named_method ps roles (before_in k p t)).code_len ≡ t.old.bytecode_count =
        ap (λ (m : MethodRec). m.code_len) is in
        let some = may.filled in
        record {
          headers = e;
          number = told.0;
          known = told.1;
          concrete =
              concrete_in p.methods.info t.old w.header w.there (omega (arith, long, some)) told.1.abstract;
          is = is;
        }

-- ---- abstract methods stay abstract, and others do not become so

-- the code that is laid is that of a method that had code
abbrev pub MayBeLaid : List PackageRecord → List ℕ → ℕ → PackageRecord → Twin → Type 0
MayBeLaid ps roles k p t = (l : Laid) → t.laid ≡ Some l → MayReplace (named_method ps roles (before_in k p t)) l

abbrev pub abstract_of : Option Header → Bool
abstract_of None = true
abstract_of (Some h) = is_abstract h

header_as : (p q : PackageRecord) (all : List Change) (n : ℕ) (t : Twin) (k : IsKnown p q all (change_of n t)) (o : Option Laid)
    → IsAs p q t.old o t.new → ((l : Laid) → o ≡ Some l → is_abstract k.was.header ≡ false)
    → abstract_of (header_in q.methods.info t.new.method_offset) ≡ is_abstract k.was.header
header_as p q all n t k None is may =
    let mv = moved p.methods.info q.methods.info t.old.method_offset t.new.method_offset k.was.header is.header k.was.there in
    ap abstract_of (mv.header ∙ k.was.there)
header_as p q all n t k (Some l) is may = ap abstract_of is.header ∙ plain (is_compact (numbers_of l)) ∙ sym (may l refl)

-- a method with a header is abstract exactly where it was
pub abstract_stays : (ps : List PackageRecord) (roles : List ℕ) (k : ℕ) (p q : PackageRecord) (laid : List (Option Laid)) (t : Twin)
    (told : Told (IsKnown p q (changes p laid q)) t)
    → IsKnownTwin p q laid t → MayBeLaid ps roles k p t → abstract_of (header_in q.methods.info t.new.method_offset)
    ≡ abstract_of (header_in p.methods.info t.old.method_offset)
abstract_stays ps roles k p q laid t told i may =
    header_as p q (changes p laid q) told.0 t told.1 t.laid told.1.written.is
    (λ l e. let had = had_code ps roles k p q laid t l i (may l e) in
    same_header (header_in p.methods.info t.old.method_offset) had.known.was.header told.1.was.header had.known.was.there
    told.1.was.there had.concrete)
    ∙ sym (ap abstract_of told.1.was.there)
  where
    same_header : (o : Option Header) (g h : Header) → o ≡ Some g → o ≡ Some h → is_abstract g ≡ false → is_abstract h ≡ false
    same_header o g h a b e = let s : g ≡ h = cc in ap is_abstract (sym s) ∙ e

pub abstract_bodies : (ps qs : List PackageRecord) (throwable k : ℕ) (x y : PackageRecord) (m n : MethodDescriptor) (sig sig' : Sig)
    → abstract_of (header_in y.methods.info n.method_offset) ≡ abstract_of (header_in x.methods.info m.method_offset)
    → (body_by qs throwable k y n sig' (header_in y.methods.info n.method_offset)).is_abstract
    ≡ (body_by ps throwable k x m sig (header_in x.methods.info m.method_offset)).is_abstract
abstract_bodies ps qs throwable k x y m n sig sig' e = grind (arith)
