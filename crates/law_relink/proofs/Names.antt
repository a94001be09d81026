-- Imports and class references name the same packages and classes.
use Rattle.std.proofs.Common.{◌≡◌, ◌<◌, ◌+◌, ℕ, zero, suc, List, [], ◌∷◌, ◌++◌, length, take, map, slice_get, position, Bool}
use Rattle.std.proofs.Common.{false, Option, Some, None, option_map, option_and_then, refl, sym, ap, subst, ◌∙◌, arith}
use Rattle.std.proofs.lemmas.List.{map-append}
use Rattle.cap_bytes.specs.declared.class_reference.ClassReference.{ClassReference}
use Rattle.cap_bytes.specs.declared.class_reference.ClassReference.TheVariants.{Internal, External}
use Rattle.cap_bytes.specs.ClassReference.{reference_of}
use Rattle.cap_frame.specs.PackageFormat.{Package}
use Rattle.cap_pool.specs.ExportFormat.{Exported}
use Rattle.cap_class.specs.ClassFormat.{Class, is_interface}
use Rattle.cap_package.specs.PackageRecord.{PackageRecord}
use Rattle.cap_package.specs.Agreement.{or_none}
use Rattle.cap_renewal.specs.ClassEdits.{renewed_class}
use Rattle.cap_renewal.specs.ExportEdits.{renewed_exported}
use Rattle.jc_decode.specs.declared.symbols.Laid.{Laid}
use Rattle.jc_resolve.specs.declared.fault.RecordPlace.{RecordPlace}
use Rattle.jc_resolve.specs.Numbering.{NumberedClass, numbered_class, numbered_classes_of, classes_after, class_places}
use Rattle.jc_resolve.specs.Numbering.{class_at, same_place, flagged_interface, is_interface_number}
use Rattle.jc_resolve.specs.References.{meets_import, import_of, met_by, exported_offset, exported_place, place_referred, class_referred, class_named}
use Rattle.law_package.specs.Changes.{changes, now_at}
use Rattle.law_package.specs.Rewritten.{IsRewritten}
use Rattle.law_package.proofs.Lists.{Each, each_of}
use Rattle.law_package.proofs.Kept.{offsets_same}
use Rattle.law_relink.specs.Last.{and_last}
use Rattle.law_relink.proofs.Lists.{map_last, get_view, take_view, position_alike}

-- ---- imports

meets_same : (asked : Package) (p q : PackageRecord) → q.header ≡ p.header → meets_import asked q ≡ meets_import asked p
meets_same asked p q e = rw e refl

import_same : (ps : List PackageRecord) (p q : PackageRecord) (k token : ℕ) → q.imports ≡ p.imports
    → import_of (and_last ps q) k token ≡ import_of (and_last ps p) k token
import_same ps p q k token e =
    get_view (λ (x : PackageRecord). x.imports) (λ is. slice_get is token) (and_last ps q) k
    ∙ ap (λ xs. option_and_then (λ is. slice_get is token) (slice_get xs k)) (map_last (λ (x : PackageRecord). x.imports) ps p q e)
    ∙ sym (get_view (λ (x : PackageRecord). x.imports) (λ is. slice_get is token) (and_last ps p) k)

pub met_same : (ps : List PackageRecord) (p q : PackageRecord) (k token : ℕ) → q.header ≡ p.header → q.imports ≡ p.imports
    → met_by (and_last ps q) k token ≡ met_by (and_last ps p) k token
unfolding met_by
met_same ps p q k token h e =
    ap (option_and_then (λ asked. position (meets_import asked) (take k (and_last ps q)))) (import_same ps p q k token e)
    ∙ by (import_of (and_last ps p) k token)
  where
    by : (o : Option Package) → option_and_then (λ asked. position (meets_import asked) (take k (and_last ps q))) o
        ≡ option_and_then (λ asked. position (meets_import asked) (take k (and_last ps p))) o
    by None = refl
    by (Some asked) = position_alike (meets_import asked) (meets_import asked) (take k (and_last ps q)) (take k (and_last ps p))
        (take_view (meets_import asked) k (and_last ps q) ∙ ap (take k) (map_last (meets_import asked) ps p q (meets_same asked p q h))
        ∙ sym (take_view (meets_import asked) k (and_last ps p)))

-- ---- classes by number

of_last : {Y : Type 0} (now was : NumberedClass → Y) (f : ℕ → ℕ) (k : ℕ) (p q : PackageRecord) (cs : List Class)
    → Each (λ (c : Class). now (numbered_class k q (renewed_class f c)) ≡ was (numbered_class k p c)) cs
    → map now (map (numbered_class k q) (map (renewed_class f) cs)) ≡ map was (map (numbered_class k p) cs)
of_last now was f k p q [] h = refl
of_last now was f k p q (c ∷ cs) h = grind (arith, map, of_last now was f k p q cs h.1)

of_others : {Y : Type 0} (now was : NumberedClass → Y) (k : ℕ) (p : PackageRecord) (cs : List Class)
    → ((c : Class) → now (numbered_class k p c) ≡ was (numbered_class k p c))
    → map now (map (numbered_class k p) cs) ≡ map was (map (numbered_class k p) cs)
of_others now was k p [] h = refl
of_others now was k p (c ∷ cs) h = grind (arith, map, of_others now was k p cs h)

-- what is told of the classes of all packages is the same where it is so of those of the last one, and of those of the others
pub classes_alike : {Y : Type 0} (now was : NumberedClass → Y) (f : ℕ → ℕ) (k : ℕ) (ps : List PackageRecord) (p q : PackageRecord)
    → q.classes ≡ map (renewed_class f) p.classes
    → ((j : ℕ) (r : PackageRecord) (c : Class) → j < k + length ps → now (numbered_class j r c) ≡ was (numbered_class j r c))
    → Each (λ (c : Class). now (numbered_class (k + length ps) q (renewed_class f c)) ≡ was (numbered_class (k + length ps) p c))
    p.classes
    → map now (classes_after k (and_last ps q)) ≡ map was (classes_after k (and_last ps p))
classes_alike now was f k [] p q e others last =
    let z : k + 0 ≡ k = omega arith in
    map-append now (numbered_classes_of k q) []
    ∙ ap (λ ys. ys ++ []) (ap (λ cs. map now (map (numbered_class k q) cs)) e
    ∙ of_last now was f k p q p.classes (subst (λ n. Each (λ (c : Class). now (numbered_class n q (renewed_class f c))
    ≡ was (numbered_class n p c)) p.classes) z last))
    ∙ sym (map-append was (numbered_classes_of k p) [])
classes_alike now was f k (r ∷ ps) p q e others last =
    let z : k + suc (length ps) ≡ k + 1 + length ps = omega arith in
    map-append now (numbered_classes_of k r) (classes_after (k + 1) (and_last ps q))
    ∙ ap (λ ys. ys ++ map now (classes_after (k + 1) (and_last ps q)))
    (of_others now was k r r.classes (λ c. others k r c (omega arith)))
    ∙ ap (λ ys. map was (numbered_classes_of k r) ++ ys) (classes_alike now was f (k + 1) ps p q e (λ j x c lt. others j x c (omega arith))
    (subst (λ n. Each (λ (c : Class). now (numbered_class n q (renewed_class f c)) ≡ was (numbered_class n p c)) p.classes) z last))
    ∙ sym (map-append was (numbered_classes_of k r) (classes_after (k + 1) (and_last ps p)))

pub places_same : (f : ℕ → ℕ) (ps : List PackageRecord) (p q : PackageRecord) → q.classes ≡ map (renewed_class f) p.classes
    → class_places (and_last ps q) ≡ class_places (and_last ps p)
places_same f ps p q e = grind (arith, classes_alike, each_of, length)

pub class_at_same : (f : ℕ → ℕ) (ps : List PackageRecord) (p q : PackageRecord) (place : RecordPlace)
    → q.classes ≡ map (renewed_class f) p.classes → class_at (and_last ps q) place ≡ class_at (and_last ps p) place
unfolding class_at
class_at_same f ps p q place e = ap (position (same_place place)) (places_same f ps p q e)

flag_of : NumberedClass → Bool
flag_of c = is_interface c.record_of.flags

abbrev told : Option Bool → Bool
told None = false
told (Some b) = b

flag_told : (xs : List NumberedClass) (k : ℕ) → flagged_interface (slice_get xs k) ≡ told (slice_get (map flag_of xs) k)
unfolding flag_of
flag_told [] k = refl
flag_told (x ∷ xs) zero = refl
flag_told (x ∷ xs) (suc k) = flag_told xs k

pub interface_number_same : (f : ℕ → ℕ) (ps : List PackageRecord) (p q : PackageRecord) (c : ℕ)
    → q.classes ≡ map (renewed_class f) p.classes → is_interface_number (and_last ps q) c ≡ is_interface_number (and_last ps p) c
unfolding is_interface_number flag_of
interface_number_same f ps p q c e = grind (arith, flag_told, slice_get, classes_alike, flag_of, each_of, length)

-- ---- class references

abbrev offsets_of : PackageRecord → List ℕ
offsets_of p = map (λ (c : Exported). c.class_offset) (or_none p.export)

get_offset : (cs : List Exported) (token : ℕ) → option_map (λ (c : Exported). c.class_offset) (slice_get cs token)
    ≡ slice_get (map (λ (c : Exported). c.class_offset) cs) token
get_offset [] token = refl
get_offset (c ∷ cs) zero = refl
get_offset (c ∷ cs) (suc token) = get_offset cs token

offset_view : (ps : List PackageRecord) (k token : ℕ) → exported_offset ps k token
    ≡ option_and_then (λ xs. slice_get xs token) (slice_get (map offsets_of ps) k)
offset_view [] k token = refl
offset_view (p ∷ ps) zero token = get_offset (or_none p.export) token
offset_view (p ∷ ps) (suc k) token = offset_view ps k token

exported_same : (f : ℕ → ℕ) (ps : List PackageRecord) (p q : PackageRecord) (k token : ℕ)
    → q.export ≡ option_map (map (renewed_exported f)) p.export → exported_offset (and_last ps q) k token
    ≡ exported_offset (and_last ps p) k token
exported_same f ps p q k token e =
    offset_view (and_last ps q) k token
    ∙ ap (λ xs. option_and_then (λ os. slice_get os token) (slice_get xs k))
    (map_last offsets_of ps p q (ap (λ o. map (λ (c : Exported). c.class_offset) (or_none o)) e ∙ offsets_same f p.export))
    ∙ sym (offset_view (and_last ps p) k token)

pub referred_same : (ps : List PackageRecord) (p q : PackageRecord) (laid : List (Option Laid)) (k : ℕ) (reference : ClassReference)
    → IsRewritten p laid q → class_referred (and_last ps q) k reference ≡ class_referred (and_last ps p) k reference
unfolding class_referred
referred_same ps p q laid k reference r =
    at_place (place_referred (and_last ps q) k reference) ∙ ap (option_and_then (class_at (and_last ps p))) (place_same reference)
  where
    at_place : (o : Option RecordPlace) → option_and_then (class_at (and_last ps q)) o
        ≡ option_and_then (class_at (and_last ps p)) o
    at_place None = refl
    at_place (Some place) = class_at_same (now_at (changes p laid q)) ps p q place r.classes

    exported : (class : ℕ) (o : Option ℕ) → option_and_then (λ j. exported_place (and_last ps q) j class) o
        ≡ option_and_then (λ j. exported_place (and_last ps p) j class) o
    exported class None = refl
    exported class (Some j) = grind (arith, exported_same (now_at (changes p laid q)) ps p q j class r.export, option_map)

    place_same : (reference : ClassReference) → place_referred (and_last ps q) k reference ≡ place_referred (and_last ps p) k reference
    place_same (Internal offset) = refl
    place_same (External import class) = ap (option_and_then (λ j. exported_place (and_last ps q) j class))
        (met_same ps p q k import r.header r.imports)
        ∙ exported class (met_by (and_last ps p) k import)

pub named_same : (ps : List PackageRecord) (p q : PackageRecord) (laid : List (Option Laid)) (k reference : ℕ)
    → IsRewritten p laid q → class_named (and_last ps q) k reference ≡ class_named (and_last ps p) k reference
unfolding class_named
named_same ps p q laid k reference r = referred_same ps p q laid k (reference_of reference) r
