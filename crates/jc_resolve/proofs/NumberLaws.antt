-- The numbers that the tables keep are the positions of classes and methods.
use Rattle.std.proofs.Common.{◌≡◌, ℕ, suc, ◌+◌, ◌<◌, Bool, true, false, cond, eqb, List, [], ◌∷◌, ◌++◌, length, map, Option, Some}
use Rattle.std.proofs.Common.{None, position, slice_get, option_map, IfSome, is_some, refl, sym, ap, ap₂, ◌∙◌, arith, if◌then◌else◌}
use Rattle.std.proofs.Common.{get_or}
use Rattle.std.specs.List.{position_from}
use Rattle.std.specs.Map.{lookup}
use Rattle.std.proofs.lemmas.Bool.{eqb-true, and_parts}
use Rattle.std.proofs.lemmas.List.{map-append, length-map}
use Rattle.std.proofs.lemmas.Iterator.Adapters.{position_from-zero}
use Rattle.std.proofs.lemmas.Option.{slice_get-map, slice_get-get_or}
use Rattle.indexmap.specs.IndexMap.{insert_entry}
use Rattle.indexmap.proofs.MapLemmas.{absent_from_lookup, insert_entry-absent}
use Rattle.cap_class.specs.ClassFormat.{Class, is_interface}
use Rattle.cap_desc.specs.DescriptorFormat as described
use Rattle.cap_pool.specs.ExportFormat.{Exported}
use Rattle.cap_package.specs.PackageRecord.{PackageRecord, names_interface}
use Rattle.jc_resolve.specs.declared.fault.RecordPlace.{RecordPlace}
use Rattle.jc_resolve.specs.Numbering.{NumberedClass, same_place, is_at, numbered_classes_of}
use Rattle.jc_resolve.specs.Numbering.{classes_after, numbered_classes, place_of_class}
use Rattle.jc_resolve.specs.Numbering.{class_at, flagged_interface, is_interface_number, is_placed}
use Rattle.jc_resolve.specs.Numbering.{methods_of_class, methods_of_classes, methods_after}
use Rattle.jc_resolve.specs.Numbering.{numbered_methods, place_of_method, method_at}
use Rattle.jc_resolve.specs.Numbers.{Numbered, none_numbered, number_by_place, added_entry, with_next}
use Rattle.jc_resolve.specs.Numbers.{with_all, spot_of_class, class_spots, interface_flags}
use Rattle.jc_resolve.specs.Numbers.{spot_of_method, spots_of_classes, method_spots, AreIndexed}

-- ---- places

pub same-equal : (a b : RecordPlace) → same_place a b ≡ true → a ≡ b
same-equal a b h = grind (arith, and_parts, eqb, eqb-true)

-- ---- tables

or_else : Option ℕ → Option ℕ → Option ℕ
or_else None o = o
or_else (Some x) o = Some x

or_none : (o : Option ℕ) → o ≡ or_else o None
unfolding or_else
or_none None = refl
or_none (Some x) = refl

lookup_after : (t : RecordPlace → Bool) (es : List (RecordPlace × ℕ)) (q : RecordPlace) (n : ℕ)
    → lookup t (es ++ (q, n) ∷ []) ≡ or_else (lookup t es) (cond (t q) (Some n) None)
unfolding or_else
lookup_after t [] q n = refl
lookup_after t (e ∷ es) q n = by (t e.0) (lookup_after t es q n)
  where
    by : (b : Bool) → lookup t (es ++ (q, n) ∷ []) ≡ or_else (lookup t es) (cond (t q) (Some n) None)
        → cond b (Some e.1) (lookup t (es ++ (q, n) ∷ [])) ≡ or_else (cond b (Some e.1) (lookup t es)) (cond (t q) (Some n) None)
    by true h = refl
    by false h = h

joined : (o : Option ℕ) (b : Bool) (n : ℕ) (rest : Option ℕ) → or_else (or_else o (cond b (Some n) None)) rest ≡ or_else o (cond b (Some n) rest)
unfolding or_else
joined None true n rest = refl
joined None false n rest = refl
joined (Some x) b n rest = refl

after : (es : List (RecordPlace × ℕ)) (q : RecordPlace) (n : ℕ) (place : RecordPlace) (rest o : Option ℕ) → number_by_place es q ≡ o
    → (b : Bool) → same_place place q ≡ b → or_else (number_by_place (added_entry es q n) place) rest ≡ or_else (number_by_place es place)
    (cond b (Some n) rest)
unfolding added_entry or_else
after es q n place rest (Some m) e false f =
    ap (λ (x : Option ℕ). or_else (number_by_place (if is_some x then es else insert_entry same_place es q n) place) rest) e
after es q n place rest (Some m) e true f =
    let same : number_by_place es place ≡ Some m = ap (number_by_place es) (same-equal place q f) ∙ e in
    ap (λ (x : Option ℕ). or_else (number_by_place (if is_some x then es else insert_entry same_place es q n) place) rest) e
    ∙ ap (λ (x : Option ℕ). or_else x rest) same
    ∙ sym (ap (λ (x : Option ℕ). or_else x (Some n)) same)
after es q n place rest None e b f =
    ap (λ (x : Option ℕ). or_else (number_by_place (if is_some x then es else insert_entry same_place es q n) place) rest) e
    ∙ ap (λ l. or_else (number_by_place l place) rest) (insert_entry-absent same_place q n es (absent_from_lookup (same_place q) es e))
    ∙ ap (λ x. or_else x rest) (lookup_after (same_place place) es q n)
    ∙ joined (number_by_place es place) (same_place place q) n rest
    ∙ ap (λ c. or_else (number_by_place es place) (cond c (Some n) rest)) f

-- the number that is kept at a place is that of the first thing there
numbered-all : (spots : List (Option RecordPlace)) (t : Numbered) (place : RecordPlace) → number_by_place (with_all t spots).entries place
    ≡ or_else (number_by_place t.entries place) (position_from (is_at place) t.next spots)
unfolding with_next
numbered-all [] t place = or_none (number_by_place t.entries place)
numbered-all (None ∷ spots) t place = numbered-all spots (record { entries = t.entries; next = t.next + 1 }) place
numbered-all (Some q ∷ spots) t place =
    numbered-all spots (record { entries = added_entry t.entries q t.next; next = t.next + 1 }) place
    ∙ after t.entries q t.next place (position_from (is_at place) (t.next + 1) spots) (number_by_place t.entries q) refl (same_place place q) refl

pub numbered-first : (spots : List (Option RecordPlace)) (place : RecordPlace) → number_by_place (with_all none_numbered spots).entries place
    ≡ position (is_at place) spots
unfolding or_else
numbered-first spots place = numbered-all spots none_numbered place ∙ sym (position_from-zero (is_at place) spots)

-- ---- classes

spots-are : (k : ℕ) (ps : List PackageRecord) → class_spots k ps ≡ map (λ c. Some (place_of_class c)) (classes_after k ps)
spots-are k [] = refl
spots-are k (p ∷ ps) =
    ap₂ ◌++◌ (spots_of p.classes) (spots-are (k + 1) ps)
    ∙ sym (map-append (λ c. Some (place_of_class c)) (numbered_classes_of k p) (classes_after (k + 1) ps))
  where
    spots_of : (cs : List Class) → map (spot_of_class k) cs ≡ map (λ c. Some (place_of_class c))
        (map (λ c. record { home = k; of_package = p; record_of = c }) cs)
    spots_of [] = refl
    spots_of (c ∷ cs) = ap (λ l. spot_of_class k c ∷ l) (spots_of cs)

position_of : (place : RecordPlace) (n : ℕ) (cs : List NumberedClass) → position_from (is_at place) n (map (λ c. Some (place_of_class c)) cs)
    ≡ position_from (same_place place) n (map place_of_class cs)
position_of place n [] = refl
position_of place n (c ∷ cs) = ap (λ o. cond (same_place place (place_of_class c)) (Some n) o) (position_of place (n + 1) cs)

pub class_numbered : (ps : List PackageRecord) (t : Numbered) (flags : List Bool) (m : Numbered) (exports : List (List Exported))
    (met : List (List (Option ℕ))) (place : RecordPlace) → AreIndexed ps t flags m exports met → number_by_place t.entries place ≡ class_at ps place
unfolding class_at
class_numbered ps t flags m exports met place h = grind (arith, numbered-first, position, spots-are, position_from-zero, position_of)

-- ---- numbers are below the number of classes

within_by : (n : ℕ) (many i : ℕ) (rest : Option ℕ) (b : Bool) → (rest ≡ Some i → i < n + 1 + many) → cond b (Some n) rest ≡ Some i
    → i < n + suc many
within_by n many i rest v known e = grind (arith)

position_within : {X : Type 0} (t : X → Bool) (n : ℕ) (xs : List X) (i : ℕ) → position_from t n xs ≡ Some i → i < n + length xs
position_within t n [] i h = absurd cc
position_within t n (x ∷ xs) i h = within_by n (length xs) i (position_from t (n + 1) xs) (t x) (λ e. position_within t (n + 1) xs i e) h

pub position_below : {X : Type 0} (t : X → Bool) (xs : List X) (i : ℕ) → position t xs ≡ Some i → i < length xs
position_below t xs i h = let k = position_within t 0 xs i (sym (position_from-zero t xs) ∙ h) in omega arith

pub class_below : (ps : List PackageRecord) (place : RecordPlace) (o : Option ℕ) → o ≡ class_at ps place
    → IfSome o (λ c. c < length (numbered_classes ps))
unfolding class_at
class_below ps place z h = grind (arith, length-map, position_below)

-- ---- flags

flags-are : (k : ℕ) (ps : List PackageRecord) → interface_flags ps ≡ map (λ (c : NumberedClass). is_interface c.record_of.flags) (classes_after k ps)
flags-are k [] = refl
flags-are k (p ∷ ps) =
    ap₂ ◌++◌ (flags_of p.classes) (flags-are (k + 1) ps)
    ∙ sym (map-append (λ (c : NumberedClass). is_interface c.record_of.flags) (numbered_classes_of k p) (classes_after (k + 1) ps))
  where
    flags_of : (cs : List Class) → map (λ (c : Class). is_interface c.flags) cs ≡ map (λ (c : NumberedClass). is_interface c.record_of.flags)
        (map (λ c. record { home = k; of_package = p; record_of = c }) cs)
    flags_of [] = refl
    flags_of (c ∷ cs) = ap (λ l. is_interface c.flags ∷ l) (flags_of cs)

pub flags_many : (ps : List PackageRecord) (t : Numbered) (flags : List Bool) (m : Numbered) (exports : List (List Exported))
    (met : List (List (Option ℕ))) → AreIndexed ps t flags m exports met → length flags ≡ length (numbered_classes ps)
flags_many ps t flags m exports met h = ap length h.flags_are ∙ ap length (flags-are 0 ps) ∙ length-map (numbered_classes ps) _

flag_by : (o : Option NumberedClass) (b : Bool) → option_map (λ (c : NumberedClass). is_interface c.record_of.flags) o ≡ Some b
    → b ≡ flagged_interface o
flag_by x b h = grind (arith)

pub flag_numbered : (ps : List PackageRecord) (t : Numbered) (flags : List Bool) (m : Numbered) (exports : List (List Exported))
    (met : List (List (Option ℕ))) (c : ℕ) (b : Bool) → AreIndexed ps t flags m exports met → slice_get flags c ≡ Some b
    → b ≡ is_interface_number ps c
unfolding is_interface_number
flag_numbered ps t flags m exports met c b h at =
    flag_by (slice_get (numbered_classes ps) c) b
    (sym (slice_get-map _ (numbered_classes ps) c) ∙ ap (λ l. slice_get l c) (sym (h.flags_are ∙ flags-are 0 ps)) ∙ at)

pub flag_read : (ps : List PackageRecord) (t : Numbered) (flags : List Bool) (m : Numbered) (exports : List (List Exported))
    (met : List (List (Option ℕ))) (c : ℕ) (b : Bool) → AreIndexed ps t flags m exports met → c < length flags → b ≡ get_or flags c b
    → b ≡ is_interface_number ps c
flag_read ps t flags m exports met c b h lt e = flag_numbered ps t flags m exports met c b h (slice_get-get_or flags c b lt ∙ ap Some (sym e))

-- ---- methods

spots_in : (k : ℕ) (p : PackageRecord) (n : ℕ) (c : described.ClassDescriptor) (i : ℕ) (ms : List described.MethodDescriptor)
    → map (spot_of_method k (is_placed p c)) ms ≡ map place_of_method (methods_of_class k p n c i ms)
spots_in k p n c i [] = refl
spots_in k p n c i (m ∷ ms) = ap (λ l. spot_of_method k (is_placed p c) m ∷ l) (spots_in k p n c (i + 1) ms)

spots_of : (k : ℕ) (p : PackageRecord) (n : ℕ) (cs : List described.ClassDescriptor) → spots_of_classes k (names_interface p.classes) cs
    ≡ map place_of_method (methods_of_classes k p n cs)
spots_of k p n [] = refl
spots_of k p n (c ∷ cs) = grind (arith, ap₂, spots_in, map-append, spots_of k p (n + 1) cs)

method_spots_are : (k : ℕ) (ps : List PackageRecord) → method_spots k ps ≡ map place_of_method (methods_after k ps)
method_spots_are k [] = refl
method_spots_are k (p ∷ ps) = grind (arith, ap₂, spots_of, map-append, method_spots_are (k + 1) ps)

pub method_numbered : (ps : List PackageRecord) (t : Numbered) (flags : List Bool) (m : Numbered) (exports : List (List Exported))
    (met : List (List (Option ℕ))) (place : RecordPlace) → AreIndexed ps t flags m exports met
    → number_by_place m.entries place ≡ method_at ps place
unfolding method_at
method_numbered ps t flags m exports met place h = grind (arith, numbered-first, position, method_spots_are)

pub method_below : (ps : List PackageRecord) (place : RecordPlace) (o : Option ℕ) → o ≡ method_at ps place
    → IfSome o (λ n. n < length (numbered_methods ps))
unfolding method_at
method_below ps place z h = grind (arith, length-map, position_below)
