-- What holds of dispatch lists where no condition names a fault.
use Rattle.std.proofs.Common.{◌≡◌, ℕ, zero, suc, ◌+◌, ◌<◌, Bool, true, List, [], ◌∷◌, length, map, flat_map, Option, Some, None}
use Rattle.std.proofs.Common.{refl, ap, ◌∙◌, arith}
use Rattle.std.specs.Prelude.{All, filter_map, slice_get}
use Rattle.std.specs.List.{range_with_len}
use Rattle.std.specs.Option.{option_flatten}
use Rattle.std.proofs.lemmas.Bool.{false≢true}
use Rattle.std.proofs.lemmas.List.Elements.{All-nil, All-cons}
use Rattle.first_fault.proofs.LeastFaults.{faultless_first}
use Rattle.jc_base.specs.declared.record.Iface.{Iface}
use Rattle.jc_base.specs.declared.record.MethodRec.{MethodRec}
use Rattle.jc_classes.specs.Outline.{LineTable}
use Rattle.jc_base.specs.Dispatch.{signature_at}
use Rattle.jc_resolve.specs.declared.naming.NamedClass.{NamedClass}
use Rattle.jc_resolve.proofs.Faultless.{both_faultless, flat_faultless}
use Rattle.jc_classes.specs.Layout.{public_entries, visible_entries}
use Rattle.jc_classes.specs.Signatures.{entry_method, entry_signature, same_signature}
use Rattle.jc_classes.specs.TableConditions.{DispatchEntry, entries_from, entries_in, may_stand}
use Rattle.jc_classes.specs.TableConditions.{hole_fault, holes, Replacement, replacements_from}
use Rattle.jc_classes.specs.TableConditions.{replacements_in, override_fault, overrides, layout_above}
use Rattle.jc_classes.specs.TableConditions.{visible_above, Implementation, implemented_by}
use Rattle.jc_classes.specs.TableConditions.{implementations_in, interface_type_fault, serves_all, unserved}
use Rattle.jc_classes.specs.Tables.{methods_listed}
use Rattle.jc_classes.proofs.SameTypes.{same_signature-equal}
use Rattle.jc_classes.proofs.Agreed.{slice_get-numbers}

-- nothing of a class is at fault
pub class_faultless : {X Y : Type 0} (f : X → Option Y) (things : ℕ → List X) (n c : ℕ) → filter_map f (flat_map things (range_with_len 0 n))
    ≡ [] → c < n → filter_map f (things c) ≡ []
class_faultless f things n c e h = flat_faultless f things (range_with_len 0 n) c c e (slice_get-numbers 0 n c h ∙ ap Some (omega arith))

-- ---- entries with methods

-- each entry has a method that may stand in the list
abbrev pub AllStand : LineTable → ℕ → List MethodRec → List (Option ℕ) → Type 0
AllStand t c methods [] = Unit {0}
AllStand t c methods (e ∷ es) = (may_stand t c (entry_method methods e) ≡ true) × AllStand t c methods es

stands_by : (t : LineTable) (methods : List MethodRec) (e : DispatchEntry) (b : Bool) → may_stand t e.class (entry_method methods e.method) ≡ b
    → hole_fault t methods e ≡ None → b ≡ true
unfolding hole_fault
stands_by t methods e u at none = grind (arith)

pub all_stand : (t : LineTable) (methods : List MethodRec) (c token : ℕ) (list : List (Option ℕ))
    → filter_map (hole_fault t methods) (entries_from c token list) ≡ [] → AllStand t c methods list
all_stand t methods c token [] e = tt {0}
all_stand t methods c token (m ∷ ms) e =
    let entry : DispatchEntry = record { class = c; token = token; method = m } in
    let both = faultless_first (hole_fault t methods entry) (filter_map (hole_fault t methods) (entries_from c (token + 1) ms)) e in
    (stands_by t methods entry (may_stand t c (entry_method methods m)) refl both.0, all_stand t methods c (token + 1) ms both.1)

pub public_stand : (t : LineTable) (classes : List NamedClass) (methods : List MethodRec) (c : ℕ) → holes t classes methods ≡ []
    → c < length classes → AllStand t c methods (public_entries t classes c)
public_stand t classes methods c none h =
    all_stand t methods c 0 (public_entries t classes c)
    (both_faultless (hole_fault t methods) (entries_from c 0 (public_entries t classes c)) (entries_from c 128 (visible_entries t classes c))
    (class_faultless (hole_fault t methods) (entries_in t classes) (length classes) c none h)).0

pub visible_stand : (t : LineTable) (classes : List NamedClass) (methods : List MethodRec) (c : ℕ) → holes t classes methods ≡ []
    → c < length classes → AllStand t c methods (visible_entries t classes c)
visible_stand t classes methods c none h =
    all_stand t methods c 128 (visible_entries t classes c)
    (both_faultless (hole_fault t methods) (entries_from c 0 (public_entries t classes c)) (entries_from c 128 (visible_entries t classes c))
    (class_faultless (hole_fault t methods) (entries_in t classes) (length classes) c none h)).1

-- ---- a list whose entries are all there

pub record IsListed (entries : List (Option ℕ)) : Type 0 where
  pub count : length (methods_listed entries) ≡ length entries
  pub at : (i : ℕ) → slice_get (methods_listed entries) i ≡ option_flatten (slice_get entries i)

pub listed_none : IsListed []
listed_none = record { count = refl; at = λ i. refl }

listed_more : (m : ℕ) (es : List (Option ℕ)) → IsListed es → IsListed (Some m ∷ es)
listed_more m es l = record { count = ap suc l.count; at = λ i. by i } where
  by : (i : ℕ) → slice_get (m ∷ methods_listed es) i ≡ option_flatten (slice_get (Some m ∷ es) i)
  by zero = refl
  by (suc i) = l.at i

pub listed : (t : LineTable) (c : ℕ) (methods : List MethodRec) (entries : List (Option ℕ)) → AllStand t c methods entries → IsListed entries
listed t c methods [] stand = listed_none
listed t c methods (None ∷ es) stand = absurd (false≢true stand.0)
listed t c methods (Some m ∷ es) stand = listed_more m es (listed t c methods es stand.1)

pub listed_all : (P : ℕ → Type 0) (t : LineTable) (c : ℕ) (methods : List MethodRec)
    → ((n : ℕ) → may_stand t c (slice_get methods n) ≡ true → P n) → (entries : List (Option ℕ)) → AllStand t c methods entries
    → All P (methods_listed entries)
listed_all P t c methods each [] stand = All-nil P
listed_all P t c methods each (None ∷ es) stand = absurd (false≢true stand.0)
listed_all P t c methods each (Some m ∷ es) stand = All-cons P m (methods_listed es) (each m stand.0) (listed_all P t c methods each es stand.1)

-- the signature at a token of a list whose entries are all there
pub signature_listed : (methods : List MethodRec) (entries : List (Option ℕ)) (token : ℕ) → IsListed entries
    → signature_at methods (methods_listed entries) token ≡ entry_signature methods (option_flatten (slice_get entries token))
signature_listed methods entries token l = grind (arith)

-- ---- entries that replace others

same_by : (methods : List MethodRec) (r : Replacement) (b : Bool)
    → same_signature (entry_signature methods r.method) (entry_signature methods r.inherited) ≡ b → override_fault methods r ≡ None → b ≡ true
unfolding override_fault
same_by methods r z at none = grind (arith)

all_agree : (methods : List MethodRec) (c token : ℕ) (inherited list : List (Option ℕ)) (i : ℕ)
    → filter_map (override_fault methods) (replacements_from c token inherited list) ≡ [] → i < length inherited → i < length list
    → entry_signature methods (option_flatten (slice_get list i)) ≡ entry_signature methods (option_flatten (slice_get inherited i))
all_agree methods c token [] list i e h k = absurd (omega arith)
all_agree methods c token (x ∷ xs) [] i e h k = absurd (omega arith)
all_agree methods c token (x ∷ xs) (m ∷ ms) zero e h k =
    let r : Replacement = record { class = c; token = token; inherited = x; method = m } in
    let none = (faultless_first (override_fault methods r) (filter_map (override_fault methods) (replacements_from c (token + 1) xs ms)) e).0 in
    same_signature-equal (entry_signature methods m) (entry_signature methods x)
    (same_by methods r (same_signature (entry_signature methods m) (entry_signature methods x)) refl none)
all_agree methods c token (x ∷ xs) (m ∷ ms) (suc i) e h k =
    let r : Replacement = record { class = c; token = token; inherited = x; method = m } in
    all_agree methods c (token + 1) xs ms i
    (faultless_first (override_fault methods r) (filter_map (override_fault methods) (replacements_from c (token + 1) xs ms)) e).1 (omega arith)
    (omega arith)

-- the entries of a list have the signatures of the inherited list
pub record Agrees (methods : List MethodRec) (inherited list : List (Option ℕ)) : Type 0 where
  pub at : (i : ℕ) → i < length inherited → i < length list → entry_signature methods (option_flatten (slice_get list i)) ≡ entry_signature
      methods (option_flatten (slice_get inherited i))

pub public_agrees : (t : LineTable) (classes : List NamedClass) (methods : List MethodRec) (c : ℕ) → overrides t classes methods ≡ []
    → c < length classes → Agrees methods (layout_above t classes c).public (public_entries t classes c)
public_agrees t classes methods c none h =
    grind (
      arith,
      class_faultless (override_fault methods) (replacements_in t classes) (length classes) c none h,
      all_agree,
      both_faultless,
    )

pub visible_agrees : (t : LineTable) (classes : List NamedClass) (methods : List MethodRec) (c : ℕ) → overrides t classes methods ≡ []
    → c < length classes → Agrees methods (visible_above t classes c) (visible_entries t classes c)
visible_agrees t classes methods c none h =
    grind (
      arith,
      class_faultless (override_fault methods) (replacements_in t classes) (length classes) c none h,
      all_agree,
      both_faultless,
    )

-- ---- interfaces that are served

served_by : (methods : List MethodRec) (x : Implementation) (b : Bool) → serves_all methods x.public x.iface ≡ b
    → interface_type_fault methods x ≡ None → b ≡ true
unfolding interface_type_fault
served_by methods x z at none = grind (arith)

abbrev pub AllServed : List MethodRec → List (Option ℕ) → List Iface → Type 0
AllServed methods public is = All (λ (i : Iface). serves_all methods public i ≡ true) is

all_served : (methods : List MethodRec) (c : ℕ) (public : List (Option ℕ)) (is : List Iface)
    → filter_map (interface_type_fault methods) (map (λ (i : Iface). record { class = c; public = public; iface = i }) is) ≡ []
    → AllServed methods public is
all_served methods c public [] e = All-nil (λ (i : Iface). serves_all methods public i ≡ true)
all_served methods c public (i ∷ is) e =
    let x : Implementation = record { class = c; public = public; iface = i } in
    let both = faultless_first (interface_type_fault methods x)
    (filter_map (interface_type_fault methods) (map (λ (i : Iface). record { class = c; public = public; iface = i }) is)) e in
    All-cons (λ (i : Iface). serves_all methods public i ≡ true) i is (served_by methods x (serves_all methods public i) refl both.0)
    (all_served methods c public is both.1)

pub interfaces_met : (t : LineTable) (classes : List NamedClass) (methods : List MethodRec) (c : ℕ) → unserved t classes methods ≡ []
    → c < length classes → AllServed methods (public_entries t classes c) (implemented_by (slice_get classes c))
interfaces_met t classes methods c none h =
    all_served methods c (public_entries t classes c) (implemented_by (slice_get classes c))
    (class_faultless (interface_type_fault methods) (implementations_in t classes) (length classes) c none h)
