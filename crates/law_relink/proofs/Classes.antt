-- The classes are the same, with each class, type and method that they name.
use Rattle.std.proofs.Common.{◌≡◌, ◌≤◌, ◌<◌, ◌+◌, ℕ, List, [], ◌∷◌, ◌++◌, length, map, flat_map, Bool, true, false, Option}
use Rattle.std.proofs.Common.{Some, None, option_map, inl, inr, refl, sym, ap, subst, ◌∙◌, arith}
use Rattle.std.specs.Prelude.{if◌then◌else◌, ◌==◌, ◌||◌}
use Rattle.std.specs.List.{list_any}
use Rattle.std.proofs.lemmas.Bool.{false≢true, eqb-true}
use Rattle.cap_class.specs.ClassFormat.{Class, Interface}
use Rattle.cap_desc.specs.declared.type_list.TypeItem.{TypeItem}
use Rattle.cap_desc.specs.DescriptorFormat as described
use Rattle.cap_desc.specs.DescriptorFormat.{FieldDescriptor, MethodDescriptor}
use Rattle.cap_components.specs.declared.fault.PackFault.TheVariants.{NoMethodAt}
use Rattle.cap_package.specs.Parts.{Lent}
use Rattle.cap_package.specs.PackageRecord.{PackageRecord, names_interface}
use Rattle.cap_package.specs.PackageRecord.{described_methods as class_methods}
use Rattle.cap_package.specs.Descriptions.{Description, field_type}
use Rattle.cap_package.specs.NameChecks.{is_method_at, no_entry_fault, no_method_fault, table_entries}
use Rattle.cap_package.specs.StandsFor.{StandsFor}
use Rattle.cap_package.proofs.StaticsKnown.{both_empty}
use Rattle.cap_renewal.specs.ClassEdits.{renewed_class}
use Rattle.jc_decode.specs.declared.symbols.Laid.{Laid}
use Rattle.jc_resolve.specs.Numbering.{numbered_class, method_at}
use Rattle.jc_resolve.specs.References.{class_named}
use Rattle.jc_resolve.specs.WorldTypes.{class_or_object, type_class, type_of}
use Rattle.jc_resolve.specs.NamedClasses.{fields_described, instance_fields, cells_of_field, cells_of_fields, dispatch_entry}
use Rattle.jc_resolve.specs.NamedClasses.{interface_named, implemented_interfaces, parent_named, named_class, named_classes}
use Rattle.jc_resolve.proofs.Pairwise.{each-split}
use Rattle.law_package.specs.Changes.{Change, changes, now_at}
use Rattle.law_package.specs.Written.{IsMethodWritten}
use Rattle.law_package.specs.Rewritten.{bare_class, IsRewritten}
use Rattle.law_package.proofs.Lists.{Each, Has, each_at, each_of, none_each}
use Rattle.cap_package.proofs.Agreed.{agrees}
use Rattle.law_package.proofs.Zipped.{old_of}
use Rattle.law_package.proofs.Bare.{any_map, same_field}
use Rattle.law_package.proofs.Facts.{olds, all_written}
use Rattle.law_package.proofs.Standing.{offset_of, ends_inside, sizes_end, sizes_some, apart}
use Rattle.law_package.proofs.Names.{last_stays, is_told}
use Rattle.law_relink.specs.Last.{and_last}
use Rattle.law_relink.proofs.Names.{named_same, interface_number_same, classes_alike}
use Rattle.law_relink.proofs.Places.{earlier_method, last_method, now_has}

-- ---- types

type_class_same : (ps : List PackageRecord) (p q : PackageRecord) (laid : List (Option Laid)) (object k reference : ℕ)
    → IsRewritten p laid q → type_class (and_last ps q) object k reference ≡ type_class (and_last ps p) object k reference
type_class_same ps p q laid object k reference r = ap (class_or_object (and_last ps q) object)
    (named_same ps p q laid k reference r) ∙ by (class_named (and_last ps p) k reference)
  where
    by : (o : Option ℕ) → class_or_object (and_last ps q) object o ≡ class_or_object (and_last ps p) object o
    by None = refl
    by (Some c) = ap (λ b. if b then object else c) (interface_number_same (now_at (changes p laid q)) ps p q c r.classes)

pub type_same : (ps : List PackageRecord) (p q : PackageRecord) (laid : List (Option Laid)) (object k : ℕ) (t : TypeItem)
    → IsRewritten p laid q → type_of (and_last ps q) object k t ≡ type_of (and_last ps p) object k t
unfolding type_of
type_same ps p q laid object k t r = rw (type_class_same ps p q laid object k t.class_ref r) refl

pub flat_same : {X Y : Type 0} (f g : X → List Y) (xs : List X) → ((x : X) → f x ≡ g x) → flat_map f xs ≡ flat_map g xs
flat_same f g [] h = refl
flat_same f g (x ∷ xs) h = ap (λ ys. ys ++ flat_map f xs) (h x) ∙ ap (λ ys. g x ++ ys) (flat_same f g xs h)

pub flat_bare : {Z : Type 0} (f : described.ClassDescriptor → List Z) (g : described.ClassDescriptor → described.ClassDescriptor)
    (cs : List described.ClassDescriptor)
    → ((c : described.ClassDescriptor) → f c ≡ f (g c)) → flat_map f cs ≡ flat_map f (map g cs)
flat_bare f g [] h = refl
flat_bare f g (c ∷ cs) h = ap (λ ys. ys ++ flat_map f cs) (h c) ∙ ap (λ ys. f (g c) ++ ys) (flat_bare f g cs h)

cells_same : (ps : List PackageRecord) (p q : PackageRecord) (laid : List (Option Laid)) (object k : ℕ) (d e : Description)
    (fields : List FieldDescriptor) → IsRewritten p laid q → ((f : FieldDescriptor) → field_type e f.ty ≡ field_type d f.ty)
    → cells_of_fields (and_last ps q) object k e fields ≡ cells_of_fields (and_last ps p) object k d fields
unfolding cells_of_fields cells_of_field
cells_same ps p q laid object k d e fields r h = grind (arith, flat_same, type_same)

instances_same : (p q : PackageRecord) (laid : List (Option Laid)) (offset : ℕ) → IsRewritten p laid q
    → instance_fields q.description.items.classes offset ≡ instance_fields p.description.items.classes offset
unfolding instance_fields fields_described
instances_same p q laid offset r =
    let set = names_interface p.classes in
    flat_bare (fields_described offset) (bare_class set) q.description.items.classes (λ c. refl)
    ∙ ap (flat_map (fields_described offset)) r.description.classes
    ∙ sym (flat_bare (fields_described offset) (bare_class set) p.description.items.classes (λ c. refl))

-- ---- references

interface_same : (ps : List PackageRecord) (p q : PackageRecord) (laid : List (Option Laid)) (k : ℕ) (i : Interface)
    → IsRewritten p laid q → interface_named (and_last ps q) k i ≡ interface_named (and_last ps p) k i
unfolding interface_named
interface_same ps p q laid k i r = grind (arith, option_map, named_same)

interfaces_same : (ps : List PackageRecord) (p q : PackageRecord) (laid : List (Option Laid)) (k : ℕ) (is : List Interface)
    → IsRewritten p laid q → implemented_interfaces (and_last ps q) k is ≡ implemented_interfaces (and_last ps p) k is
interfaces_same ps p q laid k [] r = refl
interfaces_same ps p q laid k (i ∷ is) r = grind (arith, interface_same, interfaces_same ps p q laid k is r)

parent_same : (ps : List PackageRecord) (p q : PackageRecord) (laid : List (Option Laid)) (k reference : ℕ) → IsRewritten p laid q
    → parent_named (and_last ps q) k reference ≡ parent_named (and_last ps p) k reference
parent_same ps p q laid k reference r = ap (λ o. if reference == 0xFFFF then None else o) (named_same ps p q laid k reference r)

-- ---- dispatch tables

earlier_entry : (ps : List PackageRecord) (p q : PackageRecord) (laid : List (Option Laid)) (k o : ℕ) → IsRewritten p laid q
    → k < length ps → dispatch_entry (and_last ps q) k o ≡ dispatch_entry (and_last ps p) k o
unfolding dispatch_entry
earlier_entry ps p q laid k o r lt = ap (λ m. if o == 0xFFFF then None else m) (earlier_method ps p q laid k o r lt)

earlier_entries : (ps : List PackageRecord) (p q : PackageRecord) (laid : List (Option Laid)) (k : ℕ) (os : List ℕ)
    → IsRewritten p laid q → k < length ps → map (dispatch_entry (and_last ps q) k) os ≡ map (dispatch_entry (and_last ps p) k) os
earlier_entries ps p q laid k [] r lt = refl
earlier_entries ps p q laid k (o ∷ os) r lt = grind (arith, map, earlier_entry, earlier_entries ps p q laid k os r lt)

pub has_any : (t : Change → Bool) (cs : List Change) → list_any t cs ≡ true → (c : Change) × Has cs c × (t c ≡ true)
has_any t [] e = absurd (false≢true e)
has_any t (c ∷ cs) e = by (t c) refl e (λ k. has_any t cs k)
  where
    by : (b : Bool) → t c ≡ b → b || list_any t cs ≡ true → (list_any t cs ≡ true → (x : Change) × Has cs x × (t x ≡ true))
        → (x : Change) × Has (c ∷ cs) x × (t x ≡ true)
    by true h e others = (c, inl refl, h)
    by false h e others = let r = others e in (r.0, inr r.1, r.2)

last_entry : (parts : List Lent) (ps : List PackageRecord) (p q : PackageRecord) (laid : List (Option Laid)) (o : ℕ)
    → StandsFor parts p → IsRewritten p laid q → length q.methods.info ≤ 65535
    → no_entry_fault (is_method_at (class_methods p)) o ≡ None → dispatch_entry (and_last ps q) (length ps) (now_at (changes p laid q) o)
    ≡ dispatch_entry (and_last ps p) (length ps) o
unfolding dispatch_entry no_entry_fault no_method_fault
last_entry parts ps p q laid o s r short e = by (o == 0xFFFF) refl
  where
    is_last : (n : ℕ) → (n == 0xFFFF) ≡ true → n ≡ 0xFFFF
    is_last n e = grind arith

    low_by : (n at size count end long : ℕ) → n ≡ at → end ≡ at + (size + count) → 1 ≤ size → end ≤ long → long ≤ 65535 → n < 65535
    low_by n at size count end long a b c d e = omega arith

    not_last : (n : ℕ) → n < 65535 → (n == 0xFFFF) ≡ false
    not_last n h = grind arith

    by : (b : Bool) → (o == 0xFFFF) ≡ b → (if now_at (changes p laid q) o == 0xFFFF then None else method_at (and_last ps q)
        (record { «package» = length ps; offset = now_at (changes p laid q) o }))
        ≡ (if o == 0xFFFF then None else method_at (and_last ps p) (record { «package» = length ps; offset = o }))
    by true h = grind (arith, last_stays parts p q laid s r, length ps)
    by false h =
        let cs = changes p laid q in
        let k = ap (λ b. if b then None else (if is_method_at (class_methods p) o then None else Some (NoMethodAt o))) (sym h)
        ∙ e in
        let there : is_method_at (map old_of cs) o ≡ true = ap (λ ms. is_method_at ms o) (olds p q laid r)
        ∙ is_told (is_method_at (class_methods p) o) (NoMethodAt o) k in
        let d = has_any (λ (c : Change). c.source.method.method_offset == o) cs
        (sym (any_map (λ (m : MethodDescriptor). m.method_offset == o) old_of cs) ∙ there) in
        let at : offset_of d.0 ≡ o = eqb-true (offset_of d.0) o d.2 in
        let is = now_has cs d.0 d.1 (apart parts p q laid (agrees parts p s.agree) r) in
        let ends = ends_inside p q cs d.0 (each_at (IsMethodWritten p q cs) cs d.0 (all_written p q laid r) d.1) d.1 r.long in
        let size = sizes_end q.methods.info d.0.now in
        let some = sizes_some q.methods.info d.0.now in
        let to : now_at cs o ≡ d.0.now.method_offset = ap (now_at cs) (sym at) ∙ is in
        let m : method_at (and_last ps q) (record { «package» = length ps; offset = now_at cs o })
        ≡ method_at (and_last ps p) (record { «package» = length ps; offset = o }) =
        subst (λ n. method_at (and_last ps q) (record { «package» = length ps; offset = now_at cs n })
        ≡ method_at (and_last ps p) (record { «package» = length ps; offset = n })) at
        (last_method parts ps p q laid d.0 s r d.1) in
        grind (arith, d, ends, size, some, to, m, length, not_last, low_by)

last_entries : (parts : List Lent) (ps : List PackageRecord) (p q : PackageRecord) (laid : List (Option Laid)) (os : List ℕ)
    → StandsFor parts p → IsRewritten p laid q → length q.methods.info ≤ 65535
    → Each (λ o. no_entry_fault (is_method_at (class_methods p)) o ≡ None) os
    → map (dispatch_entry (and_last ps q) (length ps)) (map (now_at (changes p laid q)) os)
    ≡ map (dispatch_entry (and_last ps p) (length ps)) os
last_entries parts ps p q laid [] s r short e = refl
last_entries parts ps p q laid (o ∷ os) s r short e =
    ap (λ x. x ∷ map (dispatch_entry (and_last ps q) (length ps)) (map (now_at (changes p laid q)) os))
    (last_entry parts ps p q laid o s r short e.0) ∙ ap (λ xs. dispatch_entry (and_last ps p) (length ps) o ∷ xs)
    (last_entries parts ps p q laid os s r short e.1)

-- ---- classes

earlier_class : (ps : List PackageRecord) (p q : PackageRecord) (laid : List (Option Laid)) (object j : ℕ) (x : PackageRecord)
    (c : Class) → IsRewritten p laid q → j < length ps
    → named_class (and_last ps q) object (numbered_class j x c) ≡ named_class (and_last ps p) object (numbered_class j x c)
unfolding named_class
earlier_class ps p q laid object j x c r lt = grind (arith, interfaces_same, parent_same, earlier_entries, cells_same)

last_class : (parts : List Lent) (ps : List PackageRecord) (p q : PackageRecord) (laid : List (Option Laid)) (object : ℕ)
    (c : Class) → StandsFor parts p → IsRewritten p laid q → length q.methods.info ≤ 65535
    → Each (λ o. no_entry_fault (is_method_at (class_methods p)) o ≡ None) c.public
    → Each (λ o. no_entry_fault (is_method_at (class_methods p)) o ≡ None) c.visible
    → named_class (and_last ps q) object (numbered_class (length ps) q (renewed_class (now_at (changes p laid q)) c))
    ≡ named_class (and_last ps p) object (numbered_class (length ps) p c)
unfolding named_class
last_class parts ps p q laid object c s r short public visible =
    let k = length ps in
    let cells = ap (cells_of_fields (and_last ps q) object k q.description) (instances_same p q laid c.offset r)
    ∙ cells_same ps p q laid object k p.description q.description (instance_fields p.description.items.classes c.offset) r
    (λ f. same_field (names_interface p.classes) p.description q.description f.ty r.description) in
    rw (
      interfaces_same ps p q laid k c.interfaces r,
      parent_same ps p q laid k c.super_ref r,
      last_entries parts ps p q laid c.public s r short public,
      last_entries parts ps p q laid c.visible s r short visible,
      cells,
    ) refl

tables_named : (P : ℕ → Type 0) (cs : List Class) → Each P (table_entries cs)
    → Each (λ (c : Class). Each P c.public × Each P c.visible) cs
tables_named P [] h = tt
tables_named P (c ∷ cs) h =
    let a = each-split P c.public (c.visible ++ table_entries cs) h in
    let b = each-split P c.visible (table_entries cs) a.1 in
    ((a.0, b.0), tables_named P cs b.1)

pub classes_link : (parts : List Lent) (ps : List PackageRecord) (p q : PackageRecord) (laid : List (Option Laid)) (object : ℕ)
    → StandsFor parts p → IsRewritten p laid q → length q.methods.info ≤ 65535
    → named_classes (and_last ps q) object ≡ named_classes (and_last ps p) object
unfolding named_classes
classes_link parts ps p q laid object s r short =
    let f = now_at (changes p laid q) in
    let is = is_method_at (class_methods p) in
    let P : ℕ → Type 0 = λ o. no_entry_fault is o ≡ None in
    let a = (agrees parts p s.agree).names in
    let entries = none_each (no_entry_fault is) (table_entries p.classes) (both_empty _ _ (both_empty _ _ a).0).0 in
    let tables = tables_named P p.classes entries in
    let z : length ps ≡ 0 + length ps = omega arith in
    let last = each_of (λ (c : Class). named_class (and_last ps q) object (numbered_class (length ps) q (renewed_class f c))
    ≡ named_class (and_last ps p) object (numbered_class (length ps) p c)) p.classes
    (λ c h. let t = each_at (λ (x : Class). Each P x.public × Each P x.visible) p.classes c tables h in
    last_class parts ps p q laid object c s r short t.0 t.1) in
    classes_alike (named_class (and_last ps q) object) (named_class (and_last ps p) object) f 0 ps p q r.classes
    (λ j x c lt. earlier_class ps p q laid object j x c r (omega arith))
    (subst (λ n. Each (λ (c : Class). named_class (and_last ps q) object (numbered_class n q (renewed_class f c))
    ≡ named_class (and_last ps p) object (numbered_class n p c)) p.classes) z last)
