-- What packages name is told by what their components say: the parts that they were read from tell nothing more.
use Rattle.std.proofs.Common.{arith}
use Rattle.std.proofs.Common.{◌≡◌, ◌+◌, ℕ, zero, suc, Bool, false, not, List, [], ◌∷◌, ◌++◌, length, take, map, flat_map, slice_get, position}
use Rattle.std.proofs.Common.{Option, Some, None, option_map, option_and_then, option_to_list, refl, sym, ap, ◌∙◌}
use Rattle.std.specs.Prelude.{if◌then◌else◌, ◌==◌, ◌&&◌, ◌||◌, nat_lt, unwrap_or, filter_map, is_none, min}
use Rattle.std.proofs.lemmas.List.{map-append, length-map}
use Rattle.std.proofs.lemmas.Option.{slice_get-map}
use Rattle.std.proofs.lemmas.Simd.{map-map}
use Rattle.first_fault.specs.First.{at_fault}
use Rattle.cap_bytes.specs.declared.class_reference.ClassReference.{ClassReference}
use Rattle.cap_bytes.specs.ClassReference.{reference_of}
use Rattle.cap_class.specs.ClassFormat.{Class, Interface, is_interface}
use Rattle.cap_desc.specs.declared.type_list.TypeItem.{TypeItem}
use Rattle.cap_desc.specs.DescriptorFormat as described
use Rattle.cap_desc.specs.DescriptorFormat.{FieldDescriptor}
use Rattle.cap_frame.specs.PackageFormat.{Package}
use Rattle.cap_method.specs.declared.read_methods.HandlerInfo.{HandlerInfo}
use Rattle.cap_method.specs.MethodFormat.{Header}
use Rattle.cap_pool.specs.Export.{field_offset_in, method_offset_in}
use Rattle.cap_pool.specs.PoolFormat.{Entry}
use Rattle.cap_pool.specs.declared.pool_record.PoolReference.{PoolReference}
use Rattle.cap_package.specs.Agreement.{or_none}
use Rattle.cap_package.specs.Descriptions.{Description, field_type}
use Rattle.cap_package.specs.PackageRecord.{PackageRecord}
use Rattle.jc_base.specs.declared.record.Sig.{Sig}
use Rattle.jc_resolve.specs.declared.fault.LinkFault.{LinkFault}
use Rattle.jc_resolve.specs.declared.fault.LinkFault.TheVariants.{TooManyPackages, TooManyClasses, TooManyMethods, NoPackage, NoClass}
use Rattle.jc_resolve.specs.declared.fault.RecordPlace.{RecordPlace}
use Rattle.jc_resolve.specs.Conditions.{named_after, import_tokens, no_package_fault, class_references, no_class_fault, conditions}
use Rattle.jc_resolve.specs.NamedClasses.{by_token, cells_by, cells_of_field, cells_of_fields, dispatch_entry, dispatch_table, interface_named}
use Rattle.jc_resolve.specs.NamedClasses.{implemented_interfaces, parent_named, interface_with, instance_fields, named_class, named_classes}
use Rattle.jc_resolve.specs.NamedMethods.{class_or_none, class_in_entry, caught_class, handler_named, body_after, body_by, body_of}
use Rattle.jc_resolve.specs.NamedMethods.{class_described, is_class, have_headers, method_as, named_method, named_methods}
use Rattle.jc_resolve.specs.Numbering.{NumberedClass, numbered_class, numbered_classes_of, classes_after, numbered_classes, place_of_class, class_places}
use Rattle.jc_resolve.specs.Numbering.{class_at, same_place, is_interface_number, NumberedMethod, numbered_method, methods_of_class}
use Rattle.jc_resolve.specs.Numbering.{methods_of_classes, methods_after, numbered_methods, place_of_method, method_places, is_at, method_at, is_placed}
use Rattle.jc_resolve.specs.References.{meets_import, met_by, exported_class, exported_field, exported_method}
use Rattle.jc_resolve.specs.References.{exported_place, place_referred, class_referred, class_named}
use Rattle.jc_resolve.specs.WorldTypes.{class_or_object, type_class, type_of, cells_with, cells_of_type, arguments_before, result_after, signature_in}
use Rattle.jc_resolve.specs.WorldTypes.{types_named, declared_signature}
use Rattle.law_relink.proofs.Lists.{take_view, position_alike}

-- ---- packages without the parts that they were read from

abbrev pub bare : PackageRecord → PackageRecord
bare p = record p { parts = [] }

abbrev pub all_bare : List PackageRecord → List PackageRecord
all_bare = map bare

-- what is asked of a package by its number
asked : {X : Type 0} (f : PackageRecord → Option X) (ps : List PackageRecord) (k : ℕ) → ((p : PackageRecord) → f (bare p) ≡ f p)
    → option_and_then f (slice_get (all_bare ps) k) ≡ option_and_then f (slice_get ps k)
asked f [] k e = refl
asked f (p ∷ ps) zero e = e p
asked f (p ∷ ps) (suc k) e = asked f ps k e

abbrev bare_class : NumberedClass → NumberedClass
bare_class c = record c { of_package = bare c.of_package }

abbrev bare_method : NumberedMethod → NumberedMethod
bare_method m = record m { of_package = bare m.of_package }

own_classes : (k : ℕ) (p : PackageRecord) (cs : List Class) → map (numbered_class k (bare p)) cs ≡ map bare_class (map (numbered_class k p) cs)
own_classes k p [] = refl
own_classes k p (c ∷ cs) = λ i. numbered_class k (bare p) c ∷ own_classes k p cs i

pub classes_bare : (k : ℕ) (ps : List PackageRecord) → classes_after k (all_bare ps) ≡ map bare_class (classes_after k ps)
classes_bare k [] = refl
classes_bare k (p ∷ ps) =
    (λ i. own_classes k p p.classes i ++ classes_bare (k + 1) ps i)
    ∙ sym (map-append bare_class (numbered_classes_of k p) (classes_after (k + 1) ps))

class_methods : (k : ℕ) (p : PackageRecord) (class_no : ℕ) (c : described.ClassDescriptor) (n : ℕ) (ms : List described.MethodDescriptor)
    → methods_of_class k (bare p) class_no c n ms ≡ map bare_method (methods_of_class k p class_no c n ms)
class_methods k p class_no c n [] = refl
class_methods k p class_no c n (m ∷ ms) = λ i. numbered_method k (bare p) class_no c n m ∷ class_methods k p class_no c (n + 1) ms i

own_methods : (k : ℕ) (p : PackageRecord) (class_no : ℕ) (cs : List described.ClassDescriptor)
    → methods_of_classes k (bare p) class_no cs ≡ map bare_method (methods_of_classes k p class_no cs)
own_methods k p class_no [] = refl
own_methods k p class_no (c ∷ cs) =
    (λ i. class_methods k p class_no c 0 c.methods i ++ own_methods k p (class_no + 1) cs i)
    ∙ sym (map-append bare_method (methods_of_class k p class_no c 0 c.methods) (methods_of_classes k p (class_no + 1) cs))

pub methods_bare : (k : ℕ) (ps : List PackageRecord) → methods_after k (all_bare ps) ≡ map bare_method (methods_after k ps)
methods_bare k [] = refl
methods_bare k (p ∷ ps) =
    (λ i. own_methods k p 0 p.description.items.classes i ++ methods_bare (k + 1) ps i)
    ∙ sym (map-append bare_method (methods_of_classes k p 0 p.description.items.classes) (methods_after (k + 1) ps))

-- what packages name, from a package's number on
named_bare : (f : PackageRecord → List ℕ) (k : ℕ) (ps : List PackageRecord) → ((p : PackageRecord) → f (bare p) ≡ f p)
    → named_after f k (all_bare ps) ≡ named_after f k ps
named_bare f k [] e = refl
named_bare f k (p ∷ ps) e = λ i. map (λ n. (k, n)) (e p i) ++ named_bare f (k + 1) ps e i

references_bare : (p : PackageRecord) → class_references (bare p) ≡ class_references p
unfolding class_references
references_bare p = refl

module _ (ps : List PackageRecord) where
  abbrev pub now : List PackageRecord
  now = all_bare ps

  -- ---- numbers

  class_places_bare : class_places now ≡ class_places ps
  class_places_bare = ap (map place_of_class) (classes_bare 0 ps) ∙ map-map place_of_class bare_class (numbered_classes ps)

  method_places_bare : method_places now ≡ method_places ps
  method_places_bare = ap (map place_of_method) (methods_bare 0 ps) ∙ map-map place_of_method bare_method (numbered_methods ps)

  class_at_bare : (place : RecordPlace) → class_at now place ≡ class_at ps place
  unfolding class_at
  class_at_bare place = λ i. position (same_place place) (class_places_bare i)

  pub method_at_bare : (place : RecordPlace) → method_at now place ≡ method_at ps place
  unfolding method_at
  method_at_bare place = λ i. position (is_at place) (method_places_bare i)

  interface_number_bare : (c : ℕ) → is_interface_number now c ≡ is_interface_number ps c
  unfolding is_interface_number
  interface_number_bare c = grind (arith, slice_get, classes_bare, slice_get-map)

  -- ---- imports and exports

  earlier_bare : (wanted : Package) (k : ℕ) → position (meets_import wanted) (take k now) ≡ position (meets_import wanted) (take k ps)
  earlier_bare wanted k = grind (arith, position_alike, take, take_view, map-map)

  pub met_bare : (k token : ℕ) → met_by now k token ≡ met_by ps k token
  unfolding met_by
  met_bare k token = λ i. option_and_then (λ wanted. earlier_bare wanted k i) (asked (λ (p : PackageRecord). slice_get p.imports token) ps k (λ p. refl) i)

  exported_class_bare : (k token : ℕ) → exported_class now k token ≡ exported_class ps k token
  exported_class_bare k token = asked (λ (p : PackageRecord). slice_get (or_none p.export) token) ps k (λ p. refl)

  pub exported_field_bare : (k class token : ℕ) → exported_field now k class token ≡ exported_field ps k class token
  exported_field_bare k class token = asked (λ (p : PackageRecord). field_offset_in (or_none p.export) class token) ps k (λ p. refl)

  pub exported_method_bare : (k class token : ℕ) → exported_method now k class token ≡ exported_method ps k class token
  exported_method_bare k class token = asked (λ (p : PackageRecord). method_offset_in (or_none p.export) class token) ps k (λ p. refl)

  exported_place_bare : (k token : ℕ) → exported_place now k token ≡ exported_place ps k token
  exported_place_bare k token = grind (arith, option_map, exported_class_bare)

  -- ---- class references

  place_referred_bare : (k : ℕ) (reference : ClassReference) → place_referred now k reference ≡ place_referred ps k reference
  place_referred_bare k x = grind (arith, option_and_then, exported_place_bare, met_bare)

  pub referred_bare : (k : ℕ) (reference : ClassReference) → class_referred now k reference ≡ class_referred ps k reference
  unfolding class_referred
  referred_bare k reference = λ i. option_and_then (λ place. class_at_bare place i) (place_referred_bare k reference i)

  class_named_bare : (k reference : ℕ) → class_named now k reference ≡ class_named ps k reference
  unfolding class_named
  class_named_bare k reference = referred_bare k (reference_of reference)

  -- ---- types

  class_or_object_bare : (object : ℕ) (o : Option ℕ) → class_or_object now object o ≡ class_or_object ps object o
  class_or_object_bare object x = grind (arith, interface_number_bare)

  type_class_bare : (object k reference : ℕ) → type_class now object k reference ≡ type_class ps object k reference
  type_class_bare object k reference = λ i. class_or_object_bare object (class_named_bare k reference i) i

  pub type_bare : (object k : ℕ) (t : TypeItem) → type_of now object k t ≡ type_of ps object k t
  unfolding type_of
  type_bare object k t = rw (type_class_bare object k t.class_ref) refl

  cells_of_type_bare : (object k : ℕ) (t : TypeItem) → cells_of_type now object k t ≡ cells_of_type ps object k t
  cells_of_type_bare object k t = ap (cells_with t) (type_bare object k t)

  cells_by_bare : (object k : ℕ) (o : Option TypeItem) → cells_by now object k o ≡ cells_by ps object k o
  cells_by_bare object k x = grind (arith, cells_of_type_bare)

  cells_of_fields_bare : (object k : ℕ) (d : Description) (fields : List FieldDescriptor)
      → cells_of_fields now object k d fields ≡ cells_of_fields ps object k d fields
  unfolding cells_of_fields cells_of_field
  cells_of_fields_bare object k d fields = λ i. flat_map (λ (f : FieldDescriptor). cells_by_bare object k (field_type d f.ty) i) (by_token fields)

  arguments_bare : (object k : ℕ) (t : TypeItem) (us : List TypeItem) → arguments_before now object k t us ≡ arguments_before ps object k t us
  arguments_bare object k t [] = refl
  arguments_bare object k t (u ∷ us) = λ i. cells_of_type_bare object k t i ++ arguments_bare object k u us i

  result_bare : (object k : ℕ) (t : TypeItem) (us : List TypeItem) → result_after now object k t us ≡ result_after ps object k t us
  result_bare object k t [] = λ i. if t.nibble == 1 then None else Some (type_bare object k t i)
  result_bare object k t (u ∷ us) = result_bare object k u us

  signature_bare : (object k : ℕ) (ts : List TypeItem) → signature_in now object k ts ≡ signature_in ps object k ts
  signature_bare object k x = grind (arith, arguments_bare, result_bare)

  declared_bare : (object k : ℕ) (d : Description) (offset : ℕ) → declared_signature now object k d offset ≡ declared_signature ps object k d offset
  unfolding declared_signature
  declared_bare object k d offset = signature_bare object k (types_named d offset)

  -- ---- classes

  dispatch_bare : (k offset : ℕ) → dispatch_entry now k offset ≡ dispatch_entry ps k offset
  unfolding dispatch_entry
  dispatch_bare k offset = λ i. if offset == 0xFFFF then None else method_at_bare (record { «package» = k; offset = offset }) i

  table_bare : (k base : ℕ) (offsets : List ℕ) → dispatch_table now k base offsets ≡ dispatch_table ps k base offsets
  table_bare k base offsets = λ i. record { base = base; entries = map (λ offset. dispatch_bare k offset i) offsets }

  interface_bare : (k : ℕ) (f : Interface) → interface_named now k f ≡ interface_named ps k f
  unfolding interface_named
  interface_bare k f = λ i. option_map (λ c. record { class = c; tokens = f.tokens }) (class_named_bare k f.class_ref i)

  interfaces_bare : (k : ℕ) (fs : List Interface) → implemented_interfaces now k fs ≡ implemented_interfaces ps k fs
  interfaces_bare k fs = λ i. filter_map (λ f. interface_bare k f i) fs

  parent_bare : (k reference : ℕ) → parent_named now k reference ≡ parent_named ps k reference
  parent_bare k reference = λ i. if reference == 0xFFFF then None else class_named_bare k reference i

  named_class_bare : (object : ℕ) (c : NumberedClass) → named_class now object (bare_class c) ≡ named_class ps object c
  unfolding named_class
  named_class_bare object c =
      λ i. if is_interface c.record_of.flags then interface_with c.home (interfaces_bare c.home c.record_of.interfaces i) else record {
        «package» = c.home;
        interface = false;
        parent = parent_bare c.home c.record_of.super_ref i;
        interfaces = interfaces_bare c.home c.record_of.interfaces i;
        public = table_bare c.home c.record_of.public_base c.record_of.public i;
        visible = table_bare c.home c.record_of.package_base c.record_of.visible i;
        own = cells_of_fields_bare object c.home c.of_package.description
            (instance_fields c.of_package.description.items.classes c.record_of.offset) i;
      }

  pub named_classes_bare : (object : ℕ) → named_classes now object ≡ named_classes ps object
  unfolding named_classes
  named_classes_bare object = grind (arith, map, classes_bare, map-map, named_class_bare)

  -- ---- methods

  class_or_none_bare : (k : ℕ) (r : PoolReference) → class_or_none now k r ≡ class_or_none ps k r
  class_or_none_bare k other = grind (arith, referred_bare)

  class_in_entry_bare : (k : ℕ) (o : Option Entry) → class_in_entry now k o ≡ class_in_entry ps k o
  class_in_entry_bare k x = grind (arith, class_or_none_bare)

  caught_bare : (throwable k : ℕ) (pool : List Entry) (index : ℕ) → caught_class now throwable k pool index ≡ caught_class ps throwable k pool index
  caught_bare throwable k pool index = λ i. if index == 0 then throwable else class_in_entry_bare k (slice_get pool index) i

  handler_bare : (throwable k : ℕ) (pool : List Entry) (code_at : ℕ) (h : HandlerInfo)
      → handler_named now throwable k pool code_at h ≡ handler_named ps throwable k pool code_at h
  unfolding handler_named
  handler_bare throwable k pool code_at h = rw (caught_bare throwable k pool h.index) refl

  body_after_bare : (throwable k : ℕ) (p : PackageRecord) (m : described.MethodDescriptor) (h : Header) (code_at : ℕ)
      → body_after now throwable k (bare p) m h code_at ≡ body_after ps throwable k p m h code_at
  body_after_bare throwable k p m h code_at = grind (arith, map, handler_bare)

  body_by_bare : (throwable k : ℕ) (p : PackageRecord) (m : described.MethodDescriptor) (sig : Sig) (o : Option Header)
      → body_by now throwable k (bare p) m sig o ≡ body_by ps throwable k p m sig o
  body_by_bare throwable k p m sig x = grind (arith, body_after_bare)

  body_bare : (throwable k : ℕ) (p : PackageRecord) (m : described.MethodDescriptor) (sig : Sig) (has_header : Bool)
      → body_of now throwable k (bare p) m sig has_header ≡ body_of ps throwable k p m sig has_header
  unfolding body_of
  body_bare throwable k p m sig has_header = grind (arith, body_by_bare)

  class_described_bare : (k : ℕ) (c : described.ClassDescriptor) → class_described now k c ≡ class_described ps k c
  unfolding class_described
  class_described_bare k c = λ i. unwrap_or (class_named_bare k c.class_ref i) 0

  is_class_bare : (o : Option ℕ) → is_class now o ≡ is_class ps o
  is_class_bare x = grind (arith, not, interface_number_bare)

  have_headers_bare : (k : ℕ) (p : PackageRecord) (c : described.ClassDescriptor) → have_headers now k (bare p) c ≡ have_headers ps k p c
  unfolding have_headers
  have_headers_bare k p c = λ i. is_placed p c && is_class_bare (class_named_bare k c.class_ref i) i

  method_as_bare : (throwable : ℕ) (m : NumberedMethod) (sig : Sig) → method_as now throwable (bare_method m) sig ≡ method_as ps throwable m sig
  method_as_bare throwable m sig = grind (arith, class_described_bare, body_bare, have_headers_bare)

  named_method_bare : (roles : List ℕ) (m : NumberedMethod) → named_method now roles (bare_method m) ≡ named_method ps roles m
  unfolding named_method
  named_method_bare roles m = grind (arith, method_as_bare, declared_bare)

  pub named_methods_bare : (roles : List ℕ) → named_methods now roles ≡ named_methods ps roles
  unfolding named_methods
  named_methods_bare roles = grind (arith, map, methods_bare, map-map, named_method_bare)

  -- ---- conditions

  many_classes : length (numbered_classes now) ≡ length (numbered_classes ps)
  many_classes = ap length (classes_bare 0 ps) ∙ length-map (numbered_classes ps) bare_class

  many_methods : length (numbered_methods now) ≡ length (numbered_methods ps)
  many_methods = ap length (methods_bare 0 ps) ∙ length-map (numbered_methods ps) bare_method

  no_package_bare : (named : ℕ × ℕ) → no_package_fault now named ≡ no_package_fault ps named
  unfolding no_package_fault
  no_package_bare named = λ i. if is_none (met_bare named.0 named.1 i) then Some (NoPackage named.0 named.1) else None

  no_class_bare : (named : ℕ × ℕ) → no_class_fault now named ≡ no_class_fault ps named
  unfolding no_class_fault
  no_class_bare named = λ i. if is_none (class_named_bare named.0 named.1 i) then Some (NoClass named.0 named.1) else None

  packages_list : ℕ → List LinkFault
  packages_list n = option_to_list (if n == 0 || nat_lt 16 n then Some (TooManyPackages (min n 4294967295)) else None)

  classes_list : ℕ → List LinkFault
  classes_list n = option_to_list (if nat_lt 4096 n then Some (TooManyClasses n) else None)

  methods_list : ℕ → List LinkFault
  methods_list n = option_to_list (if nat_lt 32768 n then Some (TooManyMethods n) else None)

  pub names_bare : conditions now ≡ conditions ps
  unfolding packages_list classes_list methods_list
  names_bare = λ i. packages_list (length-map ps bare i)
      ∷ classes_list (many_classes i)
      ∷ methods_list (many_methods i)
      ∷ at_fault (λ named. no_package_bare named i) (named_bare import_tokens 0 ps (λ p. refl) i)
      ∷ at_fault (λ named. no_class_bare named i) (named_bare class_references 0 ps references_bare i)
      ∷ []
