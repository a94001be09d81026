-- Classes and methods of the packages before name the same when packages are added after them.
use Rattle.std.proofs.Common.{◌≡◌, ◌<◌, ◌+◌, ℕ, List, [], ◌∷◌, ◌++◌, length, map, slice_get, slice_index, Bool}
use Rattle.std.proofs.Common.{not, Option, Some, None, IfSome, refl, ap, ◌∙◌, arith}
use Rattle.std.specs.Prelude.{if◌then◌else◌, unwrap_or, ◌==◌, ◌&&◌}
use Rattle.std.specs.List.{flat_map}
use Rattle.cap_class.specs.ClassFormat.{Interface, is_interface as is_interface_flags}
use Rattle.cap_desc.specs.declared.type_list.TypeItem.{TypeItem}
use Rattle.cap_desc.specs.DescriptorFormat.{ClassDescriptor, MethodDescriptor, FieldDescriptor}
use Rattle.cap_method.specs.declared.read_methods.HandlerInfo.{HandlerInfo}
use Rattle.cap_method.specs.MethodFormat.{Header}
use Rattle.cap_package.specs.Descriptions.{Description, field_type}
use Rattle.cap_package.specs.HeaderChecks.{header_in}
use Rattle.cap_package.specs.PackageRecord.{PackageRecord, handlers_of}
use Rattle.cap_pool.specs.PoolFormat.{Entry}
use Rattle.cap_pool.specs.declared.pool_record.PoolReference.{PoolReference}
use Rattle.cap_pool.specs.declared.pool_record.PoolReference.TheVariants.{Class as ClassEntry}
use Rattle.cap_pool.specs.PoolReference.{referred}
use Rattle.jc_base.specs.declared.record.Sig.{Sig}
use Rattle.jc_base.specs.declared.record.MethodRec.{MethodRec}
use Rattle.jc_resolve.specs.declared.naming.NamedClass.{NamedClass}
use Rattle.jc_resolve.specs.Numbering.{NumberedClass, NumberedMethod, is_placed, numbered_classes, numbered_methods, classes_after, methods_after}
use Rattle.jc_resolve.specs.References.{class_named}
use Rattle.jc_resolve.specs.WorldTypes.{class_or_object, type_class, type_of, cells_with, cells_of_type, arguments_before, result_after, signature_in}
use Rattle.jc_resolve.specs.WorldTypes.{types_named, declared_signature}
use Rattle.jc_resolve.specs.NamedClasses.{cells_by, cells_of_field, cells_of_fields, by_token, dispatch_entry, dispatch_table}
use Rattle.jc_resolve.specs.NamedClasses.{interface_named, implemented_interfaces, parent_named, named_interface, named_proper, named_class, named_classes}
use Rattle.jc_resolve.specs.NamedMethods.{class_or_none, class_in_entry, caught_class, offset_in_info, handler_named, no_body, body_by}
use Rattle.jc_resolve.specs.NamedMethods.{body_of}
use Rattle.jc_resolve.specs.NamedMethods.{class_described, is_class, have_headers, named_method, named_methods}
use Rattle.jc_resolve.proofs.DeclaredTypes.{named_below}
use Rattle.std.proofs.lemmas.List.{map-append}
use Rattle.law_added.proofs.Lists.{map_alike}
use Rattle.law_added.proofs.Numbers.{classes_are, methods_are, classes_until, methods_until, interface_front, method_at_front, every}
use Rattle.law_added.proofs.Names.{referred_front, named_front}

module _ (ps qs : List PackageRecord) where
  -- ---- types

  class_by : (object : ℕ) (o : Option ℕ) → IfSome o (λ c. c < length (numbered_classes ps))
      → class_or_object (ps ++ qs) object o ≡ class_or_object ps object o
  class_by object x h = grind (arith, interface_front)

  type_class_front : (object k reference : ℕ) → k < length ps → type_class (ps ++ qs) object k reference ≡ type_class ps object k reference
  type_class_front object k reference lt = grind (arith, named_front, class_by, named_below)

  pub type_front : (object k : ℕ) (t : TypeItem) → k < length ps → type_of (ps ++ qs) object k t ≡ type_of ps object k t
  unfolding type_of
  type_front object k t lt = grind (arith, type_class_front)

  pub cells_front : (object k : ℕ) (t : TypeItem) → k < length ps → cells_of_type (ps ++ qs) object k t ≡ cells_of_type ps object k t
  cells_front object k t lt = ap (cells_with t) (type_front object k t lt)

  arguments_front : (object k : ℕ) (t : TypeItem) (us : List TypeItem) → k < length ps
      → arguments_before (ps ++ qs) object k t us ≡ arguments_before ps object k t us
  arguments_front object k t [] lt = refl
  arguments_front object k t (u ∷ us) lt = grind (arith, cells_front, arguments_front object k u us lt)

  result_front : (object k : ℕ) (t : TypeItem) (us : List TypeItem) → k < length ps
      → result_after (ps ++ qs) object k t us ≡ result_after ps object k t us
  result_front object k t [] lt = ap (λ u. if t.nibble == 1 then None else Some u) (type_front object k t lt)
  result_front object k t (u ∷ us) lt = result_front object k u us lt

  in_front : (object k : ℕ) (ts : List TypeItem) → k < length ps → signature_in (ps ++ qs) object k ts ≡ signature_in ps object k ts
  in_front object k x lt = grind (arith, arguments_front, result_front)

  signature_front : (object k : ℕ) (d : Description) (offset : ℕ) → k < length ps
      → declared_signature (ps ++ qs) object k d offset ≡ declared_signature ps object k d offset
  unfolding declared_signature
  signature_front object k d offset lt = in_front object k (types_named d offset) lt

  -- ---- classes

  fields_front : (object k : ℕ) (d : Description) (fields : List FieldDescriptor) → k < length ps
      → flat_map (cells_of_field (ps ++ qs) object k d) fields ≡ flat_map (cells_of_field ps object k d) fields
  unfolding cells_of_field
  fields_front object k d [] lt = refl
  fields_front object k d (f ∷ fields) lt =
      ap (λ cs. cs ++ flat_map (cells_of_field (ps ++ qs) object k d) fields) (by (field_type d f.ty))
      ∙ ap (λ cs. cells_of_field ps object k d f ++ cs) (fields_front object k d fields lt)
    where
      by : (o : Option TypeItem) → cells_by (ps ++ qs) object k o ≡ cells_by ps object k o
      by None = refl
      by (Some t) = cells_front object k t lt

  own_front : (object k : ℕ) (d : Description) (fields : List FieldDescriptor) → k < length ps
      → cells_of_fields (ps ++ qs) object k d fields ≡ cells_of_fields ps object k d fields
  unfolding cells_of_fields
  own_front object k d fields lt = fields_front object k d (by_token fields) lt

  entry_front : (k : ℕ) (offset : ℕ) → k < length ps → dispatch_entry (ps ++ qs) k offset ≡ dispatch_entry ps k offset
  unfolding dispatch_entry
  entry_front k offset lt = ap (λ o. if offset == 0xFFFF then None else o) (method_at_front ps qs (record { «package» = k; offset = offset }) lt)

  table_front : (k base : ℕ) (offsets : List ℕ) → k < length ps → dispatch_table (ps ++ qs) k base offsets ≡ dispatch_table ps k base offsets
  table_front k base offsets lt = grind (arith, map_alike, every, entry_front)

  interfaces_front : (k : ℕ) (is : List Interface) → k < length ps → implemented_interfaces (ps ++ qs) k is ≡ implemented_interfaces ps k is
  unfolding interface_named
  interfaces_front k [] lt = refl
  interfaces_front k (i ∷ is) lt = grind (arith, named_front, interfaces_front k is lt)

  parent_front : (k reference : ℕ) → k < length ps → parent_named (ps ++ qs) k reference ≡ parent_named ps k reference
  parent_front k reference lt = ap (λ o. if reference == 0xFFFF then None else o) (named_front ps qs k reference lt)

  named_class_front : (object : ℕ) (c : NumberedClass) → c.home < length ps → named_class (ps ++ qs) object c ≡ named_class ps object c
  unfolding named_class
  named_class_front object c lt =
      ap (λ x. if is_interface_flags c.record_of.flags then x else named_proper (ps ++ qs) object c) interface
      ∙ ap (λ x. if is_interface_flags c.record_of.flags then named_interface ps c else x) proper
    where
      interface : named_interface (ps ++ qs) c ≡ named_interface ps c
      interface = rw (interfaces_front c.home c.record_of.interfaces lt) refl

      proper : named_proper (ps ++ qs) object c ≡ named_proper ps object c
      proper =
          let a = parent_front c.home c.record_of.super_ref lt in
          let b = interfaces_front c.home c.record_of.interfaces lt in
          let p = table_front c.home c.record_of.public_base c.record_of.public lt in
          let v = table_front c.home c.record_of.package_base c.record_of.visible lt in
          grind (arith, a, b, p, v, own_front)

  -- the classes that are added
  unfoldable pub added_classes : ℕ → List NamedClass
  added_classes object = map (named_class (ps ++ qs) object) (classes_after (length ps) qs)

  pub classes_begin : (object : ℕ) → named_classes (ps ++ qs) object ≡ named_classes ps object ++ added_classes object
  unfolding named_classes added_classes
  classes_begin object =
      ap (map (named_class (ps ++ qs) object)) (classes_are ps qs)
      ∙ map-append (named_class (ps ++ qs) object) (numbered_classes ps) (classes_after (length ps) qs)
      ∙ ap (λ cs. cs ++ added_classes object)
      (map_alike (named_class (ps ++ qs) object) (named_class ps object) (numbered_classes ps)
      (λ n. by (slice_get (numbered_classes ps) n) (classes_until 0 ps n)))
    where
      by : (o : Option NumberedClass) → IfSome o (λ c. c.home < 0 + length ps)
          → IfSome o (λ c. named_class (ps ++ qs) object c ≡ named_class ps object c)
      by None h = tt
      by (Some c) h = named_class_front object c (omega (arith, h))

  -- ---- methods

  caught_front : (k index throwable : ℕ) (pool : List Entry) → k < length ps
      → caught_class (ps ++ qs) throwable k pool index ≡ caught_class ps throwable k pool index
  caught_front k index throwable pool lt = ap (λ c. if index == 0 then throwable else c) (at (slice_get pool index))
    where
      named : (r : PoolReference) → class_or_none (ps ++ qs) k r ≡ class_or_none ps k r
      named (ClassEntry reference) = ap (λ o. unwrap_or o 0) (referred_front ps qs k reference lt)
      named _ = refl

      at : (o : Option Entry) → class_in_entry (ps ++ qs) k o ≡ class_in_entry ps k o
      at None = refl
      at (Some e) = named (referred e)

  handlers_front : (throwable k : ℕ) (pool : List Entry) (code_at : ℕ) (hs : List HandlerInfo) → k < length ps
      → map (handler_named (ps ++ qs) throwable k pool code_at) hs ≡ map (handler_named ps throwable k pool code_at) hs
  unfolding handler_named
  handlers_front throwable k pool code_at [] lt = refl
  handlers_front throwable k pool code_at (h ∷ hs) lt = grind (arith, caught_front, handlers_front throwable k pool code_at hs lt)

  body_front : (throwable k : ℕ) (p : PackageRecord) (m : MethodDescriptor) (sig : Sig) (has : Bool) → k < length ps
      → body_of (ps ++ qs) throwable k p m sig has ≡ body_of ps throwable k p m sig has
  unfolding body_of
  body_front throwable k p m sig has lt = ap (λ b. if has then b else no_body m.flags sig) (by (header_in p.methods.info m.method_offset))
    where
      by : (o : Option Header) → body_by (ps ++ qs) throwable k p m sig o ≡ body_by ps throwable k p m sig o
      by None = refl
      by (Some h) =
          rw (handlers_front throwable k p.pool (offset_in_info (m.method_offset + h.size)) (handlers_of p m) lt) refl

  headers_front : (k : ℕ) (p : PackageRecord) (c : ClassDescriptor) → k < length ps → have_headers (ps ++ qs) k p c ≡ have_headers ps k p c
  unfolding have_headers
  headers_front k p c lt =
      ap (λ o. is_placed p c && is_class (ps ++ qs) o) (named_front ps qs k c.class_ref lt)
      ∙ ap (λ b. is_placed p c && b) (by (class_named ps k c.class_ref) (named_below ps k c.class_ref))
    where
      by : (o : Option ℕ) → IfSome o (λ c. c < length (numbered_classes ps)) → is_class (ps ++ qs) o ≡ is_class ps o
      by None h = refl
      by (Some n) h = ap not (interface_front ps qs n h)

  described_front : (k : ℕ) (c : ClassDescriptor) → k < length ps → class_described (ps ++ qs) k c ≡ class_described ps k c
  unfolding class_described
  described_front k c lt = ap (λ o. unwrap_or o 0) (named_front ps qs k c.class_ref lt)

  named_method_front : (roles : List ℕ) (m : NumberedMethod) → m.home < length ps → named_method (ps ++ qs) roles m ≡ named_method ps roles m
  unfolding named_method
  named_method_front roles m lt = grind (arith, slice_index, signature_front, described_front, headers_front, body_front)

  unfoldable pub added_methods : List ℕ → List MethodRec
  added_methods roles = map (named_method (ps ++ qs) roles) (methods_after (length ps) qs)

  pub methods_begin : (roles : List ℕ) → named_methods (ps ++ qs) roles ≡ named_methods ps roles ++ added_methods roles
  unfolding named_methods added_methods
  methods_begin roles =
      ap (map (named_method (ps ++ qs) roles)) (methods_are ps qs)
      ∙ map-append (named_method (ps ++ qs) roles) (numbered_methods ps) (methods_after (length ps) qs)
      ∙ ap (λ ms. ms ++ added_methods roles)
      (map_alike (named_method (ps ++ qs) roles) (named_method ps roles) (numbered_methods ps)
      (λ n. by (slice_get (numbered_methods ps) n) (methods_until 0 ps n)))
    where
      by : (o : Option NumberedMethod) → IfSome o (λ m. m.home < 0 + length ps)
          → IfSome o (λ m. named_method (ps ++ qs) roles m ≡ named_method ps roles m)
      by None h = tt
      by (Some m) h = named_method_front roles m (omega (arith, h))
