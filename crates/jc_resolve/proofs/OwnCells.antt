-- The own cells of a named class are those of its fields in the order of their tokens.
use Rattle.std.proofs.Common.{◌≡◌, ℕ, zero, suc, ◌+◌, Bool, true, false, cond, eqb}
use Rattle.std.proofs.Common.{not, List, [], ◌∷◌, ◌++◌, Option, Some, None, refl, arith}
use Rattle.std.proofs.Common.{sym, ap, ap₂, ◌∙◌, filter, filter_map, flat_map, option_map}
use Rattle.std.specs.Prelude.{◌==◌, ◌||◌}
use Rattle.std.specs.List.{range_with_len}
use Rattle.std.proofs.lemmas.Bool.{eqb-true}
use Rattle.std.proofs.lemmas.List.Elements.{filter_map-append}
use Rattle.cap_class.specs.ClassFormat.{Class, is_interface}
use Rattle.cap_desc.specs.declared.type_list.TypeItem.{TypeItem}
use Rattle.cap_desc.specs.DescriptorFormat as described
use Rattle.cap_desc.specs.DescriptorFormat.{FieldDescriptor, instance_token}
use Rattle.cap_package.specs.Descriptions.{Description, field_type}
use Rattle.cap_package.specs.HeaderChecks.{is_static}
use Rattle.cap_package.specs.PackageRecord.{PackageRecord}
use Rattle.jc_base.specs.declared.ty.Ty.{Ty}
use Rattle.jc_base.specs.declared.ty.Kind.TheVariants.{Ref, Byte, Short, Int}
use Rattle.jc_resolve.specs.Numbering.{NumberedClass}
use Rattle.jc_resolve.specs.NamedClasses.{describes, is_instance_field, fields_described, instance_fields, has_token, with_token, by_token}
use Rattle.jc_resolve.specs.NamedClasses.{cells_of_field, cells_of_fields, named_interface, named_proper, named_class}
use Rattle.jc_resolve.specs.WorldTypes.{type_of, kind_of, cells_of_type}
use Rattle.jc_resolve.specs.declared.field_records.OwnField.{OwnField}
use Rattle.jc_resolve.specs.declared.field_records.PackageFields.{PackageFields}
use Rattle.jc_resolve.specs.Described.{IsDescribedOnce}
use Rattle.jc_resolve.specs.OwnFields.{field_with, own_field, fields_in, own_fields}
use Rattle.jc_resolve.specs.OwnFields.{cells_by_kind, cells_of_own, own_with_token, cells_over}
use Rattle.jc_resolve.specs.TypedFields.{fields_resolved, own_found}
use Rattle.jc_resolve.proofs.TypedFields.{own-is}

-- without fields there are no cells
pub none_over : (n a : ℕ) → cells_over [] a n ≡ []
none_over zero a = refl
none_over (suc n) a = none_over n (a + 1)

-- what is no int has one cell
one_cell : (a b : Bool) (ty : Ty) → cells_by_kind (cond a Byte (cond b Short (cond false Int Ref))) ty ≡ ty ∷ []
one_cell x b ty = grind (arith)

module _ (ps : List PackageRecord) (object k : ℕ) (d : Description) where
  -- an instance field with its type, if it has one
  unfoldable pub typed : FieldDescriptor → Option OwnField
  typed f = option_map (field_with ps object k f) (field_type d f.ty)

  -- ---- the fields of a class are the instance fields that are described of it

  instance_by : (f : FieldDescriptor) (fs : List FieldDescriptor) (b : Bool) → is_static f.flags ≡ b → filter_map (own_field ps object k d) fs
      ≡ filter_map typed (filter is_instance_field fs)
      → filter_map (own_field ps object k d) (f ∷ fs) ≡ filter_map typed (cond (not b) (f ∷ filter is_instance_field fs) (filter is_instance_field fs))
  unfolding own_field typed
  instance_by f fs z e others = grind (arith)

  instances : (fs : List FieldDescriptor) → filter_map (own_field ps object k d) fs ≡ filter_map typed (filter is_instance_field fs)
  instances [] = refl
  instances (f ∷ fs) = instance_by f fs (is_static f.flags) refl (instances fs)

  of_record : (offset : ℕ) (c : described.ClassDescriptor) → fields_in ps object k d offset c ≡ filter_map typed (fields_described offset c)
  unfolding fields_described
  of_record offset c = by (describes offset c)
    where
      by : (b : Bool) → cond b (filter_map (own_field ps object k d) c.fields) [] ≡ filter_map typed (cond b (filter is_instance_field c.fields) [])
      by true = instances c.fields
      by false = refl

  pub of_records : (offset : ℕ) (cs : List described.ClassDescriptor) → flat_map (fields_in ps object k d offset) cs ≡ filter_map typed
      (flat_map (fields_described offset) cs)
  of_records offset [] = refl
  of_records offset (c ∷ cs) =
      ap₂ ◌++◌ (of_record offset c) (of_records offset cs)
      ∙ sym (filter_map-append typed (fields_described offset c) (flat_map (fields_described offset) cs))

  -- ---- and their cells

  token_by : (f : FieldDescriptor) (token : ℕ) (fs : List FieldDescriptor) (b : Bool) (o : Option TypeItem) → eqb (instance_token f) token ≡ b
      → field_type d f.ty ≡ o
      → filter_map typed (filter (has_token token) fs) ≡ own_with_token (filter_map typed fs) token
      → filter_map typed (cond b (f ∷ filter (has_token token) fs) (filter (has_token token) fs)) ≡ own_with_token (filter_map typed (f ∷ fs)) token
  unfolding typed
  token_by f token fs u v e h others = grind (arith)

  tokens : (token : ℕ) (fs : List FieldDescriptor) → filter_map typed (filter (has_token token) fs) ≡ own_with_token (filter_map typed fs) token
  tokens token [] = refl
  tokens token (f ∷ fs) = token_by f token fs (eqb (instance_token f) token) (field_type d f.ty) refl refl (tokens token fs)

  int_cells : (f : FieldDescriptor) (t : TypeItem) → t.nibble ≡ 5 → cells_of_type ps object k t ≡ cells_of_own (field_with ps object k f t)
  unfolding kind_of type_of
  int_cells f t e = rw e refl

  item_by : (f : FieldDescriptor) (t : TypeItem) (b : Bool) → eqb t.nibble 5 ≡ b
      → cells_of_type ps object k t ≡ cells_of_own (field_with ps object k f t)
  unfolding kind_of
  item_by f t true e = int_cells f t (eqb-true t.nibble 5 e)
  item_by f t false e = rw e (sym (one_cell (t.nibble == 2 || t.nibble == 3) (t.nibble == 4) (type_of ps object k t)))

  item_cells : (f : FieldDescriptor) (t : TypeItem) → cells_of_type ps object k t ≡ cells_of_own (field_with ps object k f t)
  item_cells f t = item_by f t (eqb t.nibble 5) refl

  field_cells : (f : FieldDescriptor) (fs : List FieldDescriptor) (o : Option TypeItem) → field_type d f.ty ≡ o
      → flat_map (cells_of_field ps object k d) fs ≡ flat_map cells_of_own (filter_map typed fs)
      → flat_map (cells_of_field ps object k d) (f ∷ fs) ≡ flat_map cells_of_own (filter_map typed (f ∷ fs))
  unfolding cells_of_field typed
  field_cells f fs None e others = rw e others
  field_cells f fs (Some t) e others = rw e (ap₂ ◌++◌ (item_cells f t) others)

  all_cells : (fs : List FieldDescriptor) → flat_map (cells_of_field ps object k d) fs ≡ flat_map cells_of_own (filter_map typed fs)
  all_cells [] = refl
  all_cells (f ∷ fs) = field_cells f fs (field_type d f.ty) refl (all_cells fs)

  by_tokens : (fs : List FieldDescriptor) (ts : List ℕ) → filter_map typed (flat_map (with_token fs) ts)
      ≡ flat_map (own_with_token (filter_map typed fs)) ts
  unfolding with_token
  by_tokens fs [] = refl
  by_tokens fs (token ∷ ts) = grind (arith, filter_map-append, flat_map, ap₂, tokens, by_tokens fs ts)

  pub cells_are : (fs : List FieldDescriptor) → cells_of_fields ps object k d fs ≡ cells_over (filter_map typed fs) 0 256
  unfolding cells_of_fields
  cells_are fs = grind (arith, all_cells (by_token fs), by_tokens fs (range_with_len 0 256), flat_map)

-- the cells by the fields are those by the descriptions
described_cells : (ps : List PackageRecord) (object k : ℕ) (d : Description) (offset : ℕ) (ds : List described.ClassDescriptor)
    → cells_over (flat_map (fields_in ps object k d offset) ds) 0 256 ≡ cells_of_fields ps object k d (instance_fields ds offset)
unfolding instance_fields
described_cells ps object k d offset ds = grind (arith, of_records, cells_are, flat_map)

-- and so where the fields of the class are found
pub class_cells : (ps : List PackageRecord) (object k : ℕ) (p : PackageRecord) (x : PackageFields) (c : Class) (own : List OwnField) (cells : List Ty)
    → x ≡ fields_resolved ps object k p
    → IsDescribedOnce p.description.items.classes c
    → own ≡ own_found x c.offset
    → cells ≡ cells_over own 0 256
    → cells ≡ cells_of_fields ps object k p.description (instance_fields p.description.items.classes c.offset)
class_cells ps object k p x c own cells known once found are =
    are
    ∙ ap (λ (fs : List OwnField). cells_over fs 0 256) (found ∙ ap (λ (y : PackageFields). own_found y c.offset) known ∙ own-is ps object k p c once)
    ∙ described_cells ps object k p.description c.offset p.description.items.classes

-- ---- named classes

-- the fields of a numbered class of its own
abbrev pub own_of : List PackageRecord → ℕ → NumberedClass → List OwnField
own_of ps object c = own_fields ps object c.home c.of_package c.record_of

pub own_named : (ps : List PackageRecord) (object : ℕ) (c : NumberedClass) → (named_class ps object c).own ≡ cells_over (own_of ps object c) 0 256
unfolding named_class own_fields instance_fields
own_named ps object c = by (is_interface c.record_of.flags)
  where
    by : (b : Bool) → (cond b (named_interface ps c) (named_proper ps object c)).own
        ≡ cells_over
        (cond b [] (flat_map (fields_in ps object c.home c.of_package.description c.record_of.offset) c.of_package.description.items.classes)) 0 256
    by true = sym (none_over 256 0)
    by false =
        cells_are ps object c.home c.of_package.description (instance_fields c.of_package.description.items.classes c.record_of.offset)
        ∙ ap (λ (own : List OwnField). cells_over own 0 256)
        (sym (of_records ps object c.home c.of_package.description c.record_of.offset c.of_package.description.items.classes))
