-- The field that a class has with a token stands among the cells of its instances.
use Rattle.std.proofs.Common.{◌≡◌, ℕ, ◌+◌, ◌<◌, Bool, true, false, cond, List, [], ◌∷◌, ◌++◌, length, append_assoc, Option, Some}
use Rattle.std.proofs.Common.{None, slice_get, find, option_map, option_and_then, IfSome, All, refl, sym, ap₂, subst, arith, filter_map}
use Rattle.std.proofs.Common.{flat_map}
use Rattle.std.specs.Prelude.{◌==◌}
use Rattle.std.specs.List.{list_any, cons_option}
use Rattle.std.proofs.lemmas.Bool.{eqb-true, eq-eqb}
use Rattle.std.proofs.lemmas.List.{length-append}
use Rattle.std.proofs.lemmas.List.Elements.{All-nil, All-head, All-filter, filter_passes}
use Rattle.std.proofs.Math.Bool.{or-true}
use Rattle.cap_class.specs.ClassFormat.{is_interface}
use Rattle.cap_desc.specs.declared.type_list.TypeItem.{TypeItem}
use Rattle.cap_desc.specs.DescriptorFormat as described
use Rattle.cap_package.specs.Descriptions.{Description, field_type}
use Rattle.cap_package.specs.PackageRecord.{PackageRecord}
use Rattle.cap_package.proofs.FieldTypes.{field_typed}
use Rattle.jc_base.specs.declared.ty.Ty.{Ty}
use Rattle.jc_base.specs.declared.ty.Ty.TheVariants.{IntLow}
use Rattle.jc_base.specs.declared.ty.Kind.{Kind}
use Rattle.jc_base.specs.declared.ty.Kind.TheVariants.{Ref, Byte, Short, Int}
use Rattle.jc_base.specs.declared.record.Member.{Member}
use Rattle.jc_base.specs.declared.record.MethodRec.{MethodRec}
use Rattle.jc_base.specs.declared.record.StaticRec.{StaticRec}
use Rattle.jc_base.specs.Class.{ClassTable, AreClasses, IsClass, parent_of, chain, object}
use Rattle.jc_base.specs.Order.{is_on_chain}
use Rattle.jc_base.specs.Cell.{IsOfKind}
use Rattle.jc_base.specs.Dispatch.{own_cells, cells_of}
use Rattle.jc_base.specs.Linked.{AreLinkedClasses, cells_above, HasLowHalf, IsField, IsMember}
use Rattle.jc_base.proofs.Lists.{slice_get-farther}
use Rattle.jc_base.proofs.Instances.{cells-own, cells-on_chain}
use Rattle.jc_resolve.specs.Numbering.{NumberedClass, numbered_classes}
use Rattle.jc_resolve.specs.NamedClasses.{fields_described, named_classes}
use Rattle.jc_resolve.specs.OwnFields.{fields_in, own_fields, cells_by_kind, bears_token, own_with_token, cells_over}
use Rattle.jc_resolve.proofs.ItemKinds.{kind_right}
use Rattle.jc_resolve.specs.declared.field_records.OwnField.{OwnField}
use Rattle.jc_link.specs.Sites.{is_there, only, members_standing}
use Rattle.jc_link.specs.Fields.{cells_before, field_sites, HasCellsOf}
use Rattle.jc_link.specs.Members.{token_of_class, holder_of, field_of, as_of}
use Rattle.jc_link.proofs.TokenCells.{Stands, only_stands}
use Rattle.jc_resolve.proofs.OwnCells.{own_of, typed, of_records}
use Rattle.jc_link.proofs.OwnRecords.{has_own}
use Rattle.jc_link.proofs.NumberedFields.{StandsIn, stands_in}

-- ---- the type of a field is of its kind

abbrev IsKindly : OwnField → Type 0
IsKindly f = IsOfKind f.kind f.ty

module _ (ps : List PackageRecord) (object_is : ℕ) where
  kindly_typed : (k : ℕ) (d : Description) (f : described.FieldDescriptor) (own : List OwnField) (o : Option TypeItem) → field_type d f.ty ≡ o
      → All IsKindly own → All IsKindly (cons_option (typed ps object_is k d f) own)
  unfolding typed
  kindly_typed k d f own v e others = grind (arith, field_typed, kind_right)

  all_kindly : (k : ℕ) (d : Description) (fs : List described.FieldDescriptor) → All IsKindly (filter_map (typed ps object_is k d) fs)
  all_kindly k d [] = All-nil IsKindly
  all_kindly k d (f ∷ fs) = kindly_typed k d f (filter_map (typed ps object_is k d) fs) (field_type d f.ty) refl (all_kindly k d fs)

  own_kindly : (n : NumberedClass) → All IsKindly (own_of ps object_is n)
  unfolding own_fields
  own_kindly n = by (is_interface n.record_of.flags)
    where
      by : (b : Bool)
          → All IsKindly
          (cond b [] (flat_map (fields_in ps object_is n.home n.of_package.description n.record_of.offset) n.of_package.description.items.classes))
      by true = All-nil IsKindly
      by false = subst (All IsKindly) (sym (of_records ps object_is n.home n.of_package.description n.record_of.offset n.of_package.description.items.classes))
          (all_kindly n.home n.of_package.description (flat_map (fields_described n.record_of.offset) n.of_package.description.items.classes))

-- ---- cells in a list

first_there : (xs front cells : List Ty) (n k : ℕ) → length front ≡ n → cells ≡ front ++ xs → slice_get cells (n + k) ≡ slice_get xs k
first_there xs front cells n k many whole = grind (arith, slice_get, slice_get-farther)

at_first : (xs front cells : List Ty) (n : ℕ) → length front ≡ n → cells ≡ front ++ xs → slice_get cells n ≡ slice_get xs 0
at_first xs front cells n many whole = grind (arith, slice_get cells, first_there xs front cells n 0 many whole)

cells_there : (k : Kind) (ty : Ty) (front farther cells : List Ty) (n : ℕ) → length front ≡ n → cells ≡ front ++ (cells_by_kind k ty ++ farther)
    → (slice_get cells n ≡ Some ty) × HasLowHalf k cells n
cells_there Ref ty front farther cells n many whole = (at_first (ty ∷ farther) front cells n many whole, tt)
cells_there Byte ty front farther cells n many whole = (at_first (ty ∷ farther) front cells n many whole, tt)
cells_there Short ty front farther cells n many whole = (at_first (ty ∷ farther) front cells n many whole, tt)
cells_there Int ty front farther cells n many whole =
    (at_first (ty ∷ IntLow ∷ farther) front cells n many whole, first_there (ty ∷ IntLow ∷ farther) front cells n 1 many whole)

regrouped : (a b c d e : List Ty) → (a ++ (b ++ (c ++ d))) ++ e ≡ (a ++ b) ++ (c ++ (d ++ e))
regrouped a b c d e = simp append_assoc

-- ---- the nearest class that has the field

on_chain_by : (p : ℕ → Bool) (x h : ℕ) (xs : List ℕ) (b : Bool) → p x ≡ b → (find p xs ≡ Some h → list_any (λ y. y == h) xs ≡ true)
    → cond b (Some x) (find p xs) ≡ Some h → list_any (λ y. y == h) (x ∷ xs) ≡ true
on_chain_by p x h xs v e others found = grind (arith, eq-eqb, or-true)

found_on : (p : ℕ → Bool) (xs : List ℕ) (h : ℕ) → find p xs ≡ Some h → list_any (λ y. y == h) xs ≡ true
found_on p [] h e = absurd cc
found_on p (x ∷ xs) h e = on_chain_by p x h xs (p x) refl (found_on p xs h) e

holder_on : (t : ClassTable) (p : ℕ → Bool) (c h : ℕ) → find p (chain t c) ≡ Some h → is_on_chain t h c ≡ true
unfolding is_on_chain
holder_on t p c h e = found_on p (chain t c) h e

module _ (ps : List PackageRecord) (object_is packages : ℕ) (t : ClassTable) (methods : List MethodRec) (are : AreClasses t)
    (linked : AreLinkedClasses packages t methods)
    (cells : HasCellsOf (named_classes ps object_is) object_is t) where
  own_is : (h : ℕ) (n : NumberedClass) → slice_get (numbered_classes ps) h ≡ Some n → own_cells t h ≡ cells_over (own_of ps (object t) n) 0 256
  unfolding own_cells
  own_is h n e = let has = has_own ps object_is t cells h n e in rw has.there has.own

  stands_among : (c h token : ℕ) (n : NumberedClass) (f : OwnField) → slice_get (numbered_classes ps) h ≡ Some n → is_on_chain t h c ≡ true
      → token < 256 → own_with_token (own_of ps (object t) n) token ≡ f ∷ []
      → Stands (cells_of t c) (cells_above t (parent_of t h) + cells_before (own_of ps (object t) n) token) f
  stands_among c h token n f there on lt one =
      grind (
        arith,
        only_stands (own_of ps (object t) n) 256 token f lt one,
        cells-own packages t methods are linked h,
        cells-on_chain t are c h on,
        own_is h n there,
        length-append,
        ap₂,
        regrouped,
      )

  has_token : (token : ℕ) (own : List OwnField) (f : OwnField) → own_with_token own token ≡ f ∷ [] → f.token ≡ token
  has_token token own f one = grind (arith, filter_passes (bears_token token) own, eqb-true)

  kindly : (token : ℕ) (n : NumberedClass) (f : OwnField) → own_with_token (own_of ps (object t) n) token ≡ f ∷ [] → IsOfKind f.kind f.ty
  kindly token n f one =
      let all : All IsKindly (f ∷ []) = subst (λ (fs : List OwnField). All IsKindly fs) one
      (All-filter (bears_token token) IsKindly (own_of ps (object t) n) (own_kindly ps (object t) n)) in
      All-head IsKindly f [] all

  field_of_class : (c h token : ℕ) (n : NumberedClass) (f : OwnField) → IsClass t c → slice_get (numbered_classes ps) h ≡ Some n
      → is_on_chain t h c ≡ true → token < 256 → own_with_token (own_of ps (object t) n) token ≡ f ∷ []
      → IsField t c (cells_above t (parent_of t h) + cells_before (own_of ps (object t) n) token) f.kind f.ty
  field_of_class c h token n f is there on lt one =
      let stands = stands_among c h token n f there on lt one in
      let at = cells_there f.kind f.ty stands.front stands.farther (cells_of t c)
      (cells_above t (parent_of t h) + cells_before (own_of ps (object t) n) token) stands.many stands.whole in
      record { class = is; kind = kindly token n f one; first = at.0; second = at.1 }

  pub field_linked : (statics : List StaticRec) (token c : ℕ) → token < 256 → IsClass t c
      → IfSome (field_of (field_sites ps t) t token c) (IsMember t methods statics)
  unfolding field_of holder_of
  field_linked statics token c lt is = by_holder (find (λ h. is_there (members_standing (field_sites ps t) (token_of_class h token))) (chain t c)) refl
    where
      is_field : (h : ℕ) (m : Member) → is_on_chain t h c ≡ true → StandsIn ps t h token m → IsMember t methods statics (as_of c m)
      is_field h m on s =
          subst (λ (x : Member). IsMember t methods statics (as_of c x)) s.is
          (subst (λ (n : ℕ). IsField t c (cells_above t (parent_of t h) + cells_before (own_of ps (object t) s.class) n) s.field.kind s.field.ty)
          (sym (has_token token (own_of ps (object t) s.class) s.field s.one))
          (field_of_class c h token s.class s.field is s.there on lt s.one))

      by_member : (h : ℕ) (o : Option Member) → is_on_chain t h c ≡ true → only (members_standing (field_sites ps t) (token_of_class h token)) ≡ o
          → IfSome (option_map (as_of c) o) (IsMember t methods statics)
      by_member h None on e = tt
      by_member h (Some m) on e = is_field h m on (stands_in ps t h token m e)

      by_holder : (o : Option ℕ) → find (λ h. is_there (members_standing (field_sites ps t) (token_of_class h token))) (chain t c) ≡ o
          → IfSome (option_map (as_of c) (option_and_then (λ h. only (members_standing (field_sites ps t) (token_of_class h token))) o))
          (IsMember t methods statics)
      by_holder None e = tt
      by_holder (Some h) e =
          by_member h (only (members_standing (field_sites ps t) (token_of_class h token)))
          (holder_on t (λ x. is_there (members_standing (field_sites ps t) (token_of_class x token))) c h e) refl
