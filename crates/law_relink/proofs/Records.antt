-- The record of a method reads of the packages only what they name.
use Rattle.std.proofs.Common.{arith}
use Rattle.std.proofs.Common.{◌≡◌, ◌+◌, ℕ, List, [], ◌∷◌, Bool, true, false, not, Option, Some, None, slice_get}
use Rattle.std.proofs.Common.{slice_index, refl, ap}
use Rattle.std.specs.Prelude.{if◌then◌else◌, unwrap_or, ◌==◌}
use Rattle.cap_desc.specs.declared.type_list.TypeItem.{TypeItem}
use Rattle.cap_desc.specs.DescriptorFormat.{ClassDescriptor, MethodDescriptor}
use Rattle.cap_method.specs.declared.read_methods.HandlerInfo.{HandlerInfo}
use Rattle.cap_method.specs.MethodFormat.{Header}
use Rattle.cap_package.specs.Descriptions.{Description}
use Rattle.cap_package.specs.HeaderChecks.{header_in}
use Rattle.cap_package.specs.PackageRecord.{PackageRecord}
use Rattle.cap_pool.specs.PoolFormat.{Entry}
use Rattle.cap_pool.specs.declared.pool_record.PoolReference.{PoolReference}
use Rattle.jc_base.specs.declared.record.Sig.{Sig}
use Rattle.jc_base.specs.declared.ty.Ty.TheVariants.{IntHigh, IntLow}
use Rattle.jc_decode.specs.declared.symbols.Laid.{Laid}
use Rattle.jc_resolve.specs.Numbering.{NumberedMethod, numbered_method}
use Rattle.jc_resolve.specs.WorldTypes.{cells_of_type, arguments_before, result_after, signature_in, types_named, declared_signature}
use Rattle.jc_resolve.specs.NamedMethods.{class_or_none, class_in_entry, caught_class, offset_in_info, handler_named, no_body, body_after, body_by, body_of}
use Rattle.jc_resolve.specs.NamedMethods.{class_described, is_class, have_headers, method_with, named_method}
use Rattle.law_package.specs.Rewritten.{IsRewritten}
use Rattle.law_package.proofs.FromWriting.{map_same}
use Rattle.law_relink.specs.Last.{and_last}
use Rattle.law_relink.proofs.Names.{referred_same, named_same, interface_number_same}
use Rattle.law_relink.proofs.Classes.{type_same}

module _ (ps : List PackageRecord) (p q : PackageRecord) (laid : List (Option Laid)) (r : IsRewritten p laid q) where
  abbrev now : List PackageRecord
  now = and_last ps q

  abbrev was : List PackageRecord
  was = and_last ps p

  -- ---- signatures

  cells_same : (object k : ℕ) (t : TypeItem) → cells_of_type now object k t ≡ cells_of_type was object k t
  cells_same object k t = ap (λ u. if t.nibble == 5 then IntHigh ∷ IntLow ∷ [] else u ∷ []) (type_same ps p q laid object k t r)

  arguments_same : (object k : ℕ) (t : TypeItem) (us : List TypeItem)
      → arguments_before now object k t us ≡ arguments_before was object k t us
  arguments_same object k t [] = refl
  arguments_same object k t (u ∷ us) = grind (arith, cells_same, arguments_same object k u us)

  result_same : (object k : ℕ) (t : TypeItem) (us : List TypeItem) → result_after now object k t us ≡ result_after was object k t us
  result_same object k t [] = ap (λ u. if t.nibble == 1 then None else Some u) (type_same ps p q laid object k t r)
  result_same object k t (u ∷ us) = result_same object k u us

  signatures_same : (object k : ℕ) (ts : List TypeItem) → signature_in now object k ts ≡ signature_in was object k ts
  signatures_same object k x = grind (arith, arguments_same, result_same)

  signature_same : (object k : ℕ) (d : Description) (offset : ℕ) → declared_signature now object k d offset
      ≡ declared_signature was object k d offset
  unfolding declared_signature
  signature_same object k d offset = signatures_same object k (types_named d offset)

  -- ---- handlers, headers and code

  reference_same : (k : ℕ) (x : PoolReference) → class_or_none now k x ≡ class_or_none was k x
  reference_same k other = grind (arith, referred_same)

  entry_same : (k : ℕ) (o : Option Entry) → class_in_entry now k o ≡ class_in_entry was k o
  entry_same k x = grind (arith, reference_same)

  pub caught_same : (throwable k : ℕ) (pool : List Entry) (index : ℕ)
      → caught_class now throwable k pool index ≡ caught_class was throwable k pool index
  caught_same throwable k pool index = ap (λ c. if index == 0 then throwable else c) (entry_same k (slice_get pool index))

  handler_same : (throwable k : ℕ) (pool : List Entry) (code_at : ℕ) (h : HandlerInfo)
      → handler_named now throwable k pool code_at h ≡ handler_named was throwable k pool code_at h
  unfolding handler_named
  handler_same throwable k pool code_at h = grind (arith, caught_same)

  body_same : (throwable k : ℕ) (x : PackageRecord) (m : MethodDescriptor) (sig : Sig) (o : Option Header)
      → body_by now throwable k x m sig o ≡ body_by was throwable k x m sig o
  body_same throwable k x m sig x2 = grind (arith, map_same, handler_same)

  bodies_same : (throwable k : ℕ) (x : PackageRecord) (m : MethodDescriptor) (sig : Sig) (b : Bool)
      → body_of now throwable k x m sig b ≡ body_of was throwable k x m sig b
  unfolding body_of
  bodies_same throwable k x m sig b = grind (arith, body_same)

  -- ---- classes

  class_same : (k : ℕ) (c : ClassDescriptor) → class_described now k c ≡ class_described was k c
  unfolding class_described
  class_same k c = ap (λ o. unwrap_or o 0) (named_same ps p q laid k c.class_ref r)

  is_class_same : (o : Option ℕ) → is_class now o ≡ is_class was o
  is_class_same x = grind (arith, not, interface_number_same)

  pub headers_same : (k : ℕ) (x : PackageRecord) (c : ClassDescriptor) → have_headers now k x c ≡ have_headers was k x c
  unfolding have_headers
  headers_same k x c = grind (arith, named_same, is_class_same)

  -- ---- methods

  pub named_method_same : (roles : List ℕ) (m : NumberedMethod) → named_method now roles m ≡ named_method was roles m
  unfolding named_method
  named_method_same roles m = grind (arith, slice_index, signature_same, class_same, headers_same, bodies_same)

-- ---- the record of a method that has a header, and of one that has none

pub with_header : (ps : List PackageRecord) (roles : List ℕ) (k : ℕ) (x : PackageRecord) (i : ℕ) (c : ClassDescriptor) (j : ℕ) (m : MethodDescriptor)
    (h : Header)
    → have_headers ps k x c ≡ true
    → header_in x.methods.info m.method_offset ≡ Some h
    → named_method ps roles (numbered_method k x i c j m)
    ≡ method_with (numbered_method k x i c j m) (class_described ps k c)
    (declared_signature ps (slice_index roles 0) k x.description m.type_offset)
    (body_after ps (slice_index roles 1) k x m h (offset_in_info (m.method_offset + h.size)))
unfolding named_method body_of
with_header ps roles k x i c j m h headers there = grind (arith, slice_index)

pub without_header : (ps : List PackageRecord) (roles : List ℕ) (k : ℕ) (x : PackageRecord) (i : ℕ) (c : ClassDescriptor) (j : ℕ) (m : MethodDescriptor)
    → have_headers ps k x c ≡ false
    → named_method ps roles (numbered_method k x i c j m)
    ≡ method_with (numbered_method k x i c j m) (class_described ps k c)
    (declared_signature ps (slice_index roles 0) k x.description m.type_offset)
    (no_body m.flags (declared_signature ps (slice_index roles 0) k x.description m.type_offset))
unfolding named_method body_of
without_header ps roles k x i c j m headers = grind (arith, slice_index)
