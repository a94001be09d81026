-- How many cells the instance fields of a class have.
use Rattle.std.proofs.Common.{◌≡◌, ℕ, zero, suc, ◌+◌, ◌*◌, ◌≤◌, ◌<◌, Bool, true, false, cond, eqb, List, [], ◌∷◌, length}
use Rattle.std.proofs.Common.{length-append, Option, refl, ap, arith, inl, inr}
use Rattle.std.specs.Prelude.{filter, flat_map}
use Rattle.std.specs.List.{range_with_len}
use Rattle.std.proofs.lemmas.Bool.{cases_eq, ne_eqb}
use Rattle.jc_base.specs.declared.ty.Ty.{Ty}
use Rattle.cap_desc.specs.declared.records.DescPart.{DescPart}
use Rattle.cap_desc.specs.declared.type_list.TypeItem.{TypeItem}
use Rattle.cap_desc.specs.DescriptorFormat.{ClassDescriptor, FieldDescriptor, instance_token}
use Rattle.cap_desc.specs.Members.{fields_of}
use Rattle.cap_package.specs.Descriptions.{Description, description}
use Rattle.cap_package.specs.PackageRecord.{PackageRecord}
use Rattle.jc_resolve.specs.NamedClasses.{fields_described, instance_fields, with_token, by_token, cells_by}
use Rattle.jc_resolve.specs.NamedClasses.{cells_of_field, cells_of_fields}
use Rattle.jc_resolve.proofs.DescribedFields.{fields_of-few}

-- ---- things by a number of theirs: each is taken once at most

module _ {X : Type 0} (number : X → ℕ) where
  -- the things with a number
  abbrev numbered : List X → ℕ → List X
  numbered xs a = filter (λ x. eqb (number x) a) xs

  -- those with the n numbers from one on
  abbrev between : List X → ℕ → ℕ → List X
  between xs a n = flat_map (numbered xs) (range_with_len a n)

  parts : (xs : List X) (a n : ℕ) → length (between xs a (suc n)) ≡ length (numbered xs a) + length (between xs (a + 1) n)
  parts xs a n = length-append (numbered xs a) (between xs (a + 1) n)

  one_more : (x : X) (ys : List X) (b : Bool) → length (cond b (x ∷ ys) ys) ≤ suc (length ys)
  one_more x ys z = grind (arith)

  same_many : (x : X) (xs : List X) (a : ℕ) → (number x ≡ a → ⊥) → length (numbered (x ∷ xs) a) ≡ length (numbered xs a)
  same_many x xs a ne = ap (λ b. length (cond b (x ∷ numbered xs a) (numbered xs a))) (ne_eqb (number x) a ne)

  passed : (x : X) (xs : List X) (a n : ℕ) → number x < a → length (between (x ∷ xs) a n) ≡ length (between xs a n)
  passed x xs a zero lt = refl
  passed x xs a (suc n) lt =
      let ne : number x ≡ a → ⊥ = λ e. omega arith in
      omega (arith, parts (x ∷ xs) a n, parts xs a n, same_many x xs a ne, passed x xs (a + 1) n (omega arith))

  once : (x : X) (xs : List X) (a n : ℕ) → length (between (x ∷ xs) a n) ≤ suc (length (between xs a n))
  once x xs a zero = omega arith
  once x xs a (suc n) = elim (cases_eq (number x) a) [
    | inl e ↦ omega (arith, parts (x ∷ xs) a n, parts xs a n, one_more x (numbered xs a) (eqb (number x) a), passed x xs (a + 1) n (omega arith))
    | inr ne ↦ omega (arith, parts (x ∷ xs) a n, parts xs a n, same_many x xs a ne, once x xs (a + 1) n)
  ]

  nothing : (a n : ℕ) → length (between [] a n) ≡ 0
  nothing a zero = refl
  nothing a (suc n) = nothing (a + 1) n

  pub each_once : (xs : List X) (a n : ℕ) → length (between xs a n) ≤ length xs
  each_once [] a n = omega (arith, nothing a n)
  each_once (x ∷ xs) a n = omega (arith, once x xs a n, each_once xs a n)

-- ---- cells of fields

few_by : (ps : List PackageRecord) (object k : ℕ) (o : Option TypeItem) → length (cells_by ps object k o) ≤ 2
few_by ps object k u = grind (arith, eqb)

cells_few : (ps : List PackageRecord) (object k : ℕ) (d : Description) (fields : List FieldDescriptor)
    → length (flat_map (cells_of_field ps object k d) fields) ≤ 2 * length fields
unfolding cells_of_field
cells_few ps object k d [] = omega arith
cells_few ps object k d (f ∷ fields) = grind (arith, length-append, few_by, cells_few ps object k d fields)

tokens_once : (fields : List FieldDescriptor) → length (by_token fields) ≤ length fields
unfolding with_token
tokens_once fields = each_once instance_token fields 0 256

pub own_few : (ps : List PackageRecord) (object k : ℕ) (d : Description) (fields : List FieldDescriptor)
    → length (cells_of_fields ps object k d fields) ≤ 2 * length fields
unfolding cells_of_fields
own_few ps object k d fields = omega (arith, cells_few ps object k d (by_token fields), tokens_once fields)

-- ---- fields of a class

filtered_few : {X : Type 0} (t : X → Bool) (xs : List X) → length (filter t xs) ≤ length xs
filtered_few t [] = omega arith
filtered_few t (x ∷ xs) = filtered_by (t x) (filtered_few t xs)
  where
    filtered_by : (b : Bool) → length (filter t xs) ≤ length xs → length (cond b (x ∷ filter t xs) (filter t xs)) ≤ suc (length xs)
    filtered_by true le = omega arith
    filtered_by false le = omega arith

described_few : (offset : ℕ) (c : ClassDescriptor) → length (fields_described offset c) ≤ length c.fields
unfolding fields_described
described_few offset c = grind (arith, filtered_few)

pub instance_few : (classes : List ClassDescriptor) (offset : ℕ) → length (instance_fields classes offset) ≤ length (fields_of classes)
unfolding instance_fields
instance_few [] offset = omega arith
instance_few (c ∷ classes) offset = grind (arith, length-append, described_few, instance_few classes offset)

-- the cells of a class's fields are no more than a Descriptor can tell
pub own_sized : (ps : List PackageRecord) (object k : ℕ) (d : Description) (x : DescPart) (offset : ℕ) (cells : List Ty) → description x ≡ d
    → cells ≡ cells_of_fields ps object k d (instance_fields d.items.classes offset) → length cells ≤ 131070
own_sized ps object k d x offset cells e f = grind (arith, instance_few, own_few, fields_of-few)
