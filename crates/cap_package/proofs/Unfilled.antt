-- Where there are no initial arrays, none fills the reference of a field.
use Rattle.std.proofs.Common.{◌≡◌, ℕ, ◌/◌, ◌%◌, Bool, true, false, cond, List, [], ◌∷◌, Option, None, length, refl, sym, ap, ◌∙◌}
use Rattle.std.proofs.Common.{eqb, slice_get}
use Rattle.cap_method.specs.StaticFormat.{Array}
use Rattle.cap_desc.specs.DescriptorFormat.{FieldDescriptor}
use Rattle.cap_components.specs.Descriptions.{Description}
use Rattle.cap_components.specs.declared.fault.PackFault.{PackFault}
use Rattle.first_fault.specs.Least.{lesser}
use Rattle.cap_components.specs.Order.{least_from, pack_place}
use Rattle.cap_package.specs.StaticChecks.{image_offset, place_in, array_kinds, kind_at, filled_by, filled_fault}

no_kind : (offset : ℕ) → kind_at [] offset ≡ None
unfolding kind_at
no_kind offset = by (eqb (offset % 2) 0)
  where
    by : (even : Bool) → cond even (slice_get {X = ℕ} [] (offset / 2)) None ≡ None
    by true = refl
    by false = refl

not_filled : (d : Description) (f : FieldDescriptor) → filled_fault [] d f ≡ None
unfolding filled_fault
not_filled d f = ap (λ kind. filled_by kind (place_in d f)) (no_kind (image_offset f))

none_filled : (d : Description) (fs : List FieldDescriptor) (least : Option PackFault) → least_from least (filled_fault [] d) fs ≡ least
unfolding lesser
none_filled d [] least = refl
none_filled d (f ∷ fs) least = ap (λ fault. least_from (lesser pack_place least fault) (filled_fault [] d) fs) (not_filled d f) ∙ none_filled d fs least

pub nothing_filled : (arrays : List Array) (d : Description) (fs : List FieldDescriptor) (least : Option PackFault) → length arrays ≡ 0
    → least ≡ least_from least (filled_fault (array_kinds arrays) d) fs
nothing_filled [] d fs least e = sym (none_filled d fs least)
nothing_filled (a ∷ arrays) d fs least e = absurd cc
