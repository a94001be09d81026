-- What the Descriptor and the Class component tell of a package with other code but for the places of methods.
use Rattle.std.proofs.Common.{◌≡◌, ◌+◌, ℕ, List, [], ◌∷◌, ◌++◌, length, drop, map, Bool, ◌||◌, ◌&&◌, Option, arith}
use Rattle.std.proofs.Common.{Some, None, option_and_then, refl, sym, ap, ◌∙◌}
use Rattle.std.specs.Prelude.{if◌then◌else◌, ◌==◌}
use Rattle.std.specs.List.{list_any}
use Rattle.std.proofs.lemmas.List.{map-append, drop-drop}
use Rattle.cap_bytes.specs.Number.{number_at}
use Rattle.cap_class.specs.ClassFormat.{is_interface}
use Rattle.cap_class.specs.ClassFormat as of_class
use Rattle.cap_desc.specs.DescriptorFormat.{MethodDescriptor, ClassDescriptor}
use Rattle.cap_desc.specs.Members.{methods_of, methods_in, methods_but, fields_of}
use Rattle.cap_desc.specs.TypeFormat.{types_at, type_at, nibbles_at, types_in, one_type_in}
use Rattle.cap_components.specs.Descriptions.{Description, argument_words, field_type}
use Rattle.cap_components.specs.PackageRecord.{names_interface}
use Rattle.cap_renewal.specs.ClassEdits.{renewed_class}
use Rattle.law_package.specs.Rewritten.{bare_method, bare_class, HasSameDescription}

-- ---- interfaces

pub any_map : {X Y : Type 0} (p : Y → Bool) (g : X → Y) (xs : List X) → list_any p (map g xs) ≡ list_any (λ x. p (g x)) xs
any_map p g [] = refl
any_map p g (x ∷ xs) = ap (λ b. p (g x) || b) (any_map p g xs)

pub same_interfaces : (f : ℕ → ℕ) (cs : List of_class.Class) (r : ℕ) → names_interface (map (renewed_class f) cs) r ≡ names_interface cs r
unfolding names_interface
same_interfaces f cs r = any_map (λ (c : of_class.Class). c.offset == r && is_interface c.flags) (renewed_class f) cs

but_by : (b c : Bool) (ms us vs : List MethodDescriptor) → b ≡ c → us ≡ vs → (if b then us else ms ++ us) ≡ (if c then vs else ms ++ vs)
but_by b c ms us vs e h = rw (e, h) refl

pub but_same : (s t : ℕ → Bool) (cs : List ClassDescriptor) → ((r : ℕ) → s r ≡ t r) → methods_but s cs ≡ methods_but t cs
but_same s t [] h = refl
but_same s t (c ∷ cs) h = but_by (s c.class_ref) (t c.class_ref) c.methods (methods_but s cs) (methods_but t cs) (h c.class_ref) (but_same s t cs h)

pub in_same : (s t : ℕ → Bool) (cs : List ClassDescriptor) → ((r : ℕ) → s r ≡ t r) → methods_in s cs ≡ methods_in t cs
in_same s t [] h = refl
in_same s t (c ∷ cs) h = grind (arith)

-- ---- methods, fields and classes of the Descriptor

bare_but_by : (b : Bool) (ms us vs : List MethodDescriptor) → us ≡ map bare_method vs
    → (if b then us else (if b then ms else map bare_method ms) ++ us) ≡ map bare_method (if b then vs else ms ++ vs)
bare_but_by x ms us vs e = grind (arith, map-append)

pub bare_but : (set : ℕ → Bool) (cs : List ClassDescriptor) → methods_but set (map (bare_class set) cs) ≡ map bare_method (methods_but set cs)
bare_but set [] = refl
bare_but set (c ∷ cs) = bare_but_by (set c.class_ref) c.methods (methods_but set (map (bare_class set) cs)) (methods_but set cs) (bare_but set cs)

bare_in_by : (b : Bool) (ms us vs : List MethodDescriptor) → us ≡ vs → (if b then (if b then ms else map bare_method ms) ++ us else us)
    ≡ (if b then ms ++ vs else vs)
bare_in_by x ms us vs e = grind (arith)

pub bare_in : (set : ℕ → Bool) (cs : List ClassDescriptor) → methods_in set (map (bare_class set) cs) ≡ methods_in set cs
bare_in set [] = refl
bare_in set (c ∷ cs) = bare_in_by (set c.class_ref) c.methods (methods_in set (map (bare_class set) cs)) (methods_in set cs) (bare_in set cs)

bare_twice : (ms : List MethodDescriptor) → map bare_method (map bare_method ms) ≡ map bare_method ms
bare_twice [] = refl
bare_twice (m ∷ ms) = ap (λ ns. bare_method m ∷ ns) (bare_twice ms)

bare_of_by : (b : Bool) (ms us vs : List MethodDescriptor) → map bare_method us ≡ map bare_method vs
    → map bare_method ((if b then ms else map bare_method ms) ++ us) ≡ map bare_method (ms ++ vs)
bare_of_by x ms us vs e = grind (arith, map-append, bare_twice)

bare_of : (set : ℕ → Bool) (cs : List ClassDescriptor) → map bare_method (methods_of (map (bare_class set) cs)) ≡ map bare_method (methods_of cs)
bare_of set [] = refl
bare_of set (c ∷ cs) = bare_of_by (set c.class_ref) c.methods (methods_of (map (bare_class set) cs)) (methods_of cs) (bare_of set cs)

bare_fields : (set : ℕ → Bool) (cs : List ClassDescriptor) → fields_of (map (bare_class set) cs) ≡ fields_of cs
bare_fields set [] = refl
bare_fields set (c ∷ cs) = ap (λ fs. c.fields ++ fs) (bare_fields set cs)

abbrev pub ref_of : ClassDescriptor → ℕ
ref_of c = c.class_ref

bare_refs : (set : ℕ → Bool) (cs : List ClassDescriptor) → map ref_of (map (bare_class set) cs) ≡ map ref_of cs
bare_refs set [] = refl
bare_refs set (c ∷ cs) = ap (λ rs. c.class_ref ∷ rs) (bare_refs set cs)

-- two lists of classes that are the same but for the places of methods
pub record AreAlike (set : ℕ → Bool) (cs ds : List ClassDescriptor) : Type 0 where
  pub described : map bare_method (methods_but set ds) ≡ map bare_method (methods_but set cs)
  pub interfaces : methods_in set ds ≡ methods_in set cs
  pub methods : map bare_method (methods_of ds) ≡ map bare_method (methods_of cs)
  pub fields : fields_of ds ≡ fields_of cs
  pub refs : map ref_of ds ≡ map ref_of cs

pub alike : (set : ℕ → Bool) (cs ds : List ClassDescriptor) → map (bare_class set) ds ≡ map (bare_class set) cs → AreAlike set cs ds
alike set cs ds e = record {
  described = sym (bare_but set ds) ∙ ap (methods_but set) e ∙ bare_but set cs;
  interfaces = sym (bare_in set ds) ∙ ap (methods_in set) e ∙ bare_in set cs;
  methods = sym (bare_of set ds) ∙ ap (λ xs. map bare_method (methods_of xs)) e ∙ bare_of set cs;
  fields = sym (bare_fields set ds) ∙ ap fields_of e ∙ bare_fields set cs;
  refs = sym (bare_refs set ds) ∙ ap (map ref_of) e ∙ bare_refs set cs;
}

-- ---- types

pub record HasSameEnd (from : ℕ) (xs ys : List ℕ) : Type 0 where
  pub long : length ys ≡ length xs
  pub same : drop from ys ≡ drop from xs

-- the end from a later place on is the same too
same_after : (from more : ℕ) (xs ys : List ℕ) → HasSameEnd from xs ys → HasSameEnd (from + more) xs ys
same_after from more xs ys h = record { long = h.long; same = sym (drop-drop more from ys) ∙ ap (drop more) h.same ∙ drop-drop more from xs }

same_number : (w at : ℕ) (xs ys : List ℕ) → HasSameEnd at xs ys → number_at w at ys ≡ number_at w at xs
same_number w at xs ys h = rw (h.long, h.same) refl

same_nibbles : (at count : ℕ) (xs ys : List ℕ) → HasSameEnd at xs ys → nibbles_at ys at count ≡ nibbles_at xs at count
same_nibbles at count xs ys h = rw (h.long, h.same) refl

same_types : (at : ℕ) (xs ys : List ℕ) → HasSameEnd at xs ys → types_at ys at ≡ types_at xs at
same_types at xs ys h =
    ap (λ o. option_and_then (λ count. option_and_then types_in (nibbles_at ys (at + 1) count)) o) (same_number 1 at xs ys h)
    ∙ by (number_at 1 at xs)
  where
    by : (o : Option ℕ) → option_and_then (λ count. option_and_then types_in (nibbles_at ys (at + 1) count)) o ≡ option_and_then
        (λ count. option_and_then types_in (nibbles_at xs (at + 1) count)) o
    by None = refl
    by (Some n) = ap (option_and_then types_in) (same_nibbles (at + 1) n xs ys (same_after at 1 xs ys h))

same_type : (at : ℕ) (xs ys : List ℕ) → HasSameEnd at xs ys → type_at ys at ≡ type_at xs at
same_type at xs ys h =
    ap (λ o. option_and_then (λ count. option_and_then one_type_in (nibbles_at ys (at + 1) count)) o) (same_number 1 at xs ys h)
    ∙ by (number_at 1 at xs)
  where
    by : (o : Option ℕ) → option_and_then (λ count. option_and_then one_type_in (nibbles_at ys (at + 1) count)) o ≡ option_and_then
        (λ count. option_and_then one_type_in (nibbles_at xs (at + 1) count)) o
    by None = refl
    by (Some n) = ap (option_and_then one_type_in) (same_nibbles (at + 1) n xs ys (same_after at 1 xs ys h))

pub same_types_named : (set : ℕ → Bool) (d e : Description) (offset : ℕ) → HasSameDescription set d e
    → types_at e.info (e.items.types_start + offset) ≡ types_at d.info (d.items.types_start + offset)
same_types_named set d e offset h = grind (arith, same_after)

pub same_arguments : (set : ℕ → Bool) (d e : Description) (offset : ℕ) → HasSameDescription set d e
    → argument_words e offset ≡ argument_words d offset
unfolding argument_words
same_arguments set d e offset h = grind (arith, option_and_then, same_after)

pub same_field : (set : ℕ → Bool) (d e : Description) (ty : ℕ) → HasSameDescription set d e → field_type e ty ≡ field_type d ty
unfolding field_type
same_field set d e ty h = grind (arith, option_and_then, same_after)
