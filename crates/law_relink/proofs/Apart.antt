-- The methods are the same apart from code.
use Rattle.std.proofs.Common.{◌≡◌, ◌+◌, ℕ, List, [], ◌∷◌, ◌++◌, length, map, Bool, true, false, Option, slice_index, refl, sym, ap}
use Rattle.std.proofs.Common.{◌∙◌, arith}
use Rattle.std.specs.Prelude.{if◌then◌else◌, unwrap_or}
use Rattle.std.proofs.lemmas.List.{map-append, append-nil, append_assoc}
use Rattle.cap_desc.specs.DescriptorFormat.{MethodDescriptor}
use Rattle.cap_package.specs.HeaderChecks.{header_in, is_static}
use Rattle.cap_package.specs.PackageRecord.{PackageRecord, names_interface}
use Rattle.cap_package.specs.Parts.{Lent}
use Rattle.cap_package.specs.StandsFor.{StandsFor}
use Rattle.jc_base.specs.declared.record.MethodRec.{MethodRec}
use Rattle.jc_base.specs.declared.record.Sig.{Sig}
use Rattle.jc_decode.specs.declared.symbols.Laid.{Laid}
use Rattle.jc_resolve.specs.Numbering.{NumberedMethod, methods_of_classes, methods_after, numbered_methods}
use Rattle.jc_resolve.specs.References.{class_named}
use Rattle.jc_resolve.specs.WorldTypes.{declared_signature}
use Rattle.jc_resolve.specs.NamedMethods.{is_init, no_body, body_by, body_of, class_described, have_headers, named_method, named_methods}
use Rattle.law_package.specs.Rewritten.{IsRewritten}
use Rattle.law_package.proofs.Lists.{Each}
use Rattle.law_package.proofs.Bare.{same_types_named}
use Rattle.law_laid.specs.Apart.{apart_from_code}
use Rattle.law_package.proofs.FromWriting.{map_same}
use Rattle.law_relink.specs.Last.{and_last}
use Rattle.law_relink.proofs.Records.{named_method_same}
use Rattle.law_relink.proofs.Twins.{Twin, before_in, after_in, are_twins}
use Rattle.law_relink.proofs.Known.{IsKnownTwin, known_twins, twins_in, of_class, twin_headers, MayBeLaid, abstract_stays, abstract_bodies}

-- ---- the methods of all packages are those of the earlier ones and those of the last

pub after_split : (k n : ℕ) (ps : List PackageRecord) (q : PackageRecord) → n ≡ k + length ps
    → methods_after k (and_last ps q) ≡ methods_after k ps ++ methods_of_classes n q 0 q.description.items.classes
after_split k n [] q e = grind (arith, append-nil)
after_split k n (x ∷ ps) q e =
    let z : n ≡ k + 1 + length ps = omega (arith, e) in
    grind (arith, z, append_assoc, after_split (k + 1) n ps q z)

abbrev pub own_methods : List PackageRecord → PackageRecord → List NumberedMethod
own_methods ps q = methods_of_classes (length ps) q 0 q.description.items.classes

pub named_split : (ps : List PackageRecord) (q : PackageRecord) (roles : List ℕ)
    → named_methods (and_last ps q) roles ≡ map (named_method (and_last ps q) roles) (numbered_methods ps) ++ map
    (named_method (and_last ps q) roles) (own_methods ps q)
unfolding named_methods
named_split ps q roles =
    ap (map (named_method (and_last ps q) roles)) (after_split 0 (length ps) ps q (omega arith))
    ∙ map-append (named_method (and_last ps q) roles) (numbered_methods ps) (own_methods ps q)

-- ---- one method

-- what a method is apart from code, by what tells it
abbrev told : ℕ → ℕ → ℕ → MethodDescriptor → ℕ → Sig → Bool → MethodRec
told k i j m class sig abstract = record {
  «package» = k;
  class = class;
  token = m.token;
  class_no = i;
  method_no = j;
  is_static = is_static m.flags;
  is_init = is_init m.flags;
  is_abstract = abstract;
  sig = sig;
  nargs = 0;
  max_locals = 0;
  max_stack = 0;
  code_at = 0;
  code_len = 0;
  handlers = [];
}

module _ (parts new_parts : List Lent) (ps : List PackageRecord) (p q : PackageRecord) (laid : List (Option Laid)) (roles : List ℕ)
    (r : IsRewritten p laid q) where
  abbrev was : List PackageRecord
  was = and_last ps p

  abstract_same : (k : ℕ) (t : Twin) (sig sig' : Sig) → IsKnownTwin p q laid t → MayBeLaid was roles k p t
      → (body_of was (slice_index roles 1) k q t.new sig' (have_headers was k p t.old_class)).is_abstract
      ≡ (body_of was (slice_index roles 1) k p t.old sig (have_headers was k p t.old_class)).is_abstract
  unfolding body_of
  abstract_same k t sig sig' i may = by (have_headers was k p t.old_class) refl
    where
      by : (b : Bool) → have_headers was k p t.old_class ≡ b
          → (if b then body_by was (slice_index roles 1) k q t.new sig' (header_in q.methods.info t.new.method_offset) else no_body
          t.new.flags sig').is_abstract
          ≡ (if b then body_by was (slice_index roles 1) k p t.old sig (header_in p.methods.info t.old.method_offset) else no_body
          t.old.flags sig).is_abstract
      by false e = refl
      by true e = abstract_bodies was was (slice_index roles 1) k p q t.old t.new sig sig'
          (abstract_stays was roles k p q laid t (i.told (of_class was k p t.old_class e)) i may)

  signature_stays : (object k : ℕ) (t : Twin) → IsKnownTwin p q laid t → declared_signature was object k q.description t.new.type_offset
      ≡ declared_signature was object k p.description t.old.type_offset
  unfolding declared_signature
  signature_stays object k t i = grind (arith, same_types_named)

  class_stays : (k : ℕ) (t : Twin) → IsKnownTwin p q laid t → class_described was k t.new_class ≡ class_described was k t.old_class
  unfolding class_described
  class_stays k t i = ap (λ n. unwrap_or (class_named was k n) 0) i.ref

  old_apart : (k : ℕ) (t : Twin) → IsKnownTwin p q laid t → MayBeLaid was roles k p t
      → apart_from_code (named_method was roles (after_in k q t)) ≡ apart_from_code (named_method was roles (before_in k p t))
  unfolding named_method
  old_apart k t i may = grind (arith, slice_index, twin_headers, abstract_same, signature_stays, class_stays)

  pub twin_apart : (k : ℕ) (t : Twin) → IsKnownTwin p q laid t → MayBeLaid was roles k p t
      → apart_from_code (named_method (and_last ps q) roles (after_in k q t))
      ≡ apart_from_code (named_method was roles (before_in k p t))
  twin_apart k t i may = ap apart_from_code (named_method_same ps p q laid r roles (after_in k q t)) ∙ old_apart k t i may

  -- ---- all methods

  twins_apart : (k : ℕ) (ts : List Twin) → Each (IsKnownTwin p q laid) ts → Each (MayBeLaid was roles k p) ts
      → map apart_from_code (map (named_method (and_last ps q) roles) (map (after_in k q) ts))
      ≡ map apart_from_code (map (named_method was roles) (map (before_in k p) ts))
  twins_apart k [] i may = refl
  twins_apart k (t ∷ ts) i may = grind (arith, map, twin_apart, twins_apart k ts i.1 may.1)

  pub methods_apart : StandsFor parts p → StandsFor new_parts q → Each (MayBeLaid was roles (length ps) p) (twins_in p q laid)
      → map apart_from_code (named_methods (and_last ps q) roles) ≡ map apart_from_code (named_methods was roles)
  methods_apart s t may =
      let k = length ps in
      let now = named_method (and_last ps q) roles in
      let old = named_method was roles in
      let two = are_twins (names_interface p.classes) k p q 0 p.description.items.classes q.description.items.classes laid
      r.description.classes r.each in
      let own : map apart_from_code (map now (own_methods ps q)) ≡ map apart_from_code (map old (own_methods ps p)) =
      ap (λ ms. map apart_from_code (map now ms)) (sym two.after)
      ∙ twins_apart k (twins_in p q laid) (known_twins parts new_parts p q laid s t r) may
      ∙ ap (λ ms. map apart_from_code (map old ms)) two.before in
      grind (arith, own, map, named_split, map-append, map_same, named_method_same)
