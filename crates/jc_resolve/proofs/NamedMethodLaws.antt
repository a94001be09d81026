-- What holds of the methods of packages that agree, where each reference names a class.
use Rattle.std.proofs.Common.{◌≡◌, ℕ, ◌+◌, ◌<◌, ◌≤◌, Bool, true, false, not, ◌||◌, List, length, option_map, sym, ap, subst, arith}
use Rattle.std.proofs.Common.{◌∙◌}
use Rattle.std.specs.Prelude.{All, MatchBool, slice_index}
use Rattle.std.proofs.lemmas.Bool.{not-true}
use Rattle.std.proofs.lemmas.List.{length-map}
use Rattle.std.proofs.lemmas.List.Elements.{All-map, All-weaker}
use Rattle.std.proofs.lemmas.Option.{slice_get-map, slice_get_within}
use Rattle.cap_package.specs.HeaderChecks.{is_static}
use Rattle.cap_package.specs.PackageRecord.{PackageRecord}
use Rattle.jc_base.specs.Linked.{receiver_words, list_at, IsCodeLength}
use Rattle.jc_base.proofs.Lists.{All-slice_get, list_at-slice_get}
use Rattle.jc_resolve.specs.declared.method_records.Body.{Body}
use Rattle.jc_resolve.specs.Conditions.{conditions}
use Rattle.first_fault.specs.First.{AllEmpty}
use Rattle.jc_resolve.specs.Named.{infos_of, IsAgreed, is_interface, IsNamedMethod}
use Rattle.jc_resolve.specs.NamedClasses.{named_classes}
use Rattle.jc_resolve.specs.NamedMethods.{HasFewHandlers, body_of, class_described, is_class, have_headers, named_method, named_methods}
use Rattle.jc_resolve.specs.Numbering.{NumberedMethod, numbered_methods, is_interface_number}
use Rattle.jc_resolve.specs.References.{class_named}
use Rattle.jc_resolve.specs.WorldTypes.{declared_signature}
use Rattle.jc_resolve.proofs.DeclaredTypes.{named-length, interface_numbered, arguments_declared}
use Rattle.jc_resolve.proofs.DeclaredTypes.{result_declared, arguments_whole, result_first}
use Rattle.jc_resolve.proofs.MethodBodies.{IsBody, body-known}
use Rattle.jc_resolve.proofs.NamedClassLaws.{NamesClass, describes-class, class-described}
use Rattle.jc_resolve.proofs.NumberedLaws.{IsDescribed, all-described}

-- code is lacking also where a class is an interface: an abstract body stands there
lacks_by : (abstract interface : Bool) (P Q : Type 0) → (abstract ≡ false → interface ≡ false) → MatchBool abstract P Q
    → MatchBool (abstract || interface) P Q
lacks_by x interface z u known h = grind (arith)

module _ (ps : List PackageRecord) (roles : List ℕ) (m : NumberedMethod) where
  abbrev object : ℕ
  object = slice_index roles 0

  abbrev body : Body
  body =
      body_of ps (slice_index roles 1) m.home m.of_package m.record_of
      (declared_signature ps object m.home m.of_package.description m.record_of.type_offset) (have_headers ps m.home m.of_package m.class)

  -- a body with code is one of a class
  proper_by : (x : NamesClass ps m.home m.class.class_ref) → is_class ps (class_named ps m.home m.class.class_ref) ≡ true
      → is_interface (named_classes ps object) (class_described ps m.home m.class) ≡ false
  proper_by x h =
      let proper : not (is_interface_number ps x.number) ≡ true = rw x.named at h in
      ap (is_interface (named_classes ps object)) (class-described ps m.home m.class x) ∙ interface_numbered ps object x.number
      ∙ not-true (is_interface_number ps x.number) proper

  info_there : IsDescribed ps m → list_at (infos_of ps) m.home ≡ m.of_package.methods.info
  info_there d =
      list_at-slice_get (infos_of ps) m.home m.of_package.methods.info (slice_get-map (λ (p : PackageRecord). p.methods.info) ps m.home
      ∙ ap (option_map (λ (p : PackageRecord). p.methods.info)) d.package)

  named_as : IsDescribed ps m → NamesClass ps m.home m.class.class_ref
      → IsBody m.of_package.methods.info
      (length (declared_signature ps object m.home m.of_package.description m.record_of.type_offset).args + receiver_words
      (is_static m.record_of.flags)) (is_class ps (class_named ps m.home m.class.class_ref)) (body)
      → IsNamedMethod (infos_of ps) (named_classes ps object) object (named_method ps roles m)
  unfolding named_method
  named_as d x b = record {
    home = subst (λ n. m.home < n) (sym (length-map ps (λ (p : PackageRecord). p.methods.info))) (slice_get_within ps m.home m.of_package d.package);
    class = grind (arith, class-described ps m.home m.class x, named-length ps object);
    words = b.words;
    registers = b.registers;
    arguments = arguments_declared ps object m.home m.of_package.description m.record_of.type_offset;
    result = result_declared ps object m.home m.of_package.description m.record_of.type_offset;
    whole = arguments_whole ps object m.home m.of_package.description m.record_of.type_offset;
    first = result_first ps object m.home m.of_package.description m.record_of.type_offset;
    code =
        lacks_by (body).is_abstract (is_interface (named_classes ps object) (class_described ps m.home m.class)) ((body).code_len ≡ 0)
        (IsCodeLength (body).code_len) (λ e. proper_by x (b.proper e)) b.code;
    inside = subst (λ (info : List ℕ). (body).code_at + (body).code_len ≤ length info) (sym (info_there d)) b.inside;
    handlers = b.handlers;
    few_handlers = b.few_handlers;
  }

  method_named : All IsAgreed ps → All HasFewHandlers ps → AllEmpty (conditions ps) → IsDescribed ps m
      → IsNamedMethod (infos_of ps) (named_classes ps object) object (named_method ps roles m)
  method_named agreed few none d =
      named_as d (describes-class ps m.home m.of_package m.class none d.package d.class)
      (body-known ps object (slice_index roles 1) m.home m.of_package m.class m.record_of
      (All-slice_get IsAgreed ps m.home m.of_package agreed d.package)
      (All-slice_get HasFewHandlers ps m.home m.of_package few d.package) d.class d.method)

-- the methods of packages are methods of their named classes
pub methods-named : (ps : List PackageRecord) (roles : List ℕ) → All IsAgreed ps → All HasFewHandlers ps → AllEmpty (conditions ps)
    → All (IsNamedMethod (infos_of ps) (named_classes ps (slice_index roles 0)) (slice_index roles 0)) (named_methods ps roles)
unfolding named_methods
methods-named ps roles agreed few none =
    All-map (IsNamedMethod (infos_of ps) (named_classes ps (slice_index roles 0)) (slice_index roles 0)) (named_method ps roles) (numbered_methods ps)
    (All-weaker (IsDescribed ps)
    (λ m. IsNamedMethod (infos_of ps) (named_classes ps (slice_index roles 0)) (slice_index roles 0) (named_method ps roles m))
    (λ m d. method_named ps roles m agreed few none d) (numbered_methods ps) (all-described ps))
