-- The methods of packages are those of a world.
use Rattle.std.proofs.Common.{◌≡◌, ℕ, ◌+◌, Bool, List, [], get_or, length, sym, ap, subst, ◌∙◌, arith}
use Rattle.std.specs.Prelude.{All, MatchBool, slice_index, ◌||◌}
use Rattle.std.proofs.lemmas.List.{length-map}
use Rattle.std.proofs.lemmas.List.Elements.{All-map, All-weaker}
use Rattle.std.proofs.lemmas.Option.{IfSome_then}
use Rattle.cap_package.specs.PackageRecord.{PackageRecord}
use Rattle.jc_base.specs.declared.record.Handler.{Handler}
use Rattle.jc_base.specs.declared.record.MethodRec.{MethodRec}
use Rattle.jc_base.specs.Class.{ClassTable}
use Rattle.jc_base.specs.Cell.{IsDeclared}
use Rattle.jc_base.specs.Linked.{IsMethod, IsCodeLength, lacks_code, list_at}
use Rattle.jc_resolve.specs.Named as named
use Rattle.jc_resolve.specs.Named.{AreNamed, IsNamedMethod, infos_of}
use Rattle.jc_resolve.specs.NamedClasses.{named_classes}
use Rattle.jc_resolve.specs.NamedMethods.{named_method, named_methods, have_headers}
use Rattle.jc_resolve.specs.Numbering.{NumberedMethod, numbered_classes, numbered_methods}
use Rattle.jc_resolve.specs.WorldTypes.{declared_signature}
use Rattle.jc_resolve.proofs.NumberedLaws.{IsDescribed, all-described}
use Rattle.jc_link.specs.Pools.{pools, missing_members}
use Rattle.jc_link.specs.Catches.{bad_catches}
use Rattle.jc_link.specs.World.{classes_of, table_of, methods_of, statics_of}
use Rattle.jc_link.specs.Known.{IsTableOf}
use Rattle.jc_link.proofs.Faultless.{pools-at, IsCatching, handlers-at}
use Rattle.jc_link.proofs.Handlers.{CatchesThrown, body-throws}
use Rattle.jc_link.proofs.Tables.{counted, interface_same, table-chains, role-class, declared}

module _ (ps : List PackageRecord) (roles : List ℕ) where
  -- the handlers of a method catch what is there and thrown
  abbrev pub HandlersThrow : MethodRec → Type 0
  HandlersThrow m =
      All (λ (h : Handler). CatchesThrown (table_of ps roles) (list_at (pools ps (table_of ps roles) (statics_of ps roles)) m.package) h.index h.class)
      m.handlers

  classes_count : length (classes_of ps roles) ≡ length (numbered_classes ps)
  unfolding named_classes
  classes_count = length-map (numbered_classes ps) _

  module _ (t : ClassTable) (is : IsTableOf ps roles t) (members : missing_members ps (table_of ps roles) (statics_of ps roles) ≡ [])
      (caught : bad_catches ps (table_of ps roles) ≡ []) where
    method-throws : (m : NumberedMethod) → IsDescribed ps m → HandlersThrow (named_method ps roles m)
    unfolding named_method
    method-throws m described =
        let home = described.«package» in
        let zero_is : 0 + m.home ≡ m.home = omega arith in
        let caught_by = subst (λ (k : ℕ). All (IsCatching ps (table_of ps roles) k m.of_package.pool) m.of_package.methods.handlers) zero_is
        (handlers-at ps (table_of ps roles) 0 ps m.home m.of_package caught home) in
        body-throws ps (table_of ps roles) (statics_of ps roles) m.home m.of_package (list_at (pools ps (table_of ps roles) (statics_of ps roles)) m.home)
        (record {
          chains = table-chains ps roles t is;
          count = counted ps roles ∙ classes_count;
          throwables = role-class ps roles t is 1 (omega arith);
          at = grind (arith, pools-at);
        })
        caught_by m.record_of (declared_signature ps (slice_index roles 0) m.home m.of_package.description m.record_of.type_offset)
        (have_headers ps m.home m.of_package m.class)

    pub methods-throw : All HandlersThrow (methods_of ps roles)
    unfolding named_methods
    methods-throw =
        All-map HandlersThrow (named_method ps roles) (numbered_methods ps)
        (All-weaker (IsDescribed ps) (λ (m : NumberedMethod). HandlersThrow (named_method ps roles m)) (λ m described. method-throws m described)
        (numbered_methods ps) (all-described ps))

    -- a method of a world
    code_same : (m : MethodRec) → lacks_code (table_of ps roles) m ≡ named.lacks_code (classes_of ps roles) m
    code_same m = ap (λ (b : Bool). m.is_abstract || b) (interface_same ps roles m.class)

    method-linked : AreNamed (infos_of ps) (slice_index roles 0) (classes_of ps roles) (methods_of ps roles) → (m : MethodRec)
        → IsNamedMethod (infos_of ps) (classes_of ps roles) (slice_index roles 0) m → HandlersThrow m
        → IsMethod (infos_of ps) (pools ps (table_of ps roles) (statics_of ps roles)) (table_of ps roles) m
    method-linked known m named_is throw = record {
      home = named_is.home;
      class = omega (arith, counted ps roles, named_is.class);
      words = named_is.words;
      registers = named_is.registers;
      arguments =
          All-weaker (named.IsDeclared (classes_of ps roles) (slice_index roles 0)) (IsDeclared (table_of ps roles)) (declared ps roles t is known)
          m.sig.args named_is.arguments;
      result = IfSome_then m.sig.result named_is.result (declared ps roles t is known);
      whole = named_is.whole;
      first = named_is.first;
      code = subst (λ (b : Bool). MatchBool b (m.code_len ≡ 0) (IsCodeLength m.code_len)) (sym (code_same m)) named_is.code;
      inside = named_is.inside;
      handlers = grind (arith);
      few_handlers = named_is.few_handlers;
    }

    pub methods-linked : AreNamed (infos_of ps) (slice_index roles 0) (classes_of ps roles) (methods_of ps roles)
        → All (IsMethod (infos_of ps) (pools ps (table_of ps roles) (statics_of ps roles)) (table_of ps roles)) (methods_of ps roles)
    methods-linked known = λ k d lt. method-linked known (get_or (methods_of ps roles) k d) (known.methods k d lt) (methods-throw k d lt)
