-- What the handlers of named methods catch, where nothing is at fault.
use Rattle.std.proofs.Common.{◌≡◌, ℕ, zero, suc, ◌+◌, ◌<◌, Bool, true, false, List, length, Option, Some, None, refl, sym, ap, ◌∙◌, arith}
use Rattle.std.specs.Prelude.{All, map, slice_get, option_map, option_and_then, unwrap_or, not, ◌==◌, ◌||◌, if◌then◌else◌}
use Rattle.std.proofs.lemmas.Bool.{false≢true, and_parts, eqb-true, eq-eqb, not-true}
use Rattle.std.proofs.lemmas.List.Elements.{All-nil, All-map, All-take, All-drop, All-weaker}
use Rattle.cap_bytes.specs.declared.class_reference.ClassReference.{ClassReference}
use Rattle.cap_pool.specs.PoolFormat.{Entry}
use Rattle.cap_pool.specs.declared.pool_record.PoolReference.{PoolReference}
use Rattle.cap_pool.specs.declared.pool_record.PoolReference.TheVariants.{Class as ClassEntry}
use Rattle.cap_pool.specs.PoolReference.{referred}
use Rattle.cap_method.specs.declared.read_methods.HandlerInfo.{HandlerInfo}
use Rattle.cap_method.specs.MethodFormat.{Header}
use Rattle.cap_desc.specs.DescriptorFormat.{MethodDescriptor}
use Rattle.cap_package.specs.HeaderChecks.{header_in}
use Rattle.cap_package.specs.PackageRecord.{PackageRecord, handlers_of}
use Rattle.jc_base.specs.declared.ty.Ty.TheVariants.{Class}
use Rattle.jc_base.specs.declared.record.Handler.{Handler}
use Rattle.jc_base.specs.declared.record.Member.{Member}
use Rattle.jc_base.specs.declared.record.Member.TheVariants.{ClassOf}
use Rattle.jc_base.specs.declared.record.Sig.{Sig}
use Rattle.jc_base.specs.declared.record.StaticRec.{StaticRec}
use Rattle.jc_base.specs.Class.{ClassTable, IsClass, AreClasses, is_interface, throwable}
use Rattle.jc_base.specs.Order.{Below, same, is_below}
use Rattle.jc_base.specs.Linked.{Catches}
use Rattle.jc_base.proofs.Lists.{IfSome-is}
use Rattle.jc_base.proofs.Subtypes.{Below-from_is_below}
use Rattle.jc_resolve.specs.Numbering.{numbered_classes}
use Rattle.jc_resolve.specs.References.{class_referred}
use Rattle.jc_resolve.specs.NamedMethods.{class_or_none, class_in_entry, caught_class, handler_named, body_by, body_of, offset_in_info}
use Rattle.jc_link.specs.Members.{class_member, member_referred, member_of}
use Rattle.jc_link.specs.Catches.{class_caught, class_caught_by, thrown_by, catches_throwable}
use Rattle.jc_link.proofs.KnownMembers.{class-below}

-- what a handler catches is there, and is thrown
pub record CatchesThrown (t : ClassTable) (pool : List Member) (index c : ℕ) : Type 0 where
  pub catches : Catches t pool index c
  pub class : IsClass t c
  pub thrown : Below t (Class c) (Class (throwable t))

-- the table of packages' classes, and the members of a pool
pub record AreCaught (ps : List PackageRecord) (t : ClassTable) (statics : List StaticRec) (k : ℕ) (pool : List Entry) (members : List Member) : Type 0 where
  pub chains : AreClasses t
  pub count : length t.records ≡ length (numbered_classes ps)
  pub throwables : IsClass t (throwable t)
  pub at : (i : ℕ) → slice_get members i ≡ option_and_then (member_of ps t statics k) (slice_get pool i)

module _ (ps : List PackageRecord) (t : ClassTable) (statics : List StaticRec) (k : ℕ) (pool : List Entry) (members : List Member)
    (are : AreCaught ps t statics k pool members) where
  -- a Classref's member
  class_is : (e : Entry) (r : ClassReference) (c : ℕ) → referred e ≡ ClassEntry r → class_referred ps k r ≡ Some c
      → member_of ps t statics k e ≡ Some (ClassOf c)
  unfolding member_of class_member
  class_is e r c is in_is = ap (member_referred ps t statics k) is ∙ ap (option_map ClassOf) in_is

  found_class : (n : ℕ) (e : Entry) (r : ClassReference) (o : Option ℕ) → slice_get pool (suc n) ≡ Some e → referred e ≡ ClassEntry r
      → class_referred ps k r ≡ o → thrown_by t o ≡ true → CatchesThrown t members (suc n) (unwrap_or o 0)
  found_class n e r None at entry is h = absurd (false≢true h)
  found_class n e r (Some c) at entry is h =
      let both = and_parts (not (is_interface t c)) (is_below t (Class c) (Class (throwable t))) h in
      let low : c < length (numbered_classes ps) = IfSome-is (λ d. d < length (numbered_classes ps)) (class_referred ps k r) c (class-below ps k r) is in
      record {
        catches = are.at (suc n) ∙ ap (option_and_then (member_of ps t statics k)) at ∙ class_is e r c entry is;
        class = record { number = omega (arith, are.count, low); class = not-true (is_interface t c) both.0 };
        thrown = Below-from_is_below t are.chains (Class c) (Class (throwable t)) both.1;
      }

  by_reference : (n : ℕ) (e : Entry) (x : PoolReference) → slice_get pool (suc n) ≡ Some e → referred e ≡ x
      → thrown_by t (class_caught ps k x) ≡ true → CatchesThrown t members (suc n) (class_or_none ps k x)
  by_reference n e other at is h = grind (arith, found_class, false≢true)

  by_entry : (n : ℕ) (o : Option Entry) → slice_get pool (suc n) ≡ o → thrown_by t (class_caught_by ps k o) ≡ true
      → CatchesThrown t members (suc n) (class_in_entry ps k o)
  by_entry n y at h = grind (arith, false≢true, by_reference)

  by_index : (index : ℕ) (b : Bool) → (index == 0) ≡ b → (b || thrown_by t (class_caught_by ps k (slice_get pool index))) ≡ true
      → CatchesThrown t members index (if b then throwable t else class_in_entry ps k (slice_get pool index))
  by_index zero true e h = record { catches = refl; class = are.throwables; thrown = same }
  by_index zero false e h = absurd (false≢true (sym e ∙ eq-eqb 0 0 refl))
  by_index (suc n) true e h = let zero_is : suc n ≡ 0 = eqb-true (suc n) 0 e in absurd (omega arith)
  by_index (suc n) false e h = by_entry n (slice_get pool (suc n)) refl h

  pub caught-thrown : (index : ℕ) → catches_throwable ps t k pool index ≡ true
      → CatchesThrown t members index (caught_class ps (throwable t) k pool index)
  unfolding catches_throwable
  caught-thrown index h = by_index index (index == 0) refl h

  -- a handler as a method has it
  abbrev pub IsThrowing : Handler → Type 0
  IsThrowing h = CatchesThrown t members h.index h.class

  handler_throws : (code_at : ℕ) (h : HandlerInfo) → catches_throwable ps t k pool h.index ≡ true
      → IsThrowing (handler_named ps (throwable t) k pool code_at h)
  unfolding handler_named
  handler_throws code_at h e = caught-thrown h.index e

  pub named-throw : (code_at : ℕ) (hs : List HandlerInfo) → All (λ (h : HandlerInfo). catches_throwable ps t k pool h.index ≡ true) hs
      → All IsThrowing (map (handler_named ps (throwable t) k pool code_at) hs)
  named-throw code_at hs all =
      All-map IsThrowing (handler_named ps (throwable t) k pool code_at) hs
      (All-weaker (λ (h : HandlerInfo). catches_throwable ps t k pool h.index ≡ true)
      (λ (h : HandlerInfo). IsThrowing (handler_named ps (throwable t) k pool code_at h)) (λ h e. handler_throws code_at h e) hs all)

-- the handlers of a method of a package
module _ (ps : List PackageRecord) (t : ClassTable) (statics : List StaticRec) (k : ℕ) (p : PackageRecord) (members : List Member)
    (are : AreCaught ps t statics k p.pool members)
    (all : All (λ (h : HandlerInfo). catches_throwable ps t k p.pool h.index ≡ true) p.methods.handlers) where
  abbrev Throws : Handler → Type 0
  Throws h = CatchesThrown t members h.index h.class

  body_by-throws : (m : MethodDescriptor) (sig : Sig) (o : Option Header) → All Throws (body_by ps (throwable t) k p m sig o).handlers
  body_by-throws m sig None = All-nil Throws
  body_by-throws m sig (Some h) =
      named-throw ps t statics k p.pool members are (offset_in_info (m.method_offset + h.size)) (handlers_of p m)
      (All-take (λ (x : HandlerInfo). catches_throwable ps t k p.pool x.index ≡ true) m.handler_count _
      (All-drop (λ (x : HandlerInfo). catches_throwable ps t k p.pool x.index ≡ true) m.handler_index p.methods.handlers all))

  pub body-throws : (m : MethodDescriptor) (sig : Sig) (b : Bool) → All Throws (body_of ps (throwable t) k p m sig b).handlers
  unfolding body_of
  body-throws m sig true = body_by-throws m sig (header_in p.methods.info m.method_offset)
  body-throws m sig false = All-nil Throws
