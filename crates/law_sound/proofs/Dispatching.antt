-- The method that a call runs has code, and takes the receiver.
use Rattle.std.proofs.Common.{◌≡◌, ℕ, ◌-◌, inl, inr, Bool, true, false, if◌then◌else◌, List, [], ◌∷◌, length, refl, sym, ap, ◌∙◌, arith}
use Rattle.std.proofs.Common.{subst}
use Rattle.std.specs.Prelude.{Option, Some, None, IsSomeAnd, All, slice_get, nat_lt, ◌==◌, flat_map, option_and_then, option_map}
use Rattle.std.proofs.lemmas.Bool.{eq-eqb, eqb-true, MatchBool-at_false, or_from}
use Rattle.std.proofs.lemmas.Option.{same_Some, option_and_then_some}
use Rattle.std.proofs.lemmas.List.Elements.{All-contains}
use Rattle.jc_base.specs.Each.{IsAmong}
use Rattle.jc_base.specs.declared.ty.Ty.TheVariants.{Class}
use Rattle.jc_base.specs.declared.record.Sig.{Sig}
use Rattle.jc_base.specs.declared.record.Iface.{Iface}
use Rattle.jc_base.specs.declared.record.ClassRec.{ClassRec}
use Rattle.jc_base.specs.declared.record.MethodRec.{MethodRec}
use Rattle.jc_base.specs.Class.{ClassTable, IsClass, is_interface, chain, list_of}
use Rattle.jc_base.specs.Order.{Below, is_on_chain, is_below}
use Rattle.jc_base.specs.Dispatch.{of_record, package_of, public_of, visible_of, entry_at}
use Rattle.jc_base.specs.Dispatch.{nearest_of, visible_in, dispatched, HasBody, IsConcrete}
use Rattle.jc_base.specs.Dispatch.{signature_of, signature_at}
use Rattle.jc_base.specs.Linked.{IsInherited, Dispatches, IsImplemented, IsExtended, IsLinkedClass, lacks_code}
use Rattle.jc_base.specs.Laws.{RunsPublic}
use Rattle.jc_base.specs.World.{Linked, IsWorld}
use Rattle.jc_base.proofs.Chains.{interface_read}
use Rattle.jc_base.proofs.Climbs.{chain-front, on_chain-class}
use Rattle.jc_base.proofs.Dispatches.{on_chain-from_Below, are_dispatched, public_read}
use Rattle.jc_base.proofs.Lists.{All-slice_get, IfSome-is, IsSomeAnd-some}
use Rattle.jc_base.proofs.Objects.{public-methods_run}
use Rattle.jc_base.proofs.Subtypes.{below_class}
use Rattle.jc_base.proofs.Tests.{found-passes, test-from_some}
use Rattle.jc_base.proofs.Eaching.{Contains-from_IsAmong, IsAmong-append_cases}
use Rattle.vm_step.specs.Calls.{interfaces_of, serving, served}
use Rattle.law_sound.proofs.CellTypes.{some-both}

-- a method that runs for an object of class r, with the signature of another
pub record RunsFor (w : Linked) (r n : ℕ) (sig : Sig) : Type 0 where
  pub rec : MethodRec
  pub is_method : slice_get w.methods n ≡ Some rec
  pub code : lacks_code w.classes rec ≡ false
  pub sig_is : rec.sig ≡ sig
  pub dynamic : rec.is_static ≡ false
  pub receives : Below w.classes (Class r) (Class rec.class)

-- ---- an entry of the class's own lists

own-nearest : (t : ClassTable) (c : ℕ) → nearest_of t (package_of t c) c ≡ Some c
unfolding nearest_of
own-nearest t c = grind (arith, chain-front t c, eq-eqb (package_of t c) (package_of t c) refl)

own-visible : (t : ClassTable) (c : ℕ) → visible_in t (package_of t c) c ≡ visible_of t c
unfolding visible_in
own-visible t c = ap (list_of (visible_of t)) (own-nearest t c)

pub own-dispatched : (t : ClassTable) (c token : ℕ) → dispatched t c token c ≡ entry_at t c token
unfolding dispatched entry_at
own-dispatched t c token = ap (λ xs. if nat_lt token 128 then slice_get (public_of t c) token else slice_get xs (token - 128)) (own-visible t c)

-- ---- a concrete class

dispatched-body : (t : ClassTable) (methods : List MethodRec) (r c token n : ℕ) → IsConcrete t methods r → dispatched t c token r ≡ Some n
    → HasBody methods n
unfolding dispatched
dispatched-body t methods r c token n concrete e = go (nat_lt token 128) e
  where
    go : (b : Bool) → (if b then slice_get (public_of t r) token else slice_get (visible_in t (package_of t c) r) (token - 128)) ≡ Some n
        → HasBody methods n
    go true e = All-slice_get (HasBody methods) (public_of t r) token n concrete.public e
    go false e = All-slice_get (HasBody methods) (visible_in t (package_of t c) r) (token - 128) n (concrete.visible (package_of t c)) e

-- ---- lists one after another

among-mapped : {X Y : Type 0} (g : X → List Y) (xs : List X) (y : Y) → IsAmong y (flat_map g xs) → (x : X) × IsAmong x xs × IsAmong y (g x)
among-mapped g [] y h = absurd h
among-mapped g (x ∷ xs) y h = elim (IsAmong-append_cases y (g x) (flat_map g xs) h) [
  | inl here ↦ (x, inl refl, here)
  | inr more ↦ let rest = among-mapped g xs y more in (rest.0, inr rest.1, rest.2)
]

module _ (w : Linked) (world : IsWorld w) where
  -- a method of a class, with a body, has code
  pub class-code : (r : ℕ) (m : MethodRec) → IsClass w.classes r → Below w.classes (Class r) (Class m.class) → m.is_abstract ≡ false
      → lacks_code w.classes m ≡ false
  class-code r m class below body = grind (arith, on_chain-from_Below, or_from, on_chain-class)

  signature-same : (n : ℕ) (m : MethodRec) (other : ℕ) (o : MethodRec) → slice_get w.methods n ≡ Some m → slice_get w.methods other ≡ Some o
      → signature_of w.methods n ≡ signature_of w.methods other → m.sig ≡ o.sig
  signature-same n m other o is was e = grind (arith, same_Some)

  inherited-runs :
      (r n other : ℕ) (o : MethodRec) → IsConcrete w.classes w.methods r → slice_get w.methods other ≡ Some o
      → signature_of w.methods n ≡ signature_of w.methods other → HasBody w.methods n → IsSomeAnd (slice_get w.methods n) (IsInherited w.classes r)
      → RunsFor w r n o.sig
  inherited-runs r n other o concrete was sig body inherited =
      let both = IsSomeAnd-some (λ (m : MethodRec). (m.is_abstract ≡ false) × IsInherited w.classes r m) (slice_get w.methods n)
      (some-both (λ (m : MethodRec). m.is_abstract ≡ false) (IsInherited w.classes r) (slice_get w.methods n) body inherited) in
      record {
        rec = both.0;
        is_method = both.1;
        code = class-code r both.0 concrete.class both.2.1.class both.2.0;
        sig_is = signature-same n both.0 other o both.1 was sig;
        dynamic = both.2.1.dynamic;
        receives = both.2.1.class;
      }

  -- an object of a concrete class runs a method with code at each token
  pub record IsDispatched (c token r : ℕ) (sig : Sig) : Type 0 where
    pub method : ℕ
    pub found : dispatched w.classes c token r ≡ Some method
    pub runs : RunsFor w r method sig

  pub dispatch-runs :
      (c token r n : ℕ) (o : MethodRec) → IsConcrete w.classes w.methods r → Below w.classes (Class r) (Class c)
      → entry_at w.classes c token ≡ Some n → slice_get w.methods n ≡ Some o
      → IsDispatched c token r o.sig
  dispatch-runs c token r n o concrete below entry is =
      let d : Dispatches w.classes w.methods c token r n = are_dispatched (length w.infos) w.classes w.methods world.chains world.classes c token r n below
      entry in
      record {
        method = d.method;
        found = d.found;
        runs = inherited-runs r d.method n o concrete is d.signature (dispatched-body w.classes w.methods r c token d.method concrete d.found) d.inherited;
      }

  -- ---- the method that serves an interface

  -- the entry stands at a class on the chain
  entry-from :
      (r interface : ℕ) (e : Iface) → serving w.classes interface r ≡ Some e
      → (a : ℕ) × (is_on_chain w.classes a r ≡ true) × IsAmong e (interfaces_of w.classes a) × (e.class ≡ interface)
  unfolding serving is_on_chain
  entry-from r interface e h =
      let found = found-passes (λ (x : Iface). x.class == interface) (flat_map (interfaces_of w.classes) (chain w.classes r)) e h in
      let at = among-mapped (interfaces_of w.classes) (chain w.classes r) e found.1 in (
        at.0,
        test-from_some (λ x. x == at.0) (chain w.classes r) at.0 at.1 (eq-eqb at.0 at.0 refl),
        at.2,
        eqb-true e.class interface found.0,
      )

  -- the record of a class that has the entry
  record IsServed (a : ℕ) (e : Iface) : Type 0 where
    record_of : ClassRec
    is_record : slice_get w.classes.records a ≡ Some record_of
    implemented : IsImplemented w.classes w.methods record_of.public e

  entry-implemented : (a : ℕ) (e : Iface) → is_interface w.classes a ≡ false → IsAmong e (interfaces_of w.classes a) → IsServed a e
  entry-implemented a e class among = go (slice_get w.classes.records a) refl among
    where
      go : (o : Option ClassRec) → slice_get w.classes.records a ≡ o → IsAmong e (of_record [] (λ (r : ClassRec). r.implements) o) → IsServed a e
      go None is h = absurd h
      go (Some r) is h =
          let linked : IsLinkedClass (length w.infos) w.classes w.methods a r = IfSome-is (IsLinkedClass (length w.infos) w.classes w.methods a)
          (slice_get w.classes.records a) r (world.classes a) is in
          let no_interface : r.interface ≡ false = interface_read w.classes a r is ∙ class in
          let all = MatchBool-at_false (All (IsExtended w.classes) r.implements) (All (IsImplemented w.classes w.methods r.public) r.implements)
          no_interface linked.implements in
          record {
            record_of = r;
            is_record = is;
            implemented = All-contains (IsImplemented w.classes w.methods r.public) r.implements e all (Contains-from_IsAmong e r.implements h);
          }

  -- the method that the entry tells has the signature of the interface's method, and code
  told-runs :
      (interface token r n public method : ℕ) (o : MethodRec) (e : Iface) → IsConcrete w.classes w.methods r
      → slice_get w.methods n ≡ Some o → o.class ≡ interface → o.token ≡ token
      → serving w.classes interface r ≡ Some e → slice_get e.tokens token ≡ Some public → slice_get (public_of w.classes r) public ≡ Some method
      → RunsFor w r method o.sig
  told-runs interface token r n public method o e concrete is class at served_by told there =
      let t = w.classes in
      let from = entry-from r interface e served_by in
      let a = from.0 in
      let a_class = on_chain-class t world.chains r a concrete.class from.1 in
      let s = entry-implemented a e a_class.class from.2 in
      let serves = All-slice_get
      (λ (m : MethodRec). m.class ≡ e.class → option_and_then (signature_at w.methods s.record_of.public) (slice_get e.tokens m.token)
      ≡ Some m.sig)
      w.methods n o s.implemented.serves is (class ∙ sym from.3) in
      let signature : signature_at w.methods s.record_of.public public ≡ Some o.sig =
      sym (ap (option_and_then (signature_at w.methods s.record_of.public)) (ap (slice_get e.tokens) at ∙ told)) ∙ serves in
      option_and_then_some (signature_of w.methods) (slice_get s.record_of.public public) o.sig signature
      (λ x first sig.
      let below : Below t (Class r) (Class a) = below_class w.classes world.chains r a from.1 in
      let runs : RunsPublic t w.methods r public x =
      public-methods_run (length w.infos) t w.methods world.chains world.classes r a public x below
      (ap (λ xs. slice_get xs public) (public_read t a s.record_of s.is_record) ∙ first) in
      let one : runs.method ≡ method = same_Some runs.method method (sym runs.found ∙ there) in
      inherited-runs r method n o concrete is
      (sym (ap (signature_of w.methods) one) ∙ (runs.signature ∙ (sig ∙ sym (ap (option_map (λ (m : MethodRec). m.sig)) is))))
      (All-slice_get (HasBody w.methods) (public_of t r) public method concrete.public there)
      (subst (λ k. IsSomeAnd (slice_get w.methods k) (IsInherited t r)) one runs.inherited))

  pub served-runs :
      (interface token r n method : ℕ) (o : MethodRec) → IsConcrete w.classes w.methods r
      → slice_get w.methods n ≡ Some o → o.class ≡ interface → o.token ≡ token
      → served w.classes interface token r ≡ Some method
      → RunsFor w r method o.sig
  served-runs interface token r n method o concrete is class at e = grind (arith, option_and_then_some, told-runs)
