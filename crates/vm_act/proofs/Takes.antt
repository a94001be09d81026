-- A method that a call may run has registers for the arguments and the receiver.
use Rattle.std.proofs.Common.{◌≡◌, ℕ, ◌+◌, ◌≤◌, Bool, true, false, List, [], ◌∷◌, length, refl, sym, ap, ◌∙◌, subst, arith}
use Rattle.std.specs.Prelude.{Option, Some, None, All, IfSome, IsSomeAnd, if◌then◌else◌, find, slice_get, option_and_then, option_map}
use Rattle.std.specs.Prelude.{unwrap_or}
use Rattle.std.proofs.lemmas.Bool.{eqb-true}
use Rattle.std.proofs.lemmas.List.Elements.{All-head, All-tail}
use Rattle.std.proofs.lemmas.Option.{slice_get_within}
use Rattle.jc_base.specs.declared.ty.Ty.TheVariants.{Class}
use Rattle.jc_base.specs.declared.record.Iface.{Iface}
use Rattle.jc_base.specs.declared.record.ClassRec.{ClassRec}
use Rattle.jc_base.specs.declared.record.MethodRec.{MethodRec}
use Rattle.jc_base.specs.Class.{ClassTable, IsClass, IsNextOnChain, is_interface, chain}
use Rattle.jc_base.specs.Order.{Below, is_on_chain}
use Rattle.jc_base.specs.Dispatch.{of_record, public_of, dispatched, signature_of, signature_at}
use Rattle.jc_base.specs.Laws.{RunsPublic}
use Rattle.jc_base.specs.Linked.{IsMethod, IsLinkedClass, IsImplemented, IsInherited, Dispatches, AreDispatched, receiver_words}
use Rattle.jc_base.specs.World.{Linked, IsWorld}
use Rattle.jc_base.proofs.Lists.{All-slice_get}
use Rattle.jc_base.proofs.Climbs.{climb, on_chain-here, on_above}
use Rattle.jc_base.proofs.Objects.{public-methods_run}
use Rattle.jc_base.proofs.Subtypes.{below_class}
use Rattle.jc_ops.specs.declared.operation.Choice.TheVariants as choices
use Rattle.jc_ops.specs.declared.operation.Callee.{Callee}
use Rattle.jc_ops.specs.Sound.{IsCalleeOf, IsChosen, IsSpecialCall, IsVirtualCall, IsInterfaceCall}
use Rattle.vm_store.specs.State.{register_count, register_count_of}
use Rattle.vm_step.specs.Methods.{of_method}
use Rattle.vm_step.specs.Calls.{args_of, interfaces_of, serving, served}
use Rattle.vm_act.specs.Lead.{TakesCells}
use Rattle.vm_act.proofs.Climbing.{Is, serving-here, serving-next, serving-end}

-- a method of this number has so many registers
known-registers : (w : Linked) → IsWorld w → (n : ℕ) (m : MethodRec) → slice_get w.methods n ≡ Some m → (count : ℕ)
    → count ≤ length m.sig.args + receiver_words m.is_static → TakesCells w n count
known-registers w is n m e count few =
    let method : IsMethod w.infos w.pools w.classes m = All-slice_get (IsMethod w.infos w.pools w.classes) w.methods n m is.methods e in
    let counted : register_count w.methods n ≡ m.nargs + m.max_locals = ap register_count_of e in
    record { known = slice_get_within w.methods n m e; registers = omega (arith, few, method.words, counted) }

args-known : (w : Linked) (n : ℕ) (m : MethodRec) → slice_get w.methods n ≡ Some m → args_of w n ≡ length m.sig.args
args-known w n m e = ap (of_method 0 (λ (x : MethodRec). length x.sig.args)) e

pub static-takes : (w : Linked) → IsWorld w → (c : Callee) → IsCalleeOf w c → c.choice ≡ choices.Static → TakesCells w c.method (args_of w c.method)
static-takes w is c sound e =
    let rec = sound.rec in
    known-registers w is c.method rec sound.is_method (args_of w c.method) (omega (arith, args-known w c.method rec sound.is_method))

dynamic-takes : (w : Linked) → IsWorld w → (n : ℕ) (m : MethodRec) → slice_get w.methods n ≡ Some m → m.is_static ≡ false
    → TakesCells w n (length m.sig.args + 1)
dynamic-takes w is n m e dynamic = known-registers w is n m e (length m.sig.args + 1) (omega (arith, ap receiver_words dynamic))

pub special-takes : (w : Linked) → IsWorld w → (c : Callee) → IsCalleeOf w c → c.choice ≡ choices.Special
    → TakesCells w c.method (args_of w c.method + 1)
special-takes w is c sound e =
    let rec = sound.rec in
    let chosen : IsSpecialCall w rec c.receiver = subst (IsChosen w c.method rec c.receiver) e sound.chosen in
    subst (λ n. TakesCells w c.method (n + 1)) (sym (args-known w c.method rec sound.is_method))
    (dynamic-takes w is c.method rec sound.is_method chosen.dynamic)

-- a method of the same signature that takes a receiver
alike-takes : (w : Linked) → IsWorld w → (n q : ℕ) (rec : MethodRec) → slice_get w.methods q ≡ Some rec
    → signature_of w.methods n ≡ signature_of w.methods q
    → (o : Option MethodRec) → slice_get w.methods n ≡ o → IsSomeAnd o (λ (m : MethodRec). m.is_static ≡ false)
    → TakesCells w n (length rec.sig.args + 1)
alike-takes w is n q rec at same None e h = absurd h
alike-takes w is n q rec at same (Some m) e dynamic = grind (arith, dynamic-takes w is n m e dynamic, length)

some-dynamic : (t : ClassTable) (r : ℕ) (o : Option MethodRec) → IsSomeAnd o (IsInherited t r) → IsSomeAnd o (λ (m : MethodRec). m.is_static ≡ false)
some-dynamic t r x h = grind (arith)

pub virtual-takes :
    (w : Linked) → IsWorld w → AreDispatched w.classes w.methods → (c : Callee) → IsCalleeOf w c → (class token of : ℕ)
    → c.choice ≡ choices.Virtual class token
    → Below w.classes (Class of) (Class class) → TakesCells w (unwrap_or (dispatched w.classes class token of) c.method) (args_of w c.method + 1)
virtual-takes w is runs c sound class token of e below =
    let rec = sound.rec in
    let chosen : IsVirtualCall w c.method rec c.receiver class token = subst (IsChosen w c.method rec c.receiver) e sound.chosen in
    let run : Dispatches w.classes w.methods class token of c.method = runs class token of c.method below chosen.entry in
    let found : unwrap_or (dispatched w.classes class token of) c.method ≡ run.method = ap (λ o. unwrap_or o c.method) run.found in
    let takes = alike-takes w is run.method c.method rec sound.is_method run.signature (slice_get w.methods run.method) refl
    (some-dynamic w.classes of (slice_get w.methods run.method) run.inherited) in
    subst (λ n. TakesCells w n (args_of w c.method + 1)) (sym found)
    (subst (λ k. TakesCells w run.method (k + 1)) (sym (args-known w c.method rec sound.is_method)) takes)

-- ---- the method that serves an interface

module _ {A : Type 0} (p : A → Bool) (P : A → Type 0) where
  pub record Found (x : A) : Type 0 where
    pub is : P x
    pub passes : p x ≡ true

  all-found : (xs : List A) (x : A) → All P xs → find p xs ≡ Some x → Found x
  all-found [] x h e = absurd (cc)
  all-found (y ∷ ys) x h e = by (p y) refl e (all-found ys x (All-tail P y ys h))
    where
      by : (b : Bool) → p y ≡ b → (if b then Some y else find p ys) ≡ Some x → (find p ys ≡ Some x → Found x) → Found x
      by true t e rest = let here : y ≡ x = cc in subst Found here (record { is = All-head P y ys h; passes = t })
      by false t e rest = rest e

module _ (w : Linked) (is : IsWorld w) where
  -- what a class that is above another implements
  pub record Implements (class interface : ℕ) (e : Iface) : Type 0 where
    pub above : ℕ
    pub on : is_on_chain w.classes above class ≡ true
    pub implemented : IsImplemented w.classes w.methods (public_of w.classes above) e
    pub interface_is : e.class ≡ interface

  own-implemented : (c : ℕ) (o : Option ClassRec) → slice_get w.classes.records c ≡ o → is_interface w.classes c ≡ false
      → IfSome o (IsLinkedClass (length w.infos) w.classes w.methods c) → All (IsImplemented w.classes w.methods (public_of w.classes c))
      (of_record [] (λ r. r.implements) o)
  unfolding is_interface public_of
  own-implemented c x e plain linked = grind (arith)

  implemented-by : (c : ℕ) → IsClass w.classes c → All (IsImplemented w.classes w.methods (public_of w.classes c)) (interfaces_of w.classes c)
  implemented-by c class = own-implemented c (slice_get w.classes.records c) refl class.class (is.classes c)

  here-found : (interface c : ℕ) → IsClass w.classes c → (e : Iface) → find (Is interface) (interfaces_of w.classes c) ≡ Some e
      → Implements c interface e
  here-found interface c class e h =
      let found = all-found (Is interface) (IsImplemented w.classes w.methods (public_of w.classes c)) (interfaces_of w.classes c) e
      (implemented-by c class) h in
      record { above = c; on = on_chain-here w.classes c; implemented = found.is; interface_is = eqb-true e.class interface found.passes }

  farther : (interface c p : ℕ) → IsNextOnChain w.classes c p → (e : Iface) → Implements p interface e → Implements c interface e
  farther interface c p next e i = grind (arith, on_above)

  serving-found : (interface c : ℕ) → IsClass w.classes c → (e : Iface) → serving w.classes interface c ≡ Some e → Implements c interface e
  serving-found interface =
      climb w.classes is.chains (λ c. IsClass w.classes c → (e : Iface) → serving w.classes interface c ≡ Some e → Implements c interface e)
      (λ c top alone class e h. ends c alone class e h (find (Is interface) (interfaces_of w.classes c)) refl)
      (λ c p link next before class e h. goes-on c p next (before next.class) class e h (find (Is interface) (interfaces_of w.classes c)) refl)
    where
      here : (c : ℕ) → IsClass w.classes c → (e x : Iface) → serving w.classes interface c ≡ Some e
          → find (Is interface) (interfaces_of w.classes c) ≡ Some x → Implements c interface e
      here c class e x h found =
          let both : Some x ≡ Some e = sym (serving-here w.classes interface c x found) ∙ h in
          let one : x ≡ e = cc in
          here-found interface c class e (found ∙ ap Some one)

      ends : (c : ℕ) → chain w.classes c ≡ c ∷ [] → IsClass w.classes c → (e : Iface) → serving w.classes interface c ≡ Some e
          → (o : Option Iface) → find (Is interface) (interfaces_of w.classes c) ≡ o → Implements c interface e
      ends c alone class e h (Some x) found = here c class e x h found
      ends c alone class e h None found = grind (arith, serving-end)

      goes-on : (c p : ℕ) → IsNextOnChain w.classes c p → ((e : Iface) → serving w.classes interface p ≡ Some e → Implements p interface e)
          → IsClass w.classes c → (e : Iface) → serving w.classes interface c ≡ Some e
          → (o : Option Iface) → find (Is interface) (interfaces_of w.classes c) ≡ o → Implements c interface e
      goes-on c p next before class e h (Some x) found = here c class e x h found
      goes-on c p next before class e h None found = farther interface c p next e (before e (sym (serving-next w.classes interface c p next found) ∙ h))

  -- the method at the public token that serves, by cases on what is found
  public-takes : (c : Callee) (rec : MethodRec) → slice_get w.methods c.method ≡ Some rec → (of above public : ℕ)
      → is_on_chain w.classes above of ≡ true
      → (o : Option ℕ) → slice_get (public_of w.classes above) public ≡ o → option_and_then (signature_of w.methods) o ≡ Some rec.sig
      → IfSome (slice_get (public_of w.classes of) public) (λ n. TakesCells w n (length rec.sig.args + 1))
  public-takes c rec at of above public on None e h = absurd (cc)
  public-takes c rec at of above public on (Some n) e h =
      let run : RunsPublic w.classes w.methods of public n = public-methods_run (length w.infos) w.classes w.methods is.chains is.classes of above public n
      (below_class w.classes is.chains of above on) e in
      let same : signature_of w.methods run.method ≡ signature_of w.methods c.method = run.signature
      ∙ (h ∙ sym (ap (option_map (λ (x : MethodRec). x.sig)) at)) in
      let takes = alike-takes w is run.method c.method rec at same (slice_get w.methods run.method) refl
      (some-dynamic w.classes of (slice_get w.methods run.method) run.inherited) in
      subst (λ o. IfSome o (λ k. TakesCells w k (length rec.sig.args + 1))) (sym run.found) takes

  token-takes : (c : Callee) (rec : MethodRec) → slice_get w.methods c.method ≡ Some rec → (interface token of : ℕ) → rec.class ≡ interface
      → rec.token ≡ token
      → (e : Iface) → Implements of interface e → (o : Option ℕ) → slice_get e.tokens token ≡ o
      → IfSome (option_and_then (λ public. slice_get (public_of w.classes of) public) o) (λ n. TakesCells w n (length rec.sig.args + 1))
  token-takes c rec at interface token of class_is token_is e i None h = tt
  token-takes c rec at interface token of class_is token_is e i (Some public) h =
      let Serves : MethodRec → Type 0 = λ m. m.class ≡ e.class → option_and_then (signature_at w.methods (public_of w.classes i.above))
      (slice_get e.tokens m.token) ≡ Some m.sig in
      let serves : Serves rec = All-slice_get Serves w.methods c.method rec i.implemented.serves at in
      let told : option_and_then (signature_at w.methods (public_of w.classes i.above)) (slice_get e.tokens rec.token) ≡ Some rec.sig = serves
      (class_is ∙ sym i.interface_is) in
      let there : option_and_then (signature_at w.methods (public_of w.classes i.above)) (Some public) ≡ Some rec.sig =
      sym (ap (option_and_then (signature_at w.methods (public_of w.classes i.above))) (ap (slice_get e.tokens) token_is ∙ h)) ∙ told in
      public-takes c rec at of i.above public i.on (slice_get (public_of w.classes i.above) public) refl there

  entry-takes : (c : Callee) (rec : MethodRec) → slice_get w.methods c.method ≡ Some rec → (interface token of : ℕ) → IsClass w.classes of
      → rec.class ≡ interface → rec.token ≡ token
      → (o : Option Iface) → serving w.classes interface of ≡ o
      → IfSome (option_and_then (λ (e : Iface). option_and_then (λ public. slice_get (public_of w.classes of) public) (slice_get e.tokens token)) o)
      (λ n. TakesCells w n (length rec.sig.args + 1))
  entry-takes c rec at interface token of class class_is token_is None h = tt
  entry-takes c rec at interface token of class class_is token_is (Some e) h =
      token-takes c rec at interface token of class_is token_is e (serving-found interface of class e h) (slice_get e.tokens token) refl

  pub interface-takes : (c : Callee) → IsCalleeOf w c → (interface token words of : ℕ) → c.choice ≡ choices.Interface interface token words
      → IsClass w.classes of
      → IfSome (served w.classes interface token of) (λ n. TakesCells w n (args_of w c.method + 1))
  interface-takes c sound interface token words of e class =
      let rec = sound.rec in
      let chosen : IsInterfaceCall w c.method rec c.receiver interface token words = subst (IsChosen w c.method rec c.receiver) e sound.chosen in
      let takes = entry-takes c rec sound.is_method interface token of class chosen.class chosen.token_is (serving w.classes interface of) refl in
      subst (λ k. IfSome (served w.classes interface token of) (λ n. TakesCells w n (k + 1))) (sym (args-known w c.method rec sound.is_method)) takes
