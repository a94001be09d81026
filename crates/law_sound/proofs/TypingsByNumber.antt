-- Where each method has a typing, there are typings by the numbers of methods.
use Rattle.std.proofs.Common.{◌≡◌, ℕ, zero, suc, ◌<◌, List, length, refl, sym, ap, ◌∙◌, subst, arith}
use Rattle.std.specs.Prelude.{Option, Some, None, slice_get}
use Rattle.std.proofs.lemmas.Option.{none-some, same_Some}
use Rattle.jc_base.specs.declared.ty.Ty.{Ty}
use Rattle.jc_base.specs.declared.record.MethodRec.{MethodRec}
use Rattle.jc_base.specs.World.{Linked, code_of}
use Rattle.jc_control.specs.Method.{Method, IsMethodOf, method_with}
use Rattle.jc_rules.specs.Demand.{Frame as Types}
use Rattle.jc_rules.specs.Flow.{FlowTyping, HasFlowTyping}
use Rattle.law_sound.specs.Soundness.{AreTypedMethods, HasTypings}

abbrev method : ℕ → MethodRec → List ℕ → Method
method number rec code = record { number = number; rec = rec; code = code }

module _ (w : Linked) (unset : Ty) (typed : AreTypedMethods w unset) where
  -- frames that type the method of a number, where it has code
  abbrev Numbered : ℕ → Type 0
  Numbered n = (frames : ℕ → Option Types) × ((m : Method) → IsMethodOf w m → m.number ≡ n → FlowTyping w m unset frames)

  same-method : (m : Method) (n : ℕ) (rec : MethodRec) → IsMethodOf w m → m.number ≡ n → slice_get w.methods n ≡ Some rec
      → method_with w n rec ≡ m
  same-method m n rec is number e =
      let rec_is : rec ≡ m.rec = same_Some rec m.rec (sym e ∙ (ap (slice_get w.methods) (sym number) ∙ is.rec)) in
      let code_is : code_of w.infos rec ≡ m.code = ap (code_of w.infos) rec_is ∙ sym is.code in
      same (sym number) rec_is code_is
    where
      same : {a b : ℕ} {r s : MethodRec} {c d : List ℕ} → a ≡ b → r ≡ s → c ≡ d
          → ◌≡◌ {A = Method} (record { number = a; rec = r; code = c }) (record { number = b; rec = s; code = d })
      same {a} {b} {r} {s} {c} {d} e f g =
          let first : ◌≡◌ {A = Method} (record { number = a; rec = r; code = c }) (record { number = b; rec = r; code = c }) =
          ap (λ (x : ℕ). method x r c) e in
          let second : ◌≡◌ {A = Method} (record { number = b; rec = r; code = c }) (record { number = b; rec = s; code = c }) =
          ap (λ (x : MethodRec). method b x c) f in
          let third : ◌≡◌ {A = Method} (record { number = b; rec = s; code = c }) (record { number = b; rec = s; code = d }) =
          ap (λ (x : List ℕ). method b s x) g in
          first ∙ (second ∙ third)

  -- the method has code or none
  by-length : (n : ℕ) (rec : MethodRec) → slice_get w.methods n ≡ Some rec → (size : ℕ) → length (code_of w.infos rec) ≡ size → Numbered n
  by-length n rec e zero empty = (
    λ p. None,
    λ m is number.
        let filled : 0 < length (code_of w.infos rec) = subst (λ (x : Method). 0 < length x.code) (sym (same-method m n rec is number e)) is.filled in
        absurd (omega (arith, filled, empty)),
  )
  by-length n rec e (suc size) long =
      let has : HasFlowTyping w (method_with w n rec) unset =
      typed (method_with w n rec) (record { rec = e; code = refl; filled = omega (arith, long) }) in
      (has.frames, λ m is number. subst (λ (x : Method). FlowTyping w x unset has.frames) (same-method m n rec is number e) has.typing)

  by-record : (n : ℕ) (o : Option MethodRec) → slice_get w.methods n ≡ o → Numbered n
  by-record n None e =
      (λ p. None, λ m is number. absurd (none-some m.rec (sym e ∙ (ap (slice_get w.methods) (sym number) ∙ is.rec))))
  by-record n (Some rec) e = by-length n rec e (length (code_of w.infos rec)) refl

  numbered : (n : ℕ) → Numbered n
  numbered n = by-record n (slice_get w.methods n) refl

pub methods-have-typings : (w : Linked) (unset : Ty) → AreTypedMethods w unset → HasTypings w unset
methods-have-typings w unset typed =
    record {
      typings = record { unset = λ n. unset; frames = λ n. (numbered w unset typed n).0 };
      are = λ m is. (numbered w unset typed m.number).1 m is refl;
      unset_is = λ n. refl;
    }
