-- The world of a package whose methods share registers: each method with code is one with its registers renamed, or the same.
use Rattle.std.proofs.Common.{◌≡◌, ⊎_elim, ℕ, ◌+◌, ◌-◌, ◌<◌, List, length, drop, Option, Some, None, IsSomeAnd, slice_get}
use Rattle.std.proofs.Common.{refl, sym, ◌∙◌, ap, subst, arith, length-take}
use Rattle.std.proofs.lemmas.Bool.{cases_lt}
use Rattle.std.proofs.lemmas.Option.{none-some}
use Rattle.jc_base.specs.declared.record.MethodRec.{MethodRec}
use Rattle.jc_base.specs.Linked.{list_at}
use Rattle.jc_base.specs.World.{Linked, code_of}
use Rattle.jc_decode.specs.declared.symbols.Laid.{Laid}
use Rattle.jc_control.specs.Method.{Method, IsMethodOf, method_in}
use Rattle.law_laid.specs.Apart.{IsSameBut}
use Rattle.law_laid.proofs.Methods.{in-world, method-there, method-is}
use Rattle.law_relink.specs.Replaced.{MethodsAreReplaced}
use Rattle.law_sound.specs.Frames.{Typings}
use Rattle.law_sound.specs.Soundness.{AreTypings}
use Rattle.law_share.specs.Beside.{Renaming, AreRenamed}
use Rattle.law_share.specs.Laws.{IsKeptIn}
use Rattle.law_share.specs.Renamed.{IsRenamed}
use Rattle.law_shared_world.specs.SharedCode.{AreSharedOf}
use Rattle.law_shared_world.proofs.Elements.{element-at, element-there}
use Rattle.law_shared_world.proofs.Own.{AreLaws, first, is, own-there, pools, renamed}

-- the places of the method of a number in the other world, and its registers there
pub record HasCounterpart (v w : Linked) (n : ℕ) : Type 0 where
  pub place : ℕ → ℕ
  pub reg : ℕ → ℕ
  pub renamed : (m : Method) → IsMethodOf v m → m.number ≡ n → IsRenamed v w m place reg

module _ (v : Linked) (laws : AreLaws v) (laid : List (Option Laid)) (are : AreSharedOf v laid) (w : Linked) (same : IsSameBut v w)
    (stand : MethodsAreReplaced are.libraries are.own laid v w) where
  abbrev begins : ℕ
  begins = first v laws laid are

  none-there : (n : ℕ) → ((m : Method) → IsMethodOf v m → m.number ≡ n → ⊥) → HasCounterpart v w n
  none-there n none = record { place = λ p. p; reg = λ x. x; renamed = λ m mo number. absurd (none m mo number) }

  -- ---- a method of a library

  library-kept : (m : Method) → IsMethodOf v m → m.number < begins → IsKeptIn v w m
  library-kept m mo lt =
      let e : method_in w m.number ≡ Some m = stand.earlier m.number lt ∙ in-world v m mo in
      let found = method-there w m.number (λ k. k ≡ m) (subst (λ o. IsSomeAnd o (λ k. k ≡ m)) (sym e) refl) in
      let rec : found.0 ≡ m.rec = ap (λ (k : Method). k.rec) found.2 in
      let code : code_of w.infos found.0 ≡ m.code = ap (λ (k : Method). k.code) found.2 in
      record { second = found.1 ∙ ap Some rec; code = ap (code_of w.infos) (sym rec) ∙ (code ∙ mo.code) }

  library : (n : ℕ) → n < begins → HasCounterpart v w n
  library n lt = record {
    place = λ p. p;
    reg = λ x. x;
    renamed = λ m mo number.
        (let its : m.number < begins = subst (λ k. k < begins) (sym number) lt in
        laws.kept w m same mo (laws.carded m mo).typing.formed (library-kept m mo its));
  }

  -- ---- one of the last package

  of-record : (k : ℕ) (r : MethodRec) → slice_get are.own k ≡ Some r → slice_get v.methods (begins + k) ≡ Some r
  of-record k r own = own-there v laws laid are k ∙ own

  by-element : (k : ℕ) (r : MethodRec) (o : Option Laid) → slice_get are.own k ≡ Some r → slice_get laid k ≡ Some o
      → HasCounterpart v w (begins + k)
  by-element k r None own at =
      let none : r.code_len ≡ 0 = element-at v begins are.own laid k r None are.each own at in
      none-there (begins + k) (λ m mo number.
      let its = method-is v m (begins + k) r mo number (of-record k r own) in
      let some : 0 < length (code_of v.infos r) = subst (λ (x : Method). 0 < length x.code) (sym its) mo.filled in
      omega (arith, none, some, length-take r.code_len (drop r.code_at (list_at v.infos r.package))))
  by-element k r (Some l) own at =
      let has = stand.replaced k r l own at (pools v laws laid are k r l own at) in
      let its = renamed v laws laid are k r l own at w same has in
      record {
        place = its.place;
        reg = (is v laws laid are k r l own at).reg;
        renamed = λ m mo number. subst (λ x. IsRenamed v w x its.place (is v laws laid are k r l own at).reg)
            (method-is v m (begins + k) r mo number (of-record k r own)) its.renamed;
      }

  last : (k : ℕ) (o : Option MethodRec) → slice_get are.own k ≡ o → HasCounterpart v w (begins + k)
  last k None own = grind (arith, own-there v laws laid are k, slice_get v.methods, none-there, none-some)
  last k (Some r) own = grind (arith, element-there, by-element)

  -- ---- any method

  pub counterpart : (n : ℕ) → HasCounterpart v w n
  counterpart n = grind (arith, library n, last (n - begins) (slice_get are.own (n - begins)) refl, cases_lt n begins, ⊎_elim)

  abbrev pub by_number : Renaming
  by_number = record { place = λ n. (counterpart n).place; reg = λ n. (counterpart n).reg }

  pub are-renamed : (typings : Typings) → AreTypings v typings → AreRenamed v w typings by_number
  are-renamed typings typed = record { same = same; typed = typed; methods = λ m mo. (counterpart m.number).renamed m mo refl }
