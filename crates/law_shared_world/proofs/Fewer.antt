-- The registers that methods have beside their arguments, once they share these: no method has more, and all together they are those that are
-- laid.
use Rattle.std.proofs.Common.{◌≡◌, ⊎_elim, ℕ, zero, suc, ◌+◌, ◌-◌, ◌<◌, ◌≤◌, Bool, true, cond, List, [], ◌∷◌, ◌++◌, length, drop}
use Rattle.std.proofs.Common.{Option, Some, None, option_map, get_or, slice_get, refl, sym, ◌∙◌, ap, subst, arith}
use Rattle.std.specs.Prelude.{◌==◌, ◌&&◌, nat_lt, sum_by}
use Rattle.std.proofs.lemmas.Bool.{cases_lt, eq-eqb, ne_eqb}
use Rattle.std.proofs.lemmas.Bool.Decides.{nat_tests}
use Rattle.std.proofs.lemmas.List.{length-map, length-append, length-drop}
use Rattle.std.proofs.lemmas.List.Sums.{sum_by-cons}
use Rattle.std.proofs.lemmas.Option.{same_Some, slice_get_within, slice_get-get_or}
use Rattle.jc_base.specs.declared.record.MethodRec.{MethodRec}
use Rattle.jc_base.specs.World.{Linked, code_of}
use Rattle.jc_base.proofs.Lists.{All-slice_get}
use Rattle.jc_decode.specs.declared.symbols.Laid.{Laid}
use Rattle.jc_control.specs.Method.{Method, IsMethodOf, method_with}
use Rattle.jc_rules.proofs.CellLists.{cells-length}
use Rattle.card_typing.proofs.Own.{start-length}
use Rattle.law_laid.specs.Apart.{apart_from_code, IsSameBut}
use Rattle.law_laid.specs.Laid.{HasLaid}
use Rattle.law_laid.proofs.Methods.{method-there, known}
use Rattle.law_relink.specs.Replaced.{MethodsAreReplaced}
use Rattle.law_renumbered.specs.Numbers.{AreNumbersOf, numbers_shared, numbers_kept}
use Rattle.law_share.specs.Laws.{RegistersAreNoMore}
use Rattle.law_shared_world.specs.SharedCode.{AreSharedElements, AreSharedOf, locals_of, locals_of_last, laid_of, laid_locals}
use Rattle.law_shared_world.proofs.Elements.{element-there, same-method}
use Rattle.law_shared_world.proofs.Own.{AreLaws, first, found, is, is-method, is-target, own-there, pools, source, target}

-- ---- the number of a method's registers

few-locals : (v : Linked) → RegistersAreNoMore → (laws : AreLaws v) → (m : Method) → IsMethodOf v m → (reg : ℕ → ℕ) {locals : ℕ} → AreNumbersOf v m reg locals
    → locals ≤ m.rec.max_locals
few-locals v no_more laws m mo reg {locals = locals} (numbers_shared given shares numbered) =
    let typing = shares.typed.typing in
    let count : length shares.regs ≡ m.rec.nargs + m.rec.max_locals =
    sym (cells-length v.classes typing.declared) ∙ start-length v laws.links m mo in
    let rest = length-drop m.rec.nargs shares.regs in
    let most = no_more v m (drop m.rec.nargs shares.regs) shares.variables given shares.are shares.allotted in
    let size = shares.size in
    omega (arith, count, rest, most, size)
few-locals v no_more laws m mo reg (numbers_kept keeps kept) = omega arith

-- ---- sums over lists

module _ (f : MethodRec → ℕ) where
  counted : (libraries : List MethodRec) (laid : List (Option Laid)) (ms : List MethodRec) → length ms ≡ length libraries + length laid
      → ((n : ℕ) (x : MethodRec) → n < length libraries → slice_get ms n ≡ Some x → f x ≡ 0)
      → ((k : ℕ) (x : MethodRec) (o : Option Laid) → slice_get ms (length libraries + k) ≡ Some x → slice_get laid k ≡ Some o → f x ≡ laid_of o)
      → sum_by f ms ≡ laid_locals laid
  counted [] [] [] long none own = refl
  counted [] [] (x ∷ ms) long none own = absurd (omega (arith, long))
  counted [] (o ∷ laid) [] long none own = absurd (omega (arith, long))
  counted [] (o ∷ laid) (x ∷ ms) long none own =
      let here : f x ≡ laid_of o = own 0 x o (ap (slice_get (x ∷ ms)) (let e : 0 + 0 ≡ 0 = omega arith in e)) refl in
      let rest : sum_by f ms ≡ laid_locals laid = counted [] laid ms (omega (arith, long)) (λ n y l e. absurd (omega (arith, l)))
      (λ k y p e at. own (suc k) y p (ap (slice_get (x ∷ ms)) (let s : 0 + suc k ≡ suc k = omega arith in s)
      ∙ (ap (slice_get ms) (let s : k ≡ 0 + k = omega arith in s) ∙ e)) at) in
      omega (arith, here, rest, sum_by-cons f x ms, sum_by-cons laid_of o laid)
  counted (l ∷ libraries) laid [] long none own = absurd (omega (arith, long))
  counted (l ∷ libraries) laid (x ∷ ms) long none own =
      let here : f x ≡ 0 = none 0 x (omega arith) refl in
      let rest : sum_by f ms ≡ laid_locals laid = counted libraries laid ms (omega (arith, long)) (λ n y lt e. none (suc n) y (omega (arith, lt)) e)
      (λ k y p e at. own k y p (ap (slice_get (x ∷ ms)) (let s : suc (length libraries) + k ≡ suc (length libraries + k) = omega arith in s) ∙ e) at) in
      omega (arith, here, rest, sum_by-cons f x ms)

-- ---- the methods of the new world

module _ (v : Linked) (no_more : RegistersAreNoMore) (laws : AreLaws v) (laid : List (Option Laid)) (are : AreSharedOf v laid) (w : Linked)
    (same : IsSameBut v w) (packages : length w.infos ≡ length v.infos) (stand : MethodsAreReplaced are.libraries are.own laid v w) where
  abbrev begins : ℕ
  begins = first v laws laid are

  earlier-is : (n : ℕ) (x : MethodRec) → n < begins → slice_get w.methods n ≡ Some x → slice_get v.methods n ≡ Some x
  earlier-is n x lt at = grind (arith, option_map, method-there)

  of-library : (n : ℕ) (x : MethodRec) → n < begins → slice_get w.methods n ≡ Some x → locals_of w x ≡ 0
  of-library n x lt at =
      let was = earlier-is n x lt at in
      let here : slice_get are.libraries n ≡ Some x = in-first are.libraries are.own n x lt
      (ap (λ (ms : List MethodRec). slice_get ms n) (sym are.parts) ∙ was) in
      let before : x.package + 1 < length v.infos = All-slice_get (λ r. r.package + 1 < length v.infos) are.libraries n x are.before here in
      ap (λ (b : Bool). cond (b && nat_lt 0 (length (code_of w.infos x))) x.max_locals 0)
      (ne_eqb (x.package + 1) (length w.infos) (λ e. absurd (omega (arith, e, before, packages))))
    where
      in-first : (xs ys : List MethodRec) (n : ℕ) (x : MethodRec) → n < length xs → slice_get (xs ++ ys) n ≡ Some x → slice_get xs n ≡ Some x
      in-first [] ys n x lt at = absurd (omega (arith, lt))
      in-first (z ∷ zs) ys zero x lt at = at
      in-first (z ∷ zs) ys (suc n) x lt at = in-first zs ys n x (omega (arith, lt)) at

  as-many : (number : ℕ) (own : List MethodRec) (os : List (Option Laid)) → AreSharedElements v number own os → length own ≡ length os
  as-many number [] [] each = refl
  as-many number [] (o ∷ os) each = absurd each
  as-many number (r ∷ rs) [] each = absurd each
  as-many number (r ∷ rs) (o ∷ os) each = ap suc (as-many (suc number) rs os each.1)

  of-element : (k : ℕ) (x r : MethodRec) (o : Option Laid) → slice_get w.methods (begins + k) ≡ Some x → slice_get are.own k ≡ Some r
      → slice_get laid k ≡ Some o → locals_of w x ≡ laid_of o
  of-element k x r None at own element = grind (arith, length, option_map, cond)
  of-element k x r (Some l) at own element =
      let has = stand.replaced k r l own element (pools v laws laid are k r l own element) in
      let its = found v laws laid are k r l own element w same has in
      let one : its.0 ≡ x = same_Some its.0 x (sym its.1 ∙ at) in
      let laid_is : HasLaid r l (method_with w (begins + k) x) = subst (λ (y : MethodRec). HasLaid r l (method_with w (begins + k) y)) one its.2 in
      let home : x.package ≡ r.package = ap (λ (y : MethodRec). y.package) laid_is.same in
      let last : r.package + 1 ≡ length v.infos = All-slice_get (λ y. y.package + 1 ≡ length v.infos) are.own k r are.last own in
      let filled = (is-target v laws laid are k r l own element w same has).filled in
      let some : 0 < length (code_of w.infos x) = subst (λ (y : MethodRec). 0 < length (code_of w.infos y)) one filled in
      let here : (x.package + 1 == length w.infos) ≡ true = eq-eqb (x.package + 1) (length w.infos) (omega (arith, home, last, packages)) in
      let there : nat_lt 0 (length (code_of w.infos x)) ≡ true = grind (arith, nat_tests, some) in
      rw (here, there) laid_is.max_locals

  of-own : (k : ℕ) (x : MethodRec) (o : Option Laid) → slice_get w.methods (begins + k) ≡ Some x → slice_get laid k ≡ Some o → locals_of w x ≡ laid_of o
  of-own k x o at element =
      let few = slice_get_within laid k o element in
      let own = slice_get-get_or are.own k x (omega (arith, few, as-many begins are.own laid are.each)) in
      of-element k x (get_or are.own k x) o at own element

  pub all-counted : locals_of_last w ≡ laid_locals laid
  all-counted = counted (locals_of w) are.libraries laid w.methods long of-library of-own
    where
      long : length w.methods ≡ length are.libraries + length laid
      long =
          let many = sym (length-map v.methods apart_from_code) ∙ ap length same.methods ∙ length-map w.methods apart_from_code in
          let both = ap length are.parts ∙ length-append are.libraries are.own in
          omega (arith, many, both, as-many begins are.own laid are.each)

  -- ---- no method has more

  pub no-more : (m n : Method) → IsMethodOf v m → IsMethodOf w n → n.number ≡ m.number → n.rec.max_locals ≤ m.rec.max_locals
  no-more m n mo there e = ⊎_elim of-first of-last (cases_lt m.number begins)
    where
      of-first : m.number < begins → n.rec.max_locals ≤ m.rec.max_locals
      of-first lt =
          let at = earlier-is n.number n.rec (omega (arith, lt, e)) there.rec in
          let same_rec : n.rec ≡ m.rec = same_Some n.rec m.rec (sym at ∙ (ap (slice_get v.methods) e ∙ mo.rec)) in
          omega (arith, ap (λ (r : MethodRec). r.max_locals) same_rec)

      by-element : (k : ℕ) (r : MethodRec) (o : Option Laid) → m.number ≡ begins + k → slice_get are.own k ≡ Some r → slice_get laid k ≡ Some o
          → n.rec.max_locals ≤ m.rec.max_locals
      by-element k r None number own element = grind (arith, known, length)
      by-element k r (Some l) number own element =
          let has = stand.replaced k r l own element (pools v laws laid are k r l own element) in
          let its = is v laws laid are k r l own element in
          let old : source v laws laid are k r l own element ≡ m =
          same-method v (source v laws laid are k r l own element) m (is-method v laws laid are k r l own element) mo (sym number) in
          let new : target v laws laid are k r l own element w same has ≡ n =
          same-method w (target v laws laid are k r l own element w same has) n (is-target v laws laid are k r l own element w same has) there
          (sym (e ∙ number)) in
          let laid_is = (found v laws laid are k r l own element w same has).2 in
          let few = few-locals v no_more laws (source v laws laid are k r l own element) (is-method v laws laid are k r l own element) its.reg its.numbers in
          let words : l.max_locals ≡ its.locals = its.stands.2.max_locals in
          omega (arith, few, words, laid_is.max_locals, ap (λ (x : Method). x.rec.max_locals) old, ap (λ (x : Method). x.rec.max_locals) new)

      of-last : begins ≤ m.number → n.rec.max_locals ≤ m.rec.max_locals
      of-last le =
          let number : m.number ≡ begins + (m.number - begins) = omega (arith, le) in
          let own : slice_get are.own (m.number - begins) ≡ Some m.rec =
          sym (own-there v laws laid are (m.number - begins)) ∙ ap (slice_get v.methods) (sym number) ∙ mo.rec in
          let element = element-there v begins are.own laid (m.number - begins) m.rec are.each own in
          by-element (m.number - begins) m.rec element.0 number own element.1
