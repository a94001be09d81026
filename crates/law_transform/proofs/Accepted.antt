-- A package that is written with the code that is laid for its methods makes a world in which each method with code has a card
-- typing.
use Rattle.std.proofs.Common.{◌≡◌, ⊎_elim, ℕ, ◌+◌, ◌-◌, ◌<◌, ◌≤◌, List, [], length, get_or, All, Option, Some, None}
use Rattle.std.proofs.Common.{slice_get, sym, ◌∙◌, ap, subst, arith}
use Rattle.std.proofs.lemmas.Bool.{cases_lt}
use Rattle.std.proofs.lemmas.List.{length-map, length-append}
use Rattle.std.proofs.lemmas.Option.{slice_get_within, slice_get-get_or, same_Some}
use Rattle.jc_base.specs.declared.record.MethodRec.{MethodRec}
use Rattle.jc_base.specs.World.{Linked}
use Rattle.jc_base.proofs.Lists.{slice_get-front, slice_get-farther}
use Rattle.jc_decode.specs.declared.symbols.Laid.{Laid}
use Rattle.jc_control.specs.Asked.{AllHave, IsOfLibrary}
use Rattle.jc_control.specs.Method.{Method, IsMethodOf, method_with}
use Rattle.card_typing.specs.Typing.{HasCardTyping}
use Rattle.law_relink.specs.WorldAgain.{LinkAgain, LaidMethodsStand}
use Rattle.law_relink.specs.Replaced.{AreMethodsOf, HasPoolOf, EachMayReplace, MethodsAreReplaced}
use Rattle.law_laid.specs.Apart.{apart_from_code, IsSameBut}
use Rattle.law_laid.specs.Laid.{HasLaid}
use Rattle.law_laid.proofs.Methods.{in-world, of-world, known}
use Rattle.law_transform.specs.Laid.{IsLaidFor, AreLaidOf}
use Rattle.law_transform.specs.AcceptedWorld.{LaidIsAccepted}
use Rattle.law_transform.proofs.Own.{AreLaws, keeps-live, laid-typed}
use Rattle.law_transform.proofs.Catching.{element-at, element-there, pools-laid}

-- ---- the methods of the last package

module _ (w : Linked) (laws : AreLaws w) (laid : List (Option Laid)) (are : AreLaidOf w laid) where
  abbrev first : ℕ
  first = length are.libraries

  parted : AreMethodsOf w are.libraries are.own
  parted = record { parts = are.parts; earlier = are.before; last = are.last }

  own-there : (n : ℕ) (r : MethodRec) → slice_get are.own n ≡ Some r → slice_get w.methods (first + n) ≡ Some r
  own-there n r e = grind (arith, slice_get, slice_get-farther)

  -- one that code is laid for
  module _ (n : ℕ) (r : MethodRec) (l : Laid) (own : slice_get are.own n ≡ Some r) (at : slice_get laid n ≡ Some (Some l)) where
    its-element : (0 < r.code_len) × IsLaidFor w (method_with w (first + n) r) l
    its-element = element-at w first are.own laid n r (Some l) are.each own at

    pools : All (HasPoolOf r.handlers) l.handlers
    pools =
        let live = keeps-live w laws (first + n) r (own-there n r own) its-element.0 l its-element.1 in
        pools-laid (method_with w (first + n) r) r.handlers its-element.1.symbols.ranges _ l.handlers live
        its-element.1.stands.2.handlers

    its-typing : (m : Method) → HasLaid r l m → HasCardTyping w m
    its-typing = laid-typed w laws (first + n) r (own-there n r own) its-element.0 l its-element.1

  pub may-replace : EachMayReplace are.own laid
  may-replace n r l own at = grind (arith, its-element n r l own at, pools n r l own at)

  -- ---- the methods of the new world

  module _ (accepted : AllHave (IsOfLibrary w) (HasCardTyping w)) (new : Linked) (same : IsSameBut w new)
      (stand : MethodsAreReplaced are.libraries are.own laid w new) (m : Method) (mo : IsMethodOf new m) where
    of-library : m.number < first → HasCardTyping w m
    of-library lt =
        let was : IsMethodOf w m = of-world w m (sym (stand.earlier m.number lt) ∙ in-world new m mo) mo.filled in
        let there = slice_get-get_or are.libraries m.number m.rec lt in
        let whole : slice_get w.methods m.number ≡ Some (get_or are.libraries m.number m.rec) =
        ap (λ ms. slice_get ms m.number) are.parts ∙ slice_get-front are.libraries are.own m.number _ there in
        let its : get_or are.libraries m.number m.rec ≡ m.rec = same_Some _ _ (sym whole ∙ was.rec) in
        let before = subst (λ r. r.package + 1 < length w.infos) its (are.before m.number m.rec lt) in
        accepted m (record { method = was; before = before })

    by-element :
        (n : ℕ) (r : MethodRec) (o : Option Laid)
        → m.number ≡ first + n
        → slice_get are.own n ≡ Some r
        → slice_get laid n ≡ Some o
        → HasCardTyping w m
    by-element n r None number own at = grind (arith, known, length)
    by-element n r (Some l) number own at =
        let has = known new (first + n) (HasLaid r l) (stand.replaced n r l own at (pools n r l own at)) m mo number in
        its-typing n r l own at m has

    of-last : first ≤ m.number → HasCardTyping w m
    of-last le =
        let few = slice_get_within new.methods m.number m.rec mo.rec in
        let many = sym (length-map w.methods apart_from_code) ∙ ap length same.methods ∙ length-map new.methods apart_from_code in
        let both = ap length are.parts ∙ length-append are.libraries are.own in
        let own = slice_get-get_or are.own (m.number - first) m.rec (omega (arith, few, many, both, le)) in
        let element = element-there w first are.own laid (m.number - first) _ are.each own in
        by-element (m.number - first) _ element.0 (omega (arith, le)) own element.1

    pub has-typing : HasCardTyping new m
    has-typing =
        let was : HasCardTyping w m = ⊎_elim of-library of-last (cases_lt m.number first) in
        record { regs = was.regs; stacks = was.stacks; typing = laws.kept w new m was.regs was.stacks same was.typing }

pub laid-is-accepted : (w : Linked) → AreLaws w → LinkAgain → LaidMethodsStand → LaidIsAccepted w
laid-is-accepted w laws again stand libraries source made parts new_parts roles laid s t r linked accepted are =
    let cut = parted w laws laid are in
    let may = may-replace w laws laid are in
    let anew = again parts new_parts libraries source made laid roles w are.libraries are.own s t r linked cut may in
    let standing =
    stand parts new_parts libraries source made laid roles w anew.world are.libraries are.own s t r linked anew.linked cut may in
    let carded = has-typing w laws laid are accepted anew.world anew.same standing in
    (anew.world, record { linked = anew.linked; same = anew.same; carded = carded })
