-- The world of a package whose methods share registers: each method with code has a card typing, and each run ends in step.
use Rattle.std.proofs.Common.{◌≡◌, ⊎_elim, ℕ, ◌+◌, ◌-◌, ◌<◌, ◌≤◌, List, [], length, Option, Some, None, slice_get, sym, ◌∙◌, ap}
use Rattle.std.proofs.Common.{subst, arith}
use Rattle.std.proofs.lemmas.Bool.{cases_lt}
use Rattle.std.proofs.lemmas.List.{length-map, length-append}
use Rattle.std.proofs.lemmas.Option.{slice_get_within, slice_get-get_or}
use Rattle.cap_package.specs.PackageRecord.{PackageRecord}
use Rattle.jc_base.specs.declared.ty.Ty.TheVariants.{Bottom}
use Rattle.jc_base.specs.declared.record.MethodRec.{MethodRec}
use Rattle.jc_base.specs.World.{Linked}
use Rattle.jc_decode.specs.declared.symbols.Laid.{Laid}
use Rattle.jc_control.specs.Asked.{AllHave}
use Rattle.jc_control.specs.Method.{Method, IsMethodOf}
use Rattle.jc_link.specs.World.{IsLinked}
use Rattle.jc_ops.proofs.Deciding.{operations-are-decided}
use Rattle.vm_store.specs.Cells.{tagged}
use Rattle.vm_step.proofs.Running.{continues-one, steps-one}
use Rattle.card_typing.specs.Laws.{CardIsFlow}
use Rattle.card_typing.specs.Typing.{HasCardTyping}
use Rattle.law_sound.specs.Soundness.{TypedMethodsHaveTypings}
use Rattle.law_laid.specs.Apart.{apart_from_code, IsSameBut}
use Rattle.law_laid.proofs.Methods.{in-world, of-world, known}
use Rattle.law_relink.specs.Last.{and_last}
use Rattle.law_relink.specs.Replaced.{MethodsAreReplaced}
use Rattle.law_relink.specs.WorldAgain.{LinkAgain, LaidMethodsStand}
use Rattle.law_share.specs.Laws.{RegistersAreNoMore, RenamedEndInStep}
use Rattle.law_shared_world.specs.Laws.{SharedWorldEndsInStep}
use Rattle.law_shared_world.specs.SharedCode.{AreSharedOf}
use Rattle.law_shared_world.proofs.Fewer.{all-counted, no-more}
use Rattle.law_shared_world.proofs.Elements.{element-there, same-method}
use Rattle.law_shared_world.proofs.Numbered.{are-renamed, by_number}
use Rattle.law_shared_world.proofs.Own.{AreLaws, card, first, is-target, may-replace, parted, pools, target}

-- ---- the methods of the new world

module _ (v : Linked) (laws : AreLaws v) (laid : List (Option Laid)) (are : AreSharedOf v laid) (w : Linked) (same : IsSameBut v w)
    (stand : MethodsAreReplaced are.libraries are.own laid v w) (m : Method) (mo : IsMethodOf w m) where
  abbrev begins : ℕ
  begins = first v laws laid are

  of-library : m.number < begins → HasCardTyping w m
  of-library lt =
      let was : IsMethodOf v m = of-world v m (sym (stand.earlier m.number lt) ∙ in-world w m mo) mo.filled in
      let has = laws.carded m was in
      record { regs = has.regs; stacks = has.stacks; typing = laws.cards v w m has.regs has.stacks same has.typing }

  by-element :
      (k : ℕ) (r : MethodRec) (o : Option Laid)
      → m.number ≡ begins + k
      → slice_get are.own k ≡ Some r
      → slice_get laid k ≡ Some o
      → HasCardTyping w m
  by-element k r None number own at = grind (arith, known, length)
  by-element k r (Some l) number own at =
      let has = stand.replaced k r l own at (pools v laws laid are k r l own at) in
      subst (HasCardTyping w)
      (same-method w (target v laws laid are k r l own at w same has) m (is-target v laws laid are k r l own at w same has) mo (sym number))
      (card v laws laid are k r l own at w same has)

  of-last : begins ≤ m.number → HasCardTyping w m
  of-last le =
      let few = slice_get_within w.methods m.number m.rec mo.rec in
      let many = sym (length-map v.methods apart_from_code) ∙ ap length same.methods ∙ length-map w.methods apart_from_code in
      let both = ap length are.parts ∙ length-append are.libraries are.own in
      let own = slice_get-get_or are.own (m.number - begins) m.rec (omega (arith, few, many, both, le)) in
      let element = element-there v begins are.own laid (m.number - begins) _ are.each own in
      by-element (m.number - begins) _ element.0 (omega (arith, le)) own element.1

  pub has-typing : HasCardTyping w m
  has-typing = ⊎_elim of-library of-last (cases_lt m.number begins)

-- ---- the world

-- as many packages as before
as-many-packages :
    (libraries : List PackageRecord) (source made : PackageRecord) (roles : List ℕ) (v new : Linked)
    → IsLinked (and_last libraries source) roles v
    → IsLinked (and_last libraries made) roles new
    → length new.infos ≡ length v.infos
as-many-packages libraries source made roles v new was now = grind (arith, length, length-map, length-append)

pub shared-world-ends-in-step :
    (v : Linked)
    → (AllHave (IsMethodOf v) (HasCardTyping v) → AreLaws v)
    → RegistersAreNoMore
    → CardIsFlow v
    → TypedMethodsHaveTypings v
    → RenamedEndInStep v
    → LinkAgain
    → LaidMethodsStand
    → SharedWorldEndsInStep v
shared-world-ends-in-step v all fewer flow typings in_step again stand libraries source made parts new_parts roles laid s t r linked carded are =
    let laws = all carded in
    let cut = parted v laws laid are in
    let may = may-replace v laws laid are in
    let anew = again parts new_parts libraries source made laid roles v are.libraries are.own s t r linked cut may in
    let new = anew.world in
    let standing =
    stand parts new_parts libraries source made laid roles v new are.libraries are.own s t r linked anew.linked cut may in
    let has = typings Bottom (λ m mo. flow m mo (carded m mo)) in
    let one = continues-one tagged new (steps-one tagged new (operations-are-decided new)) in
    let packages : length new.infos ≡ length v.infos = as-many-packages libraries source made roles v new linked anew.linked in
    let renaming = by_number v laws laid are new anew.same standing in (
      new,
      record {
        linked = anew.linked;
        same = anew.same;
        carded = has-typing v laws laid are new anew.same standing;
        no_more = no-more v fewer laws laid are new anew.same packages standing;
        counted = all-counted v fewer laws laid are new anew.same packages standing;
        in_step = in_step new has.typings renaming one (are-renamed v laws laid are new anew.same standing has.typings has.are);
      },
    )
