-- A method of the last package that shared registers are laid for: what is laid may replace its code, and where it stands in another
-- world it is the method with its registers renamed, and has a card typing.
use Rattle.std.proofs.Common.{◌≡◌, ℕ, ◌+◌, ◌<◌, List, length, drop, All, Option, Some, IsSomeAnd, slice_get, refl, sym, ◌∙◌, ap}
use Rattle.std.proofs.Common.{subst, arith, length-take}
use Rattle.std.proofs.lemmas.List.{length-drop}
use Rattle.jc_base.specs.declared.record.MethodRec.{MethodRec}
use Rattle.jc_base.specs.Linked.{IsMethod, list_at}
use Rattle.jc_base.specs.World.{Linked, IsWorld}
use Rattle.jc_base.proofs.Lists.{All-slice_get, slice_get-farther}
use Rattle.jc_decode.specs.declared.symbols.Laid.{Laid}
use Rattle.jc_decode.specs.Standing.{StandsAt}
use Rattle.jc_control.specs.Asked.{AllHave}
use Rattle.jc_control.specs.Method.{Method, IsMethodOf, method_in, method_with}
use Rattle.jc_control.specs.WellFormed.{IsWellFormed}
use Rattle.card_typing.specs.Typing.{HasCardTyping}
use Rattle.law_laid.specs.Apart.{IsSameBut}
use Rattle.law_laid.specs.Laid.{HasLaid}
use Rattle.law_laid.specs.Laws.{CardTypingsAreKept}
use Rattle.law_laid.proofs.Methods.{method-there}
use Rattle.law_relink.specs.Replaced.{AreMethodsOf, HasPoolOf, EachMayReplace}
use Rattle.law_share.specs.Laws.{KeptAreRenamed}
use Rattle.law_share.specs.Retyped.{RenamedAreTyped, SharedHaveTypes}
use Rattle.law_renumbered.specs.Laws.{HasPlaces, RenumberedIsRenamed, SharedNumbersServe}
use Rattle.law_renumbered.specs.Numbers.{HasRegisters}
use Rattle.law_renumbered.specs.Symbols.{renumbered_method}
use Rattle.xf_layout.specs.Form.{instruction_place}
use Rattle.law_shared_world.specs.SharedCode.{IsSharedFor, AreSharedOf}
use Rattle.law_shared_world.proofs.Elements.{element-at, same-method}
use Rattle.law_shared_world.proofs.Laying.{pools-laid, laid-filled}
use Rattle.law_shared_world.proofs.Registers.{types-for}

-- what is known of a world whose methods have card typings, and the laws of renamed methods
pub record AreLaws (v : Linked) : Type 0 where
  pub links : IsWorld v
  pub carded : AllHave (IsMethodOf v) (HasCardTyping v)
  pub serve : SharedNumbersServe v
  pub renamed : RenumberedIsRenamed v
  pub kept : KeptAreRenamed v
  pub typed : RenamedAreTyped v
  pub types : SharedHaveTypes v
  pub cards : CardTypingsAreKept

module _ (v : Linked) (laws : AreLaws v) (laid : List (Option Laid)) (are : AreSharedOf v laid) where
  abbrev pub first : ℕ
  first = length are.libraries

  pub parted : AreMethodsOf v are.libraries are.own
  parted = record { parts = are.parts; earlier = are.before; last = are.last }

  pub own-there : (k : ℕ) → slice_get v.methods (first + k) ≡ slice_get are.own k
  own-there k = ap (λ ms. slice_get ms (first + k)) are.parts ∙ slice_get-farther are.libraries are.own k (first + k) refl

  module _ (k : ℕ) (r : MethodRec) (l : Laid) (own : slice_get are.own k ≡ Some r) (at : slice_get laid k ≡ Some (Some l)) where
    abbrev pub n : ℕ
    n = first + k

    abbrev pub source : Method
    source = method_with v n r

    pub its-element : (0 < r.code_len) × IsSharedFor v source l
    its-element = element-at v first are.own laid k r (Some l) are.each own at

    abbrev pub is : IsSharedFor v source l
    is = its-element.1

    here : slice_get v.methods n ≡ Some r
    here = own-there k ∙ own

    pub is-method : IsMethodOf v source
    is-method =
        let links = All-slice_get (IsMethod v.infos v.pools v.classes) v.methods n r laws.links.methods here in
        let size = length-take r.code_len (drop r.code_at (list_at v.infos r.package)) in
        let rest = length-drop r.code_at (list_at v.infos r.package) in
        record { rec = here; code = refl; filled = omega (arith, size, rest, its-element.0, links.inside) }

    formed : IsWellFormed source
    formed = (laws.carded source is-method).typing.formed

    abbrev place : ℕ → ℕ
    place = instruction_place is.stands.0

    stands : StandsAt place source.code (renumbered_method source is.reg is.locals) l
    stands = is.stands.2

    pub pools : All (HasPoolOf r.handlers) l.handlers
    pools = pools-laid place source is.reg is.locals l stands

    -- ---- the method in another world

    module _ (w : Linked) (same : IsSameBut v w) (has : IsSomeAnd (method_in w n) (HasLaid r l)) where
      pub found : (x : MethodRec) × (slice_get w.methods n ≡ Some x) × HasLaid r l (method_with w n x)
      found = method-there w n (HasLaid r l) has

      abbrev pub target : Method
      target = method_with w n found.0

      its-laid : HasLaid r l target
      its-laid = found.2

      pub is-target : IsMethodOf w target
      is-target = grind (arith, laid-filled place source is.reg is.locals l formed is-method.filled stands, found, length, its-laid)

      pub renamed : HasPlaces v w source is.reg
      renamed =
          laws.renamed w source target is.reg is.locals place l same is-method formed (laws.serve source is.reg is.locals is-method is.numbers)
          stands is-target refl its-laid

      registers : HasRegisters source (r.nargs + is.locals) target
      registers = grind (arith, its-laid, stands)

      pub card : HasCardTyping w target
      card =
          let its = renamed.renamed in
          let one : its.target ≡ target = same-method w its.target target its.is_target is-target its.number in
          let types =
          types-for v source its.target is.reg laws.links laws.types is-method (laws.carded source is-method) is.numbers
          (subst (HasRegisters source (r.nargs + is.locals)) (sym one) registers) in
          let again =
          laws.typed w source renamed.place is.reg types.regs types.others types.stacks its same is-method types.typing types.are in
          let typed : HasCardTyping w its.target = record { regs = types.others; stacks = again.0; typing = again.1 } in
          subst (HasCardTyping w) one typed

  pub may-replace : EachMayReplace are.own laid
  may-replace k r l own at = grind (arith, its-element k r l own at, pools k r l own at)
