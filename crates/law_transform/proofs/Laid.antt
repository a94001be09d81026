-- The world of a package that is written with what is laid for its methods: each method with code is kept, or rewritten.
use Rattle.std.proofs.Common.{◌≡◌, ⊎_elim, ℕ, zero, suc, ◌+◌, ◌-◌, ◌<◌, ◌≤◌, List, length, get_or}
use Rattle.std.proofs.Common.{drop, All, Option, Some, None, option_map, slice_get, refl, sym, ◌∙◌, ap, subst, arith, length-take}
use Rattle.std.proofs.lemmas.Bool.{cases_lt}
use Rattle.std.proofs.lemmas.List.Elements.{All-contains}
use Rattle.std.proofs.lemmas.Option.{none-some, same_Some, slice_get-get_or}
use Rattle.jc_base.specs.declared.ty.Ty.{Ty}
use Rattle.jc_base.specs.declared.ty.Ty.TheVariants.{Bottom, Top}
use Rattle.jc_base.specs.declared.record.MethodRec.{MethodRec}
use Rattle.jc_base.specs.Linked.{IsHandler, list_at}
use Rattle.jc_base.specs.World.{Linked, code_of}
use Rattle.jc_base.proofs.Lists.{slice_get-front, slice_get-farther}
use Rattle.jc_decode.specs.declared.symbols.Laid.{Laid}
use Rattle.jc_decode.specs.Standing.{StandsAt}
use Rattle.jc_control.specs.Asked.{AllHave, IsOfLibrary}
use Rattle.jc_control.specs.Method.{Method, IsMethodOf, method_with}
use Rattle.jc_ops.specs.Sound.{OperationsAreSound}
use Rattle.jc_rules.specs.Demand.{Frame as Types}
use Rattle.jc_rules.specs.Flow.{FlowTyping, HasFlowTyping}
use Rattle.jc_rules.specs.Typing.{state_at}
use Rattle.card_typing.specs.Typing.{HasCardTyping}
use Rattle.card_typing.specs.Laws.{CardIsFlow}
use Rattle.law_relink.specs.WorldAgain.{LaidMethodsStand}
use Rattle.law_relink.specs.Replaced.{AreMethodsOf, HasPoolOf, MethodsAreReplaced}
use Rattle.law_sound.specs.Frames.{Typings}
use Rattle.law_laid.specs.Apart.{IsSameBut}
use Rattle.law_laid.specs.Laid.{HasLaid}
use Rattle.law_laid.specs.Laws.{CatchesByPool, MethodsAreKept, OperationsAreKept}
use Rattle.law_laid.proofs.Methods.{method-there, method-is}
use Rattle.xf_homes.specs.Source.{Source}
use Rattle.xf_emission.specs.Emission.{rewritten as rewritten_code}
use Rattle.law_rewritten_typing.specs.Planned.{IsPlanned}
use Rattle.xf_layout.specs.Form.{instruction_place}
use Rattle.xf_code.proofs.Sources.{is-code, has-frames}
use Rattle.law_transform.specs.Laid.{IsLaidFor, AreLaidOf}
use Rattle.law_transform.proofs.Own.{AreLaws, control, flow, is-method, its-bytes, keeps-live, method-links}
use Rattle.law_transform.proofs.Catching.{element-at, element-there, pools-laid}
use Rattle.law_homes.specs.Moves.{IsExecutable}
use Rattle.law_groups.specs.Laid.{IsLaidIn}
use Rattle.law_groups.specs.Steps.{GroupsStandAtSteps}
use Rattle.law_transform.specs.Counterparts.{IsSameMethod, IsKeptOrRewritten, kept, rewritten, AreCounterparts}
use Rattle.law_transform.specs.LikeEndings.{LaidAreCounterparts, CounterpartsEndAlike, LaidEndAlike}
use Rattle.law_transform.proofs.Filling.{laid-filled}
use Rattle.law_groups.proofs.Sounding.{can-run}
use Rattle.law_transform.proofs.Accepted.{may-replace}

-- what is known of the method of a number: the type of its unset registers and its typing, and that it is kept or rewritten by that
data Goes (v w : Linked) (n : ℕ) : Ty → (ℕ → Option Types) → Type 0 where
  goes_kept : {unset : Ty} {frames : ℕ → Option Types} → IsSameMethod v w n → Goes v w n unset frames
  goes_rewritten : (s : Source) (place : ℕ → ℕ) → s.method.number ≡ n → IsLaidIn v w s place → Goes v w n Top s.frames

record Assigned (v w : Linked) (n : ℕ) : Type 0 where
  unset : Ty
  frames : ℕ → Option Types
  typed : (m : Method) → IsMethodOf v m → m.number ≡ n → FlowTyping v m unset frames
  goes : (m : Method) → IsMethodOf v m → m.number ≡ n → Goes v w n unset frames

of-goes : (v w : Linked) (typings : Typings) (n : ℕ) {unset : Ty} {frames : ℕ → Option Types} → Goes v w n unset frames
    → typings.unset n ≡ unset → typings.frames n ≡ frames
    → IsKeptOrRewritten v w typings n
of-goes v w typings n (goes_kept k) unset frames = kept k
of-goes v w typings n (goes_rewritten s place number laid) unset frames =
    rewritten s place (record { number = number; laid = laid; unset = unset; frames = frames })

module _ (v : Linked) (laws : AreLaws v) (catches : CatchesByPool) (card : CardIsFlow v) (laid : List (Option Laid)) (are : AreLaidOf v laid)
    (accepted : AllHave (IsOfLibrary v) (HasCardTyping v)) (steps : GroupsStandAtSteps) (w : Linked) (runs : IsExecutable w) (same : IsSameBut v w)
    (stand : MethodsAreReplaced are.libraries are.own laid v w) where
  abbrev first : ℕ
  first = length are.libraries

  -- ---- a method of a library

  library-kept : (n : ℕ) (r : MethodRec) → slice_get v.methods n ≡ Some r → n < first → IsSameMethod v w n
  library-kept n r here lt = grind (arith, option_map, method-there)

  library-typed : (n : ℕ) (r : MethodRec) → slice_get v.methods n ≡ Some r → IsMethodOf v (method_with v n r) → n < first
      → HasFlowTyping v (method_with v n r) Bottom
  library-typed n r here is lt =
      let there = slice_get-get_or are.libraries n r lt in
      let whole : slice_get v.methods n ≡ Some (get_or are.libraries n r) =
      ap (λ ms. slice_get ms n) are.parts ∙ slice_get-front are.libraries are.own n (get_or are.libraries n r) there in
      let its : get_or are.libraries n r ≡ r = same_Some (get_or are.libraries n r) r (sym whole ∙ here) in
      let before : r.package + 1 < length v.infos = subst (λ (x : MethodRec). x.package + 1 < length v.infos) its (are.before n r lt) in
      card (method_with v n r) is (accepted (method_with v n r) (record { method = is; before = before }))

  library : (n : ℕ) (r : MethodRec) → slice_get v.methods n ≡ Some r → IsMethodOf v (method_with v n r) → n < first → Assigned v w n
  library n r here is lt =
      let has = library-typed n r here is lt in
      record {
        unset = Bottom;
        frames = has.frames;
        typed = λ m mo number. subst (λ (x : Method). FlowTyping v x Bottom has.frames) (method-is v m n r mo number here) has.typing;
        goes = λ m mo number. goes_kept (library-kept n r here lt);
      }

  -- ---- one of the last package

  module _ (k : ℕ) (r : MethodRec) (l : Laid) (own : slice_get are.own k ≡ Some r) (at : slice_get laid k ≡ Some (Some l))
      (here : slice_get v.methods (first + k) ≡ Some r) (filled : 0 < r.code_len) (is : IsLaidFor v (method_with v (first + k) r) l) where
    abbrev n : ℕ
    n = first + k

    abbrev source : Source
    source = record { world = v; method = method_with v n r; frames = state_at is.typing; leaders = is.rewritten.leaders; homes = is.homes }

    planned : IsPlanned source
    planned =
        let its_flow = flow v laws n r here filled l is in
        let its_control = control v laws n r here filled l is in
        let mo = is-method v laws n r here filled in
        let links = method-links v laws n r here filled in
        let bytes = its-bytes v laws n r here filled in
        let placed = laws.placed (method_with v n r) is.typed.least.typing.formed in
        let listed = laws.listed (method_with v n r).code in
        record {
          method = mo;
          code = is-code v (method_with v n r) is.typing its_control is.homes is.typed its_flow placed listed mo links bytes;
          frames = has-frames v (method_with v n r) is.typing its_control is.homes is.typed its_flow placed listed mo links bytes;
          typing = is.typed.least.typing;
          derived = is.derived;
          registers = is.typed.registers;
          leaders = is.rewritten.marked;
          homes = is.are;
          few = is.few;
        }

    pools : All (HasPoolOf r.handlers) l.handlers
    pools =
        let live = keeps-live v laws n r here filled l is in
        pools-laid (method_with v n r) r.handlers is.symbols.ranges _ l.handlers live is.stands.2.handlers

    its-target : (x : MethodRec) × (slice_get w.methods n ≡ Some x) × HasLaid r l (method_with w n x)
    its-target = method-there w n (HasLaid r l) (stand.replaced k r l own at pools)

    abbrev places : ℕ → ℕ
    places = instruction_place is.stands.0

    laid-in : IsLaidIn v w source places
    laid-in =
        let target = its-target in
        let links = method-links v laws n r here filled in
        let stands : StandsAt places (method_with v n r).code (rewritten_code source) l =
        subst (λ x. StandsAt places (method_with v n r).code x l) is.rewritten.are is.stands.2 in
        record {
          world = refl;
          new = runs;
          planned = planned;
          room = is.room;
          catches = λ h among.
              catches v.classes (list_at v.pools r.package) r.code_len r.handlers h h.class links.handlers among
              (All-contains (IsHandler v.classes (list_at v.pools r.package) r.code_len) r.handlers h links.handlers among).catches;
          code = record {
            same = same;
            target = method_with w n target.0;
            is_target = record {
              rec = target.1;
              code = refl;
              filled = subst (λ (c : List ℕ). 0 < length c) (sym target.2.code) (laid-filled source places l planned steps stands);
            };
            number = refl;
            laid = l;
            has = target.2;
            stands = stands;
          };
        }

    own-assigned : Assigned v w n
    own-assigned =
        record {
          unset = Top;
          frames = state_at is.typing;
          typed =
              λ m mo number. subst (λ (x : Method). FlowTyping v x Top (state_at is.typing)) (method-is v m n r mo number here)
              is.typed.least.typing;
          goes = λ m mo number. goes_rewritten source places refl laid-in;
        }

  by-element :
      (k : ℕ) (r : MethodRec) (o : Option Laid) → slice_get are.own k ≡ Some r → slice_get laid k ≡ Some o
      → slice_get v.methods (first + k) ≡ Some r
      → 0 < length (code_of v.infos r) → Assigned v w (first + k)
  by-element k r None own at here filled =
      let none : r.code_len ≡ 0 = element-at v first are.own laid k r None are.each own at in
      absurd (omega (arith, none, filled, length-take r.code_len (drop r.code_at (list_at v.infos r.package))))
  by-element k r (Some l) own at here filled =
      let its = element-at v first are.own laid k r (Some l) are.each own at in
      own-assigned k r l own at here its.0 its.1

  last : (n : ℕ) (r : MethodRec) → slice_get v.methods n ≡ Some r → 0 < length (code_of v.infos r) → first ≤ n → Assigned v w n
  last n r here filled le =
      let at : first + (n - first) ≡ n = omega (arith, le) in
      let there : slice_get v.methods (first + (n - first)) ≡ Some r = ap (slice_get v.methods) at ∙ here in
      let own : slice_get are.own (n - first) ≡ Some r =
      sym (slice_get-farther are.libraries are.own (n - first) (first + (n - first)) refl)
      ∙ (ap (λ ms. slice_get ms (first + (n - first))) (sym are.parts) ∙ there) in
      let element = element-there v first are.own laid (n - first) r are.each own in
      subst (Assigned v w) at (by-element (n - first) r element.0 own element.1 there filled)

  -- ---- any method

  none-assigned : (n : ℕ) → ((m : Method) → IsMethodOf v m → m.number ≡ n → ⊥) → Assigned v w n
  none-assigned n none =
      record { unset = Bottom; frames = λ p. None; typed = λ m mo number. absurd (none m mo number); goes = λ m mo number. absurd (none m mo number) }

  by-length : (n : ℕ) (r : MethodRec) → slice_get v.methods n ≡ Some r → (size : ℕ) → length (code_of v.infos r) ≡ size → Assigned v w n
  by-length n r here zero empty = grind (arith, none-assigned, length, method-is)
  by-length n r here (suc size) long = grind (arith, length, ⊎_elim, library, last, cases_lt)

  by-record : (n : ℕ) (o : Option MethodRec) → slice_get v.methods n ≡ o → Assigned v w n
  by-record n None e = grind (arith, none-assigned, none-some, slice_get)
  by-record n (Some r) e = by-length n r e (length (code_of v.infos r)) refl

  assigned : (n : ℕ) → Assigned v w n
  assigned n = by-record n (slice_get v.methods n) refl

  abbrev by_number : Typings
  by_number = record { unset = λ n. (assigned n).unset; frames = λ n. (assigned n).frames }

  counterparts : AreCounterparts v w by_number
  counterparts =
      record {
        same = same;
        typed = λ m mo. (assigned m.number).typed m mo refl;
        methods = λ m mo. of-goes v w by_number m.number ((assigned m.number).goes m mo refl) refl refl;
      }

pub laid-are-counterparts :
    (v : Linked) → AreLaws v → CatchesByPool → CardIsFlow v → LaidMethodsStand → GroupsStandAtSteps → MethodsAreKept → OperationsAreKept
    → OperationsAreSound v
    → LaidAreCounterparts v
laid-are-counterparts v laws catches card stand steps methods operations sound libraries source made parts new_parts roles laid w s t r linked accepted are
    anew =
    let cut : AreMethodsOf v are.libraries are.own = record { parts = are.parts; earlier = are.before; last = are.last } in
    let standing = stand parts new_parts libraries source made laid roles v w are.libraries are.own s t r linked anew.linked cut
    (may-replace v laws laid are) in
    let runs : IsExecutable w = can-run v w anew.same methods operations laws.links sound in (
      by_number v laws catches card laid are accepted steps w runs anew.same standing,
      counterparts v laws catches card laid are accepted steps w runs anew.same standing,
    )

pub laid-end-alike : (v : Linked) → CounterpartsEndAlike v → LaidAreCounterparts v → LaidEndAlike v
laid-end-alike v alike laid libraries source made parts new_parts roles all w s t r linked accepted are anew =
    let pair = laid libraries source made parts new_parts roles all w s t r linked accepted are anew in
    alike w pair.0 pair.1
