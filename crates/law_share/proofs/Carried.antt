-- A method with its registers renamed has a card typing.
use Rattle.std.proofs.Common.{◌≡◌, ℕ, ◌+◌, ◌<◌, ◌≤◌, List, [], length, map, ⊎_elim, refl, sym, ap, ◌∙◌, subst, arith}
use Rattle.std.specs.Prelude.{ℤ, pos, negsuc, Contains, IfSome, Ok}
use Rattle.std.proofs.lemmas.List.{length-map}
use Rattle.std.proofs.lemmas.List.Elements.{All-contains}
use Rattle.jc_base.specs.declared.ty.Ty.{Ty}
use Rattle.jc_base.specs.declared.ty.Ty.TheVariants.{Class}
use Rattle.jc_base.specs.declared.record.Handler.{Handler}
use Rattle.jc_base.specs.Cell.{IsDeclared}
use Rattle.jc_base.specs.Linked.{IsMethod}
use Rattle.jc_base.specs.Order.{Below}
use Rattle.jc_base.specs.World.{Linked, IsWorld}
use Rattle.jc_base.proofs.Lists.{All-slice_get}
use Rattle.jc_decode.specs.declared.insn.Placed.{Placed}
use Rattle.jc_decode.specs.Listing.{targets}
use Rattle.jc_decode.specs.Places.{IsTargetAmong}
use Rattle.jc_decode.proofs.InstructionLists.{all-are-listed}
use Rattle.jc_control.specs.Method.{Method, IsMethodOf}
use Rattle.jc_control.specs.WellFormed.{HasInstruction, IsPlace, IsTargetPlace, IsHandlerOf}
use Rattle.jc_control.proofs.Closing.{instructions-are-placed}
use Rattle.jc_control.proofs.PlacesWithin.{place-inside}
use Rattle.jc_ops.specs.declared.operation.Operation.{Operation}
use Rattle.jc_ops.specs.Sound.{OperationsAreSound}
use Rattle.jc_rules.specs.declared.effect.Mode.TheVariants.{Flow}
use Rattle.jc_rules.specs.declared.rule.Outcome.{Outcome}
use Rattle.jc_rules.specs.Apply.{OperationApplies}
use Rattle.jc_rules.specs.Demand.{Frame}
use Rattle.jc_rules.specs.Flow.{CellsBelow}
use Rattle.jc_rules.specs.Footprint.{registers_asked}
use Rattle.jc_rules.specs.Rule.{demands}
use Rattle.jc_rules.proofs.CellLists.{cells-length}
use Rattle.jc_rules.proofs.Footprints.{met-is-there, asked-is-there}
use Rattle.vm_step.specs.Settled.{place_number}
use Rattle.card_typing.specs.Place.{IsEntryAmong, IsAboveCaughtBy, AreCaughtAt}
use Rattle.card_typing.proofs.Own.{start-length}
use Rattle.card_typing.specs.Typing.{frame_at, IsTypedIn, IsEnteredBy, CardTyping, code_in_bytes}
use Rattle.law_laid.specs.Apart.{IsSameBut}
use Rattle.law_laid.specs.Laid.{renamed}
use Rattle.law_laid.specs.Laws.{OperationsAreKept, DemandsAreKept, CardTypingsAreKept}
use Rattle.law_laid.proofs.Operations.{operation-renamed}
use Rattle.law_laid.proofs.Renaming.{frame_renamed, cells-renamed, regs-stay}
use Rattle.law_laid.proofs.Steps.{Preimage, preimage, contains-map, number_of, number-is}
use Rattle.law_alike.specs.Alike.{renamed_new}
use Rattle.law_alike.proofs.Views.{same-new, demands-new}
use Rattle.law_share.specs.Renamed.{AreMatched, IsRenamed, register_total}
use Rattle.law_share.specs.Retyped.{IsRenumbered, AppliesToo, AreRegistersOf, RenamedAreTyped, RenumberedApply}
use Rattle.law_share.proofs.Knowing.{next-is-place, footprint-new}

module _ (v w : Linked) (links : IsWorld v) (sound : OperationsAreSound v) (operations : OperationsAreKept) (kept : DemandsAreKept)
    (renumbered : RenumberedApply v) (same : IsSameBut v w)
    (m : Method) (is : IsMethodOf v m) (place reg : ℕ → ℕ) (k : IsRenamed v w m place reg) (regs others : List Ty) (stacks : ℕ → List Ty)
    (ty : CardTyping v m regs stacks) (own : AreRegistersOf v k.target regs others reg) where
  abbrev bound : ℕ
  bound = length m.code

  abbrev ren : List Ty → List Ty
  ren xs = map (renamed place) xs

  again : ℕ → List Ty
  again q = ren (stacks (number_of place q bound))

  stack-at : (n : ℕ) → n ≤ bound → again (place n) ≡ ren (stacks n)
  unfolding again
  stack-at n le = ap (λ i. ren (stacks i)) (number-is place k.one_to_one n bound le)

  near : (p : ℕ) → IsPlace m.code p → p < bound
  near p here = place-inside m.code (all-are-listed m.code) p here

  after-near : (i : Placed) → HasInstruction m.code i → i.place + i.insn.len ≤ bound
  after-near i stands =
      ⊎_elim (λ end. omega (arith, end)) (λ there. let lt = near (i.place + i.insn.len) there in omega (arith, lt))
      ((instructions-are-placed all-are-listed m ty.formed).next i stands)

  other-way : IsSameBut w v
  other-way = grind (arith)

  -- ---- instructions

  -- an instruction of the target, with that of the method, and its rule there
  record IsTypedFrom (j : Placed) : Type 0 where
    source : Placed
    stands : HasInstruction m.code source
    typed : IsTypedIn v (code_in_bytes m) regs stacks source
    new : Operation
    are : AreMatched v w m k.target place reg source typed.applies.1.operation j new

  from-source : (j : Placed) → HasInstruction k.target.code j → IsTypedFrom j
  from-source j listed =
      let from = k.whole j listed in
      let t = ty.typed from.source from.stands in
      let rule = t.applies.1 in
      let found = k.matched from.source rule.operation (record { stands = from.stands; resolves = rule.resolves }) in
      let one : found.other ≡ j =
      (all-are-listed k.target.code).one found.other j found.are.operates.stands listed (found.are.at ∙ sym from.at) in
      record {
        source = from.source;
        stands = from.stands;
        typed = t;
        new = found.new;
        are = subst (λ i. AreMatched v w m k.target place reg from.source rule.operation i found.new) one found.are;
      }

  renumbered-there : (a b : Operation) (i j : Placed) → AreMatched v w m k.target place reg i a j b → registers_asked (demands v a) ≤ length regs
      → length regs ≡ register_total m → IsRenumbered v others reg (renamed_new place a) b
  renumbered-there a b i j are few count = grind (arith, demands-new, footprint-new)

  declared : IfSome m.rec.sig.result (IsDeclared v.classes)
  declared = (All-slice_get (IsMethod v.infos v.pools v.classes) v.methods m.number m.rec links.methods is.rec).result

  -- its rule applies there
  applies-there : (j : Placed) (x : IsTypedFrom j) (count : length regs ≡ register_total m)
      → AppliesToo v m.rec.max_stack x.new others (ren (stacks x.source.place)) (ren x.typed.after.stack)
  applies-there j x count =
      let t = x.typed in
      let rule = t.applies.1 in
      let a = rule.operation in
      let i = x.source in
      let moved = operation-renamed place v links k.one_to_one m.rec i.place m.rec.max_stack a (frame_at regs stacks i.place) t.after t.applies.0
      (sound m.rec i.place i.insn a declared rule.resolves) rule.does in
      let here : OperationApplies v m.rec.max_stack (renamed_new place a) Flow (record { regs = regs; stack = ren (stacks i.place) })
      (frame_renamed place t.after) t.applies.0 =
      subst (λ (rs : List Ty). OperationApplies v m.rec.max_stack (renamed_new place a) Flow (record { regs = rs; stack = ren (stacks i.place) })
      (frame_renamed place t.after) t.applies.0) (regs-stay place regs ty.ready)
      (subst (λ op. OperationApplies v m.rec.max_stack op Flow (frame_renamed place (frame_at regs stacks i.place)) (frame_renamed place t.after) t.applies.0)
      (same-new place a) moved) in
      let below : CellsBelow v.classes (ren t.after.regs) regs =
      subst (CellsBelow v.classes (ren t.after.regs)) (regs-stay place regs ty.ready) (cells-renamed place v.classes t.stored) in
      renumbered m.rec.max_stack (renamed_new place a) x.new regs others (ren (stacks i.place)) reg (frame_renamed place t.after) t.applies.0 own.retyped
      (renumbered-there a x.new i j x.are (asked-there rule.does) count) here below
    where
      asked-there : {a : Operation} {f g : Frame} {o : Outcome} → OperationApplies v m.rec.max_stack a Flow f g o
          → registers_asked (demands v a) ≤ length f.regs
      asked-there {a} {f} does =
          (asked-is-there (length f.regs) (length f.stack) (demands v a)).registers (met-is-there v f (demands v a) does.asked)

  -- ---- handlers

  preimage-of : (h : Handler) → Contains k.target.rec.handlers h → Preimage k.handler m.rec.handlers h
  preimage-of h c = preimage k.handler m.rec.handlers h (subst (λ hs. Contains hs h) k.catches.handlers c)

  image-of : (h : Handler) → Contains m.rec.handlers h → Contains k.target.rec.handlers (k.handler h)
  image-of h c = subst (λ hs. Contains hs (k.handler h)) (sym k.catches.handlers) (contains-map k.handler m.rec.handlers h c)

  entry-near : (h : Handler) → Contains m.rec.handlers h → h.entry < bound
  entry-near h c = near h.entry (All-contains (IsHandlerOf m.code) m.rec.handlers h ty.formed.handlers c).entry

  record IsEntryFrom (q : ℕ) : Type 0 where
    source : ℕ
    entry : IsEntryAmong m.rec.handlers source
    inside : source < bound
    at : q ≡ place source

  entry-from : (q : ℕ) → IsEntryAmong k.target.rec.handlers q → IsEntryFrom q
  entry-from q e =
      let x = preimage-of e.handler e.listed in
      record {
        source = x.of.entry;
        entry = record { handler = x.of; listed = x.listed; begins = refl };
        inside = entry-near x.of x.listed;
        at = sym e.begins ∙ (ap (λ (h : Handler). h.entry) x.is ∙ k.catches.entry x.of x.listed);
      }

  entry-back : (n : ℕ) → IsEntryAmong k.target.rec.handlers (place n) → IsEntryAmong m.rec.handlers n
  entry-back n e = let x = entry-from (place n) e in subst (IsEntryAmong m.rec.handlers) (sym (k.one_to_one n x.source x.at)) x.entry

  entry-there : (n : ℕ) → IsEntryAmong m.rec.handlers n → IsEntryAmong k.target.rec.handlers (place n)
  entry-there n e = grind (arith, image-of)

  above-there : (n : ℕ) (u : Ty) → IsAboveCaughtBy v.classes m.rec.handlers n u → IsAboveCaughtBy v.classes k.target.rec.handlers (place n) u
  above-there n u above h c e =
      let x = preimage-of h c in
      let at : place x.of.entry ≡ place n = sym (k.catches.entry x.of x.listed) ∙ (ap (λ (h : Handler). h.entry) (sym x.is) ∙ e) in
      let class : x.of.class ≡ h.class = sym (k.catches.class x.of x.listed) ∙ ap (λ (h : Handler). h.class) (sym x.is) in
      subst (λ i. Below v.classes (Class i) u) class (above x.of x.listed (k.one_to_one x.of.entry n at))

  above-back : (n : ℕ) (u : Ty) → IsAboveCaughtBy v.classes k.target.rec.handlers (place n) u → IsAboveCaughtBy v.classes m.rec.handlers n u
  above-back n u above h c e = grind (arith, image-of)

  caught-there : (n c : ℕ) → AreCaughtAt v.classes m.rec.handlers n c → AreCaughtAt v.classes k.target.rec.handlers (place n) c
  caught-there n c h = record {
    class = h.class;
    above = above-there n (Class c) h.above;
    least = λ u above. h.least u (above-back n u above);
  }

  entered : (q : ℕ) → IsEntryAmong k.target.rec.handlers q → IsEnteredBy v k.target.rec.handlers again q
  entered q e =
      let x = entry-from q e in
      let t = ty.entries x.source x.entry in
      let lt = x.inside in
      record {
        class = t.class;
        catches = subst (λ p. AreCaughtAt v.classes k.target.rec.handlers p t.class) (sym x.at) (caught-there x.source t.class t.catches);
        stack = ap again x.at ∙ (stack-at x.source (omega (arith, lt)) ∙ ap ren t.stack);
      }

  none-at : (n : ℕ) → n ≤ bound → stacks n ≡ [] → again (place n) ≡ []
  none-at n le e = stack-at n le ∙ ap ren e

  -- ---- targets

  place-of : (t : ℤ) → IsTargetPlace m.code t → t ≡ pos (place_number t)
  place-of (pos p) h = refl
  place-of (negsuc n) h = absurd h

  pos-same : (p q : ℕ) → pos p ≡ pos q → p ≡ q
  pos-same p q e = cc

  target-empty : (q : ℕ) → IsTargetAmong (HasInstruction k.target.code) (targets k.target.code) q
      → ¬ (IsEntryAmong k.target.rec.handlers q) × (again q ≡ [])
  target-empty q t =
      let x = from-source t.from t.stands in
      let y = preimage (λ t. pos (place (place_number t))) (targets m.code x.source) (pos q) (subst (λ ts. Contains ts (pos q)) x.are.leads t.leads) in
      let formed = All-contains (IsTargetPlace m.code) (targets m.code x.source) y.of (ty.formed.targets x.source x.stands) y.listed in
      let n : ℕ = place_number y.of in
      let is = place-of y.of formed in
      let here : IsPlace m.code n = subst (IsTargetPlace m.code) is formed in
      let lt = near n here in
      let at : q ≡ place n = pos-same q (place n) y.is in
      let e = ty.targets n (record { from = x.source; stands = x.stands; leads = subst (Contains (targets m.code x.source)) is y.listed }) in (
        λ entry. e.0 (entry-back n (subst (IsEntryAmong k.target.rec.handlers) at entry)),
        ap again at ∙ none-at n (omega (arith, lt)) e.1,
      )

  -- ---- the method

  module _ (count : length regs ≡ register_total m) where
    typed-there : (j : Placed) → HasInstruction k.target.code j → IsTypedIn v (code_in_bytes k.target) others again j
    typed-there j listed =
        let x = from-source j listed in
        let t = x.typed in
        let i = x.source in
        let too = applies-there j x count in
        let lt = near i.place (i, x.stands, refl) in
        let most = after-near i x.stands in
        let before : again j.place ≡ ren (stacks i.place) = ap again x.are.at ∙ stack-at i.place (omega (arith, lt)) in
        let does : OperationApplies v k.target.rec.max_stack x.new Flow (frame_at others again j.place) too.after too.outcome =
        subst (λ limit. OperationApplies v limit x.new Flow (frame_at others again j.place) too.after too.outcome) (sym k.room)
        (subst (λ (xs : List Ty). OperationApplies v m.rec.max_stack x.new Flow (record { regs = others; stack = xs }) too.after too.outcome) (sym before)
        too.applies) in
        record {
          after = too.after;
          applies = (
            too.outcome,
            record {
              operation = x.new;
              resolves = operations w v k.target.rec k.target.rec j.place j.insn (Ok x.new) other-way refl x.are.operates.resolves;
              does = does;
            },
          );
          stored = too.stored;
          branch = λ jumps. too.same ∙ ap ren (t.branch (sym x.are.jumps_alike ∙ jumps));
          goes_on = λ falls.
              let g = t.goes_on (sym x.are.falls_alike ∙ falls) in
              let next : IsPlace m.code (i.place + i.insn.len) = next-is-place m i (i.place + i.insn.len) ty.formed x.stands refl g.inside in
              let there : IsPlace k.target.code (place (i.place + i.insn.len)) = k.places (i.place + i.insn.len) next in
              record {
                inside = subst (λ p. p < length k.target.code) (sym x.are.next)
                    (place-inside k.target.code (all-are-listed k.target.code) (place (i.place + i.insn.len)) there);
                no_entry = λ e. g.no_entry (entry-back (i.place + i.insn.len) (subst (IsEntryAmong k.target.rec.handlers) x.are.next e));
                next = ap again x.are.next ∙ (stack-at (i.place + i.insn.len) most ∙ (ap ren g.next ∙ sym too.same));
              };
          ends = λ stop none.
              ap again x.are.next
              ∙ none-at (i.place + i.insn.len) most
              (t.ends (sym x.are.falls_alike ∙ stop)
              (λ e. none (subst (IsEntryAmong k.target.rec.handlers) (sym x.are.next) (entry-there (i.place + i.insn.len) e))));
        }

    room-there : (j : Placed) → HasInstruction k.target.code j → length (again j.place) ≤ k.target.rec.max_stack
    room-there j listed =
        let x = from-source j listed in
        let i = x.source in
        let lt = near i.place (i, x.stands, refl) in
        let least : length (stacks i.place) ≤ m.rec.max_stack = ty.room i x.stands in
        let long = ap length (ap again x.are.at ∙ stack-at i.place (omega (arith, lt))) in
        let room = k.room in
        omega (arith, least, long, length-map (stacks i.place) (renamed place), room)

    typing : CardTyping v k.target others again
    typing = record {
      formed = k.formed;
      types = own.types;
      ready = own.ready;
      declared = own.declared;
      start = grind (arith, entry-back, none-at);
      entries = entered;
      targets = target-empty;
      room = room-there;
      typed = typed-there;
    }

pub renamed-are-typed :
    (v : Linked) → IsWorld v → OperationsAreSound v → OperationsAreKept → DemandsAreKept → CardTypingsAreKept → RenumberedApply v → RenamedAreTyped v
renamed-are-typed v links sound operations kept typings renumbered w m place reg regs others stacks k same is ty own = (
  again v w links sound operations kept renumbered same m is place reg k regs others stacks ty own,
  typings v w k.target others (again v w links sound operations kept renumbered same m is place reg k regs others stacks ty own) same
      (typing v w links sound operations kept renumbered same m is place reg k regs others stacks ty own
      (sym (cells-length v.classes ty.declared) ∙ start-length v links m is)),
)
