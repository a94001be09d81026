-- Each met state is below every card typing, and where something is wrong with one there is none.
use Rattle.std.proofs.Common.{◌≡◌, ℕ, ◌+◌, ◌≤◌, inl, inr, true, List, [], ◌∷◌, length, All, sym, ◌∙◌, ap, subst, arith, IsTrue}
use Rattle.std.proofs.lemmas.List.Elements.{All-contains, All-nil, All-cons}
use Rattle.std.proofs.lemmas.Bool.{false≢true}
use Rattle.std.proofs.lemmas.List.{nil_from_length}
use Rattle.jc_base.specs.declared.ty.Ty.{Ty}
use Rattle.jc_base.specs.declared.ty.Ty.TheVariants.{Bottom, Class}
use Rattle.jc_base.specs.Order.{IsKnown}
use Rattle.jc_base.specs.World.{Linked}
use Rattle.jc_decode.specs.declared.insn.Placed.{Placed}
use Rattle.jc_decode.specs.Listing.{falls}
use Rattle.jc_control.specs.Method.{Method, IsMethodOf}
use Rattle.jc_control.specs.WellFormed.{HasInstruction, IsPlace, IsHandlerOf}
use Rattle.jc_control.specs.Laws.{FlawsDecide}
use Rattle.jc_rules.specs.declared.effect.Mode.TheVariants.{Card}
use Rattle.jc_rules.specs.declared.rule.Outcome.{Outcome}
use Rattle.jc_rules.specs.Demand.{Frame, AreKnown}
use Rattle.jc_rules.specs.Apply.{RuleApplies}
use Rattle.jc_rules.specs.Flow.{CellsBelow, no_cells, more_cells, FrameBelow, start_frame}
use Rattle.jc_rules.specs.FlowLaws.{AreRules}
use Rattle.jc_rules.specs.Laws.{IsNotBottom, FallsTo, RuleFallsOnCard, RuleStays}
use Rattle.card_typing.specs.declared.fault.CardFault.{CardFault}
use Rattle.card_typing.specs.declared.fault.CardKind.{CardKind}
use Rattle.card_typing.specs.Place.{IsTarget, IsEntry, IsFallenInto, fallen_first, fallen_from, CatchesAt}
use Rattle.card_typing.specs.Typing.{frame_at, CardTypingOver}
use Rattle.card_typing.specs.Met.{Arrives, arrives_falling, arrives_empty, arrives_caught, arrives_full, GoesTo, goes_there, goes_again, IsMetAfter, IsMet}
use Rattle.card_typing.specs.Met.{met_start, met_next}
use Rattle.jc_control.specs.declared.control.Flaw.{Flaw}
use Rattle.jc_control.specs.declared.control.Flaw.TheVariants as flaws
use Rattle.card_typing.specs.Refusal.{fault_of, IsFlawKind, IsWrong, wrong_entry, wrong_room, wrong_mark, wrong_rule, wrong_branch, wrong_end, IsRefusedAfter}
use Rattle.card_typing.specs.Refusal.{refused_at, IsRefusedState, refused_flaw, refused_state}
use Rattle.card_typing.specs.Laws.{MetIsBelow, RefusalDenies, FlawsAreTold}
use Rattle.jc_rules.proofs.Sites.{site_of, at-site, refuses-at-site}
use Rattle.card_typing.proofs.Own.{start-length, start-known}
use Rattle.card_typing.proofs.Flowing.{IsSolid, none-solid, entered-solid, given-solid}
use Rattle.jc_rules.proofs.Starts.{of_world}

-- what the verifier's laws of rules say
pub record AreCardRules (w : Linked) : Type 0 where
  pub rules : AreRules w
  pub falls : RuleFallsOnCard w
  pub stays : RuleStays w

module _ (w : Linked) (is : AreCardRules w) (m : Method) (mo : IsMethodOf w m) (marked : ℕ → Type 0) (regs : List Ty) (stacks : ℕ → List Ty)
    (ty : CardTypingOver w m marked regs stacks) where
  below-empty : {xs ys : List Ty} → CellsBelow w.classes xs ys → ys ≡ [] → xs ≡ []
  below-empty {xs} {ys} below e = nil_from_length xs (is.rules.order.lengths below ∙ ap length e)

  -- a frame that is met at a place, and the typing's stack there
  record IsHeld (q : ℕ) (met : Frame) : Type 0 where
    below : FrameBelow w.classes met (frame_at regs stacks q)
    known : AreKnown w.classes met
    full : All IsNotBottom met.stack
    solid : IsSolid w (stacks q)

  -- what the rule gives on it
  record IsGiven (i : Placed) (there : HasInstruction m.code i) (after : Frame) : Type 0 where
    below : FrameBelow w.classes after (record { regs = regs; stack = (ty.typed i there).after.stack })
    known : AreKnown w.classes after
    full : All IsNotBottom after.stack
    solid : IsSolid w (ty.typed i there).after.stack

  fallen : (i : Placed) (there : HasInstruction m.code i) (before : Frame) → IsHeld i.place before
      → FallsTo w (site_of m i.place) i.insn Card before (record { regs = regs; stack = (ty.typed i there).after.stack })
  fallen i there before h =
      let t = ty.typed i there in
      let card = is.stays (site_of m i.place) i.insn (frame_at regs stacks i.place) t.after t.applies.0 (at-site w m mo t.applies.1) t.stored in
      is.falls (site_of m i.place) i.insn (frame_at regs stacks i.place) before (record { regs = regs; stack = t.after.stack }) t.applies.0 h.known h.below
      h.solid.no_top h.full card

  given : (i : Placed) (there : HasInstruction m.code i) (before after : Frame) (o : Outcome) → IsHeld i.place before
      → RuleApplies w m.rec i.place i.insn Card before after o → IsGiven i there after
  given i there before after o h a =
      let f = fallen i there before h in
      let same : f.below ≡ after = (is.rules.decides (site_of m i.place) i.insn Card before).one f.applies (at-site w m mo a) in
      let k = is.rules.keeps (site_of m i.place) i.insn Card before after o h.known (at-site w m mo a) in
      record {
        below = subst (λ g. FrameBelow w.classes g (record { regs = regs; stack = (ty.typed i there).after.stack })) same f.lower;
        known = k.known;
        full = k.no_bottom h.full;
        solid = given-solid w is.rules m mo marked regs stacks ty i (ty.typed i there) h.solid;
      }

  -- ---- the stack before a place

  entry-place : (q : ℕ) → IsEntry m q → IsPlace m.code q
  entry-place q e = subst (IsPlace m.code) e.begins (All-contains (IsHandlerOf m.code) m.rec.handlers e.handler ty.formed.handlers e.listed).entry

  entry-room : (q : ℕ) → IsEntry m q → ¬ (m.rec.max_stack ≡ 0)
  entry-room q e none =
      let here = entry-place q e in
      let deep = subst (λ p. length (stacks p) ≤ m.rec.max_stack) here.2 (ty.room here.0 here.1) in
      let one = ap length (ty.entries q e).stack in
      absurd (omega (arith, deep, one, none))

  no-fallen : (q : ℕ) → IsFallenInto m q → ¬ (IsEntry m q)
  no-fallen _ fallen_first e = ty.start.0 e
  no-fallen _ (fallen_from i there goes) e = ((ty.typed i there).goes_on goes).no_entry e

  held-empty : (q : ℕ) (after : List Ty) → CellsBelow w.classes after regs → length after ≤ 255 → All (IsKnown w.classes) after
      → stacks q ≡ [] → IsHeld q (record { regs = after; stack = [] })
  held-empty q after le few known e = record {
    below = record { regs = le; stack = subst (CellsBelow w.classes []) (sym e) no_cells };
    known = record { few = few; regs = known; stack = All-nil (IsKnown w.classes); object = is.rules.world.chains.objects };
    full = All-nil IsNotBottom;
    solid = none-solid w (stacks q) e;
  }

  held-caught : (q c : ℕ) (after : List Ty) → CellsBelow w.classes after regs → length after ≤ 255 → All (IsKnown w.classes) after → IsEntry m q
      → CatchesAt w.classes m q c → IsHeld q (record { regs = after; stack = Class c ∷ [] })
  held-caught q c after le few known e catches =
      let there = ty.entries q e in
      record {
        below =
            record {
              regs = le;
              stack = subst (CellsBelow w.classes (Class c ∷ [])) (sym there.stack)
                  (more_cells (catches.least (Class there.class) there.catches.above) no_cells);
            };
        known = record {
          few = few;
          regs = known;
          stack = All-cons (IsKnown w.classes) (Class c) [] catches.class (All-nil (IsKnown w.classes));
          object = is.rules.world.chains.objects;
        };
        full = All-cons IsNotBottom (Class c) [] tt (All-nil IsNotBottom);
        solid = entered-solid w is.rules m mo marked regs stacks ty q there;
      }

  held-start : (stack : List Ty) → Arrives w m true [] 0 stack → IsHeld 0 (record { regs = (start_frame m.rec Bottom).regs; stack = stack })
  held-start stack a = by stack a
    where
      few : length (start_frame m.rec Bottom).regs ≤ 255
      few = omega (arith, start-length w is.rules.world m mo, (of_world w is.rules.world m mo).registers)

      by : (s : List Ty) → Arrives w m true [] 0 s → IsHeld 0 (record { regs = (start_frame m.rec Bottom).regs; stack = s })
      by _ (arrives_falling free e) = held-empty 0 (start_frame m.rec Bottom).regs ty.declared few (start-known w is.rules.world m mo) ty.start.1
      by _ (arrives_empty free e) = absurd (false≢true (sym e))
      by _ (arrives_caught c entry room catches) = absurd (ty.start.0 entry)
      by _ (arrives_full entry none) = absurd (ty.start.0 entry)

  module _ (i : Placed) (there : HasInstruction m.code i) (after : Frame) (g : IsGiven i there after) where
    held-given : (q : ℕ) → stacks q ≡ (ty.typed i there).after.stack → IsHeld q after
    held-given q e = record {
      below = record { regs = g.below.regs; stack = subst (CellsBelow w.classes after.stack) (sym e) g.below.stack };
      known = g.known;
      full = g.full;
      solid = subst (IsSolid w) (sym e) g.solid;
    }

    held-none : (q : ℕ) → stacks q ≡ [] → IsHeld q (record { regs = after.regs; stack = [] })
    held-none q e = held-empty q after.regs g.below.regs g.known.few g.known.regs e

    held-after : (stack : List Ty) → Arrives w m (falls i.insn.op) after.stack (i.place + i.insn.len) stack
        → IsHeld (i.place + i.insn.len) (record { regs = after.regs; stack = stack })
    held-after _ (arrives_falling free e) = held-given (i.place + i.insn.len) ((ty.typed i there).goes_on e).next
    held-after _ (arrives_empty free e) = held-none (i.place + i.insn.len) ((ty.typed i there).ends e free)
    held-after _ (arrives_caught c entry room catches) = held-caught (i.place + i.insn.len) c after.regs g.below.regs g.known.few g.known.regs entry catches
    held-after _ (arrives_full entry none) = absurd (entry-room (i.place + i.insn.len) entry none)

    held-again : (IsTrue (falls i.insn.op) → ⊥) → (stack : List Ty) → Arrives w m (falls i.insn.op) after.stack 0 stack
        → IsHeld 0 (record { regs = after.regs; stack = stack })
    held-again never _ (arrives_falling free e) = absurd (never e)
    held-again never _ (arrives_empty free e) = held-none 0 ty.start.1
    held-again never _ (arrives_caught c entry room catches) = absurd (ty.start.0 entry)
    held-again never _ (arrives_full entry none) = absurd (ty.start.0 entry)

    held-next : (q : ℕ) (stack : List Ty) → GoesTo m (i.place + i.insn.len) q → Arrives w m (falls i.insn.op) after.stack q stack
        → IsHeld q (record { regs = after.regs; stack = stack })
    held-next _ stack (goes_there inside) a = held-after stack a
    held-next _ stack (goes_again end) a = held-again (λ goes. absurd (omega (arith, ((ty.typed i there).goes_on goes).inside, end))) stack a

  held : (visits q : ℕ) (met : Frame) → IsMetAfter w m marked visits q met → IsHeld q met
  held _ _ _ (met_start stack a) = held-start stack a
  held _ _ _ (met_next visits i q before after o stack met passed next a) =
      held-next i passed.stands after (given i passed.stands before after o (held visits i.place before met) passed.applies) q stack next a

  pub met-below : (q : ℕ) (met : Frame) → IsMet w m marked q met → FrameBelow w.classes met (frame_at regs stacks q)
  met-below q met h = (held h.visits q met h.after).below

  -- ---- what is wrong

  wrong-never : (i : Placed) (before kept : Frame) (kind : CardKind) → HasInstruction m.code i → IsHeld i.place before
      → IsWrong w m marked i before kind kept → ⊥
  wrong-never i before _ _ there h (wrong_entry e (inl fallen)) = no-fallen i.place fallen e
  wrong-never i before _ _ there h (wrong_entry e (inr mark)) = (ty.targets i.place mark).0 e
  wrong-never i before _ _ there h (wrong_room e free none) = entry-room i.place e none
  wrong-never i before _ _ there h (wrong_mark free mark fallen deep) = deep (below-empty h.below.stack (ty.targets i.place mark).1)
  wrong-never i before _ _ there h (wrong_rule fault suits refuses) =
      (is.rules.decides (site_of m i.place) i.insn Card before).never_both (fallen i there before h).applies (refuses-at-site w m mo refuses)
  wrong-never i before _ _ there h (wrong_branch after o suits applies jumps deep) =
      deep (below-empty (given i there before after o h applies).below.stack ((ty.typed i there).branch jumps))
  wrong-never i before _ _ there h (wrong_end after o suits applies branch goes end) = absurd (omega (arith, ((ty.typed i there).goes_on goes).inside, end))

  pub refused-never : (fault : CardFault) (kept : Frame) → IsRefusedState w m marked fault kept → ⊥
  refused-never fault kept r = by fault kept r.visits r.after
    where
      by : (fault : CardFault) (kept : Frame) (visits : ℕ) → IsRefusedAfter w m marked visits fault kept → ⊥
      by _ _ visits (refused_at i before kept kind there met wrong) = wrong-never i before kept kind there (held visits i.place before met) wrong

pub met-is-below : (w : Linked) → AreCardRules w → (m : Method) (marked : ℕ → Type 0) → IsMethodOf w m → MetIsBelow w m marked
met-is-below w is m marked mo regs stacks place met ty h = met-below w is m mo marked regs stacks ty place met h

pub refusal-denies : (w : Linked) → AreCardRules w → FlawsDecide → RefusalDenies w
refusal-denies w is flaws m _ _ mo (refused_flaw flaw kept first) has = (flaws m).0 has.typing.formed first.spot flaw first.flaw
refusal-denies w is flaws m _ _ mo (refused_state fault kept formed state) has =
    refused-never w is m mo (IsTarget m) has.regs has.stacks has.typing fault kept state

-- ---- what a refusal tells

pub fault-kind : (flaw : Flaw) → IsFlawKind (fault_of flaw).kind
fault-kind (flaws.Code place end) = tt
fault-kind (flaws.BadTarget place target) = tt
fault-kind (flaws.BadHandler entry number) = tt

wrong-kind : (w : Linked) (m : Method) (marked : ℕ → Type 0) (i : Placed) (before kept : Frame) (kind : CardKind)
    → IsWrong w m marked i before kind kept → ¬ (IsFlawKind kind)
wrong-kind w m marked i before _ _ (wrong_entry e from) = λ h. h
wrong-kind w m marked i before _ _ (wrong_room e free none) = λ h. h
wrong-kind w m marked i before _ _ (wrong_mark free mark fallen deep) = λ h. h
wrong-kind w m marked i before _ _ (wrong_rule fault suits refuses) = λ h. h
wrong-kind w m marked i before _ _ (wrong_branch after o suits applies jumps deep) = λ h. h
wrong-kind w m marked i before _ _ (wrong_end after o suits applies branch goes end) = λ h. h

pub state-kind : (w : Linked) (m : Method) (marked : ℕ → Type 0) (visits : ℕ) (fault : CardFault) (kept : Frame)
    → IsRefusedAfter w m marked visits fault kept → ¬ (IsFlawKind fault.kind)
state-kind w m marked visits _ _ (refused_at i before kept kind there met wrong) = wrong-kind w m marked i before kept kind wrong

pub flaws-are-told : (w : Linked) → FlawsDecide → FlawsAreTold w
flaws-are-told w decide m _ _ (refused_flaw flaw kept first) = (λ h formed. (decide m).0 formed first.spot flaw first.flaw, λ h. fault-kind flaw)
flaws-are-told w decide m _ _ (refused_state fault kept formed state) =
    (λ h. absurd (state-kind w m (IsTarget m) state.visits fault kept state.after h), λ h. absurd (h formed))
