-- A card typing gives a dataflow typing in which unset registers hold no value.
use Rattle.std.proofs.Common.{◌≡◌, ℕ, ◌+◌, ◌<◌, ◌≤◌, ⊎_elim, Bool, true, false, if◌then◌else◌, List, [], ◌∷◌, length, All}
use Rattle.std.proofs.Common.{Some, refl, sym, subst, arith, Contains}
use Rattle.std.specs.Prelude.{ℤ, pos, map}
use Rattle.std.proofs.lemmas.List.Elements.{All-contains, All-nil, All-cons}
use Rattle.jc_base.specs.declared.ty.Ty.{Ty}
use Rattle.jc_base.specs.declared.ty.Ty.TheVariants.{Bottom, Class}
use Rattle.jc_base.specs.declared.record.Handler.{Handler}
use Rattle.jc_base.specs.Order.{IsKnown}
use Rattle.jc_base.specs.World.{Linked}
use Rattle.jc_decode.specs.declared.insn.Placed.{Placed}
use Rattle.jc_decode.specs.Cases.{cases}
use Rattle.jc_decode.specs.Listing.{jumps, target, targets}
use Rattle.jc_decode.proofs.Elements.{nothing-in}
use Rattle.jc_control.specs.Method.{Method, IsMethodOf}
use Rattle.jc_control.specs.WellFormed.{HasInstruction, IsPlace, IsTargetPlace, IsBoundary, IsHandlerOf}
use Rattle.jc_control.specs.Control.{IsSuccessor, falls_through, jumped, IsReached, begins, follows, caught, IsLeader, led_to, entered}
use Rattle.jc_control.specs.Laws.{InstructionsArePlaced}
use Rattle.jc_rules.specs.declared.effect.Mode.TheVariants.{Flow}
use Rattle.jc_rules.specs.Demand.{AreKnown}
use Rattle.jc_rules.specs.Flow.{CellsBelow, no_cells, more_cells, FrameBelow, IsNotFresh, IsNotTop, caught_frame, FlowTyping}
use Rattle.jc_rules.specs.FlowLaws.{AreRules}
use Rattle.card_typing.specs.Place.{IsEntry, IsTarget}
use Rattle.card_typing.specs.Typing.{frame_at, IsTyped, IsEntered, CardTypingOver, CardTyping}
use Rattle.card_typing.specs.Laws.{CardIsFlow}
use Rattle.jc_rules.proofs.Sites.{site_of, at-site}
use Rattle.card_typing.proofs.Own.{start-length}
use Rattle.jc_rules.proofs.Starts.{of_world}

-- only a branch or switch has targets
jumps-where : (code : List ℕ) (i : Placed) (z : ℤ) → Contains (targets code i) z → jumps i.insn.op ≡ true
unfolding targets
jumps-where code i z c = by (jumps i.insn.op) refl
  where
    by : (b : Bool) → jumps i.insn.op ≡ b → jumps i.insn.op ≡ true
    by true e = e
    by false e =
        absurd
        (nothing-in z
        (subst (λ (b : Bool). Contains (if b then target i.place i.insn.x ∷ map (λ c. target i.place c.offset) (cases code i.place i.insn) else []) z) e
        c))

-- types of values of the world
pub record IsSolid (w : Linked) (stack : List Ty) : Type 0 where
  pub known : All (IsKnown w.classes) stack
  pub no_top : All IsNotTop stack

pub none-solid : (w : Linked) (stack : List Ty) → stack ≡ [] → IsSolid w stack
none-solid w stack e = subst (IsSolid w) (sym e) (record { known = All-nil (IsKnown w.classes); no_top = All-nil IsNotTop })

module _ (w : Linked) (is : AreRules w) (m : Method) (mo : IsMethodOf w m) (marked : ℕ → Type 0) (regs : List Ty) (stacks : ℕ → List Ty)
    (ty : CardTypingOver w m marked regs stacks) where
  few : length regs ≤ 255
  few = omega (arith, is.order.lengths ty.declared, start-length w is.world m mo, (of_world w is.world m mo).registers)

  known-with : (stack : List Ty) → All (IsKnown w.classes) stack → AreKnown w.classes (record { regs = regs; stack = stack })
  known-with stack k = record { few = few; regs = ty.types; stack = k; object = is.world.chains.objects }

  pub entered-solid : (q : ℕ) → IsEntered w m stacks q → IsSolid w (stacks q)
  entered-solid q e = subst (IsSolid w) (sym e.stack) (record {
    known = All-cons (IsKnown w.classes) (Class e.class) [] e.catches.class (All-nil (IsKnown w.classes));
    no_top = All-cons IsNotTop (Class e.class) [] tt (All-nil IsNotTop);
  })

  pub given-solid : (i : Placed) (t : IsTyped w m regs stacks i) → IsSolid w (stacks i.place) → IsSolid w t.after.stack
  given-solid i t s =
      let k = is.keeps (site_of m i.place) i.insn Flow (frame_at regs stacks i.place) t.after t.applies.0 (known-with (stacks i.place) s.known)
      (at-site w m mo t.applies.1) in
      record { known = k.known.stack; no_top = k.no_top s.no_top }

module _ (w : Linked) (is : AreRules w) (m : Method) (mo : IsMethodOf w m) (regs : List Ty) (stacks : ℕ → List Ty) (ty : CardTyping w m regs stacks) where
  entry-of : (h : Handler) → Contains m.rec.handlers h → IsEntry m h.entry
  entry-of h c = record { handler = h; listed = c; begins = refl }

  target-of : (i : Placed) (q : ℕ) → HasInstruction m.code i → Contains (targets m.code i) (pos q) → IsTarget m q
  target-of i q there among = record { from = i; stands = there; leads = among }

  succ-solid : (i : Placed) (q : ℕ) → HasInstruction m.code i → IsSolid w (stacks i.place) → IsSuccessor m.code i q → IsSolid w (stacks q)
  succ-solid i _ there s (falls_through goes) =
      let t = ty.typed i there in subst (IsSolid w) (sym (t.goes_on goes).next) (given-solid w is m mo (IsTarget m) regs stacks ty i t s)
  succ-solid i q there s (jumped among) = none-solid w (stacks q) (ty.targets q (target-of i q there among)).1

  reached-solid : (q : ℕ) → IsReached m q → IsSolid w (stacks q)
  reached-solid _ begins = none-solid w (stacks 0) ty.start.1
  reached-solid _ (follows {i = i} {q = q} there r s) = succ-solid i q there (reached-solid i.place r) s
  reached-solid _ (caught {h = h} r there covers) = entered-solid w is m mo (IsTarget m) regs stacks ty h.entry (ty.entries h.entry (entry-of h there))

  place-room : (q : ℕ) → IsPlace m.code q → length (stacks q) ≤ m.rec.max_stack
  place-room q here = subst (λ p. length (stacks p) ≤ m.rec.max_stack) here.2 (ty.room here.0 here.1)

  module _ (placed : InstructionsArePlaced) where
    inside-place : (q : ℕ) → IsBoundary m.code q → q < length m.code → IsPlace m.code q
    inside-place q b inside = ⊎_elim (λ end. absurd (omega arith)) (λ place. place) b

    succ-place : (i : Placed) (q : ℕ) → HasInstruction m.code i → IsSuccessor m.code i q → IsPlace m.code q
    succ-place i _ there (falls_through goes) = inside-place (i.place + i.insn.len) ((placed m ty.formed).next i there) ((ty.typed i there).goes_on goes).inside
    succ-place i q there (jumped among) = All-contains (IsTargetPlace m.code) (targets m.code i) (pos q) (ty.formed.targets i there) among

    reached-place : (q : ℕ) → IsReached m q → IsPlace m.code q
    reached-place _ begins = (placed m ty.formed).first mo.filled
    reached-place _ (follows {i = i} {q = q} there r s) = succ-place i q there s
    reached-place _ (caught {h = h} r there covers) = (All-contains (IsHandlerOf m.code) m.rec.handlers h ty.formed.handlers there).entry

    succ-below : (i : Placed) (there : HasInstruction m.code i) (q : ℕ) → IsSuccessor m.code i q
        → FrameBelow w.classes (ty.typed i there).after (frame_at regs stacks q)
    succ-below i there _ (falls_through goes) =
        let t = ty.typed i there in
        record { regs = t.stored; stack = subst (CellsBelow w.classes t.after.stack) (sym (t.goes_on goes).next) (is.order.self t.after.stack) }
    succ-below i there q (jumped among) =
        let t = ty.typed i there in
        let left = t.branch (jumps-where m.code i (pos q) among) in
        let there_empty = (ty.targets q (target-of i q there among)).1 in
        record {
          regs = t.stored;
          stack = subst (λ xs. CellsBelow w.classes xs (stacks q)) (sym left)
              (subst (CellsBelow w.classes []) (sym there_empty) no_cells);
        }

    caught-below : (p : ℕ) (h : Handler) → Contains m.rec.handlers h → FrameBelow w.classes (caught_frame h (frame_at regs stacks p))
        (frame_at regs stacks h.entry)
    caught-below p h there =
        let e = ty.entries h.entry (entry-of h there) in
        record {
          regs = is.order.self regs;
          stack = subst (CellsBelow w.classes (Class h.class ∷ [])) (sym e.stack)
              (more_cells (e.catches.above h there refl) no_cells);
        }

    leader-ready : (q : ℕ) → IsLeader m q → All IsNotFresh (stacks q)
    leader-ready _ (led_to {i = i} {q = q} there r among) = subst (All IsNotFresh) (sym (ty.targets q (target-of i q there among)).1) (All-nil IsNotFresh)
    leader-ready _ (entered {h = h} r there covers) =
        let e = ty.entries h.entry (entry-of h there) in
        subst (All IsNotFresh) (sym e.stack) (All-cons IsNotFresh (Class e.class) [] tt (All-nil IsNotFresh))

    flow-typing : FlowTyping w m Bottom (λ p. Some (frame_at regs stacks p))
    flow-typing = record {
      formed = ty.formed;
      start = record { regs = ty.declared; stack = subst (CellsBelow w.classes []) (sym ty.start.1) no_cells };
      fit = λ p r. record { room = place-room p (reached-place p r); no_top = (reached-solid p r).no_top; no_fresh = ty.ready };
      rules = λ i there r.
          let t = ty.typed i there in
          record {
            after = t.after;
            steps = t.applies;
            below = λ q s. succ-below i there q s;
            ready = λ j. subst (All IsNotFresh) (sym (t.branch j)) (All-nil IsNotFresh);
          };
      stays = λ i there r goes. ((ty.typed i there).goes_on goes).inside;
      handlers = λ p h r there covers. caught-below p h there;
      leaders = λ q l. leader-ready q l;
    }

pub card-is-flow : (w : Linked) → AreRules w → InstructionsArePlaced → CardIsFlow w
card-is-flow w is placed m mo has = record {
  frames = λ p. Some (frame_at has.regs has.stacks p);
  typing = flow-typing w is m mo has.regs has.stacks has.typing placed;
}
