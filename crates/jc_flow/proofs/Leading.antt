-- Where the instruction at the place of a frame leads: what it gives may stand there, or the place fails.
use Rattle.std.proofs.Common.{◌≡◌, ℕ, ◌+◌, ◌<◌, ◌≤◌, inl, inr, Bool, true, List, [], ◌∷◌, length, All, IsTrue, refl}
use Rattle.std.proofs.Common.{arith, if◌then◌else◌, map}
use Rattle.std.specs.Prelude.{ℤ, pos, ◌≤ℤ◌, ◌<ℤ◌}
use Rattle.std.specs.List.{Contains}
use Rattle.std.proofs.lemmas.List.Elements.{All-contains, All-nil, All-cons}
use Rattle.jc_base.specs.declared.ty.Ty.{Ty}
use Rattle.jc_base.specs.declared.ty.Ty.TheVariants.{Class}
use Rattle.jc_base.specs.declared.record.Handler.{Handler}
use Rattle.jc_base.specs.World.{Linked}
use Rattle.jc_rules.specs.FlowLaws.{AreRules, IsOrderOfCells}
use Rattle.jc_decode.specs.declared.insn.Insn.{Insn}
use Rattle.jc_decode.specs.declared.insn.Placed.{Placed}
use Rattle.jc_decode.specs.Cases.{cases}
use Rattle.jc_decode.specs.Listing.{falls, jumps, target, targets}
use Rattle.jc_ops.specs.declared.fault.RuleFault.TheVariants.{FreshKept, StackMerge, Overflow}
use Rattle.jc_rules.specs.Demand.{Frame}
use Rattle.jc_control.specs.Method.{Method, IsMethodOf}
use Rattle.jc_control.specs.WellFormed.{IsWellFormed, HasInstruction, IsPlace, IsBoundary, IsTargetPlace, IsHandlerOf}
use Rattle.jc_control.specs.Control.{IsSuccessor, falls_through, jumped, IsLeader, Covers}
use Rattle.jc_rules.specs.Flow.{IsNotFresh, IsNotTop, caught_frame, derived_next, derived_caught}
use Rattle.jc_rules.specs.Typing.{state_at, Clashes}
use Rattle.jc_flow.specs.declared.table.PutEnd.{PutEnd}
use Rattle.jc_flow.specs.declared.table.PutEnd.TheVariants.{Clash, Memory}
use Rattle.jc_flow.specs.Found.{Found, Prevents}
use Rattle.jc_flow.specs.Progress.{IsHeld, AreHeld, most_rises}
use Rattle.jc_flow.proofs.Derived.{derived-fine, step-keeps, some_to}
use Rattle.jc_flow.proofs.Growth.{grown-same}
use Rattle.jc_flow.specs.Fails.{FailsAt, fails_leader, fails_merge, fails_caught, fails_handler, IsFailure}
use Rattle.jc_flow.specs.Visit.{HasStepped, Goes, broken_at}
use Rattle.jc_flow.proofs.Steps.{stands-here}
use Rattle.jc_control.proofs.PlacesWithin.{target-range}

pub frame-is : (regs stack : List Ty) (f : Frame) → regs ≡ f.regs → stack ≡ f.stack → ◌≡◌ {A = Frame} (record { regs = regs; stack = stack }) f
frame-is regs stack f e h = grind (arith)

pub goes-same : (w : Linked) → IsOrderOfCells w.classes → (m : Method) (found : Found) → AreHeld w m found → Goes w m found found
goes-same w order m found h = record { grown = grown-same w.classes order (most_rises w.classes m) found; held = h }

-- what has targets is a branch or a switch
if-jumps : (b : Bool) (xs : List ℤ) (t : ℤ) → Contains (if b then xs else []) t → b ≡ true
if-jumps x xs t c = grind (arith)

pub targets-jump : (code : List ℕ) (i : Placed) (t : ℤ) → Contains (targets code i) t → IsTrue (jumps i.insn.op)
unfolding targets
targets-jump code i t c = if-jumps (jumps i.insn.op) (target i.place i.insn.x ∷ map (λ c. target i.place c.offset) (cases code i.place i.insn)) t c

-- where the code goes on after an instruction one stands
inside-code : (code : List ℕ) → ((i : Placed) → HasInstruction code i → IsBoundary code (i.place + i.insn.len)) → (i : Placed)
    → HasInstruction code i → i.place + i.insn.len < length code → IsPlace code (i.place + i.insn.len)
inside-code code next i st lt = by (next i st)
  where
    by : IsBoundary code (i.place + i.insn.len) → IsPlace code (i.place + i.insn.len)
    by (inl end) = absurd (omega (arith, lt, end))
    by (inr place) = place

module _ (w : Linked) (is : AreRules w) (m : Method) (mo : IsMethodOf w m) (formed : IsWellFormed m) (p : ℕ) (f g : Frame) (insn : Insn)
    (here : IsHeld w m p f) (st : HasStepped w m p f g insn) where
  stands : HasInstruction m.code (record { place = p; insn = insn })
  stands = stands-here m.code (is.listed m.code) p here.place insn st.decodes

  step-held : (q : ℕ) → IsSuccessor m.code (record { place = p; insn = insn }) q → IsPlace m.code q → (IsLeader m q → All IsNotFresh g.stack)
      → IsHeld w m q g
  step-held q to place ready = record {
    derived = derived_next here.derived stands st.steps to;
    place = place;
    room = st.steps.1.does.room;
    no_top = (step-keeps w is m mo (record { place = p; insn = insn }) f g (derived-fine w is m mo here.derived) st.steps).no_top here.no_top;
    ready = ready;
  }

  pub next-held : IsTrue (falls insn.op) → (IsLeader m (p + insn.len) → All IsNotFresh g.stack) → IsHeld w m (p + insn.len) g
  next-held on ready =
      step-held (p + insn.len) (falls_through on) (inside-code m.code (is.placed m formed).next (record { place = p; insn = insn }) stands (st.stays on))
      ready

  pub target-there : (t : ℤ) → Contains (targets m.code (record { place = p; insn = insn })) t → IsTargetPlace m.code t
  target-there t c = grind (arith, stands)

  pub target-held : (q : ℕ) → Contains (targets m.code (record { place = p; insn = insn })) (pos q) → IsHeld w m q g
  target-held q c = step-held q (jumped c) (target-there (pos q) c) (λ l. st.ready (targets-jump m.code (record { place = p; insn = insn }) (pos q) c))

  pub target-ranges : (t : ℤ) → length m.code ≤ 32767 → Contains (targets m.code (record { place = p; insn = insn })) t → (pos 0 ≤ℤ t)
      × (t <ℤ pos 65536)
  target-ranges t short c = target-range m.code (is.listed m.code) t (target-there t c) short

  pub caught-held : (h : Handler) → Contains m.rec.handlers h → Covers h p → ¬ (m.rec.max_stack ≡ 0) → IsHeld w m h.entry (caught_frame h f)
  caught-held h c cov n = record {
    derived = derived_caught here.derived c cov;
    place = (All-contains (IsHandlerOf m.code) m.rec.handlers h formed.handlers c).entry;
    room = omega (arith, n);
    no_top = All-cons IsNotTop (Class h.class) [] tt (All-nil IsNotTop);
    ready = λ l. All-cons IsNotFresh (Class h.class) [] tt (All-nil IsNotFresh);
  }

  -- ---- where it fails

  pub next-fresh : IsTrue (falls insn.op) → IsLeader m (p + insn.len) → ¬ (All IsNotFresh g.stack) → FailsAt w m p FreshKept
  next-fresh on l n =
      record {
        frame = f;
        derived = here.derived;
        fails = fails_leader (record { place = p; insn = insn }) g (p + insn.len) stands refl st.steps
            (falls_through on) l n;
      }

  pub no-room : (h : Handler) → Contains m.rec.handlers h → Covers h p → m.rec.max_stack ≡ 0 → FailsAt w m p Overflow
  no-room h c cov e = record { frame = f; derived = here.derived; fails = fails_handler h c cov e }

  module _ (found : Found) (held : AreHeld w m found) where
    pub edge-broken : (q : ℕ) → IsSuccessor m.code (record { place = p; insn = insn }) q → (end : PutEnd) → Prevents w.classes found q g end
        → IsFailure w m (broken_at p end)
    edge-broken q to Memory h = tt
    edge-broken q to Clash h =
        some_to (λ e. Clashes w.classes e g) (FailsAt w m p StackMerge) (state_at found.states q)
        (λ e at clash. record {
          frame = f;
          derived = here.derived;
          fails = fails_merge (record { place = p; insn = insn }) g e q stands refl st.steps to
              (held.held q e at).derived clash;
        }) h

    pub caught-broken : (h : Handler) → Contains m.rec.handlers h → Covers h p → (end : PutEnd)
        → Prevents w.classes found h.entry (caught_frame h f) end → IsFailure w m (broken_at p end)
    caught-broken h c cov Memory k = tt
    caught-broken h c cov Clash k =
        some_to (λ e. Clashes w.classes e (caught_frame h f)) (FailsAt w m p StackMerge) (state_at found.states h.entry)
        (λ e at clash. record { frame = f; derived = here.derived; fails = fails_caught h e c cov (held.held h.entry e at).derived clash }) k
