-- The visit of a place closes it.
use Rattle.std.proofs.Common.{◌≡◌, ℕ, ◌+◌, ◌<◌, ◌≤◌, List, length, get_or, take, All, IsTrue, Option, Some, sym, ◌∙◌, ap, subst}
use Rattle.std.proofs.Common.{arith}
use Rattle.std.specs.Prelude.{ℤ, pos, Contains}
use Rattle.std.proofs.lemmas.List.{take_all}
use Rattle.std.proofs.lemmas.List.Elements.{All-more, All-contains}
use Rattle.jc_base.specs.declared.record.Handler.{Handler}
use Rattle.jc_base.specs.World.{Linked}
use Rattle.jc_rules.specs.FlowLaws.{AreRules, IsOrderOfCells}
use Rattle.jc_decode.specs.declared.insn.Insn.{Insn}
use Rattle.jc_decode.specs.declared.insn.Placed.{Placed}
use Rattle.jc_decode.specs.Listing.{falls, targets}
use Rattle.jc_rules.specs.Demand.{Frame}
use Rattle.jc_control.specs.Method.{Method, IsMethodOf}
use Rattle.jc_control.specs.WellFormed.{HasInstruction}
use Rattle.jc_control.specs.Control.{IsSuccessor, falls_through, jumped}
use Rattle.jc_rules.specs.Flow.{At, FrameBelow, IsFollowed, caught_frame}
use Rattle.jc_rules.specs.Typing.{state_at}
use Rattle.jc_flow.specs.Found.{Found}
use Rattle.jc_flow.specs.Progress.{IsHeld, IsClosed, most_rises}
use Rattle.jc_flow.proofs.Derived.{derived-fine}
use Rattle.jc_flow.proofs.Growth.{grown-trans, at-grown}
use Rattle.jc_flow.specs.declared.edges.FlowStep.{FlowStep}
use Rattle.jc_flow.specs.Scratch.{Scratched, SuitsMethod}
use Rattle.jc_flow.specs.Visit.{HasStepped, IsStep, Goes, CaughtIsBelow, IsAtTarget, IsVisited}
use Rattle.jc_flow.proofs.Steps.{stands-here}

module _ (w : Linked) (order : IsOrderOfCells w.classes) (m : Method) where
  pub goes-on : (a b c : Found) → Goes w m a b → Goes w m b c → Goes w m a c
  goes-on a b c g h = record { grown = grown-trans w.classes order (most_rises w.classes m) g.grown h.grown; held = h.held }

  pub goes-above : (a b : Found) (f : Frame) → Goes w m a b → (q : ℕ) → At (state_at a.states) q (FrameBelow w.classes f)
      → At (state_at b.states) q (FrameBelow w.classes f)
  goes-above a b f g q h = at-grown w.classes order (most_rises w.classes m) a b f g.grown q h

  -- ---- handlers

  module _ (p : ℕ) (f : Frame) (old new : Found) (goes : Goes w m old new) where
    pub caught-on : (hs : List Handler) → All (CaughtIsBelow w p f old) hs → All (CaughtIsBelow w p f new) hs
    caught-on hs all k d lt cov = goes-above old new (caught_frame (get_or hs k d) f) goes (get_or hs k d).entry (all k d lt cov)

    pub caught-more : (hs : List Handler) (k : ℕ) (d : Handler) → k < length hs → All (CaughtIsBelow w p f old) (take k hs)
        → CaughtIsBelow w p f new (get_or hs k d) → All (CaughtIsBelow w p f new) (take (k + 1) hs)
    caught-more hs k d lt all one = All-more (CaughtIsBelow w p f new) hs k d lt (caught-on (take k hs) all) one

  pub caught-all : (p : ℕ) (f : Frame) (found : Found) (hs items : List Handler) (k : ℕ) → items ≡ hs → length items ≤ k
      → All (CaughtIsBelow w p f found) (take k items) → All (CaughtIsBelow w p f found) hs
  caught-all p f found hs items k e le all = subst (All (CaughtIsBelow w p f found)) (take_all k items le ∙ e) all

  -- ---- targets

  target-on : (g : Frame) (old new : Found) → Goes w m old new → (t : ℤ) → IsAtTarget w g old t → IsAtTarget w g new t
  target-on g old new goes x h = grind (arith, goes-above)

  pub targets-on : (g : Frame) (old new : Found) → Goes w m old new → (ts : List ℤ) → All (IsAtTarget w g old) ts → All (IsAtTarget w g new) ts
  targets-on g old new goes ts all k d lt = target-on g old new goes (get_or ts k d) (all k d lt)

-- ---- the frames that the rules work on

module _ (w : Linked) (is : AreRules w) (m : Method) (mo : IsMethodOf w m) (p : ℕ) (f : Frame) (here : IsHeld w m p f) where
  pub load-registers : (s : Scratched) → SuitsMethod s m.rec → length f.regs ≡ length s.frame.regs
  load-registers s suits = (derived-fine w is m mo here.derived).count ∙ sym suits.registers

  pub load-room : (s : Scratched) → SuitsMethod s m.rec → length f.stack ≤ s.room
  load-room s suits = omega (arith, here.room, suits.room)

  pub suits-loaded : (s n : Scratched) → SuitsMethod s m.rec → n ≡ record { frame = f; room = s.room } → SuitsMethod n m.rec
  suits-loaded s n suits e = grind (arith, derived-fine w is m mo here.derived, length)

  pub held-loaded : (s n : Scratched) → n ≡ record { frame = f; room = s.room } → IsHeld w m p n.frame
  held-loaded s n e = subst (IsHeld w m p) (sym (ap (λ (x : Scratched). x.frame) e)) here

  pub step-loaded : (a old_a : Scratched) (g : Frame) (insn : Insn) → a ≡ record { frame = f; room = old_a.room } → HasStepped w m p a.frame g insn
      → HasStepped w m p f g insn
  step-loaded a old_a g insn ea st = subst (λ x. HasStepped w m p x g insn) (ap (λ (x : Scratched). x.frame) ea) st

  pub is-step : (s : FlowStep) (b a old_a : Scratched) → s.place ≡ p → s.before.now ≡ b → (0 < length m.rec.handlers → b.frame ≡ f)
      → a ≡ record { frame = f; room = old_a.room } → HasStepped w m p a.frame s.after.now.frame s.insn → IsStep w m s
  is-step s b a old_a place now kept ea st = grind (arith, step-loaded)

-- what the handlers catch of the frame that is kept is what they catch of the state's
pub caught-kept : (w : Linked) (m : Method) (p : ℕ) (f b : Frame) (found : Found) → (0 < length m.rec.handlers → b ≡ f)
    → All (CaughtIsBelow w p b found) m.rec.handlers → All (CaughtIsBelow w p f found) m.rec.handlers
caught-kept w m p f b found kept all k d lt = subst (λ x. CaughtIsBelow w p x found (get_or m.rec.handlers k d)) (kept (omega (arith, lt))) (all k d lt)

-- where there is a handler, the frame that is kept is the one of the step
module _ (w : Linked) (m : Method) (s : FlowStep) (is : IsStep w m s) (h : Handler) (listed : Contains m.rec.handlers h) where
  is-kept : s.before.now.frame ≡ is.from
  is-kept = is.kept (omega (arith, listed.1))

  pub kept-here : IsHeld w m s.place s.before.now.frame
  kept-here = subst (IsHeld w m s.place) (sym is-kept) is.here

  pub kept-stepped : HasStepped w m s.place s.before.now.frame s.after.now.frame s.insn
  kept-stepped = subst (λ x. HasStepped w m s.place x s.after.now.frame s.insn) (sym is-kept) is.stepped

-- ---- a visit

module _ (w : Linked) (is : AreRules w) (m : Method) (t0 t1 t2 t3 : Found) (p : ℕ) (f g : Frame) (insn : Insn) (here : IsHeld w m p f)
    (stepped : HasStepped w m p f g insn) (g1 : Goes w m t0 t1) (g2 : Goes w m t1 t2) (g3 : Goes w m t2 t3)
    (caught : All (CaughtIsBelow w p f t1) m.rec.handlers) (on : IsTrue (falls insn.op) → At (state_at t2.states) (p + insn.len) (FrameBelow w.classes g))
    (reached : All (IsAtTarget w g t3) (targets m.code (record { place = p; insn = insn }))) where
  to-successor : (q : ℕ) → IsSuccessor m.code (record { place = p; insn = insn }) q → At (state_at t3.states) q (FrameBelow w.classes g)
  to-successor q (falls_through falls_on) = goes-above w is.order m t2 t3 g g3 q (on falls_on)
  to-successor q (jumped c) = All-contains (IsAtTarget w g t3) (targets m.code (record { place = p; insn = insn })) (pos q) reached c

  same-instruction : (i : Placed) → HasInstruction m.code i → i.place ≡ p → record { place = p; insn = insn } ≡ i
  same-instruction i st e = grind (arith, stands-here)

  visit-closed : IsClosed w m t3 p f
  visit-closed = record {
    handlers =
        λ h c cov. goes-above w is.order m t1 t3 (caught_frame h f) (goes-on w is.order m t1 t2 t3 g2 g3) h.entry
        (All-contains (CaughtIsBelow w p f t1) m.rec.handlers h caught c cov);
    rule = λ i st e. subst (λ j. IsFollowed w m (state_at t3.states) j f) (same-instruction i st e)
        (record { after = g; steps = stepped.steps; below = to-successor; ready = stepped.ready });
    stays = λ i st e. subst (λ j. IsTrue (falls j.insn.op) → j.place + j.insn.len < length m.code) (same-instruction i st e) stepped.stays;
  }

  some-same : {f g : Frame} → ◌≡◌ {A = Option Frame} (Some f) (Some g) → f ≡ g
  some-same e = cc

  pub visit-over : state_at t0.states p ≡ Some f → IsVisited w m p t0 t3
  visit-over at = grind (arith, goes-on w is.order m t0 t1 t3 g1 (goes-on w is.order m t1 t2 t3 g2 g3), some-same, visit-closed)
