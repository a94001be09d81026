-- Where no place waits, the frames that were found are the least flow typing.
use Rattle.std.proofs.Common.{arith}
use Rattle.std.proofs.Common.{◌≡◌, ℕ, ◌⊎◌, inl, inr, All, Some, refl}
use Rattle.jc_base.specs.declared.ty.Ty.TheVariants.{Top}
use Rattle.jc_base.specs.World.{Linked}
use Rattle.jc_base.proofs.Lists.{IsSomeAnd-from}
use Rattle.jc_rules.specs.FlowLaws.{AreRules}
use Rattle.jc_rules.specs.Demand.{Frame}
use Rattle.jc_control.specs.Method.{Method, IsMethodOf}
use Rattle.jc_control.specs.WellFormed.{IsWellFormed}
use Rattle.jc_control.specs.Control.{IsReached, begins, follows, caught}
use Rattle.jc_control.proofs.Living.{leader-reached}
use Rattle.jc_rules.specs.Flow.{FrameBelow, At, IsFit, IsFollowed, IsNotFresh, start_frame, caught_frame, FlowTyping, IsLeastTyping}
use Rattle.jc_rules.specs.Typing.{state_at}
use Rattle.jc_flow.specs.Found.{Found, IsPending, NonePending}
use Rattle.jc_flow.specs.Progress.{IsHeld, AreHeld, IsClosed, AreClosed}
use Rattle.jc_flow.proofs.Derived.{some_to, derived-fine, derived-under}

module _ (w : Linked) (is : AreRules w) (m : Method) (mo : IsMethodOf w m) (found : Found) (formed : IsWellFormed m) (held : AreHeld w m found)
    (closed : AreClosed w m found) (none : NonePending found) (start : At (state_at found.states) 0 (FrameBelow w.classes (start_frame m.rec Top))) where
  is_closed : (p : ℕ) (f : Frame) → state_at found.states p ≡ Some f → IsClosed w m found p f
  is_closed p f e = by (closed p f e)
    where
      by : IsPending found p ⊎ IsClosed w m found p f → IsClosed w m found p f
      by (inl k) = absurd (none p k)
      by (inr c) = c

  -- each reached place has a frame
  pub reached-found : {p : ℕ} → IsReached m p → (f : Frame) × (state_at found.states p ≡ Some f)
  reached-found begins = grind (arith, some_to)
  reached-found (follows {i} {q} st r to) =
      let here = reached-found r in
      let rule : IsFollowed w m (state_at found.states) i here.0 = (is_closed i.place here.0 here.1).rule i st refl in
      some_to (FrameBelow w.classes rule.after) ((f : Frame) × (state_at found.states q ≡ Some f)) (state_at found.states q) (λ f e le. (f, e))
      (rule.below q to)
  reached-found (caught {h} {p} r c cov) =
      let here = reached-found r in
      some_to (FrameBelow w.classes (caught_frame h here.0)) ((f : Frame) × (state_at found.states h.entry ≡ Some f)) (state_at found.states h.entry)
      (λ f e le. (f, e)) ((is_closed p here.0 here.1).handlers h c cov)

  pub settled-typing : FlowTyping w m Top (state_at found.states)
  settled-typing = record {
    formed = formed;
    start = start;
    fit = λ p r. let here = reached-found r in
        let h : IsHeld w m p here.0 = held.held p here.0 here.1 in
        let fine = derived-fine w is m mo h.derived in
        IsSomeAnd-from (IsFit m) _ _ here.1 (record { room = h.room; no_top = h.no_top; no_fresh = fine.no_fresh });
    rules =
        λ i st r. let here = reached-found r in IsSomeAnd-from (IsFollowed w m (state_at found.states) i) _ _ here.1
        ((is_closed i.place here.0 here.1).rule i st refl);
    stays = λ i st r falls. let here = reached-found r in (is_closed i.place here.0 here.1).stays i st refl falls;
    handlers = λ p h r c cov. let here = reached-found r in
        IsSomeAnd-from (λ f. At (state_at found.states) h.entry (FrameBelow w.classes (caught_frame h f))) _ _ here.1
        ((is_closed p here.0 here.1).handlers h c cov);
    leaders =
        λ q l. let here = reached-found (leader-reached m q l) in IsSomeAnd-from (λ f. All IsNotFresh f.stack) _ _ here.1
        ((held.held q here.0 here.1).ready l);
  }

  pub settled-least : IsLeastTyping w m Top (state_at found.states)
  settled-least = record {
    typing = settled-typing;
    least = λ others ty p r. let here = reached-found r in
        IsSomeAnd-from (λ f. At others p (FrameBelow w.classes f)) _ _ here.1 ((derived-under w is m mo others ty (held.held p here.0 here.1).derived).below);
  }

  -- where there is a frame, the place is reached
  pub found-reached : {p : ℕ} {f : Frame} → state_at found.states p ≡ Some f → IsReached m p
  found-reached {p} {f} e = (derived-under w is m mo (state_at found.states) settled-typing (held.held p f e).derived).reached
