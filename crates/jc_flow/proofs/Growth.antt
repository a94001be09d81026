-- How a table grows when a frame comes to a place.
use Rattle.std.proofs.Common.{◌≡◌, ◌≢◌, ℕ, zero, suc, ◌<◌, ◌≤◌, ◌⊎◌, inl, inr, Bool, true, false, List, [], ◌∷◌, length}
use Rattle.std.proofs.Common.{get_or, set, Option, Some, None, refl, sym, ◌∙◌, ap, subst, arith}
use Rattle.std.proofs.lemmas.List.{length-set, get_or-set_same, get_or-set_other}
use Rattle.std.proofs.lemmas.List.Sums.{sum_by-set}
use Rattle.jc_base.specs.Class.{ClassTable}
use Rattle.jc_base.specs.World.{Linked}
use Rattle.jc_base.proofs.Lists.{IsSomeAnd-from}
use Rattle.jc_rules.specs.Demand.{Frame}
use Rattle.jc_control.specs.Method.{Method}
use Rattle.jc_rules.specs.Flow.{FrameBelow, At, Merges, derived_joined, IsNotFresh, caught_frame}
use Rattle.jc_rules.specs.Typing.{state_at, rises_of}
use Rattle.jc_rules.specs.FlowLaws.{JoinsStayReady, IsOrderOfCells}
use Rattle.jc_flow.specs.Found.{Found, IsPending, with_state, taken_up, Lands, comes_first, stays, rises}
use Rattle.jc_flow.specs.Progress.{IsHeld, AreHeld, IsClosed, AreClosed, rises_there, one_if, work, Grown}
use Rattle.jc_flow.proofs.Frames.{frame-same, frame-trans, join-left, join-right, join-length, join-all}
use Rattle.jc_flow.proofs.Landing.{state_at-read}
use Rattle.jc_flow.proofs.Derived.{some_to, some_map}
use Rattle.jc_base.proofs.Bodies.{dec_eq}

-- ---- the states and flags of a table

pub state_at-here : (states : List (Option Frame)) (p : ℕ) (f : Frame) → p < length states → state_at (set states p (Some f)) p ≡ Some f
unfolding state_at
state_at-here [] p f lt = absurd (omega arith)
state_at-here (x ∷ xs) zero f lt = refl
state_at-here (x ∷ xs) (suc p) f lt = state_at-here xs p f (omega arith)

pub state_at-other : (states : List (Option Frame)) (p q : ℕ) (f : Frame) → q ≢ p → state_at (set states p (Some f)) q ≡ state_at states q
unfolding state_at
state_at-other [] p q f n = refl
state_at-other (x ∷ xs) zero zero f n = absurd (n refl)
state_at-other (x ∷ xs) zero (suc q) f n = refl
state_at-other (x ∷ xs) (suc p) zero f n = refl
state_at-other (x ∷ xs) (suc p) (suc q) f n = state_at-other xs p q f (λ e. n (ap suc e))

flag-inside : (flags : List Bool) (p : ℕ) → get_or flags p false ≡ true → p < length flags
flag-inside [] zero h = absurd (cc)
flag-inside [] (suc p) h = absurd (cc)
flag-inside (x ∷ xs) zero h = omega arith
flag-inside (x ∷ xs) (suc p) h = let lt : p < length xs = flag-inside xs p h in omega arith

pub pending-inside : (found : Found) (p : ℕ) → IsPending found p → p < length found.pending
pending-inside found p h = flag-inside found.pending p h

pub pending-here : (found : Found) (p : ℕ) (f : Frame) → p < length found.pending → IsPending (with_state found p f) p
pending-here found p f lt = get_or-set_same found.pending p true false lt

pub pending-kept : (found : Found) (p q : ℕ) (f : Frame) → IsPending found q → IsPending (with_state found p f) q
pending-kept found p q f h = elim (dec_eq q p) [
  | inl e ↦ subst (IsPending (with_state found p f)) (sym e) (pending-here found p f (subst (λ x. x < length found.pending) e (pending-inside found q h)))
  | inr n ↦ get_or-set_other found.pending p q true false n ∙ h
]

pub pending-left : (found : Found) (p q : ℕ) → q ≢ p → IsPending found q → IsPending (taken_up found p) q
pending-left found p q n h = get_or-set_other found.pending p q false false n ∙ h

-- ---- growing

module _ (t : ClassTable) (order : IsOrderOfCells t) (most : ℕ) where
  pub grown-same : (found : Found) → Grown t most found found
  grown-same found = grind (arith, frame-same)

  pub at-above : (old new : Found) (f : Frame)
      → ((p : ℕ) (f : Frame) → state_at old.states p ≡ Some f → At (state_at new.states) p (FrameBelow t f)) → (p : ℕ)
      → At (state_at old.states) p (FrameBelow t f) → At (state_at new.states) p (FrameBelow t f)
  at-above old new f above p h =
      some_to (FrameBelow t f) (At (state_at new.states) p (FrameBelow t f)) (state_at old.states p)
      (λ g e le. some_map (FrameBelow t g) (FrameBelow t f) (state_at new.states p) (λ k up. frame-trans t order le up) (above p g e)) h

  pub at-grown : (old new : Found) (f : Frame) → Grown t most old new → (p : ℕ) → At (state_at old.states) p (FrameBelow t f)
      → At (state_at new.states) p (FrameBelow t f)
  at-grown old new f g p h = at-above old new f g.above p h

  pub grown-trans : {a b c : Found} → Grown t most a b → Grown t most b c → Grown t most a c
  grown-trans {a} {b} {c} g h = record {
    above = λ p f e. at-grown b c f h p (g.above p f e);
    stays = λ p. onward p (g.stays p) (h.stays p);
    keeps = λ p k. h.keeps p (g.keeps p k);
    less = omega (arith, g.less, h.less);
  }
    where
      onward : (p : ℕ) → (state_at b.states p ≡ state_at a.states p) ⊎ IsPending b p → (state_at c.states p ≡ state_at b.states p)
          ⊎ IsPending c p → (state_at c.states p ≡ state_at a.states p) ⊎ IsPending c p
      onward p d (inr k) = inr k
      onward p (inl d) (inl e) = inl (e ∙ d)
      onward p (inr k) (inl e) = inr (h.keeps p k)

  -- a greater frame is set at a place
  module _ (old : Found) (place : ℕ) (j : Frame) (inside : place < length old.states) (flag : place < length old.pending) where
    set-work : (o : Option Frame) → state_at old.states place ≡ o → rises_of t j < rises_there t most o
        → work t most (with_state old place j) ≤ work t most old
    set-work o e lt =
        let states = sum_by-set (rises_there t most) old.states place (Some j) None inside in
        let flags = sum_by-set one_if old.pending place true false flag in
        let there : rises_there t most (get_or old.states place None) ≡ rises_there t most o = ap (rises_there t most)
        (sym (state_at-read old.states place None inside) ∙ e) in
        omega arith

    pub set-grown : (o : Option Frame) → state_at old.states place ≡ o → rises_of t j < rises_there t most o
        → ((g : Frame) → o ≡ Some g → FrameBelow t g j) → Grown t most old (with_state old place j)
    set-grown o e lt below = record {
      above = λ p f h. elim (dec_eq p place) [
        | inl here ↦ subst (λ q. At (state_at (with_state old place j).states) q (FrameBelow t f)) (sym here)
            (IsSomeAnd-from (FrameBelow t f) _ _ (state_at-here old.states place j inside) (below f (sym e ∙ ap (state_at old.states) (sym here) ∙ h)))
        | inr n ↦ IsSomeAnd-from (FrameBelow t f) _ _ (state_at-other old.states place p j n ∙ h) (frame-same t order f)
      ];
      stays = λ p. elim (dec_eq p place) [
        | inl here ↦ inr (subst (IsPending (with_state old place j)) (sym here) (pending-here old place j flag))
        | inr n ↦ inl (state_at-other old.states place p j n)
      ];
      keeps = λ p h. pending-kept old place p j h;
      less = set-work o e lt;
    }

  none-some : {g : Frame} → ◌≡◌ {A = Option Frame} None (Some g) → ⊥
  none-some e = cc

  some-one : {g h : Frame} → ◌≡◌ {A = Option Frame} (Some g) (Some h) → g ≡ h
  some-one e = cc

  pub lands-grown : {old new : Found} {place : ℕ} {f : Frame} → place < length old.states → place < length old.pending → rises_of t f < most
      → Lands t old place f new → Grown t most old new
  lands-grown {old} {new} {place} {f} inside flag less x = grind (arith, set-grown, none-some, grown-same, some-one, join-left)

  pub lands-above : {old new : Found} {place : ℕ} {f : Frame} → place < length old.states → Lands t old place f new
      → At (state_at new.states) place (FrameBelow t f)
  lands-above {old} {new} {place} {f} inside x = grind (arith, state_at-here, frame-same, join-right)

-- ---- frames that may stand where they stand

module _ (w : Linked) (order : IsOrderOfCells w.classes) (ready_joins : JoinsStayReady w.classes) (m : Method) where
  pub joined-held : (p : ℕ) (g f j : Frame) → IsHeld w m p g → IsHeld w m p f → Merges w.classes g f j → IsHeld w m p j
  joined-held p g f j a b merges = record {
    derived = derived_joined a.derived b.derived merges;
    place = a.place;
    room = omega (arith, join-length w.classes order merges.stack, a.room);
    no_top = merges.no_top;
    ready = λ l. join-all w.classes IsNotFresh ready_joins merges.stack (a.ready l) (b.ready l);
  }

  set-held : (old : Found) (place : ℕ) (j : Frame) → place < length old.states → AreHeld w m old → IsHeld w m place j
      → AreHeld w m (with_state old place j)
  set-held old place j inside are_held h = record {
    places = length-set old.states place (Some j) ∙ are_held.places;
    flags = length-set old.pending place true ∙ are_held.flags;
    held = λ p f e. elim (dec_eq p place) [
      | inl here ↦ subst (λ q. IsHeld w m q f) (sym here)
          (subst (IsHeld w m place)
          (one_there (sym (state_at-here old.states place j inside) ∙ ap (state_at (set old.states place (Some j))) (sym here) ∙ e)) h)
      | inr n ↦ are_held.held p f (sym (state_at-other old.states place p j n) ∙ e)
    ];
  }
    where
      one_there : {g h : Frame} → ◌≡◌ {A = Option Frame} (Some g) (Some h) → g ≡ h
      one_there e = cc

  pub lands-held : {old new : Found} {place : ℕ} {f : Frame} → place < length old.states → AreHeld w m old → IsHeld w m place f
      → Lands w.classes old place f new → AreHeld w m new
  lands-held {old} {new} {place} {f} inside are_held h (comes_first e is) = subst (AreHeld w m) (sym is) (set-held old place f inside are_held h)
  lands-held {old} {new} {place} {f} inside are_held h (stays g e merges is) = subst (AreHeld w m) (sym is) are_held
  lands-held {old} {new} {place} {f} inside are_held h (rises g j e merges lt is) =
      subst (AreHeld w m) (sym is) (set-held old place j inside are_held (joined-held place g f j (are_held.held place g e) h merges))

  pub taken-held : (found : Found) (p : ℕ) → AreHeld w m found → AreHeld w m (taken_up found p)
  taken-held found p h = record { places = h.places; flags = length-set found.pending p false ∙ h.flags; held = h.held }

  -- ---- closed places

  pub closed-raised : (old new : Found) (p : ℕ) (f : Frame)
      → ((q : ℕ) (g : Frame) → state_at old.states q ≡ Some g → At (state_at new.states) q (FrameBelow w.classes g)) → IsClosed w m old p f
      → IsClosed w m new p f
  closed-raised old new p f above c = record {
    handlers = λ h k cov. at-above w.classes order 0 old new (caught_frame h f) above h.entry (c.handlers h k cov);
    rule =
        λ i st e. let r = c.rule i st e in
        record { after = r.after; steps = r.steps; below = λ q to. at-above w.classes order 0 old new r.after above q (r.below q to); ready = r.ready };
    stays = c.stays;
  }

  module _ (most : ℕ) (old new : Found) (p : ℕ) (grown : Grown w.classes most (taken_up old p) new) (closed : AreClosed w m old) where
    other-closed : (q : ℕ) (g : Frame) → q ≢ p → IsPending old q ⊎ IsClosed w m old q g → IsPending new q ⊎ IsClosed w m new q g
    other-closed q g n x = grind (arith, pending-left, closed-raised)

    -- the place that was taken is closed, or has no frame
    pub visited : ((f : Frame) → state_at old.states p ≡ Some f → IsClosed w m new p f) → AreClosed w m new
    visited here q g e = by (grown.stays q)
      where
        by : (state_at new.states q ≡ state_at old.states q) ⊎ IsPending new q → IsPending new q ⊎ IsClosed w m new q g
        by (inr k) = inl k
        by (inl same) = elim (dec_eq q p) [
          | inl at_p ↦ inr (subst (λ x. IsClosed w m new x g) (sym at_p) (here g (ap (state_at old.states) (sym at_p) ∙ sym same ∙ e)))
          | inr n ↦ other-closed q g n (closed q g (sym same ∙ e))
        ]
