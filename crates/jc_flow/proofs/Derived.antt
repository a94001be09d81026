-- What holds of each derived frame, and that each flow typing is above it.
use Rattle.std.proofs.Common.{◌≡◌, ℕ, ◌+◌, [], ◌∷◌, length, All, Option}
use Rattle.std.proofs.Common.{Some, IsSomeAnd, ◌∙◌, subst, arith}
use Rattle.std.specs.List.{Contains}
use Rattle.std.proofs.lemmas.List.Elements.{All-contains, All-nil}
use Rattle.jc_base.specs.declared.ty.Ty.TheVariants.{Class, Top}
use Rattle.jc_base.specs.declared.record.Handler.{Handler}
use Rattle.jc_base.specs.Order.{IsKnown}
use Rattle.jc_base.specs.Linked.{IsMethod, IsHandler, list_at}
use Rattle.jc_base.specs.World.{Linked}
use Rattle.jc_rules.specs.FlowLaws.{AreRules}
use Rattle.jc_base.proofs.Lists.{All-slice_get}
use Rattle.jc_decode.specs.declared.insn.Placed.{Placed}
use Rattle.jc_rules.specs.declared.effect.Mode.TheVariants.{Flow}
use Rattle.jc_rules.specs.Demand.{Frame, AreKnown}
use Rattle.jc_control.specs.Method.{Method, IsMethodOf}
use Rattle.jc_control.specs.WellFormed.{HasInstruction}
use Rattle.jc_control.specs.Control.{IsReached, begins, follows, caught}
use Rattle.jc_rules.specs.Flow.{IsFit, FrameBelow, At, Merges, FlowSteps, start_frame, caught_frame, IsNotFresh, IsDerived, derived_start}
use Rattle.jc_rules.specs.Flow.{derived_caught, derived_next, derived_joined, FlowTyping, IsFollowed}
use Rattle.jc_rules.specs.Laws.{IsNotBottom, Keeps, FallsTo}
use Rattle.jc_rules.proofs.Types.{declared-not_fresh}
use Rattle.jc_rules.proofs.Sites.{site_of, at-site}
use Rattle.jc_flow.proofs.Frames.{frame-trans, join-least, join-length, join-all, full-join}
use Rattle.jc_rules.proofs.Starts.{own-class, start-all, start-counted}

-- ---- elements

pub some_both : {X : Type 0} (P Q R : X → Type 0) (o : Option X) → ((x : X) → o ≡ Some x → P x → Q x → R x) → IsSomeAnd o P
    → IsSomeAnd o Q → IsSomeAnd o R
some_both x x2 x22 x222 f p q = grind (arith)

pub some_to : {X : Type 0} (P : X → Type 0) (R : Type 0) (o : Option X) → ((x : X) → o ≡ Some x → P x → R) → IsSomeAnd o P → R
some_to x x2 x22 f p = grind (arith)

pub some_map : {X : Type 0} (P Q : X → Type 0) (o : Option X) → ((x : X) → P x → Q x) → IsSomeAnd o P → IsSomeAnd o Q
some_map x x2 x22 f p = grind (arith)

pub some_at : {X : Type 0} (P : X → Type 0) {o : Option X} {x : X} → o ≡ Some x → IsSomeAnd o P → P x
some_at P {o} {x} e h = subst (λ r. IsSomeAnd r P) e h

module _ (w : Linked) (is : AreRules w) (m : Method) (mo : IsMethodOf w m) where
  -- ---- the method

  pub of_world : IsMethod w.infos w.pools w.classes m.rec
  of_world = All-slice_get (IsMethod w.infos w.pools w.classes) w.methods m.number m.rec is.world.methods mo.rec

  pub handler_of : (h : Handler) → Contains m.rec.handlers h → IsHandler w.classes (list_at w.pools m.rec.package) m.rec.code_len h
  handler_of h c = All-contains (IsHandler w.classes (list_at w.pools m.rec.package) m.rec.code_len) m.rec.handlers h of_world.handlers c

  -- ---- the frame of a derived state

  pub record IsFine (f : Frame) : Type 0 where
    pub known : AreKnown w.classes f
    pub count : length f.regs ≡ m.rec.nargs + m.rec.max_locals
    pub no_fresh : All IsNotFresh f.regs
    pub no_bottom : All IsNotBottom f.stack

  pub start-fine : IsFine (start_frame m.rec Top)
  start-fine = record {
    known = record {
      few = omega (arith, start-counted w is.world m mo Top, of_world.registers);
      regs = start-all w is.world m mo Top (IsKnown w.classes) (own-class w is.world m mo) is.declared tt;
      stack = All-nil (IsKnown w.classes);
      object = is.world.chains.objects;
    };
    count = start-counted w is.world m mo Top;
    no_fresh = start-all w is.world m mo Top IsNotFresh tt (declared-not_fresh w.classes) tt;
    no_bottom = All-nil IsNotBottom;
  }

  pub caught-fine : (h : Handler) (f : Frame) → Contains m.rec.handlers h → IsFine f → IsFine (caught_frame h f)
  caught-fine h f c fine = grind (arith, handler_of h c)

  pub step-keeps : (i : Placed) (f g : Frame) → IsFine f → FlowSteps w m i f g → Keeps w f g
  step-keeps i f g fine s = is.keeps (site_of m i.place) i.insn Flow f g s.0 fine.known (at-site w m mo s.1)

  pub step-fine : (i : Placed) (f g : Frame) → IsFine f → FlowSteps w m i f g → IsFine g
  step-fine i f g fine s = grind (arith, step-keeps i f g fine s)

  pub joined-fine : (f g j : Frame) → IsFine f → IsFine g → Merges w.classes f g j → IsFine j
  joined-fine f g j a b merges = record {
    known = record {
      few = omega (arith, join-length w.classes is.order merges.regs, a.known.few);
      regs = join-all w.classes (IsKnown w.classes) (λ a b j known others join. is.types.known known others join) merges.regs a.known.regs b.known.regs;
      stack = join-all w.classes (IsKnown w.classes) (λ a b j known others join. is.types.known known others join) merges.stack a.known.stack b.known.stack;
      object = a.known.object;
    };
    count = join-length w.classes is.order merges.regs ∙ a.count;
    no_fresh = join-all w.classes IsNotFresh (is.ready) merges.regs a.no_fresh b.no_fresh;
    no_bottom = join-all w.classes IsNotBottom (full-join w.classes is.types) merges.stack a.no_bottom b.no_bottom;
  }

  pub derived-fine : {p : ℕ} {f : Frame} → IsDerived w m Top p f → IsFine f
  derived-fine derived_start = start-fine
  derived-fine (derived_caught {h} {p} {f} d c cov) = caught-fine h f c (derived-fine d)
  derived-fine (derived_next {i} {q} {f} {g} d st s to) = step-fine i f g (derived-fine d) s
  derived-fine (derived_joined {p} {f} {g} {j} d e merges) = joined-fine f g j (derived-fine d) (derived-fine e) merges

  -- ---- flow typings are above

  module _ (frames : ℕ → Option Frame) (ty : FlowTyping w m Top frames) where
    -- at the place of a lesser frame the rule applies, with a result below that of the typing
    pub record Follows (i : Placed) (f : Frame) : Type 0 where
      pub greater : Frame
      pub above : FrameBelow w.classes f greater
      pub there : frames i.place ≡ Some greater
      pub followed : IsFollowed w m frames i greater
      pub fallen : FallsTo w (site_of m i.place) i.insn Flow f followed.after

    pub followed-below : (i : Placed) (f : Frame) → IsFine f → IsReached m i.place → HasInstruction m.code i
        → At frames i.place (FrameBelow w.classes f) → Follows i f
    followed-below i f fine reached st below =
        some_to (FrameBelow w.classes f) (Follows i f) (frames i.place)
        (λ g there le.
        let followed : IsFollowed w m frames i g = some_at (IsFollowed w m frames i) there (ty.rules i st reached) in
        let fit = some_at (IsFit m) there (ty.fit i.place reached) in
        record {
          greater = g;
          above = le;
          there = there;
          followed = followed;
          fallen = is.falls (site_of m i.place) i.insn Flow g f followed.after followed.steps.0 le fit.no_top fine.no_bottom (at-site w m mo followed.steps.1);
        }) below

    -- what the rule gives for the lesser frame is below what it gives for the greater one
    pub step-below : (i : Placed) (f g : Frame) → (s : Follows i f) → FlowSteps w m i f g → FrameBelow w.classes g s.followed.after
    step-below i f g s steps = grind (arith, at-site)

    pub record IsUnder (p : ℕ) (f : Frame) : Type 0 where
      pub reached : IsReached m p
      pub below : At frames p (FrameBelow w.classes f)

    pub derived-under : {p : ℕ} {f : Frame} → IsDerived w m Top p f → IsUnder p f
    derived-under derived_start = record { reached = begins; below = ty.start }
    derived-under (derived_caught {h} {p} {f} d c cov) = let u = derived-under d in record {
      reached = caught u.reached c cov;
      below = some_to (FrameBelow w.classes f) (At frames h.entry (FrameBelow w.classes (caught_frame h f))) (frames p)
          (λ g there le. some_map (FrameBelow w.classes (caught_frame h g)) (FrameBelow w.classes (caught_frame h f)) (frames h.entry)
          (λ k above. frame-trans w.classes is.order (record { regs = le.regs; stack = is.order.self (Class h.class ∷ []) }) above)
          (some_at (λ g. At frames h.entry (FrameBelow w.classes (caught_frame h g))) there (ty.handlers p h u.reached c cov))) u.below;
    }
    derived-under (derived_next {i} {q} {f} {g} d st s to) =
        let u = derived-under d in
        let follow = followed-below i f (derived-fine d) u.reached st u.below in
        record {
          reached = follows st u.reached to;
          below =
              some_map (FrameBelow w.classes follow.followed.after) (FrameBelow w.classes g) (frames q)
              (λ k above. frame-trans w.classes is.order (step-below i f g follow s) above) (follow.followed.below q to);
        }
    derived-under (derived_joined {p} {f} {g} {j} d e merges) = grind (arith, some_both, join-least, derived-under d, derived-under e)
