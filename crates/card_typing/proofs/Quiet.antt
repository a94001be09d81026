-- A pass that raises no register is a card typing.
use Rattle.std.proofs.Common.{◌≡◌, ℕ, zero, suc, ◌+◌, ◌<◌, ◌≤◌, ◌⊎◌, inl, inr, ⊎_elim, Bool, true, false, ◌==◌}
use Rattle.std.proofs.Common.{if◌then◌else◌, List, [], ◌∷◌, length, All, refl, sym, ◌∙◌, ap, subst, arith, Contains, IsTrue}
use Rattle.std.specs.Prelude.{pos}
use Rattle.std.proofs.lemmas.List.Elements.{All-contains}
use Rattle.std.proofs.lemmas.Bool.{false≢true, eq-eqb}
use Rattle.jc_base.specs.declared.ty.Ty.{Ty}
use Rattle.jc_base.specs.declared.ty.Ty.TheVariants.{Bottom, Class}
use Rattle.jc_base.specs.Order.{IsKnown}
use Rattle.jc_base.specs.World.{Linked}
use Rattle.jc_decode.specs.declared.insn.Placed.{Placed}
use Rattle.jc_decode.specs.Listing.{falls, targets, listing, Lists, end_from}
use Rattle.jc_control.specs.Method.{Method, IsMethodOf}
use Rattle.jc_control.specs.WellFormed.{HasInstruction, IsPlace, IsTargetPlace, IsHandlerOf, IsWellFormed}
use Rattle.jc_decode.specs.Laws.{InstructionsAreListed}
use Rattle.jc_decode.proofs.Elements.{Contains-either}
use Rattle.jc_control.specs.Laws.{InstructionsArePlaced}
use Rattle.jc_rules.specs.declared.rule.Outcome.{Outcome}
use Rattle.jc_rules.specs.Flow.{CellsBelow, IsNotFresh, start_frame}
use Rattle.jc_rules.specs.Laws.{RuleRests}
use Rattle.card_typing.proofs.Fewer.{met-fewer}
use Rattle.jc_rules.proofs.Sites.{site_of, at-site, of-site}
use Rattle.card_typing.specs.Place.{IsTarget, IsEntry, IsFallenInto, fallen_first, fallen_from, CatchesAt}
use Rattle.card_typing.specs.Typing.{frame_at, GoesOn, IsTyped, IsEntered, CardTypingOver}
use Rattle.card_typing.specs.Met.{Arrives, arrives_falling, arrives_empty, arrives_caught, arrives_full, IsOpenTo, IsPassed}
use Rattle.card_typing.specs.Pass.{IsQuiet, quiet_end, quiet_more}
use Rattle.card_typing.specs.Laws.{MetIsBelow, MetIsSound, QuietIsLeast}

-- ---- lists

pub eq-other : (n m : ℕ) → m < n → (n == m) ≡ false
eq-other n m lt = grind arith

-- ---- how a stack arrives

module _ (w : Linked) (m : Method) where
  arrived-falling : {b : Bool} {given : List Ty} {q : ℕ} {stack : List Ty} → Arrives w m b given q stack → b ≡ true → ¬ (IsEntry m q)
      → stack ≡ given
  arrived-falling (arrives_falling free e) h n = refl
  arrived-falling (arrives_empty free e) h n = absurd (false≢true (sym e ∙ h))
  arrived-falling (arrives_caught c entry room catches) h n = absurd (n entry)
  arrived-falling (arrives_full entry none) h n = absurd (n entry)

  pub arrived-empty : {b : Bool} {given : List Ty} {q : ℕ} {stack : List Ty} → Arrives w m b given q stack → b ≡ false → ¬ (IsEntry m q)
      → stack ≡ []
  arrived-empty (arrives_falling free e) h n = absurd (false≢true (sym h ∙ e))
  arrived-empty (arrives_empty free e) h n = refl
  arrived-empty (arrives_caught c entry room catches) h n = absurd (n entry)
  arrived-empty (arrives_full entry none) h n = absurd (n entry)

  arrived-caught : {b : Bool} {given : List Ty} {q : ℕ} {stack : List Ty} → Arrives w m b given q stack → IsEntry m q → ¬ (m.rec.max_stack ≡ 0)
      → (c : ℕ) × CatchesAt w.classes m q c × (stack ≡ Class c ∷ [])
  arrived-caught (arrives_falling free e) h n = absurd (free h)
  arrived-caught (arrives_empty free e) h n = absurd (free h)
  arrived-caught (arrives_caught c entry room catches) h n = (c, catches, refl)
  arrived-caught (arrives_full entry none) h n = absurd (n none)

  arrived-room : {b : Bool} {given : List Ty} {q : ℕ} {stack : List Ty} → Arrives w m b given q stack → length given ≤ m.rec.max_stack
      → length stack ≤ m.rec.max_stack
  arrived-room (arrives_falling free e) h = h
  arrived-room (arrives_empty free e) h = omega arith
  arrived-room (arrives_caught c entry room catches) h = positive m.rec.max_stack room
    where
      positive : (n : ℕ) → ¬ (n ≡ 0) → 1 ≤ n
      positive zero free = absurd (free refl)
      positive (suc n) free = omega arith
  arrived-room (arrives_full entry none) h = omega arith

-- ---- the stacks of a pass

module _ (w : Linked) (m : Method) (marked : ℕ → Type 0) (regs : List Ty) where
  -- the stack that the pass has at a place
  unfoldable pub stack-in : (b : Bool) (given : List Ty) (is : List Placed) → IsQuiet w m marked regs b given is → ℕ → List Ty
  stack-in _ _ _ (quiet_end b given) q = []
  stack-in _ _ _ (quiet_more b given stack after o i is a p u) q = if q == i.place then stack else stack-in (falls i.insn.op) after is u q

  -- an instruction of a pass, with the stacks before and after it
  record IsVisited (stacks : ℕ → List Ty) (i : Placed) : Type 0 where
    may_fall : Bool
    given : List Ty
    from : may_fall ≡ true → IsFallenInto m i.place
    room : length given ≤ m.rec.max_stack
    arrives : Arrives w m may_fall given i.place (stacks i.place)
    after : List Ty
    outcome : Outcome
    passed : IsPassed w m marked i (record { regs = regs; stack = stacks i.place }) (record { regs = regs; stack = after }) outcome
    next : Arrives w m (falls i.insn.op) after (i.place + i.insn.len) (stacks (i.place + i.insn.len))
        ⊎ ((i.place + i.insn.len ≡ length m.code) × (stacks (i.place + i.insn.len) ≡ []))

  module _ (mo : IsMethodOf w m) (ordered : InstructionsAreListed) (stacks : ℕ → List Ty) where
    after-room : (i : Placed) {stack after : List Ty} {o : Outcome} → IsPassed w m marked i (record { regs = regs; stack = stack })
        (record { regs = regs; stack = after }) o → length after ≤ m.rec.max_stack
    after-room i {stack} {after} {o} p =
        p.applies.does.room

    -- what the pass has at the place where it goes on
    onward : (at : ℕ) (is : List Placed) (b : Bool) (given : List Ty) (u : IsQuiet w m marked regs b given is) → Lists m.code at is
        → end_from at is ≡ length m.code
        → ((q : ℕ) → at ≤ q → stacks q ≡ stack-in b given is u q) → Arrives w m b given at (stacks at)
        ⊎ ((at ≡ length m.code) × (stacks at ≡ []))
    unfolding stack-in
    onward at _ _ _ (quiet_end b given) l end agree = inr (end, agree at (omega arith))
    onward at _ _ _ (quiet_more b given stack after o i is a p u) l end agree =
        let test : (at == i.place) ≡ true = subst (λ n. (at == n) ≡ true) (sym l.0) (eq-eqb at at refl) in
        let here : stacks at ≡ stack = agree at (omega arith) ∙ ap (λ (t : Bool). if t then stack else stack-in (falls i.insn.op) after is u at) test in
        inl (subst (Arrives w m b given at) (sym here) (subst (λ n. Arrives w m b given n stack) l.0 a))

    visits : (at : ℕ) (is : List Placed) (b : Bool) (given : List Ty) (u : IsQuiet w m marked regs b given is) → Lists m.code at is
        → end_from at is ≡ length m.code
        → (b ≡ true → IsFallenInto m at) → length given ≤ m.rec.max_stack
        → ((q : ℕ) → at ≤ q → stacks q ≡ stack-in b given is u q) → (i : Placed) → Contains is i → IsVisited stacks i
    unfolding stack-in
    visits at _ _ _ (quiet_end b given) l end from room agree j c = absurd (omega (arith, c.1))
    visits at _ _ _ (quiet_more b given stack after o i is a p u) l end from room agree j c =
        ⊎_elim (λ same. subst (IsVisited stacks) same this)
        (λ later. visits (at + i.insn.len) is (falls i.insn.op) after u l.2 end fallen (after-room i p) agrees j later) (Contains-either i is j c)
      where
        place : i.place ≡ at
        place = l.0

        test : (i.place == i.place) ≡ true
        test = eq-eqb i.place i.place refl

        here : stacks i.place ≡ stack
        here = agree i.place (omega (arith, place)) ∙ ap (λ (t : Bool). if t then stack else stack-in (falls i.insn.op) after is u i.place) test

        agrees : (q : ℕ) → at + i.insn.len ≤ q → stacks q ≡ stack-in (falls i.insn.op) after is u q
        agrees q le =
            let long : 0 < i.insn.len = (ordered m.code).long at i.insn l.1 in
            let other : (q == i.place) ≡ false = eq-other q i.place (omega (arith, place)) in
            agree q (omega arith) ∙ ap (λ (t : Bool). if t then stack else stack-in (falls i.insn.op) after is u q) other

        fallen : falls i.insn.op ≡ true → IsFallenInto m (at + i.insn.len)
        fallen e = subst (λ n. IsFallenInto m (n + i.insn.len)) place (fallen_from i p.stands e)

        next : Arrives w m (falls i.insn.op) after (at + i.insn.len) (stacks (at + i.insn.len))
            ⊎ ((at + i.insn.len ≡ length m.code) × (stacks (at + i.insn.len) ≡ []))
        next = onward (at + i.insn.len) is (falls i.insn.op) after u l.2 end agrees

        this : IsVisited stacks i
        this = record {
          may_fall = b;
          given = given;
          from = λ e. subst (IsFallenInto m) (sym place) (from e);
          room = room;
          arrives = subst (Arrives w m b given i.place) (sym here) a;
          after = after;
          outcome = o;
          passed = subst (λ (s : List Ty). IsPassed w m marked i (record { regs = regs; stack = s }) (record { regs = regs; stack = after }) o) (sym here) p;
          next =
              subst (λ (n : ℕ). Arrives w m (falls i.insn.op) after (n + i.insn.len) (stacks (n + i.insn.len))
              ⊎ ((n + i.insn.len ≡ length m.code) × (stacks (n + i.insn.len) ≡ []))) (sym place) next;
        }

-- ---- the typing

module _ (w : Linked) (rests : RuleRests w) (placed : InstructionsArePlaced) (ordered : InstructionsAreListed) (m : Method) (mo : IsMethodOf w m)
    (marked : ℕ → Type 0) (inside : (q : ℕ) → marked q → IsPlace m.code q) (formed : IsWellFormed m) (regs : List Ty)
    (u : IsQuiet w m marked regs true [] (listing m.code)) where
  abbrev pub stacks : ℕ → List Ty
  stacks = stack-in w m marked regs true [] (listing m.code) u

  visit : (i : Placed) → HasInstruction m.code i → IsVisited w m marked regs stacks i
  visit i there =
      visits w m marked regs mo ordered stacks 0 (listing m.code) true [] u (ordered m.code).lists formed.ends (λ e. fallen_first) (omega arith)
      (λ q le. refl) i there

  open-at : (q : ℕ) → IsPlace m.code q → IsOpenTo m marked q (stacks q)
  open-at q here = subst (λ p. IsOpenTo m marked p (stacks p)) here.2 (visit here.0 here.1).passed.suits

  entry-place : (q : ℕ) → IsEntry m q → IsPlace m.code q
  entry-place q e = subst (IsPlace m.code) e.begins (All-contains (IsHandlerOf m.code) m.rec.handlers e.handler formed.handlers e.listed).entry

  no-entry : (q : ℕ) → IsFallenInto m q → ¬ (IsEntry m q)
  no-entry q fallen e = ((open-at q (entry-place q e)).entry e).0 fallen

  start-empty : stacks 0 ≡ []
  start-empty = by (onward w m marked regs mo ordered stacks 0 (listing m.code) true [] u (ordered m.code).lists formed.ends (λ q le. refl))
    where
      by : Arrives w m true [] 0 (stacks 0) ⊎ ((0 ≡ length m.code) × (stacks 0 ≡ [])) → stacks 0 ≡ []
      by (inl a) = arrived-falling w m a refl (no-entry 0 fallen_first)
      by (inr e) = e.1

  entered-at : (q : ℕ) → IsEntry m q → IsEntered w m stacks q
  entered-at q e = subst (λ p. IsEntry m p → IsEntered w m stacks p) here.2 enters e
    where
      here : IsPlace m.code q
      here = entry-place q e

      enters : IsEntry m here.0.place → IsEntered w m stacks here.0.place
      enters entry =
          let v = visit here.0 here.1 in
          let c = arrived-caught w m v.arrives entry (v.passed.suits.caught entry) in
          record { class = c.0; catches = c.1; stack = c.2 }

  mark-empty : (i : Placed) → HasInstruction m.code i → marked i.place → ¬ (IsEntry m i.place) → stacks i.place ≡ []
  mark-empty i there t free = by (visit i there).may_fall refl
    where
      by : (b : Bool) → (visit i there).may_fall ≡ b → stacks i.place ≡ []
      by true e = (visit i there).passed.suits.mark t ((visit i there).from e)
      by false e = arrived-empty w m (visit i there).arrives e free

  mark-at : (q : ℕ) → marked q → ¬ (IsEntry m q) × (stacks q ≡ [])
  mark-at q t =
      let here = inside q t in
      let free : ¬ (IsEntry m q) = λ e. ((open-at q here).entry e).1 t in
      (free, subst (λ p. marked p → ¬ (IsEntry m p) → stacks p ≡ []) here.2 (mark-empty here.0 here.1) t free)

  goes-on : (i : Placed) (there : HasInstruction m.code i) → IsTrue (falls i.insn.op) → GoesOn m stacks i (visit i there).after
  goes-on i there goes =
      let v = visit i there in
      let free : ¬ (IsEntry m (i.place + i.insn.len)) = no-entry (i.place + i.insn.len) (fallen_from i there goes) in
      record {
        inside = v.passed.goes_on goes;
        no_entry = free;
        next = ⊎_elim (λ a. arrived-falling w m a goes free) (λ end. absurd (omega (arith, v.passed.goes_on goes, end.0))) v.next;
      }

  typed-at : (i : Placed) → HasInstruction m.code i → IsTyped w m regs stacks i
  typed-at i there =
      let v = visit i there in
      let r = rests (site_of m i.place) i.insn (frame_at regs stacks i.place) (record { regs = regs; stack = v.after }) v.outcome
      (at-site w m mo v.passed.applies) refl in
      record {
        after = record { regs = r.stored; stack = v.after };
        applies = (v.outcome, of-site w m mo r.applies);
        stored = r.below;
        branch = v.passed.branch;
        goes_on = λ goes. goes-on i there goes;
        ends = λ e free. ⊎_elim (λ a. arrived-empty w m a e free) (λ end. end.1) v.next;
      }

  pub quiet-typing : All (IsKnown w.classes) regs → All IsNotFresh regs → CellsBelow w.classes (start_frame m.rec Bottom).regs regs
      → CardTypingOver w m marked regs stacks
  quiet-typing known ready declared = record {
    formed = formed;
    types = known;
    ready = ready;
    declared = declared;
    start = (no-entry 0 fallen_first, start-empty);
    entries = entered-at;
    targets = mark-at;
    room = λ i there. let v = visit i there in arrived-room w m v.arrives v.room;
    typed = typed-at;
  }

pub target-place : (m : Method) → IsWellFormed m → (q : ℕ) → IsTarget m q → IsPlace m.code q
target-place m formed q t = All-contains (IsTargetPlace m.code) (targets m.code t.from) (pos q) (formed.targets t.from t.stands) t.leads

pub quiet-is-least :
    (w : Linked) → RuleRests w → InstructionsArePlaced → InstructionsAreListed → (m : Method) (marked : ℕ → Type 0) → IsMethodOf w m
    → ((q : ℕ) → IsTarget m q → marked q)
    → (IsWellFormed m → (q : ℕ) → marked q → IsPlace m.code q)
    → MetIsSound w m marked
    → MetIsBelow w m (IsTarget m)
    → QuietIsLeast w m marked
quiet-is-least w rests placed ordered m marked mo among inside sound below regs formed met u =
    let free = no-entry w rests placed ordered m mo marked (inside formed) formed regs u 0 fallen_first in
    let begun = met [] (arrives_falling free refl) in
    let s = sound 0 (record { regs = regs; stack = [] }) begun in
    record {
      stacks = stacks w rests placed ordered m mo marked (inside formed) formed regs u;
      typing = quiet-typing w rests placed ordered m mo marked (inside formed) formed regs u s.known.regs s.ready s.raised;
      least =
          λ others other_stacks ty.
          (below others other_stacks 0 (record { regs = regs; stack = [] }) ty
          (met-fewer w m marked (IsTarget m) among 0 (record { regs = regs; stack = [] }) begun)).regs;
    }
