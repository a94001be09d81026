-- A walk comes from one place to the next, and to the end.
use Rattle.std.proofs.Common.{◌≡◌, ℕ, zero, suc, ◌+◌, ◌<◌, ◌≤◌, ⊎_elim, Bool, true, false, ◌||◌, List, [], ◌∷◌, ◌++◌}
use Rattle.std.proofs.Common.{length, MatchBool, Contains, sum_by, refl, sym, ◌∙◌, ap, subst, arith, append_assoc}
use Rattle.std.proofs.lemmas.Bool.{false≢true, cases_lt}
use Rattle.std.proofs.lemmas.List.{append-nil}
use Rattle.std.proofs.lemmas.List.Elements.{Contains-append_right}
use Rattle.jc_base.specs.declared.ty.Ty.{Ty}
use Rattle.jc_base.specs.Order.{rises_left}
use Rattle.jc_base.specs.World.{Linked}
use Rattle.jc_decode.specs.declared.insn.Placed.{Placed}
use Rattle.jc_decode.specs.Listing.{falls, listing, end_from}
use Rattle.jc_control.specs.Method.{Method}
use Rattle.jc_control.specs.WellFormed.{HasInstruction}
use Rattle.jc_control.proofs.PlacesWithin.{at-end}
use Rattle.jc_decode.specs.Laws.{AreListed}
use Rattle.jc_rules.specs.declared.rule.Outcome.{Outcome}
use Rattle.jc_rules.specs.Demand.{AreKnown}
use Rattle.jc_rules.specs.Stack.{cells}
use Rattle.jc_rules.specs.Apply.{frame_of}
use Rattle.jc_rules.proofs.Stacks.{length-cells}
use Rattle.card_typing.specs.declared.fault.CardFault.{CardFault}
use Rattle.card_typing.specs.Place.{IsEntry, IsFallenInto, fallen_first, fallen_from}
use Rattle.card_typing.specs.Met.{Arrives, arrives_falling, arrives_empty, arrives_caught, arrives_full, IsPassed, GoesTo, goes_there, goes_again, IsMetAfter}
use Rattle.card_typing.specs.Met.{met_next}
use Rattle.card_typing.specs.Refusal.{IsRefusedAfter, refused_at}
use Rattle.card_typing.specs.Pass.{quiet_end, quiet_more}
use Rattle.card_verify.specs.declared.verify.Verifier.{Verifier}
use Rattle.card_verify.specs.declared.pass.Arrival.{Arrival}
use Rattle.card_verify.specs.Verifier.{method, world_of}
use Rattle.card_verify.specs.Walk.{IsVerifier, IsComing, IsVisited, IsStopped, CanPass, CanBeginPass, IsPassedOver, HasLessLeft, IsSettled, IsProgress}

-- ---- lists of instructions

-- ---- places that are not fallen into

module _ (m : Method) (order : AreListed m.code) (i : Placed) (there : HasInstruction m.code i) where
  long : 0 < i.insn.len
  long = order.long i.place i.insn (order.decodes i there)

  pub inside : i.place < length m.code
  inside = let w = order.within i there in let l = long in omega (arith, w, l)

  same-place : (j : Placed) → HasInstruction m.code j → j.place + j.insn.len ≡ i.place + i.insn.len → j.place ≡ i.place
  same-place j here e =
      ⊎_elim (λ before. earlier before) (λ le. ⊎_elim (λ later. absurd (after later)) (λ ge. omega arith) (cases_lt i.place j.place))
      (cases_lt j.place i.place)
    where
      earlier : j.place < i.place → j.place ≡ i.place
      earlier lt = let a = order.after j i here there lt in let l = long in absurd (omega (arith, a, l, e))

      after : i.place < j.place → ⊥
      after lt =
          let a = order.after i j there here lt in
          let l : 0 < j.insn.len = order.long j.place j.insn (order.decodes j here) in
          absurd (omega (arith, a, l, e))

  -- after an instruction that doesn't fall through
  pub not-fallen : falls i.insn.op ≡ false → ¬ (IsFallenInto m (i.place + i.insn.len))
  not-fallen never f = by (i.place + i.insn.len) f refl
    where
      by : (q : ℕ) → IsFallenInto m q → q ≡ i.place + i.insn.len → ⊥
      by _ fallen_first e = let l = long in absurd (omega (arith, l, e))
      by _ (fallen_from j here goes) e =
          let same : j ≡ i = order.one j i here there (same-place j here e) in
          false≢true (sym never ∙ ap (λ (k : Placed). falls k.insn.op) (sym same) ∙ goes)

  pub fallen-after : (b : Bool) → falls i.insn.op ≡ b → MatchBool b (IsFallenInto m (i.place + i.insn.len)) (¬ (IsFallenInto m (i.place + i.insn.len)))
  fallen-after true e = fallen_from i there e
  fallen-after false e = not-fallen e

-- ---- from place to place

-- nothing falls into the first place from the end
again-arrives : (w : Linked) (m : Method) (b : Bool) (given stack : List Ty) (q : ℕ) → b ≡ false → Arrives w m true [] q stack
    → Arrives w m b given q stack
again-arrives w m b given _ q e (arrives_falling free t) = arrives_empty free e
again-arrives w m b given _ q e (arrives_empty free t) = absurd (false≢true (sym t))
again-arrives w m b given _ q e (arrives_caught c entry room catches) = arrives_caught c entry room catches
again-arrives w m b given _ q e (arrives_full entry none) = arrives_full entry none

module _ (v : Verifier) (marked : ℕ → Type 0) (is : IsVerifier v marked) where
  abbrev m : Method
  m = method v

  pub coming-first : (visits : ℕ) (arrival : Arrival) (regs stack : List Ty) → arrival.may_fall ≡ true → arrival.depth ≡ 0
      → cells stack arrival.depth ≡ [] → CanBeginPass v marked visits regs stack → IsComing v marked visits 0 arrival regs stack
  coming-first visits arrival regs stack falling none empty begun = record {
    met = λ q given goes a. by q given goes (subst (λ (s : List Ty). Arrives (world_of v) m arrival.may_fall s q given) empty a);
    fallen = subst (λ (b : Bool). MatchBool b (IsFallenInto m 0) (¬ (IsFallenInto m 0))) (sym falling) fallen_first;
    inside = λ e. is.known.filled;
    begins = λ lt. absurd (omega (arith, lt));
    slices = begun.slices;
    depth = omega (arith, none);
  }
    where
      by : (q : ℕ) (given : List Ty) → GoesTo m 0 q → Arrives (world_of v) m arrival.may_fall [] q given
          → IsMetAfter (world_of v) m marked visits q (record { regs = regs; stack = given })
      by _ given (goes_there lt) a = begun.met given (subst (λ (b : Bool). Arrives (world_of v) m b [] 0 given) falling a)
      by _ given (goes_again e) a = begun.met given (subst (λ (b : Bool). Arrives (world_of v) m b [] 0 given) falling a)

  -- no handler begins at a place to which control falls
  begins-here : (i : Placed) (before : Arrival) (regs stack regs_after stack_after : List Ty) (o : Outcome)
      → IsVisited v marked i before regs stack regs_after stack_after o → (¬ (i.place ≡ 0) → ¬ (IsEntry m 0)) → ¬ (IsEntry m 0)
  begins-here i before regs stack regs_after stack_after o visited later entry =
      ⊎_elim (λ lt. first (omega (arith, lt))) (λ le. later (λ e. absurd (omega (arith, le, e))) entry) (cases_lt i.place 1)
    where
      first : i.place ≡ 0 → ⊥
      first e = (visited.stepped.passed.suits.entry (subst (IsEntry m) (sym e) entry)).0 (subst (IsFallenInto m) (sym e) fallen_first)

  pub coming-next :
      (i : Placed) (there : HasInstruction m.code i) (visits : ℕ) (before after : Arrival) (regs stack regs_after stack_after : List Ty) (o : Outcome)
      → after.may_fall ≡ falls i.insn.op
      → after.depth ≡ o.depth
      → IsComing v marked visits i.place before regs stack
      → IsVisited v marked i before regs stack regs_after stack_after o
      → IsComing v marked (suc visits) (i.place + i.insn.len) after regs_after stack_after
  coming-next i there visits before after regs stack regs_after stack_after o falling deep coming visited =
      let s = visited.stepped in
      record {
        met = λ q given goes a.
            met_next visits i q (record { regs = regs; stack = visited.given }) (frame_of regs_after stack_after o.depth) o given
            (coming.met i.place visited.given (goes_there (inside m (is.order m.code) i there)) visited.arrives) s.passed goes
            (subst (λ (b : Bool). Arrives (world_of v) m b (cells stack_after o.depth) q given) falling
            (subst (λ (n : ℕ). Arrives (world_of v) m after.may_fall (cells stack_after n) q given) deep a));
        fallen = fallen-after m (is.order m.code) i there after.may_fall (sym falling);
        inside = λ e. s.passed.goes_on (sym falling ∙ e);
        begins = λ lt. begins-here i before regs stack regs_after stack_after o visited (λ other. coming.begins (positive i.place other));
        slices = s.slices;
        depth = subst (λ n. n ≤ v.subject.rec.now.max_stack) (sym deep) s.depth;
      }
    where
      positive : (n : ℕ) → ¬ (n ≡ 0) → 0 < n
      positive zero other = absurd (other refl)
      positive (suc n) other = omega arith

  -- at the end of the code nothing falls through
  never-falls : (visits at : ℕ) (arrival : Arrival) (regs stack : List Ty) → at ≡ length m.code → IsComing v marked visits at arrival regs stack
      → (b : Bool) → arrival.may_fall ≡ b → b ≡ false
  never-falls visits at arrival regs stack end coming x e = grind (arith, inside)

  pub begun-again : (visits at : ℕ) (arrival : Arrival) (regs stack : List Ty) → at ≡ length m.code → IsComing v marked visits at arrival regs stack
      → CanBeginPass v marked visits regs stack
  begun-again visits at arrival regs stack end coming = record {
    met = λ given a. coming.met 0 given (goes_again end)
        (again-arrives (world_of v) m arrival.may_fall (cells stack arrival.depth) given 0
        (never-falls visits at arrival regs stack end coming arrival.may_fall refl) a);
    slices = coming.slices;
  }

  -- what is wrong at a place to which a walk has come
  pub refused-here :
      (i : Placed) (there : HasInstruction m.code i) (visits : ℕ) (arrival : Arrival) (regs stack regs_after stack_after : List Ty) (fault : CardFault)
      → IsComing v marked visits i.place arrival regs stack
      → IsStopped v marked i arrival regs stack regs_after stack_after fault
      → IsRefusedAfter (world_of v) m marked visits fault (frame_of regs_after stack_after fault.depth)
  refused-here i there visits arrival regs stack regs_after stack_after fault coming stopped =
      let f = stopped.fails in
      let deep = sym (length-cells stack_after fault.depth f.within) in
      let met = coming.met i.place stopped.given (goes_there (inside m (is.order m.code) i there)) stopped.arrives in
      let same : record { place = i.place; depth = length (cells stack_after fault.depth); kind = fault.kind } ≡ fault =
      ap (λ (n : ℕ). record { place = n; depth = length (cells stack_after fault.depth); kind = fault.kind }) (sym f.place)
      ∙ ap (λ (n : ℕ). record { place = fault.place; depth = n; kind = fault.kind }) (sym deep) in
      subst (λ (g : CardFault). IsRefusedAfter (world_of v) m marked visits g (frame_of regs_after stack_after fault.depth)) same
      (refused_at i (record { regs = regs; stack = stopped.given }) (frame_of regs_after stack_after fault.depth) fault.kind there met f.wrong)

  -- ---- what a pass has done so far

  pub progress-first : (begun given : List Ty) → given ≡ [] → IsProgress v marked begun false begun true given []
  progress-first begun given e = grind (arith)

  pub progress-next :
      (begun : List Ty) (rose : Bool) (i : Placed) (yielded : List Placed) (before : Arrival) (regs stack regs_after stack_after : List Ty) (o : Outcome)
      → IsProgress v marked begun rose regs before.may_fall (cells stack before.depth) yielded
      → IsVisited v marked i before regs stack regs_after stack_after o
      → IsProgress v marked begun (rose || o.rose) regs_after (falls i.insn.op) (cells stack_after o.depth) (yielded ++ i ∷ [])
  progress-next begun rose i yielded before regs stack regs_after stack_after o progress visited =
      by rose o.rose progress visited.stepped.rises
    where
      by : (a b : Bool) → IsProgress v marked begun a regs before.may_fall (cells stack before.depth) yielded
          → MatchBool b (sum_by (rises_left (world_of v).classes) regs_after < sum_by (rises_left (world_of v).classes) regs) (regs_after ≡ regs)
          → IsProgress v marked begun (a || b) regs_after (falls i.insn.op) (cells stack_after o.depth) (yielded ++ i ∷ [])
      by true true p r = omega (arith, p, r)
      by true false p r = subst (λ (xs : List Ty). sum_by (rises_left (world_of v).classes) xs < sum_by (rises_left (world_of v).classes) begun) (sym r) p
      by false true p r = subst (λ (xs : List Ty). sum_by (rises_left (world_of v).classes) regs_after < sum_by (rises_left (world_of v).classes) xs) p.0 r
      by false false p r =
          let passed = subst
          (λ (xs : List Ty). IsPassed (world_of v) m marked i (record { regs = xs; stack = visited.given })
          (record { regs = xs; stack = cells stack_after o.depth }) o) p.0
          (subst
          (λ (xs : List Ty). IsPassed (world_of v) m marked i (record { regs = regs; stack = visited.given })
          (record { regs = xs; stack = cells stack_after o.depth }) o) r visited.stepped.passed) in (
            r ∙ p.0,
            λ rest whole q.
                p.1 (i ∷ rest) (sym (append_assoc yielded (i ∷ []) rest) ∙ whole)
                (quiet_more before.may_fall (cells stack before.depth) visited.given (cells stack_after o.depth) o i rest visited.arrives passed q),
          )

  pub pass-done :
      (begun : List Ty) (rose : Bool) (yielded : List Placed) (may_fall : Bool) (regs given : List Ty)
      → yielded ≡ listing m.code
      → IsProgress v marked begun rose regs may_fall given yielded
      → MatchBool rose (HasLessLeft v begun regs) (IsSettled v marked begun regs)
  pass-done begun true yielded may_fall regs given whole p = p
  pass-done begun false yielded may_fall regs given whole p = record { same = p.0; quiet = p.1 [] (append-nil yielded ∙ whole) (quiet_end may_fall given) }

  -- a pass comes to the end of the code, and begins again
  pub passed-over :
      (begun lent : List Ty) (yielded : List Placed) (arrival : Arrival) (regs stack : List Ty)
      → yielded ≡ listing m.code
      → ((visits : ℕ) → CanBeginPass v marked visits begun lent → IsComing v marked (visits + length yielded) (end_from 0 yielded) arrival regs stack)
      → IsPassedOver v marked begun lent regs stack
  passed-over begun lent yielded arrival regs stack whole coming = λ visits begins.
      let end : end_from 0 yielded ≡ length m.code = ap (end_from 0) whole ∙ is.formed.ends in
      subst (λ (n : ℕ). CanBeginPass v marked (visits + n) regs stack) (ap length whole)
      (begun-again (visits + length yielded) (end_from 0 yielded) arrival regs stack end (coming visits begins))

  pub passed-begins :
      (begun lent : List Ty) (yielded : List Placed) (arrival : Arrival) (regs stack : List Ty)
      → yielded ≡ listing m.code
      → CanPass v marked begun lent
      → ((visits : ℕ) → CanBeginPass v marked visits begun lent → IsComing v marked (visits + length yielded) (end_from 0 yielded) arrival regs stack)
      → ¬ (IsEntry m 0)
  passed-begins begun lent yielded arrival regs stack whole can coming =
      let end : end_from 0 yielded ≡ length m.code = ap (end_from 0) whole ∙ is.formed.ends in
      (coming can.0 can.1).begins (omega (arith, end, is.known.filled))

  -- where the next instruction stands
  pub next-place : (yielded rest : List Placed) (i : Placed) (after : List Placed) → yielded ++ rest ≡ listing m.code → rest ≡ i ∷ after
      → i.place ≡ end_from 0 yielded
  next-place yielded rest i after whole e = grind (arith, at-end, after)

  pub next-stands : (yielded rest : List Placed) (i : Placed) (after : List Placed) → yielded ++ rest ≡ listing m.code → rest ≡ i ∷ after
      → HasInstruction m.code i
  next-stands yielded rest i after whole e =
      subst (λ (xs : List Placed). Contains xs i) (ap (λ (r : List Placed). yielded ++ r) (sym e) ∙ whole)
      (Contains-append_right yielded (i ∷ after) i (0, omega arith, refl))

  -- the types of the state that is met
  pub known-here : (i : Placed) → HasInstruction m.code i → (visits : ℕ) (arrival : Arrival) (regs stack given : List Ty)
      → IsComing v marked visits i.place arrival regs stack
      → Arrives (world_of v) m arrival.may_fall (cells stack arrival.depth) i.place given
      → AreKnown (world_of v).classes (record { regs = regs; stack = given })
  known-here i there visits arrival regs stack given coming a =
      (is.sound i.place (record { regs = regs; stack = given })
      (record { visits = visits; after = coming.met i.place given (goes_there (inside m (is.order m.code) i there)) a })).known
