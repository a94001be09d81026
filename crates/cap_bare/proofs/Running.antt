-- Code with a card typing never meets a fault.
use Rattle.std.proofs.Common.{◌≡◌, ◌∙◌, sym, ap, subst, ℕ, zero, suc, ◌+◌, ◌-◌, ◌<◌, ◌≤◌, Bool, true, false, Option}
use Rattle.std.proofs.Common.{Result, Ok, Err, List, [], length, drop, replicate, refl, arith, inl, inr, ◌⊎◌, ⊎_elim, Contains}
use Rattle.std.proofs.lemmas.Bool.{ltb-true, lt-ltb, le-ltb, ltb-false}
use Rattle.std.proofs.lemmas.List.{length-replicate, length-append, length-drop}
use Rattle.std.proofs.lemmas.List.Elements.{All-contains}
use Rattle.std.proofs.Math.ListN.{length-set}
use Rattle.std.specs.Prelude.{if◌then◌else◌, ℤ, pos, IfSome, MatchBool, nat_lt}
use Rattle.jc_decode.specs.declared.insn.CodeEnd.{CodeEnd}
use Rattle.cap_bare.specs.declared.format.Bare.{Bare}
use Rattle.jc_decode.specs.declared.insn.Insn.{Insn}
use Rattle.jc_decode.specs.declared.insn.Placed.{Placed}
use Rattle.jc_decode.specs.Listing.{falls, jumps, targets}
use Rattle.jc_decode.specs.Places.{place_after}
use Rattle.cap_bare.specs.declared.instruction.Instruction.{Instruction}
use Rattle.cap_bare.specs.declared.instruction.Instruction.TheVariants.{Nop, Push, Load, Store, Increment, Pop, Duplicate, Negate, ToByte, Binary, Test}
use Rattle.cap_bare.specs.declared.instruction.Instruction.TheVariants.{Compare, Goto, Return}
use Rattle.cap_bare.specs.Format.{is_bare, instruction_of}
use Rattle.cap_bare.specs.Effects.{register_of, cells_taken, cells_given}
use Rattle.cap_bare.specs.Code.{fetched, HasInstruction, IsPlace, IsTargetPlace}
use Rattle.cap_bare.specs.Typing.{Kind, shorts, register_count, IsTyped, BareTyping}
use Rattle.cap_bare.specs.Walk.{is_place}
use Rattle.cap_bare.specs.Machine.{BareFrame, BareState, BareOutcome, running, returned, faulted, jump_fault, local_fault, stack_fault, Lead, leads}
use Rattle.cap_bare.specs.Machine.{gives, frame}
use Rattle.cap_bare.specs.Machine.{top_of_stack, acted, acts, branch_target, has_register, place_number, settled, performed, step, go_on, after}
use Rattle.cap_bare.specs.Machine.{IsFault, IsSafe, IsFaultFree}
use Rattle.cap_bare.proofs.Operands.{branches, goes_on as falls_on, branches-jumps, goes_on-falls}
use Rattle.cap_bare.proofs.Instructions.{here, is-here, fetched-bare, reached-first, stands-at, stands-here, stands-next, ends-at}
use Rattle.cap_bare.proofs.Places.{place-true, leads-there, branch-leads}
use Rattle.cap_bare.proofs.Rule.{shorts-length}

-- where an instruction may lead, and what it does to the numbers of registers and of cells
pub data IsActed (i : Instruction) (t : ℤ) (next : ℕ) (r s : List ℤ) : Lead → Type 0 where
  acts_on : (to : ℤ) (f : BareFrame) → ((to ≡ pos next) × (falls_on i ≡ true)) ⊎ ((to ≡ t) × (branches i ≡ true))
      → length f.registers ≡ length r → length f.stack ≡ length s - cells_taken i + cells_given i
      → IsActed i t next r s (leads to f)
  acts_out : (n : ℤ) → cells_given i ≡ 0 → IsActed i t next r s (gives n)

acted-either : (i : Instruction) (t : ℤ) (next : ℕ) (r s : List ℤ) (b : Bool) (f : BareFrame) → branches i ≡ true → falls_on i ≡ true
    → length f.registers ≡ length r → length f.stack ≡ length s - cells_taken i + cells_given i
    → IsActed i t next r s (leads (if b then t else pos next) f)
acted-either i t next r s true f e g k l = acts_on t f (inr (refl, e)) k l
acted-either i t next r s false f e g k l = acts_on (pos next) f (inl (refl, g)) k l

acted-is : (i : Instruction) (t : ℤ) (next : ℕ) (r s : List ℤ) → cells_taken i ≤ length s
    → IsActed i t next r s (acted i t next r s)
acted-is Nop t next r s h = acts_on _ _ (inl (refl, refl)) refl (omega arith)
acted-is (Push n) t next r s h = acts_on _ _ (inl (refl, refl)) refl (omega arith)
acted-is (Load x) t next r s h = acts_on _ _ (inl (refl, refl)) refl (omega arith)
acted-is (Store x) t next r s h = acts_on _ _ (inl (refl, refl)) (length-set r x (top_of_stack s)) (omega (arith, length-drop 1 s))
acted-is (Increment x n) t next r s h = acts_on _ _ (inl (refl, refl)) (length-set r x _) (omega arith)
acted-is Pop t next r s h = acts_on _ _ (inl (refl, refl)) refl (omega (arith, length-drop 1 s))
acted-is Duplicate t next r s h = acts_on _ _ (inl (refl, refl)) refl (omega arith)
acted-is Negate t next r s h = acts_on _ _ (inl (refl, refl)) refl (omega (arith, length-drop 1 s))
acted-is ToByte t next r s h = acts_on _ _ (inl (refl, refl)) refl (omega (arith, length-drop 1 s))
acted-is (Binary o) t next r s h = acts_on _ _ (inl (refl, refl)) refl (omega (arith, length-drop 2 s))
acted-is (Test c) t next r s h = grind (arith, acted-either, drop, length-drop)
acted-is (Compare c) t next r s h = grind (arith, acted-either, drop, length-drop)
acted-is Goto t next r s h = acts_on t (frame r s) (inr (refl, refl)) refl (omega arith)
acted-is Return t next r s h = acts_out (top_of_stack s) refl

-- where an instruction of the code may lead
abbrev pub IsActing : List ℕ → Placed → BareFrame → Lead → Type 0
IsActing code i f l = IsActed (instruction_of i.insn) (branch_target code i) (place_after i) f.registers f.stack l

pub acting : (code : List ℕ) (i : Placed) (f : BareFrame) → cells_taken (instruction_of i.insn) ≤ length f.stack
    → IsActing code i f (acts code i f)
acting code i f h = acted-is (instruction_of i.insn) (branch_target code i) (place_after i) f.registers f.stack h

has-register : (bare : Bare) (o : Option ℕ) → IfSome o (λ x. x < register_count bare) → has_register bare o ≡ true
has-register bare x h = grind (arith, lt-ltb)

register-there : (bare : Bare) (o : Option ℕ) → has_register bare o ≡ true → IfSome o (λ x. x < register_count bare)
register-there bare x h = grind (arith, ltb-true)

module _ (code : List ℕ) (bare : Bare) where
  -- a step's tests, passed
  pub record Sound (s : BareState) (i : Insn) : Type 0 where
    pub found : fetched code s.place ≡ Ok i
    pub local : IfSome (register_of (instruction_of i)) (λ x. x < register_count bare)
    pub cells : cells_taken (instruction_of i) ≤ length s.frame.stack
    pub is : step code bare s ≡ settled code bare (acts code (here s.place i) s.frame)

  -- a step that meets no fault passes them
  abbrev NoFault : BareOutcome → Type 0
  NoFault o = IsFault o → ⊥

  sound-from : (s : BareState) (b : Bool) → is_place code (pos s.place) ≡ b → (r : Result Insn CodeEnd) → fetched code s.place ≡ r
      → step code bare s ≡ (if b then performed code bare s r else faulted jump_fault)
      → NoFault (if b then performed code bare s r else faulted jump_fault) → (i : Insn) × Sound s i
  sound-from s false p r f e h = absurd (h tt)
  sound-from s true p (Err end) f e h = absurd (h tt)
  sound-from s true p (Ok i) f e h =
      by_tests (has_register bare (register_of (instruction_of i))) refl (nat_lt (length s.frame.stack) (cells_taken (instruction_of i))) refl e h
    where
      by_tests : (b : Bool) → has_register bare (register_of (instruction_of i)) ≡ b → (c : Bool)
          → nat_lt (length s.frame.stack) (cells_taken (instruction_of i)) ≡ c
          → step code bare s
          ≡ (if b then (if c then faulted stack_fault else settled code bare (acts code (here s.place i) s.frame)) else faulted local_fault)
          → NoFault (if b then (if c then faulted stack_fault else settled code bare (acts code (here s.place i) s.frame)) else faulted local_fault)
          → (i : Insn) × Sound s i
      by_tests false l c k e h = absurd (h tt)
      by_tests true l true k e h = absurd (h tt)
      by_tests true l false k e h = (
        i,
        record {
          found = f;
          local = register-there bare (register_of (instruction_of i)) l;
          cells = ltb-false _ _ k;
          is = e;
        },
      )

  pub sound : (s : BareState) → (IsFault (step code bare s) → ⊥) → (i : Insn) × Sound s i
  unfolding step
  sound s h = sound-from s (is_place code (pos s.place)) refl (fetched code s.place) refl refl h

  -- where a frame goes on, it has room and stands before an instruction
  pub record Settled (to : ℤ) (f : BareFrame) : Type 0 where
    pub room : length f.stack ≤ bare.max_stack
    pub there : is_place code to ≡ true
    pub is : settled code bare (leads to f) ≡ running (record { place = place_number to; frame = f })

  pub settled-from : (to : ℤ) (f : BareFrame) → (IsFault (settled code bare (leads to f)) → ⊥) → Settled to f
  settled-from to f h = by_tests (nat_lt bare.max_stack (length f.stack)) refl (is_place code to) refl refl h
    where
      by_tests : (b : Bool) → nat_lt bare.max_stack (length f.stack) ≡ b → (c : Bool) → is_place code to ≡ c
          → settled code bare (leads to f)
          ≡ (if b then faulted stack_fault else if c then running (record { place = place_number to; frame = f }) else faulted jump_fault)
          → (IsFault (if b then faulted stack_fault else if c then running (record { place = place_number to; frame = f }) else faulted jump_fault) → ⊥)
          → Settled to f
      by_tests true k c t e h = absurd (h tt)
      by_tests false k false t e h = absurd (h tt)
      by_tests false k true t e h = record { room = ltb-false _ _ k; there = t; is = e }

  -- a run that meets no fault takes a step that meets none, and goes on so
  pub safe-step : (s : BareState) → IsSafe code bare s → IsFault (step code bare s) → ⊥
  unfolding after
  safe-step s safe h = by_outcome (step code bare s) h (safe 1)
    where
      by_outcome : (o : BareOutcome) → IsFault o → (IsFault (go_on o (after 0 code bare)) → ⊥) → ⊥
      by_outcome (faulted f) h k = k h
      by_outcome (running t) h k = h
      by_outcome (returned n) h k = h

  pub safe-next : (s t : BareState) → step code bare s ≡ running t → IsSafe code bare s → IsSafe code bare t
  unfolding after
  safe-next s t e safe n h =
      safe (suc n) (subst (λ (o : BareOutcome). IsFault (go_on o (after n code bare))) (sym e) h)

  pub after-next : (n : ℕ) (s t : BareState) → step code bare s ≡ running t → after (suc n) code bare s ≡ after n code bare t
  unfolding after
  after-next n s t e = rw e refl

  pub after-end : (n : ℕ) (s : BareState) (v : ℤ) → step code bare s ≡ returned v → after (suc n) code bare s ≡ returned v
  unfolding after
  after-end n s v e = rw e refl

  pub after-none : (s : BareState) → after 0 code bare s ≡ running s
  unfolding after
  after-none s = refl

  module _ (filled : 1 ≤ length code) (t : BareTyping code bare) where
    -- an instruction stands at the first place, and after each but the last
    first-place : IsPlace code 0
    first-place = by_found (fetched code 0) refl
      where
        by_found : (q : Result Insn CodeEnd) → fetched code 0 ≡ q → IsPlace code 0
        by_found (Ok i) e = (here 0 i, stands-at code 0 (here 0 i) (reached-first code) (is-here code 0 i e), refl)
        by_found (Err end) e = let ends = ends-at code 0 end (reached-first code) e in absurd (omega (arith, ends, t.well_formed.ends, filled))

    next-place : (i : Placed) → HasInstruction code i → place_after i < length code → IsPlace code (place_after i)
    next-place i s lt = ⊎_elim (λ e. absurd (omega (arith, e, t.well_formed.ends, lt))) (λ j. j) (stands-next code i s)

    -- a state has the registers, the cells and a place that the typing says
    record Agrees (s : BareState) : Type 0 where
      place : IsPlace code s.place
      registers : length s.frame.registers ≡ register_count bare
      stack : length s.frame.stack ≡ length (t.stacks s.place)

    data Goes (s : BareState) : Type 0 where
      goes_on : (next : BareState) → step code bare s ≡ running next → Agrees next → Goes s
      goes_out : (n : ℤ) → step code bare s ≡ returned n → Goes s

    settled-is : (to : ℤ) (f : BareFrame) → length f.stack ≤ bare.max_stack → is_place code to ≡ true
        → settled code bare (leads to f) ≡ running (record { place = place_number to; frame = f })
    settled-is to f room p = let k = le-ltb bare.max_stack (length f.stack) room in rw (k, p) refl

    -- the place that an instruction leads to has the stack that it leaves
    record Next (left : List Kind) (to : ℤ) : Type 0 where
      place : ℕ
      is : to ≡ pos place
      there : IsPlace code place
      stack : length (t.stacks place) ≡ length left

    next-falls : (i : Placed) (k : IsTyped code bare t.registers t.stacks i) → HasInstruction code i → (b : Bool) → b ≡ true
        → MatchBool b ((place_after i < length code) × (t.stacks (place_after i) ≡ k.after)) (t.stacks (place_after i) ≡ [])
        → Next k.after (pos (place_after i))
    next-falls i k s x e h = grind (arith, next-place, length)

    next-branch : (i : Placed) (k : IsTyped code bare t.registers t.stacks i) → HasInstruction code i → (to : ℤ) → jumps i.insn.op ≡ true
        → Contains (targets code i) to → IsTargetPlace code to → Next k.after to
    next-branch i k s x j c h = grind (arith, length, k)

    abbrev LeadsTo : Placed → ℤ → Type 0
    LeadsTo i to =
        ((to ≡ pos (place_after i)) × (falls_on (instruction_of i.insn) ≡ true))
        ⊎ ((to ≡ branch_target code i) × (branches (instruction_of i.insn) ≡ true))

    next-of : (i : Placed) (k : IsTyped code bare t.registers t.stacks i) → HasInstruction code i → (to : ℤ)
        → LeadsTo i to
        → Next k.after to
    next-of i k s to where_to = by_case where_to
      where
        bare_one : is_bare i.insn.op ≡ true
        bare_one = fetched-bare code i.place i.insn (stands-here code i s).found

        by_case : LeadsTo i to
            → Next k.after to
        by_case (inl h) = subst (Next k.after) (sym h.0) (next-falls i k s (falls i.insn.op) (goes_on-falls i.insn bare_one h.1) k.next)
        by_case (inr h) =
            let j = branches-jumps i.insn bare_one h.1 in
            let leads : Contains (targets code i) to = subst (Contains (targets code i)) (sym (h.0 ∙ branch-leads code i j)) (leads-there code i j) in
            next-branch i k s to j leads (All-contains (IsTargetPlace code) (targets code i) to (t.well_formed.leads i s) leads)

    -- the tests before an instruction pass
    performed-is : (s : BareState) (i : Insn) → Agrees s → fetched code s.place ≡ Ok i
        → has_register bare (register_of (instruction_of i)) ≡ true
        → cells_taken (instruction_of i) ≤ length s.frame.stack
        → step code bare s ≡ settled code bare (acts code (here s.place i) s.frame)
    unfolding step
    performed-is s i a f r c =
        let p : is_place code (pos s.place) ≡ true = place-true code (pos s.place) a.place in
        let k = le-ltb (length s.frame.stack) (cells_taken (instruction_of i)) c in rw (p, f, r, k) refl

    one-step : (s : BareState) → Agrees s → Goes s
    one-step s a =
        by_lead (acts code i s.frame)
        (acting code i s.frame cells)
        (performed-is s i.insn a f (has-register bare (register_of (instruction_of i.insn)) k.applies.local) cells
        ∙ ap (λ (j : Placed). settled code bare (acts code j s.frame)) same)
      where
        i : Placed
        i = a.place.0

        f : fetched code s.place ≡ Ok i.insn
        f = subst (λ (p : ℕ). fetched code p ≡ Ok i.insn) a.place.2 (stands-here code i a.place.1).found

        same : here s.place i.insn ≡ i
        same = ap (λ (p : ℕ). here p i.insn) (sym a.place.2)

        k : IsTyped code bare t.registers t.stacks i
        k = t.typed i a.place.1

        depth : length s.frame.stack ≡ cells_taken (instruction_of i.insn) + length k.applies.rest
        depth =
            a.stack ∙ ap (λ (p : ℕ). length (t.stacks p)) (sym a.place.2) ∙ ap length k.applies.takes
            ∙ length-append (shorts (cells_taken (instruction_of i.insn))) k.applies.rest
            ∙ ap (λ (n : ℕ). n + length k.applies.rest) (shorts-length (cells_taken (instruction_of i.insn)))

        left : length k.after ≡ cells_given (instruction_of i.insn) + length k.applies.rest
        left =
            ap length k.applies.gives
            ∙ length-append (shorts (cells_given (instruction_of i.insn))) k.applies.rest
            ∙ ap (λ (n : ℕ). n + length k.applies.rest) (shorts-length (cells_given (instruction_of i.insn)))

        cells : cells_taken (instruction_of i.insn) ≤ length s.frame.stack
        cells = let d = depth in omega arith

        by_lead : (l : Lead) → IsActing code i s.frame l → step code bare s ≡ settled code bare l → Goes s
        by_lead _ (acts_on to g where_to r c) e =
            let n = next-of i k a.place.1 to where_to in
            let d = depth in
            let l = left in
            let same : length g.stack ≡ length k.after = omega arith in
            let room : length g.stack ≤ bare.max_stack = omega (arith, same, k.applies.room) in
            let here : IsTargetPlace code to = subst (IsTargetPlace code) (sym n.is) n.there in
            let at : place_number to ≡ n.place = ap place_number n.is in
            goes_on (record { place = place_number to; frame = g }) (e ∙ settled-is to g room (place-true code to here))
            (record {
              place = subst (IsPlace code) (sym at) n.there;
              registers = r ∙ a.registers;
              stack = same ∙ sym n.stack ∙ ap (λ (p : ℕ). length (t.stacks p)) (sym at);
            })
        by_lead _ (acts_out n z) e = goes_out n e

    safe : (n : ℕ) (s : BareState) → Agrees s → IsFault (after n code bare s) → ⊥
    unfolding after
    safe zero s a h = h
    safe (suc n) s a h = by_step (one-step s a) (safe n)
      where
        by_step : Goes s → ((u : BareState) → Agrees u → IsFault (after n code bare u) → ⊥) → ⊥
        by_step (goes_on next e b) more = more next b (subst (λ (o : BareOutcome). IsFault (go_on o (after n code bare))) e h)
        by_step (goes_out v e) more = subst (λ (o : BareOutcome). IsFault (go_on o (after n code bare))) e h

    pub fault-free : IsFaultFree code bare
    fault-free args e n h = grind (arith, safe, first-place, length-append, replicate, length-replicate, length)
