-- What two acts that are the same lead to, where the first leads to no fault.
use Rattle.std.proofs.Common.{◌≡◌, ℕ, suc, ◌+◌, ◌<◌, ◌≤◌, Bool, true, false, if◌then◌else◌, List, [], ◌∷◌, ◌++◌, length}
use Rattle.std.proofs.Common.{map, refl, sym, ap, ◌∙◌, subst, arith}
use Rattle.std.specs.Prelude.{ℤ, pos, negsuc, nat_lt, nat_le, Option, Some, None, All, slice_get}
use Rattle.std.proofs.lemmas.Bool.{le-ltb, lt-leb, ltb-false}
use Rattle.std.proofs.lemmas.List.{length-map}
use Rattle.std.proofs.lemmas.Bool.Decides.{nat_tests}
use Rattle.jc_base.specs.World.{Linked}
use Rattle.jc_base.proofs.Lists.{All-slice_get}
use Rattle.jc_decode.specs.declared.insn.Placed.{Placed}
use Rattle.jc_decode.specs.Listing.{targets}
use Rattle.jc_decode.proofs.InstructionLists.{all-are-listed}
use Rattle.jc_control.specs.WellFormed.{IsPlace, IsTargetPlace}
use Rattle.jc_control.proofs.PlacesWithin.{place-inside}
use Rattle.jc_ops.specs.declared.operation.Operation.{Operation}
use Rattle.jc_rules.specs.Footprint.{footprint}
use Rattle.jc_ops.specs.Next.{falls_from}
use Rattle.vm_store.specs.declared.cell.Cell.{Cell}
use Rattle.vm_store.specs.declared.cell.ObjectKind.{ObjectKind}
use Rattle.vm_store.specs.Cells.{tagged}
use Rattle.vm_store.specs.State.{State, Frame, Object, top, other_frames, with_place, with_call, without_frames, frame_limit, arguments}
use Rattle.vm_store.specs.Objects.{has_room}
use Rattle.vm_store.specs.Value.{with_value}
use Rattle.vm_step.specs.declared.ending.Plain.TheVariants.{TooDeep, HeapFull, InterfaceMissing}
use Rattle.vm_step.specs.declared.ending.Ending.TheVariants.{Plain}
use Rattle.vm_step.specs.declared.ending.Fault.{Fault}
use Rattle.vm_step.specs.declared.ending.Fault.TheVariants.{StackFault, JumpFault}
use Rattle.vm_step.specs.Act.{Act, calls}
use Rattle.vm_step.specs.Methods.{code_at, max_stack_of, instruction_at}
use Rattle.vm_step.specs.Performed.{act}
use Rattle.vm_step.specs.Raising.{Outcome, running, ended, ends}
use Rattle.vm_step.specs.Settled.{unless_fault, fault_next, fault_target, is_target_place, is_there}
use Rattle.vm_step.specs.Settled.{place_number, with_new, goes_to, jumps_to, made}
use Rattle.vm_step.specs.Settled.{given_to, return_place}
use Rattle.vm_step.specs.Settled.{entered_call, settled}
use Rattle.vm_step.specs.declared.ending.Value.{Value}
use Rattle.law_sound.proofs.Places.{place-instruction}
use Rattle.law_sound.proofs.Finish.{pick, pick-yes}
use Rattle.law_erasure.specs.Erasure.{IsNoFault}
use Rattle.law_alike.specs.Alike.{renamed_cell, StayAlike}
use Rattle.law_alike.specs.Running.{ComeAlike, next_alike, target_alike, call_alike, return_alike, exception_alike, throw_alike, end_alike}
use Rattle.law_alike.proofs.Cells.{new-stays}
use Rattle.law_alike.proofs.Twins.{Pair, first, second, Does, goes_both, leads_both}
use Rattle.law_alike.proofs.Twins.{makes_both, calls_both, gives_both, raises_both, throws_both, lacks_both}

-- ---- tests after an operation

pub unless-none :
    (s : State Cell) (o : Option Fault) (x : Outcome Cell) → IsNoFault (unless_fault s o x) → (o ≡ None) × (unless_fault s o x ≡ x)
unless-none s y x h = grind (arith)

pub both-passed : {X : Type 0} (x y : X) (a b : Bool) → (if a then Some x else if b then Some y else None) ≡ None → (a ≡ false) × (b ≡ false)
both-passed x y z b h = grind (arith)

pub picked-last :
    {X : Type 0} (x y : X) (a b : Bool) → (if a then Some x else if b then None else Some y) ≡ None → (a ≡ false) × (b ≡ true)
picked-last x y z b h = grind (arith)

-- a target of code that is an instruction's place
target-there : (code : List ℕ) (to : ℤ) → IsTargetPlace code to → (p : ℕ) × (to ≡ pos p) × (is_target_place code to ≡ true)
target-there code (pos p) at = let found = place-instruction code p at in (p, refl, ap is_there found.1)
target-there code (negsuc n) at = absurd at

is-place : (code : List ℕ) (to : ℤ) → is_target_place code to ≡ true → to ≡ pos (place_number to)
is-place code y h = grind (arith)

-- ---- a caller that a method gives a value

abbrev pub after_call : Linked → Frame Cell → ℕ
after_call x f = return_place (instruction_at (code_at x f.method) f.place)

abbrev pub given_frame : Linked → List Cell → Frame Cell → Frame Cell
given_frame x cells f = record { method = f.method; place = after_call x f; registers = f.registers; stack = with_value cells f.stack }

pub given-goes :
    (x : Linked) (value : Value) (cells : List Cell) (f : Frame Cell) (fs : List (Frame Cell)) (heap : List (Object Cell)) (statics : List Cell)
    → given_to tagged x value cells (record { frames = f ∷ fs; heap = heap; statics = statics })
    ≡ goes_to tagged x (after_call x f) (record { frames = f ∷ fs; heap = heap; statics = statics })
    (record { frames = record f { stack = with_value cells f.stack } ∷ fs; heap = heap; statics = statics })
given-goes x value cells f fs heap statics = grind (arith, nat_tests)

module _ (x : Pair) where
  abbrev e : Cell → Cell
  e = renamed_cell x.rename

  abbrev AfterBoth : State Cell → State Cell → Type 0
  AfterBoth z y = StayAlike e x.print x.other_print (first x) z (second x) y

  -- ---- other places, and a new object

  others-are : (z : State Cell) (rest : List (Frame Cell)) → z.frames ≡ top z ∷ rest → other_frames z.frames ≡ rest
  others-are z rest h = ap other_frames h

  placed : (z y : State Cell) (p q : ℕ) → AfterBoth z y → AfterBoth (with_place z p) (with_place y q)
  placed z y p q h = grind (arith, others-are, suc)

  renewed :
      (z y : State Cell) (kind : ObjectKind) (cs : List Cell) (c d : Cell) (p q : ℕ) → d ≡ e c → map e cs ≡ cs → AfterBoth z y
      → AfterBoth (with_place (with_new z kind cs c) p) (with_place (with_new y kind cs d) q)
  renewed z y kind cs c d p q same stay h =
      let one = others-are z x.below h.first.frames in
      let two = others-are y x.under h.second.frames in
      record {
        alike = record {
          frames =
              ap (λ (fs : List (Frame Cell)). suc (length fs)) two
              ∙ (ap suc x.depth ∙ sym (ap (λ (fs : List (Frame Cell)). suc (length fs)) one));
          stack = cc (same, h.alike.stack);
          heap = ap (λ os. os ++ record { kind = kind; cells = cs } ∷ []) h.alike.heap;
          statics = h.alike.statics;
          objects_stay = new-stays x.rename z.heap kind cs h.alike.objects_stay stay;
          statics_stay = h.alike.statics_stay;
        };
        first = grind (arith);
        second = grind (arith);
        written = h.written;
      }

  -- ---- endings

  ended-same : (z y : State Cell) → AfterBoth z y → without_frames y ≡ without_frames z
  ended-same z y h = grind (arith)

  room-same : (z y : State Cell) (n : ℕ) → AfterBoth z y → has_room y n ≡ has_room z n
  room-same z y n h = grind (arith)

  depth-same : (z y : State Cell) → AfterBoth z y → length (top y).stack ≡ length (top z).stack
  depth-same z y h = ap length h.alike.stack ∙ length-map (top z).stack e

  -- ---- what is led to

  module _
      (v w : Linked) (i j : Placed) (a b : Operation)
      (print_is : x.print ≡ footprint v a) (other_is : x.other_print ≡ footprint v b)
      (led : x.targets ≡ targets (code_at v x.frame.method) i) (also : x.other_targets ≡ targets (code_at w x.method) j)
      (leads : All (IsTargetPlace (code_at w x.method)) (targets (code_at w x.method) j))
      (falls_is : x.falls ≡ falls_from b)
      (goes_on : x.falls ≡ true → IsPlace (code_at w x.method) (j.place + j.insn.len))
      (room : max_stack_of v x.frame.method ≤ max_stack_of w x.method) where
    abbrev Come : Outcome Cell → Outcome Cell → Type 0
    Come o p = ComeAlike tagged e v w (first x) (second x) i j a b o p

    abbrev next : ℕ
    next = i.place + i.insn.len

    abbrev after : ℕ
    after = j.place + j.insn.len

    by-footprints : (z y : State Cell) → AfterBoth z y → StayAlike e (footprint v a) (footprint v b) (first x) z (second x) y
    by-footprints z y h = grind (arith)

    come : (o p u r : Outcome Cell) → o ≡ u → p ≡ r → Come u r → Come o p
    come o p u r k l c = subst (λ n. Come n p) (sym k) (subst (λ n. Come u n) (sym l) c)

    -- the second has room where the first has
    fits :
        (z y : State Cell) (more : ℕ) → AfterBoth z y → nat_lt (max_stack_of v (top z).method) (length (top z).stack + more) ≡ false
        → nat_lt (max_stack_of w (top y).method) (length (top y).stack + more) ≡ false
    fits z y more h ok = grind (arith, ltb-false, depth-same, le-ltb)

    inside :
        (y : State Cell) → (top y).method ≡ x.method → x.falls ≡ true → nat_le (length (code_at w (top y).method)) after ≡ false
    inside y k falls =
        let code : List ℕ = code_at w x.method in
        let lt : after < length code = place-inside code (all-are-listed code) after (goes_on falls) in
        subst (λ n. nat_le (length (code_at w n)) after ≡ false) (sym k) (lt-leb (length code) after lt)

    -- the test after an operation that leaves so many cells more
    next-fits :
        (z y : State Cell) (more : ℕ) → AfterBoth z y → x.falls ≡ true → fault_next tagged v z (length (top z).stack + more) next
        ≡ None
        → fault_next tagged w y (length (top y).stack + more) after ≡ None
    next-fits z y more h falls ok =
        pick (Some StackFault) (Some JumpFault) (nat_lt (max_stack_of w (top y).method) (length (top y).stack + more))
        (nat_le (length (code_at w (top y).method)) after)
        (fits z y more h
        (both-passed StackFault JumpFault (nat_lt (max_stack_of v (top z).method) (length (top z).stack + more))
        (nat_le (length (code_at v (top z).method)) next) ok).0)
        (inside y h.second.method falls)

    no-more : (n : ℕ) → n + 0 ≡ n
    no-more n = omega arith

    goes-come :
        (z y : State Cell) → x.falls ≡ true → AfterBoth z y → IsNoFault (goes_to tagged v next (first x) z)
        → Come (goes_to tagged v next (first x) z) (goes_to tagged w after (second x) y)
    goes-come z y falls h no_fault =
        let passed = unless-none (first x) (fault_next tagged v z (length (top z).stack) next) (running (with_place z next))
        no_fault in
        let ok : fault_next tagged v z (length (top z).stack + 0) next ≡ None =
        ap (λ n. fault_next tagged v z n next) (no-more (length (top z).stack)) ∙ passed.0 in
        let fine : fault_next tagged w y (length (top y).stack) after ≡ None =
        ap (λ n. fault_next tagged w y n after) (sym (no-more (length (top y).stack))) ∙ next-fits z y 0 h falls ok in
        come (goes_to tagged v next (first x) z) (goes_to tagged w after (second x) y) (running (with_place z next))
        (running (with_place y after))
        passed.1 (ap (λ o. unless_fault (second x) o (running (with_place y after))) fine)
        (next_alike (by-footprints (with_place z next) (with_place y after) (placed z y next after h)) (sym falls_is ∙ falls) refl refl)

    leads-come :
        (n : ℕ) (to on : ℤ) (z y : State Cell) → slice_get x.targets n ≡ Some to → slice_get x.other_targets n ≡ Some on
        → AfterBoth z y → IsNoFault (jumps_to tagged v to z) → Come (jumps_to tagged v to z) (jumps_to tagged w on y)
    leads-come n to on z y here there h no_fault =
        let passed = unless-none z (fault_target tagged v z to) (running (with_place z (place_number to))) no_fault in
        let tests = picked-last StackFault JumpFault (nat_lt (max_stack_of v (top z).method) (length (top z).stack))
        (is_target_place (code_at v (top z).method) to) passed.0 in
        let own : slice_get (targets (code_at w x.method) j) n ≡ Some on = ap (λ ts. slice_get ts n) (sym also) ∙ there in
        let found = target-there (code_at w x.method) on
        (All-slice_get (IsTargetPlace (code_at w x.method)) (targets (code_at w x.method) j) n on leads own) in
        let roomy : nat_lt (max_stack_of w (top y).method) (length (top y).stack) ≡ false =
        ap (nat_lt (max_stack_of w (top y).method)) (sym (no-more (length (top y).stack)))
        ∙ fits z y 0 h (ap (nat_lt (max_stack_of v (top z).method)) (no-more (length (top z).stack)) ∙ tests.0) in
        let fine : fault_target tagged w y on ≡ None =
        pick-yes (Some StackFault) (Some JumpFault) (nat_lt (max_stack_of w (top y).method) (length (top y).stack))
        (is_target_place (code_at w (top y).method) on) roomy
        (ap (λ m. is_target_place (code_at w m) on) h.second.method ∙ found.2) in
        come (jumps_to tagged v to z) (jumps_to tagged w on y) (running (with_place z (place_number to)))
        (running (with_place y (place_number on)))
        passed.1 (ap (λ o. unless_fault y o (running (with_place y (place_number on)))) fine)
        (target_alike n (by-footprints (with_place z (place_number to)) (with_place y (place_number on))
        (placed z y (place_number to) (place_number on) h))
        (ap (λ ts. slice_get ts n) (sym led) ∙ (here ∙ ap (λ k. Some k) (is-place (code_at v (top z).method) to tests.1)))
        (own ∙ ap (λ k. Some k) (is-place (code_at w x.method) on found.2)))

    if-come : (r : Bool) (o p u t : Outcome Cell) → Come o u → Come p t → Come (if r then o else p) (if r then u else t)
    if-come x o p u t k l = grind (arith)

    end-come : (z y : State Cell) → AfterBoth z y → Come (ends (Plain HeapFull) z) (ends (Plain HeapFull) y)
    end-come z y h =
        come (ends (Plain HeapFull) z) (ends (Plain HeapFull) y) (ended (Plain HeapFull) (without_frames z))
        (ended (Plain HeapFull) (without_frames z))
        refl (ap (λ k. ended (Plain HeapFull) k) (ended-same z y h)) (end_alike HeapFull (without_frames z))

    makes-come :
        (kind : ObjectKind) (cs : List Cell) (reference other : ℕ → Cell) (z y : State Cell)
        → x.falls ≡ true → ((h : ℕ) → other h ≡ e (reference h)) → map e cs ≡ cs → AfterBoth z y
        → IsNoFault (made tagged v next kind cs reference z)
        → Come (made tagged v next kind cs reference z) (made tagged w after kind cs other y)
    makes-come kind cs reference other z y falls same stay h no_fault =
        let c : Cell = reference (length z.heap + 1) in
        let d : Cell = other (length y.heap + 1) in
        let new : Outcome Cell = running (with_place (with_new z kind cs c) next) in
        let also_new : Outcome Cell = running (with_place (with_new y kind cs d) after) in
        let whole : Outcome Cell = if has_room z (length cs) then new else ends (Plain HeapFull) z in
        let other_whole : Outcome Cell = if has_room y (length cs) then also_new else ends (Plain HeapFull) y in
        let passed = unless-none z (fault_next tagged v z (length (top z).stack + 1) next) whole no_fault in
        let d_is : d ≡ e c = ap (λ (os : List (Object Cell)). other (length os + 1)) h.alike.heap ∙ same (length z.heap + 1) in
        come (made tagged v next kind cs reference z) (made tagged w after kind cs other y) whole
        (if has_room z (length cs) then also_new else ends (Plain HeapFull) y)
        passed.1
        (ap (λ o. unless_fault y o other_whole) (next-fits z y 1 h falls passed.0)
        ∙ ap (λ r. if r then also_new else ends (Plain HeapFull) y) (room-same z y (length cs) h))
        (if-come (has_room z (length cs)) new (ends (Plain HeapFull) z) also_new (ends (Plain HeapFull) y)
        (next_alike (by-footprints (with_place (with_new z kind cs c) next) (with_place (with_new y kind cs d) after)
        (renewed z y kind cs c d next after d_is stay h)) (sym falls_is ∙ falls) refl refl)
        (end-come z y h))

    calls-come :
        (method count : ℕ) (z y : State Cell) → AfterBoth z y → (top z).place ≡ x.frame.place → (top y).place ≡ x.place
        → arguments count (top y).stack ≡ arguments count (top z).stack
        → act tagged v i.insn a (first x) ≡ calls method count z
        → Come (entered_call tagged v method count z) (entered_call tagged w method count y)
    calls-come method count z y h here there same own =
        come (entered_call tagged v method count z) (entered_call tagged w method count y)
        (entered_call tagged v method count z)
        (if nat_lt (length z.frames) frame_limit then running (with_call tagged w.methods y method count) else ends (Plain TooDeep)
        y)
        refl (ap (λ n. if nat_lt n frame_limit then running (with_call tagged w.methods y method count) else ends (Plain TooDeep) y)
        h.alike.frames)
        (if-come (nat_lt (length z.frames) frame_limit) (running (with_call tagged v.methods z method count))
        (ends (Plain TooDeep) z)
        (running (with_call tagged w.methods y method count)) (ends (Plain TooDeep) y)
        (call_alike method count (by-footprints z y h) here there same own refl refl)
        (come (ends (Plain TooDeep) z) (ends (Plain TooDeep) y) (ended (Plain TooDeep) (without_frames z))
        (ended (Plain TooDeep) (without_frames z))
        refl (ap (λ k. ended (Plain TooDeep) k) (ended-same z y h)) (end_alike TooDeep (without_frames z))))

    pub settles :
        {deed other : Act Cell} → act tagged v i.insn a (first x) ≡ deed → Does x deed other
        → IsNoFault (settled tagged v next (first x) deed)
        → Come (settled tagged v next (first x) deed) (settled tagged w after (second x) other)
    settles own (goes_both {z = z} {y = y} falls h) no_fault = goes-come z y falls h no_fault
    settles own (leads_both n {to = to} {on = on} {z = z} {y = y} here there h) no_fault = leads-come n to on z y here there h no_fault
    settles own (makes_both {kind = k} {cs = cs} {reference = r} {other = u} {z = z} {y = y} falls same stay h) no_fault =
        makes-come k cs r u z y falls same stay h no_fault
    settles own (calls_both method count {z = z} {y = y} h here there same) no_fault = calls-come method count z y h here there same own
    settles own (gives_both value cs plain) no_fault = return_alike value cs plain own refl refl
    settles own (raises_both exception) no_fault = exception_alike exception own refl refl
    settles own (throws_both handle) no_fault = throw_alike handle own refl refl
    settles own (lacks_both class) no_fault = end_alike (InterfaceMissing class) (without_frames (first x))
