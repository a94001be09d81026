-- The events of a walk over the code are what is met.
use Rattle.std.proofs.Common.{◌≡◌, ℕ, zero, suc, ◌+◌, ◌<◌, ◌≤◌, ◌⊎◌, inl, inr, Bool, true, false, nat_le, nat_lt}
use Rattle.std.proofs.Common.{if◌then◌else◌, List, [], ◌∷◌, ◌++◌, length, reverse, flat_map, Option, Some, None, Result, Ok, IsSomeAnd}
use Rattle.std.proofs.Common.{slice_get, refl, sym, ◌∙◌, ap, subst, arith}
use Rattle.std.proofs.lemmas.Bool.{false≢true, and_parts, or_cases, or_right, or_left}
use Rattle.std.proofs.lemmas.Bool.Decides.{nat_tests}
use Rattle.std.proofs.lemmas.Option.{slice_get_within, same_Some}
use Rattle.std.proofs.lemmas.List.Concat.{flat_map-cons}
use Rattle.jc_base.specs.declared.ty.Ty.{Ty}
use Rattle.jc_base.specs.declared.record.Handler.{Handler}
use Rattle.jc_base.specs.Each.{IsAmong}
use Rattle.jc_base.proofs.Eaching.{Contains-from_IsAmong, IsAmong-from_Contains}
use Rattle.jc_base.specs.World.{Linked}
use Rattle.jc_decode.specs.declared.insn.Placed.{Placed}
use Rattle.jc_decode.specs.Listing.{listing}
use Rattle.jc_ops.specs.declared.fault.RuleFault.{RuleFault}
use Rattle.jc_ops.specs.declared.operation.Operation.{Operation}
use Rattle.jc_ops.specs.Row.{row_at}
use Rattle.jc_ops.specs.Resolve.{resolved}
use Rattle.jc_control.specs.Flags.{flag, Marks}
use Rattle.jc_control.specs.Method.{Method}
use Rattle.jc_control.specs.WellFormed.{HasInstruction, IsPlace}
use Rattle.jc_control.specs.Control.{IsReached, IsLeader, Covers}
use Rattle.jc_decode.specs.Laws.{AreListed}
use Rattle.jc_rules.specs.Demand.{Frame}
use Rattle.jc_rules.specs.Footprint.{footprint}
use Rattle.xf_homes.specs.declared.home.Home.{Home}
use Rattle.xf_homes.specs.Value.{value_of, value_in_cells}
use Rattle.xf_homes.specs.Home.{PairSpot, register_count, IsAsked, asked_here, asked_caught, IsConditional, KeepsStack, IsMetAt, met_local, met_cell}
use Rattle.xf_homes.specs.Walk.{Event, local_of, is_covered, caught_of, caught_events, local_events, locals_events, cells_events, operands_of, is_deeper}
use Rattle.xf_homes.specs.Walk.{keeps_stack, stack_events, frame_events, place_events, code_events}
use Rattle.xf_homes.proofs.Events.{Occurs}
use Rattle.xf_homes.proofs.Asking.{nat-cases}

-- ---- occurrences in parts

occurs-left : (xs ys : List Event) (s : PairSpot) (h : Home) → Occurs xs s h → Occurs (xs ++ ys) s h
occurs-left [] ys s h o = absurd o
occurs-left (x ∷ xs) ys s h (inl at) = inl at
occurs-left (x ∷ xs) ys s h (inr o) = inr (occurs-left xs ys s h o)

occurs-right : (xs ys : List Event) (s : PairSpot) (h : Home) → Occurs ys s h → Occurs (xs ++ ys) s h
occurs-right [] ys s h o = o
occurs-right (x ∷ xs) ys s h o = inr (occurs-right xs ys s h o)

occurs-either : (xs ys : List Event) (s : PairSpot) (h : Home) → Occurs (xs ++ ys) s h → Occurs xs s h ⊎ Occurs ys s h
occurs-either [] ys s h o = inr o
occurs-either (x ∷ xs) ys s h (inl at) = inl (inl at)
occurs-either (x ∷ xs) ys s h (inr o) = by (occurs-either xs ys s h o)
  where
    by : Occurs xs s h ⊎ Occurs ys s h → Occurs (x ∷ xs) s h ⊎ Occurs ys s h
    by (inl l) = inl (inr l)
    by (inr r) = inr r

-- ---- values

pub value-inside : (cells : List Ty) (n : ℕ) (ty : Ty) → value_in_cells cells n ≡ Some ty → n < length cells
unfolding value_in_cells
value-inside cells n ty e = by (slice_get cells n) refl e
  where
    by : (o : Option Ty) → slice_get cells n ≡ o → value_of o (slice_get cells (n + 1)) ≡ Some ty → n < length cells
    by None q e = absurd (cc)
    by (Some a) q e = slice_get_within cells n a q

pub local-at : (frames : ℕ → Option Frame) (p x : ℕ) (ty : Ty) (o : Option Frame) → local_of o x ≡ Some ty
    → IsSomeAnd o (λ f. value_in_cells f.regs x ≡ Some ty)
local-at frames p x ty x2 e = grind (arith)

pub at-local : (x : ℕ) (ty : Ty) (o : Option Frame) → IsSomeAnd o (λ f. value_in_cells f.regs x ≡ Some ty) → local_of o x ≡ Some ty
at-local x ty x2 h = grind (arith)

pub covered : (h : Handler) (p : ℕ) → is_covered h p ≡ true → Covers h p
covered h p e = grind (arith, and_parts, nat_le, nat_lt, nat_tests)

pub covers : (h : Handler) (p : ℕ) → Covers h p → is_covered h p ≡ true
covers h p c = grind (arith, nat_le, nat_tests, nat_lt)

-- ---- what is asked for a local

module _ (m : Method) (frames : ℕ → Option Frame) (p x : ℕ) where
  pub caught-asked : (h : Handler) (n : ℕ) (ty : Ty) → slice_get m.rec.handlers n ≡ Some h → (b : Bool) → is_covered h p ≡ b
      → (if b then local_of (frames h.entry) x else None) ≡ Some ty → IsAsked m frames p x (suc n) ty
  caught-asked h n ty at true q e = asked_caught at (covered h p q) (local-at frames p x ty (frames h.entry) e)
  caught-asked h n ty at false q e = absurd (cc)

  -- one of the handlers from number n on
  pub record IsCaughtAt (n : ℕ) (hs : List Handler) (s : PairSpot) (h : Home) : Type 0 where
    pub number : ℕ
    pub handler : Handler
    pub at : slice_get hs number ≡ Some handler
    pub spot : record { place = p; slot = x; time = suc (n + number) } ≡ s
    pub slot : x ≡ h.slot
    pub value : caught_of frames p x handler ≡ Some h.ty

  pub occurs-caught : (n : ℕ) (hs : List Handler) (s : PairSpot) (h : Home) → Occurs (caught_events frames p x n hs) s h → IsCaughtAt n hs s h
  occurs-caught n [] s h o = absurd o
  occurs-caught n (k ∷ ks) s h (inl at) = record {
    number = 0;
    handler = k;
    at = refl;
    spot = let e : n + 0 ≡ n = omega arith in ap (λ (i : ℕ). record { place = p; slot = x; time = suc i }) e ∙ at.spot;
    slot = at.slot;
    value = at.value;
  }
  occurs-caught n (k ∷ ks) s h (inr o) = let r = occurs-caught (suc n) ks s h o in record {
    number = suc r.number;
    handler = r.handler;
    at = r.at;
    spot = let e : n + suc r.number ≡ suc n + r.number = omega arith in ap (λ (i : ℕ). record { place = p; slot = x; time = suc i }) e ∙ r.spot;
    slot = r.slot;
    value = r.value;
  }

  caught-occurs : (n : ℕ) (hs : List Handler) (k : ℕ) (h : Handler) (ty : Ty) → slice_get hs k ≡ Some h → caught_of frames p x h ≡ Some ty
      → Occurs (caught_events frames p x n hs) (record { place = p; slot = x; time = suc (n + k) }) (record { slot = x; ty = ty })
  caught-occurs n [] k h ty at e = absurd (cc)
  caught-occurs n (j ∷ js) zero h ty at e = grind (arith, suc)
  caught-occurs n (j ∷ js) (suc k) h ty at e = grind (arith, suc, caught-occurs (suc n) js k h ty at e)

  occurs-local : (s : PairSpot) (h : Home) → IsReached m p → (w : Linked) → Occurs (local_events frames m.rec.handlers p x) s h → IsMetAt w m frames s h
  unfolding local_events
  occurs-local s h reached w (inl at) =
      subst (λ r. IsMetAt w m frames r h) at.spot
      (subst (λ n. IsMetAt w m frames (record { place = p; slot = x; time = 0 }) (record { slot = n; ty = h.ty })) at.slot
      (met_local reached (asked_here (local-at frames p x h.ty (frames p) at.value))))
  occurs-local s h reached w (inr o) =
      let c = occurs-caught 0 m.rec.handlers s h o in
      let sum : c.number ≡ 0 + c.number = omega arith in
      subst (λ r. IsMetAt w m frames r h) (ap (λ (i : ℕ). record { place = p; slot = x; time = suc i }) sum ∙ c.spot)
      (subst (λ n. IsMetAt w m frames (record { place = p; slot = x; time = suc c.number }) (record { slot = n; ty = h.ty })) c.slot
      (met_local reached (caught-asked c.handler c.number h.ty c.at (is_covered c.handler p) refl c.value)))

  pub local-occurs : (n : ℕ) (ty : Ty) → IsAsked m frames p x n ty
      → Occurs (local_events frames m.rec.handlers p x) (record { place = p; slot = x; time = n }) (record { slot = x; ty = ty })
  unfolding local_events
  local-occurs _ ty (asked_here at) = inl (record { spot = refl; slot = refl; value = at-local x ty (frames p) at })
  local-occurs _ ty (asked_caught {n = n} {h = h} at cov here) =
      let value : caught_of frames p x h ≡ Some ty = rw (covers h p cov) (at-local x ty (frames h.entry) here) in
      let sum : 0 + n ≡ n = omega arith in
      inr (subst (λ i. Occurs (caught_events frames p x 0 m.rec.handlers) (record { place = p; slot = x; time = suc i }) (record { slot = x; ty = ty }))
      sum (caught-occurs 0 m.rec.handlers n h ty at value))

module _ (w : Linked) (m : Method) (frames : ℕ → Option Frame) (p : ℕ) (reached : IsReached m p) where
  occurs-locals : (x n : ℕ) (s : PairSpot) (h : Home) → Occurs (locals_events frames m.rec.handlers p x n) s h → IsMetAt w m frames s h
  occurs-locals x zero s h o = absurd o
  occurs-locals x (suc n) s h o = by (occurs-either (local_events frames m.rec.handlers p x) (locals_events frames m.rec.handlers p (suc x) n) s h o)
      (occurs-locals (suc x) n s h)
    where
      by : Occurs (local_events frames m.rec.handlers p x) s h ⊎ Occurs (locals_events frames m.rec.handlers p (suc x) n) s h
          → (Occurs (locals_events frames m.rec.handlers p (suc x) n) s h → IsMetAt w m frames s h) → IsMetAt w m frames s h
      by (inl here) rest = occurs-local m frames p x s h reached w here
      by (inr later) rest = rest later

module _ (frames : ℕ → Option Frame) (handlers : List Handler) (p : ℕ) where
  locals-occurs : (from n x : ℕ) (s : PairSpot) (h : Home) → from ≤ x → x < from + n → Occurs (local_events frames handlers p x) s h
      → Occurs (locals_events frames handlers p from n) s h
  locals-occurs from zero x s h le lt o = absurd (omega arith)
  locals-occurs from (suc n) x s h le lt o = by (nat-cases from x le) (λ later. locals-occurs (suc from) n x s h later (omega arith) o)
    where
      by : (from ≡ x) ⊎ (suc from ≤ x) → (suc from ≤ x → Occurs (locals_events frames handlers p (suc from) n) s h)
          → Occurs (locals_events frames handlers p from (suc n)) s h
      by (inl e) rest =
          occurs-left (local_events frames handlers p from) (locals_events frames handlers p (suc from) n) s h
          (subst (λ k. Occurs (local_events frames handlers p k) s h) (sym e) o)
      by (inr later) rest = occurs-right (local_events frames handlers p from) (locals_events frames handlers p (suc from) n) s h (rest later)

-- ---- cells

record IsCellAt (p slot : ℕ) (cells : List Ty) (s : PairSpot) (h : Home) : Type 0 where
  number : ℕ
  spot : record { place = p; slot = slot + number; time = 0 } ≡ s
  slot_is : slot + number ≡ h.slot
  value : value_in_cells cells number ≡ Some h.ty

occurs-cells : (p slot : ℕ) (cells : List Ty) (i n : ℕ) (s : PairSpot) (h : Home) → Occurs (cells_events p slot cells i n) s h
    → IsCellAt p slot cells s h
occurs-cells p slot cells i zero s h o = absurd o
occurs-cells p slot cells i (suc n) s h (inl at) = record { number = i; spot = at.spot; slot_is = at.slot; value = at.value }
occurs-cells p slot cells i (suc n) s h (inr o) = occurs-cells p slot cells (suc i) n s h o

cells-occurs : (p slot : ℕ) (cells : List Ty) (from n i : ℕ) (ty : Ty) → from ≤ i → i < from + n → value_in_cells cells i ≡ Some ty
    → Occurs (cells_events p slot cells from n) (record { place = p; slot = slot + i; time = 0 }) (record { slot = slot + i; ty = ty })
cells-occurs p slot cells from zero i ty le lt e = absurd (omega arith)
cells-occurs p slot cells from (suc n) i ty le lt e = by (nat_le i from) refl (λ later. cells-occurs p slot cells (suc from) n i ty later (omega arith) e)
  where
    by : (b : Bool) → nat_le i from ≡ b
        → (suc from ≤ i → Occurs (cells_events p slot cells (suc from) n) (record { place = p; slot = slot + i; time = 0 })
        (record { slot = slot + i; ty = ty }))
        → Occurs (cells_events p slot cells from (suc n)) (record { place = p; slot = slot + i; time = 0 }) (record { slot = slot + i; ty = ty })
    by true q rest =
        let below : i ≤ from = grind (arith, nat_tests, q) in
        let same : from ≡ i = omega arith in
        inl
        (record {
          spot = ap (λ (k : ℕ). record { place = p; slot = slot + k; time = 0 }) same;
          slot = ap (λ k. slot + k) same;
          value = ap (value_in_cells cells) same ∙ e;
        })
    by false q rest = let above : suc from ≤ i = grind (arith, nat_tests, q) in inr (rest above)

-- ---- a stack that is kept

-- the operands of a conditional branch or a switch, and of nothing else
record AsksFor (w : Linked) (r : Result Operation RuleFault) (operands : ℕ) : Type 0 where
  operation : Operation
  is : r ≡ Ok operation
  asks : IsConditional operation
  taken : (footprint w operation).taken ≡ operands

asks-for : (w : Linked) (r : Result Operation RuleFault) (operands : ℕ) → operands_of w r ≡ Some operands → AsksFor w r operands
asks-for w x operands e = grind (arith, same_Some)

pub operands-of : (w : Linked) (op : Operation) → IsConditional op → operands_of w (Ok op) ≡ Some (footprint w op).taken
operands-of w x h = grind (arith)

deeper-by : (o : Option ℕ) (depth : ℕ) → is_deeper o depth ≡ true → (n : ℕ) × (o ≡ Some n) × (n < depth)
deeper-by x depth e = grind (arith, false≢true, nat_tests)

module _ (w : Linked) (m : Method) (frames : ℕ → Option Frame) (leaders : List Bool) (marks : Marks (IsLeader m) leaders) (listed : AreListed m.code)
    (i : Placed) (stands : HasInstruction m.code i) (f : Frame) (there : frames i.place ≡ Some f) where
  keeps-sound : keeps_stack w m.rec leaders i (length f.stack) ≡ true → KeepsStack w m frames i.place
  keeps-sound e = by (or_cases (flag leaders i.place) (is_deeper (operands_of w (resolved w m.rec i.place i.insn (row_at i.insn.op))) (length f.stack)) e)
    where
      by : (flag leaders i.place ≡ true) ⊎ (is_deeper (operands_of w (resolved w m.rec i.place i.insn (row_at i.insn.op))) (length f.stack) ≡ true)
          → KeepsStack w m frames i.place
      by (inl l) = inl ((marks i.place).0 l)
      by (inr d) =
          let deep = deeper-by (operands_of w (resolved w m.rec i.place i.insn (row_at i.insn.op))) (length f.stack) d in
          let asks = asks-for w (resolved w m.rec i.place i.insn (row_at i.insn.op)) deep.0 deep.1 in
          inr (record {
            instruction = i;
            stands = stands;
            at = refl;
            operation = asks.operation;
            resolves = sym asks.is;
            asks = asks.asks;
            deeper =
                subst (λ o. IsSomeAnd o (λ g. (footprint w asks.operation).taken < length g.stack)) (sym there)
                (subst (λ n. n < length f.stack) (sym asks.taken) deep.2);
          })

  keeps-complete : KeepsStack w m frames i.place → keeps_stack w m.rec leaders i (length f.stack) ≡ true
  keeps-complete (inl l) = grind (arith, or_left, length)
  keeps-complete (inr b) =
      let same : b.instruction ≡ i = listed.one b.instruction i b.stands stands b.at in
      let resolves : Ok b.operation ≡ resolved w m.rec i.place i.insn (row_at i.insn.op) =
      subst (λ j. ◌≡◌ {A = Result Operation RuleFault} (Ok b.operation) (resolved w m.rec i.place j.insn (row_at j.insn.op))) same b.resolves in
      let deep : (footprint w b.operation).taken < length f.stack = subst (λ o. IsSomeAnd o (λ g. (footprint w b.operation).taken < length g.stack)) there
      b.deeper in
      let less : nat_lt (footprint w b.operation).taken (length f.stack) ≡ true = grind (arith, nat_tests, deep) in
      or_right (flag leaders i.place) (is_deeper (operands_of w (resolved w m.rec i.place i.insn (row_at i.insn.op))) (length f.stack))
      (subst (λ r. is_deeper (operands_of w r) (length f.stack) ≡ true) resolves
      (subst (λ o. is_deeper o (length f.stack) ≡ true) (sym (operands-of w b.operation b.asks)) less))

  -- ---- at an instruction

  occurs-stack : IsReached m i.place → (b : Bool) → keeps_stack w m.rec leaders i (length f.stack) ≡ b → (s : PairSpot) (h : Home)
      → Occurs (stack_events b i.place (register_count m.rec) (reverse f.stack)) s h → IsMetAt w m frames s h
  occurs-stack reached true q s h o =
      let c = occurs-cells i.place (register_count m.rec) (reverse f.stack) 0 (length (reverse f.stack)) s h o in
      subst (λ r. IsMetAt w m frames r h) c.spot
      (subst (λ n. IsMetAt w m frames (record { place = i.place; slot = register_count m.rec + c.number; time = 0 }) (record { slot = n; ty = h.ty }))
      c.slot_is
      (met_cell c.number reached (keeps-sound q)
      (subst (λ o. IsSomeAnd o (λ g. value_in_cells (reverse g.stack) c.number ≡ Some h.ty)) (sym there) c.value)))
  occurs-stack reached false q s h o = absurd o

  occurs-frame : IsReached m i.place → (s : PairSpot) (h : Home) → Occurs (frame_events w m frames leaders i (Some f)) s h → IsMetAt w m frames s h
  occurs-frame reached s h o =
      by
      (occurs-either (locals_events frames m.rec.handlers i.place 0 (register_count m.rec))
      (stack_events (keeps_stack w m.rec leaders i (length f.stack)) i.place (register_count m.rec) (reverse f.stack)) s h o)
    where
      by : Occurs (locals_events frames m.rec.handlers i.place 0 (register_count m.rec)) s h
          ⊎ Occurs (stack_events (keeps_stack w m.rec leaders i (length f.stack)) i.place (register_count m.rec) (reverse f.stack)) s h
          → IsMetAt w m frames s h
      by (inl l) = occurs-locals w m frames i.place reached 0 (register_count m.rec) s h l
      by (inr r) = occurs-stack reached (keeps_stack w m.rec leaders i (length f.stack)) refl s h r

-- ---- in the whole code

module _ (w : Linked) (m : Method) (frames : ℕ → Option Frame) (leaders : List Bool) (marks : Marks (IsLeader m) leaders) (listed : AreListed m.code)
    (sizes : (p : ℕ) (f : Frame) → frames p ≡ Some f → length f.regs ≡ register_count m.rec)
    (there : (p : ℕ) (f : Frame) → frames p ≡ Some f → IsReached m p)
    (placed : (p : ℕ) → IsReached m p → IsPlace m.code p)
    (framed : (p : ℕ) → IsReached m p → (f : Frame) × (frames p ≡ Some f)) where
  within : (x : ℕ) (ty : Ty) (o : Option Frame) → ((g : Frame) → o ≡ Some g → length g.regs ≡ register_count m.rec)
      → IsSomeAnd o (λ g. value_in_cells g.regs x ≡ Some ty) → x < register_count m.rec
  within x ty x2 size at = grind (arith, value-inside)

  asked-inside : (p x n : ℕ) (ty : Ty) → IsAsked m frames p x n ty → x < register_count m.rec
  asked-inside p x x2 ty x22 = grind (arith, within)

  -- the pair is met at an instruction
  occurs-place : (i : Placed) → HasInstruction m.code i → (s : PairSpot) (h : Home) → Occurs (place_events w m frames leaders i) s h
      → IsMetAt w m frames s h
  unfolding place_events
  occurs-place i stands s h o = by (frames i.place) refl o
    where
      by : (r : Option Frame) → frames i.place ≡ r → Occurs (frame_events w m frames leaders i r) s h → IsMetAt w m frames s h
      by None e o = absurd o
      by (Some f) e o = occurs-frame w m frames leaders marks listed i stands f e (there i.place f e) s h o

  occurs-flat : (is : List Placed) → ((i : Placed) → IsAmong i is → HasInstruction m.code i) → (s : PairSpot) (h : Home)
      → Occurs (flat_map (place_events w m frames leaders) is) s h → IsMetAt w m frames s h
  occurs-flat [] all s h o = absurd o
  occurs-flat (i ∷ is) all s h o =
      by
      (occurs-either (place_events w m frames leaders i) (flat_map (place_events w m frames leaders) is) s h
      (subst (λ es. Occurs es s h) (flat_map-cons (place_events w m frames leaders) i is) o))
      (occurs-flat is (λ j a. all j (inr a)) s h)
    where
      by : Occurs (place_events w m frames leaders i) s h ⊎ Occurs (flat_map (place_events w m frames leaders) is) s h
          → (Occurs (flat_map (place_events w m frames leaders) is) s h → IsMetAt w m frames s h) → IsMetAt w m frames s h
      by (inl here) rest = occurs-place i (all i (inl refl)) s h here
      by (inr later) rest = rest later

  pub occurs-met : (s : PairSpot) (h : Home) → Occurs (code_events w m frames leaders) s h → IsMetAt w m frames s h
  unfolding code_events
  occurs-met s h o = occurs-flat (listing m.code) (λ i a. Contains-from_IsAmong i (listing m.code) a) s h o

  flat-occurs : (is : List Placed) (i : Placed) → IsAmong i is → (s : PairSpot) (h : Home) → Occurs (place_events w m frames leaders i) s h
      → Occurs (flat_map (place_events w m frames leaders) is) s h
  flat-occurs [] i a s h o = absurd a
  flat-occurs (j ∷ js) i (inl e) s h o = grind (arith, flat_map-cons, occurs-left, flat_map)
  flat-occurs (j ∷ js) i (inr a) s h o = grind (arith, flat_map-cons, occurs-right, flat_map, flat-occurs js i a s h o)

  -- at the instruction of a reached place
  occurs-at : (p : ℕ) (s : PairSpot) (h : Home) → (r : IsReached m p) → (f : Frame) → frames p ≡ Some f
      → ((i : Placed) → HasInstruction m.code i → i.place ≡ p → Occurs (frame_events w m frames leaders i (Some f)) s h)
      → Occurs (code_events w m frames leaders) s h
  unfolding code_events place_events
  occurs-at p s h r f e at =
      let place = placed p r in
      let i : Placed = place.0 in
      let here : frames i.place ≡ Some f = ap frames place.2 ∙ e in
      flat-occurs (listing m.code) i (IsAmong-from_Contains i (listing m.code) place.1) s h
      (subst (λ o. Occurs (frame_events w m frames leaders i o) s h) (sym here) (at i place.1 place.2))

  pub met-occurs : (s : PairSpot) (h : Home) → IsMetAt w m frames s h → Occurs (code_events w m frames leaders) s h
  met-occurs s h (met_local {p = p} {x = x} {n = n} {ty = ty} r a) =
      let f = framed p r in
      occurs-at p _ _ r f.0 f.1 (λ i stands e.
      occurs-left (locals_events frames m.rec.handlers i.place 0 (register_count m.rec))
      (stack_events (keeps_stack w m.rec leaders i (length f.0.stack)) i.place (register_count m.rec) (reverse f.0.stack)) _ _
      (locals-occurs frames m.rec.handlers i.place 0 (register_count m.rec) x _ _ (omega arith) (omega (arith, asked-inside p x n ty a))
      (subst (λ q. Occurs (local_events frames m.rec.handlers q x) (record { place = p; slot = x; time = n }) (record { slot = x; ty = ty })) (sym e)
      (local-occurs m frames p x n ty a))))
  met-occurs s h (met_cell k {p = p} {ty = ty} r keeps at) =
      let f = framed p r in
      let value : value_in_cells (reverse f.0.stack) k ≡ Some ty = subst (λ o. IsSomeAnd o (λ g. value_in_cells (reverse g.stack) k ≡ Some ty)) f.1 at in
      occurs-at p _ _ r f.0 f.1 (λ i stands e.
      let kept : keeps_stack w m.rec leaders i (length f.0.stack) ≡ true = keeps-complete w m frames leaders marks listed i stands f.0
      (ap frames e ∙ f.1) (subst (KeepsStack w m frames) (sym e) keeps) in
      occurs-right (locals_events frames m.rec.handlers i.place 0 (register_count m.rec))
      (stack_events (keeps_stack w m.rec leaders i (length f.0.stack)) i.place (register_count m.rec) (reverse f.0.stack)) _ _
      (subst
      (λ b. Occurs (stack_events b i.place (register_count m.rec) (reverse f.0.stack))
      (record { place = p; slot = register_count m.rec + k; time = 0 }) (record { slot = register_count m.rec + k; ty = ty })) (sym kept)
      (subst
      (λ q. Occurs (cells_events i.place (register_count m.rec) (reverse f.0.stack) 0 (length (reverse f.0.stack)))
      (record { place = q; slot = register_count m.rec + k; time = 0 }) (record { slot = register_count m.rec + k; ty = ty })) e
      (cells-occurs i.place (register_count m.rec) (reverse f.0.stack) 0 (length (reverse f.0.stack)) k ty (omega arith)
      (omega (arith, value-inside (reverse f.0.stack) k ty value)) value))))
