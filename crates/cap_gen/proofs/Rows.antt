-- A dataflow typing of a method that is listed with its instructions: where each row passes a test, the frames are a typing.
use Rattle.std.proofs.Common.{◌≡◌, ◌≤◌, ◌<◌, ◌+◌, ◌⊎◌, inl, inr, ℕ, zero, suc, ℤ, pos, negsuc, Bool, true, false, cond, List, []}
use Rattle.std.proofs.Common.{◌∷◌, length, map, Option, Some, None, Result, Ok, Err, refl, sym, ap, subst, ◌∙◌, arith, leb-true, ltb-true, eqb-true}
use Rattle.std.proofs.Common.{eq-eqb, Contains, All}
use Rattle.std.specs.Prelude.{is_ok, ◌&&◌, ◌==◌, not, nat_le, nat_lt, slice_get, slice_set, IsTrue, IsSomeAnd}
use Rattle.std.proofs.lemmas.Bool.{and_parts, not-true}
use Rattle.jc_base.specs.declared.ty.Ty.{Ty}
use Rattle.jc_base.specs.declared.ty.Ty.TheVariants.{Short, IntHigh, IntLow, Null, Class, Fresh, Top}
use Rattle.jc_base.specs.declared.record.Handler.{Handler}
use Rattle.jc_base.specs.declared.record.MethodRec.{MethodRec}
use Rattle.jc_base.specs.Class.{ClassTable}
use Rattle.jc_base.specs.Order.{Below, same, anything, null_object}
use Rattle.jc_base.specs.World.{Linked}
use Rattle.jc_decode.specs.declared.insn.Placed.{Placed}
use Rattle.jc_decode.specs.Listing.{listing, listing_end, falls, targets}
use Rattle.jc_ops.specs.declared.operation.Want.{Want}
use Rattle.jc_ops.specs.declared.operation.Want.TheVariants as wants
use Rattle.jc_ops.specs.declared.operation.Operation.{Operation}
use Rattle.jc_ops.specs.Next.{falls_from, ends_at}
use Rattle.jc_ops.specs.declared.operation.Operation.TheVariants as ops
use Rattle.jc_ops.specs.declared.fault.RuleFault.{RuleFault}
use Rattle.jc_ops.specs.Row.{row_at}
use Rattle.jc_ops.specs.Resolve.{resolved}
use Rattle.jc_rules.specs.declared.demand.Demand.{Demand}
use Rattle.jc_rules.specs.declared.demand.Demand.TheVariants.{Registers, Depth, Cell, Cut, Held}
use Rattle.jc_rules.specs.declared.effect.Cells.{Cells}
use Rattle.jc_rules.specs.declared.effect.Cells.TheVariants as given
use Rattle.jc_rules.specs.declared.effect.Mode.TheVariants.{Flow}
use Rattle.jc_rules.specs.declared.effect.Effect.{Effect}
use Rattle.jc_rules.specs.Demand.{Frame, Meets, Satisfies, SatisfiesAll}
use Rattle.jc_rules.specs.Effect.{changed, WritesCells, raises_register}
use Rattle.jc_rules.specs.Rule.{demands, effect, wrote}
use Rattle.jc_rules.specs.Flow.{CellsBelow, no_cells, more_cells, FrameBelow, start_frame, caught_frame, IsNotFresh, IsNotTop, At, FlowSteps, IsFollowed, IsFit}
use Rattle.jc_rules.specs.Flow.{FlowTyping, HasFlowTyping}
use Rattle.jc_control.specs.Method.{Method}
use Rattle.jc_control.specs.WellFormed.{HasInstruction, IsPlace, IsTargetPlace, IsHandlerOf, IsWellFormed}
use Rattle.jc_control.specs.Control.{IsSuccessor, falls_through, jumped, Covers, IsReached, begins, follows, caught, IsLeader, led_to, entered}

-- ---- lists

abbrev pub all_true : {X : Type 0} → (X → Bool) → List X → Bool
all_true test [] = true
all_true test (x ∷ xs) = test x && all_true test xs

abbrev pub Has : {X : Type 0} → List X → X → Type 0
Has [] x = ⊥
Has (y ∷ ys) x = (y ≡ x) ⊎ Has ys x

contains_has : {X : Type 0} (xs : List X) (x : X) → Contains xs x → Has xs x
contains_has [] x (k, below, e) = absurd (omega (arith, below))
contains_has (y ∷ ys) x (zero, below, e) = inl e
contains_has (y ∷ ys) x (suc k, below, e) = inr (contains_has ys x (k, omega (arith, below), e))

has_contains : {X : Type 0} (xs : List X) (x : X) → Has xs x → Contains xs x
has_contains [] x h = absurd h
has_contains (y ∷ ys) x (inl e) = (zero, omega arith, e)
has_contains (y ∷ ys) x (inr h) = let c = has_contains ys x h in let below = c.1 in (suc c.0, omega arith, c.2)

all_at : {X : Type 0} (P : X → Type 0) (xs : List X) → ((x : X) → Has xs x → P x) → All P xs
all_at P [] f k d below = absurd (omega (arith, below))
all_at P (y ∷ ys) f zero d below = f y (inl refl)
all_at P (y ∷ ys) f (suc k) d below = all_at P ys (λ x h. f x (inr h)) k d (omega (arith, below))

has_true : {X : Type 0} (test : X → Bool) (xs : List X) (x : X) → all_true test xs ≡ true → Has xs x → test x ≡ true
has_true test [] x e h = absurd h
has_true test (y ∷ ys) x e (inl s) = subst (λ z. test z ≡ true) s (and_parts (test y) (all_true test ys) e).0
has_true test (y ∷ ys) x e (inr h) = has_true test ys x (and_parts (test y) (all_true test ys) e).1 h

-- ---- the order of types, where they are the same, null and a class, or the greater is Top

abbrev pub fits : Ty → Ty → Bool
fits Short Short = true
fits Null Null = true
fits Null (Class c) = true
fits (Class c) (Class d) = c == d
fits a Top = true
fits _ _ = false

abbrev pub cells_fit : List Ty → List Ty → Bool
cells_fit [] [] = true
cells_fit (a ∷ xs) (b ∷ ys) = fits a b && cells_fit xs ys
cells_fit _ _ = false

abbrev pub frame_fits : Frame → Frame → Bool
frame_fits f g = cells_fit f.regs g.regs && cells_fit f.stack g.stack

abbrev pub is_ready : Ty → Bool
is_ready (Fresh place c) = false
is_ready _ = true

abbrev pub is_typed : Ty → Bool
is_typed Top = false
is_typed _ = true

-- ---- demands

abbrev pub meets_want : Want → Option Ty → Bool
meets_want (wants.Value ty) (Some found) = fits found ty
meets_want wants.Storable (Some Null) = true
meets_want wants.Whole (Some Short) = true
meets_want wants.Whole (Some (Class c)) = true
meets_want _ _ = false

abbrev pub is_met : Frame → Demand → Bool
is_met f (Registers x n) = nat_le (x + n) (length f.regs)
is_met f (Depth n) = nat_le n (length f.stack)
is_met f (Cell n want) = meets_want want (slice_get f.stack n)
is_met f (Cut n) = false
is_met f (Held x ty) = meets_want (wants.Value ty) (slice_get f.regs x)

-- ---- rows

-- an instruction at its place, and the frame before it
pub record Row : Type 0 where
  pub placed : Placed
  pub before : Frame

-- instructions with the frames before them
abbrev pub rows_of : List Placed → List Frame → List Row
rows_of [] fs = []
rows_of (i ∷ is) [] = []
rows_of (i ∷ is) (f ∷ fs) = record { placed = i; before = f } ∷ rows_of is fs

abbrev pub placed_of : Row → Placed
placed_of r = r.placed

abbrev pub written : ℕ → Cells → List Ty → List Ty
written x given.Nothing regs = regs
written x (given.One ty) regs = slice_set regs x ty
written x given.Int regs = slice_set (slice_set regs x IntHigh) (x + 1) IntLow

-- the operation of a row, where its instruction has one
abbrev pub resolved_row : Linked → MethodRec → Row → Result Operation RuleFault
resolved_row w rec r = resolved w rec r.placed.place r.placed.insn (row_at r.placed.insn.op)

abbrev pub given_or_throw : Result Operation RuleFault → Operation
given_or_throw (Ok op) = op
given_or_throw (Err fault) = ops.Throw

abbrev pub operation_of : Linked → MethodRec → Row → Operation
operation_of w rec r = given_or_throw (resolved_row w rec r)

abbrev pub after_effect : Effect → Frame → Frame
after_effect e f = record { regs = written e.store.register e.store.cells f.regs; stack = changed e.change f.stack }

abbrev pub after_row : Linked → MethodRec → Row → Frame
after_row w rec r = after_effect (effect w (operation_of w rec r) r.before) r.before

-- the frame at a place
abbrev pub frame_at : List Row → ℕ → Option Frame
frame_at [] p = None
frame_at (r ∷ rs) p = cond (r.placed.place == p) (Some r.before) (frame_at rs p)

abbrev pub fits_if : Frame → Option Frame → Bool
fits_if f None = false
fits_if f (Some g) = frame_fits f g

-- the frame is below the one at the place
abbrev pub fits_at : List Row → Frame → ℕ → Bool
fits_at rows f p = fits_if f (frame_at rows p)

abbrev pub fits_target : List Row → Frame → ℤ → Bool
fits_target rows f (pos p) = fits_at rows f p
fits_target rows f (negsuc n) = false

abbrev pub is_there : List Row → ℕ → Bool
is_there [] p = false
is_there (r ∷ rs) p = cond (r.placed.place == p) true (is_there rs p)

abbrev pub covers : Handler → ℕ → Bool
covers h p = nat_le h.start p && nat_lt p h.end

abbrev pub handled : List Row → Row → Handler → Bool
handled rows r h = cond (covers h r.placed.place) (fits_at rows (caught_frame h r.before) h.entry) true

abbrev pub falls_well : List ℕ → List Row → Frame → Placed → Bool
falls_well code rows f i = cond (falls i.insn.op) (nat_lt (i.place + i.insn.len) (length code) && fits_at rows f (i.place + i.insn.len)) true

abbrev pub holds_well : MethodRec → Frame → Bool
holds_well rec f = nat_le (length f.stack) rec.max_stack && (all_true is_typed f.stack && (all_true is_ready f.stack && all_true is_ready f.regs))

abbrev pub leads_well : MethodRec → List ℕ → List Row → Row → Frame → Bool
leads_well rec code rows r after =
    (nat_le (length after.stack) rec.max_stack && all_true is_ready after.stack)
    && (falls_well code rows after r.placed && (all_true (fits_target rows after) (targets code r.placed) && all_true (handled rows r) rec.handlers))

-- what is asked of a row
abbrev pub passes : Linked → MethodRec → List ℕ → List Row → Row → Bool
passes w rec code rows r =
    (is_ok (resolved_row w rec r) && all_true (is_met r.before) (demands w (operation_of w rec r)))
    && (holds_well rec r.before && leads_well rec code rows r (after_row w rec r))

abbrev pub is_elsewhere : Row → Row → Bool
is_elsewhere r s = not (r.placed.place == s.placed.place)

-- no two rows are at one place
abbrev pub are_apart : List Row → Bool
are_apart [] = true
are_apart (r ∷ rs) = all_true (is_elsewhere r) rs && are_apart rs

abbrev pub is_handler_of : List ℕ → List Row → Handler → Bool
is_handler_of code rows h =
    (is_there rows h.start && is_there rows h.entry) && (nat_lt h.start h.end && is_there rows h.end)

-- the rows list the instructions, and pass the test
pub record AreRows (w : Linked) (m : Method) (rows : List Row) : Type 0 where
  pub listed : listing m.code ≡ map placed_of rows
  pub ends : listing_end m.code ≡ length m.code
  pub start : fits_at rows (start_frame m.rec Top) 0 ≡ true
  pub handlers : all_true (is_handler_of m.code rows) m.rec.handlers ≡ true
  pub apart : are_apart rows ≡ true
  pub each : all_true (passes w m.rec m.code rows) rows ≡ true

-- ---- what the tests tell

fits_below : (t : ClassTable) (a b : Ty) → fits a b ≡ true → Below t a b
fits_below t Short Short e = same
fits_below t Null Null e = same
fits_below t Null (Class c) e = null_object
fits_below t (Class c) (Class d) e = let s : c ≡ d = eqb-true c d e in subst (λ k. Below t (Class c) (Class k)) s same
fits_below t a Top e = anything
fits_below t _ _ e = absurd (cc)

cells_below : (t : ClassTable) (xs ys : List Ty) → cells_fit xs ys ≡ true → CellsBelow t xs ys
cells_below t [] [] e = no_cells
cells_below t [] (b ∷ ys) e = absurd (cc)
cells_below t (a ∷ xs) [] e = absurd (cc)
cells_below t (a ∷ xs) (b ∷ ys) e = let both = and_parts (fits a b) (cells_fit xs ys) e in more_cells (fits_below t a b both.0) (cells_below t xs ys both.1)

frame_below : (t : ClassTable) (f g : Frame) → frame_fits f g ≡ true → FrameBelow t f g
frame_below t f g e = grind (arith, and_parts, cells_below)

below_at : (t : ClassTable) (rows : List Row) (f : Frame) (p : ℕ) → fits_at rows f p ≡ true → At (frame_at rows) p (FrameBelow t f)
below_at t rows f p e = by (frame_at rows p) e
  where
    by : (o : Option Frame) → fits_if f o ≡ true → IsSomeAnd o (FrameBelow t f)
    by None h = absurd (cc)
    by (Some g) h = frame_below t f g h

ready_not_fresh : (a : Ty) → is_ready a ≡ true → IsNotFresh a
ready_not_fresh x e = grind (arith)

typed_not_top : (a : Ty) → is_typed a ≡ true → IsNotTop a
typed_not_top x e = grind (arith)

none_fresh : (xs : List Ty) → all_true is_ready xs ≡ true → All IsNotFresh xs
none_fresh xs e = all_at IsNotFresh xs (λ x h. ready_not_fresh x (has_true is_ready xs x e h))

none_top : (xs : List Ty) → all_true is_typed xs ≡ true → All IsNotTop xs
none_top xs e = all_at IsNotTop xs (λ x h. typed_not_top x (has_true is_typed xs x e h))

want_met : (t : ClassTable) (want : Want) (o : Option Ty) → meets_want want o ≡ true → IsSomeAnd o (Meets t want)
want_met t x x2 e = grind (arith, fits_below)

demand_met : (t : ClassTable) (f : Frame) (d : Demand) → is_met f d ≡ true → Satisfies t f d
demand_met t f (Registers x n) e = leb-true (x + n) (length f.regs) e
demand_met t f (Depth n) e = leb-true n (length f.stack) e
demand_met t f (Cell n want) e = want_met t want (slice_get f.stack n) e
demand_met t f (Cut n) e = absurd (cc)
demand_met t f (Held x ty) e = want_met t (wants.Value ty) (slice_get f.regs x) e

demands_met : (t : ClassTable) (f : Frame) (ds : List Demand) → all_true (is_met f) ds ≡ true → SatisfiesAll t f ds
demands_met t f [] e = tt
demands_met t f (d ∷ ds) e = let both = and_parts (is_met f d) (all_true (is_met f) ds) e in (demand_met t f d both.0, demands_met t f ds both.1)

cells_written : (t : ClassTable) (x : ℕ) (cells : Cells) (regs : List Ty) → WritesCells t Flow x cells regs (written x cells regs)
cells_written t x x2 regs = grind (arith)

-- ---- the rows by their places

-- a row is among the rows, at a place
record RowAt (rows : List Row) (p : ℕ) : Type 0 where
  row : Row
  among : Has rows row
  place : row.placed.place ≡ p

more_row : (r : Row) (rs : List Row) (p : ℕ) → RowAt rs p → RowAt (r ∷ rs) p
more_row r rs p a = record { row = a.row; among = inr a.among; place = a.place }

there_row : (rows : List Row) (p : ℕ) → is_there rows p ≡ true → RowAt rows p
there_row [] p e = absurd (cc)
there_row (r ∷ rs) p e = by (r.placed.place == p) refl e (λ h. there_row rs p h)
  where
    by : (b : Bool) → (r.placed.place == p) ≡ b → cond b true (is_there rs p) ≡ true → (is_there rs p ≡ true → RowAt rs p) → RowAt (r ∷ rs) p
    by true s h later = record { row = r; among = inl refl; place = eqb-true r.placed.place p s }
    by false s h later = more_row r rs p (later h)

fits_row : (rows : List Row) (f : Frame) (p : ℕ) → fits_at rows f p ≡ true → RowAt rows p
fits_row [] f p e = absurd (cc)
fits_row (r ∷ rs) f p e = by (r.placed.place == p) refl e (λ h. fits_row rs f p h)
  where
    by : (b : Bool) → (r.placed.place == p) ≡ b → fits_if f (cond b (Some r.before) (frame_at rs p)) ≡ true → (fits_at rs f p ≡ true → RowAt rs p)
        → RowAt (r ∷ rs) p
    by true s h later = record { row = r; among = inl refl; place = eqb-true r.placed.place p s }
    by false s h later = more_row r rs p (later h)

-- an instruction of rows
record RowOf (rows : List Row) (i : Placed) : Type 0 where
  row : Row
  among : Has rows row
  is : row.placed ≡ i

listed_row : (rows : List Row) (i : Placed) → Has (map placed_of rows) i → RowOf rows i
listed_row [] i h = absurd h
listed_row (r ∷ rs) i (inl e) = record { row = r; among = inl refl; is = e }
listed_row (r ∷ rs) i (inr h) = let a = listed_row rs i h in record { row = a.row; among = inr a.among; is = a.is }

row_listed : (rows : List Row) (r : Row) → Has rows r → Has (map placed_of rows) r.placed
row_listed [] r h = absurd h
row_listed (x ∷ xs) r (inl e) = inl (ap placed_of e)
row_listed (x ∷ xs) r (inr h) = inr (row_listed xs r h)

row_at_place : (rows : List Row) (r : Row) → are_apart rows ≡ true → Has rows r → frame_at rows r.placed.place ≡ Some r.before
row_at_place [] r e h = absurd h
row_at_place (x ∷ xs) r e (inl s) = grind (arith, cond, eq-eqb)
row_at_place (x ∷ xs) r e (inr h) =
    let both = and_parts (all_true (is_elsewhere x) xs) (are_apart xs) e in
    let other = not-true (x.placed.place == r.placed.place) (has_true (is_elsewhere x) xs r both.0 h) in
    ap (λ (b : Bool). cond b (Some x.before) (frame_at xs r.placed.place)) other ∙ row_at_place xs r both.1 h

resolves_if : (r : Result Operation RuleFault) → is_ok r ≡ true → Ok (given_or_throw r) ≡ r
resolves_if x e = grind (arith)

-- where an option is something, what holds of that
at_some : (P : Frame → Type 0) (o : Option Frame) (f : Frame) → o ≡ Some f → P f → IsSomeAnd o P
at_some P o f e h = subst (λ x. IsSomeAnd x P) (sym e) h

-- ---- the typing

module _ (w : Linked) (m : Method) (rows : List Row) (a : AreRows w m rows) where
  row_of : (i : Placed) → HasInstruction m.code i → RowOf rows i
  row_of i stands = listed_row rows i (subst (λ is. Has is i) a.listed (contains_has (listing m.code) i stands))

  -- what the test of a row tells
  record IsRow (r : Row) : Type 0 where
    resolves : is_ok (resolved_row w m.rec r) ≡ true
    asked : all_true (is_met r.before) (demands w (operation_of w m.rec r)) ≡ true
    holds : holds_well m.rec r.before ≡ true
    leads : leads_well m.rec m.code rows r (after_row w m.rec r) ≡ true

  is_row : (r : Row) → Has rows r → IsRow r
  is_row r h = grind (arith, has_true, and_parts)

  at_row : (r : Row) → Has rows r → frame_at rows r.placed.place ≡ Some r.before
  at_row r h = row_at_place rows r a.apart h

  row_stands : (r : Row) → Has rows r → HasInstruction m.code r.placed
  row_stands r h = subst (λ is. Contains is r.placed) (sym a.listed) (has_contains (map placed_of rows) r.placed (row_listed rows r h))

  at_place : (p : ℕ) → RowAt rows p → IsPlace m.code p
  at_place p r = (r.row.placed, row_stands r.row r.among, r.place)

  frame_there : (r : Row) → Has rows r → (p : ℕ) → r.placed.place ≡ p → frame_at rows p ≡ Some r.before
  frame_there r h p e = ap (frame_at rows) (sym e) ∙ at_row r h

  -- what the test of a row tells of where it leads
  record Leads (r : Row) : Type 0 where
    room : length (after_row w m.rec r).stack ≤ m.rec.max_stack
    ready : all_true is_ready (after_row w m.rec r).stack ≡ true
    falls_on : falls_well m.code rows (after_row w m.rec r) r.placed ≡ true
    targets_fit : all_true (fits_target rows (after_row w m.rec r)) (targets m.code r.placed) ≡ true
    caught_fit : all_true (handled rows r) m.rec.handlers ≡ true

  leads_of : (r : Row) → Has rows r → Leads r
  leads_of r h = grind (arith, is_row r h, and_parts, length, leb-true)

  -- where it falls on
  falls_to : (r : Row) → Has rows r → IsTrue (falls r.placed.insn.op)
      → (nat_lt (r.placed.place + r.placed.insn.len) (length m.code) ≡ true)
      × (fits_at rows (after_row w m.rec r) (r.placed.place + r.placed.insn.len) ≡ true)
  falls_to r h goes = grind (arith, length, cond, leads_of, and_parts)

  target_to : (r : Row) → Has rows r → (q : ℕ) → Contains (targets m.code r.placed) (pos q) → fits_at rows (after_row w m.rec r) q ≡ true
  target_to r h q c =
      has_true (fits_target rows (after_row w m.rec r)) (targets m.code r.placed) (pos q) (leads_of r h).targets_fit
      (contains_has (targets m.code r.placed) (pos q) c)

  next_to : (r : Row) → Has rows r → (q : ℕ) → IsSuccessor m.code r.placed q → fits_at rows (after_row w m.rec r) q ≡ true
  next_to r h _ (falls_through goes) = (falls_to r h goes).1
  next_to r h q (jumped c) = target_to r h q c

  caught_to : (r : Row) → Has rows r → (h : Handler) → Contains m.rec.handlers h → Covers h r.placed.place
      → fits_at rows (caught_frame h r.before) h.entry ≡ true
  caught_to r among h c cov =
      let p = r.placed.place in
      let e : handled rows r h ≡ true = has_true (handled rows r) m.rec.handlers h (leads_of r among).caught_fit (contains_has m.rec.handlers h c) in
      let from : nat_le h.start p ≡ true = grind (arith, cov.from) in
      let before : nat_lt p h.end ≡ true = grind (arith, cov.before) in
      let inside : covers h p ≡ true = ap (λ (b : Bool). b && nat_lt p h.end) from ∙ before in
      subst (λ (b : Bool). cond b (fits_at rows (caught_frame h r.before) h.entry) true ≡ true) inside e

  reached_row : (p : ℕ) → IsReached m p → RowAt rows p
  reached_row _ begins = fits_row rows (start_frame m.rec Top) 0 a.start
  reached_row _ (follows {i = i} {q = q} stands reach succ) =
      let r = row_of i stands in
      fits_row rows (after_row w m.rec r.row) q (next_to r.row r.among q (subst (λ (k : Placed). IsSuccessor m.code k q) (sym r.is) succ))
  reached_row _ (caught {h = h} {p = p} reach c cov) =
      let r = reached_row p reach in
      fits_row rows (caught_frame h r.row.before) h.entry (caught_to r.row r.among h c (subst (Covers h) (sym r.place) cov))

  target_place : (t : ℤ) (f : Frame) → fits_target rows f t ≡ true → IsTargetPlace m.code t
  target_place x f e = grind (arith, at_place, fits_row)

  all_targets : (i : Placed) → HasInstruction m.code i → All (IsTargetPlace m.code) (targets m.code i)
  all_targets i stands =
      let r = row_of i stands in
      subst (λ (k : Placed). All (IsTargetPlace m.code) (targets m.code k)) r.is
      (all_at (IsTargetPlace m.code) (targets m.code r.row.placed)
      (λ t h. target_place t (after_row w m.rec r.row)
      (has_true (fits_target rows (after_row w m.rec r.row)) (targets m.code r.row.placed) t (leads_of r.row r.among).targets_fit h)))

  handler_formed : (h : Handler) → is_handler_of m.code rows h ≡ true → IsHandlerOf m.code h
  handler_formed h e = grind (arith, and_parts, at_place, there_row, ltb-true)

  well_formed : IsWellFormed m
  well_formed = record {
    ends = a.ends;
    targets = all_targets;
    handlers = all_at (IsHandlerOf m.code) m.rec.handlers (λ h c. handler_formed h (has_true (is_handler_of m.code rows) m.rec.handlers h a.handlers c));
  }

  row_fit : (r : Row) → Has rows r → IsFit m r.before
  row_fit r h = grind (arith, and_parts, length, is_row, leb-true, none_top, none_fresh)

  stack_ready : (r : Row) → Has rows r → All IsNotFresh r.before.stack
  stack_ready r h = grind (arith, and_parts, length, is_row, none_fresh)

  row_steps : (r : Row) → Has rows r → FlowSteps w m r.placed r.before (after_row w m.rec r)
  row_steps r h =
      let s = is_row r h in
      let op = operation_of w m.rec r in
      let e = effect w op r.before in (
        record {
          falls = falls_from op;
          ends = ends_at op;
          depth = length (after_row w m.rec r).stack;
          wrote = wrote e.store.register e.store.cells;
          rose = raises_register w.classes Flow e.store r.before.regs;
        },
        record {
          operation = op;
          resolves = resolves_if (resolved_row w m.rec r) s.resolves;
          does = record {
            asked = demands_met w.classes r.before (demands w op) s.asked;
            regs = cells_written w.classes e.store.register e.store.cells r.before.regs;
            stack = refl;
            room = (leads_of r h).room;
            falls = refl;
            ends = refl;
            depth = refl;
            wrote_is = refl;
            rose_is = refl;
          };
        },
      )

  row_followed : (r : Row) → Has rows r → IsFollowed w m (frame_at rows) r.placed r.before
  row_followed r h = grind (arith, row_steps, below_at, next_to, none_fresh, leads_of)

  rows_type : FlowTyping w m Top (frame_at rows)
  rows_type = record {
    formed = well_formed;
    start = below_at w.classes rows (start_frame m.rec Top) 0 a.start;
    fit = λ p reach.
        let r = reached_row p reach in
        at_some (IsFit m) (frame_at rows p) r.row.before (frame_there r.row r.among p r.place) (row_fit r.row r.among);
    rules = λ i stands reach.
        let r = row_of i stands in
        let At : Placed → Type 0 = λ k. IsSomeAnd (frame_at rows k.place) (IsFollowed w m (frame_at rows) k) in
        subst At r.is (at_some (IsFollowed w m (frame_at rows) r.row.placed) (frame_at rows r.row.placed.place) r.row.before (at_row r.row r.among)
        (row_followed r.row r.among));
    stays = λ i stands reach goes.
        let r = row_of i stands in
        let Stays : Placed → Type 0 = λ k. IsTrue (falls k.insn.op) → k.place + k.insn.len < length m.code in
        subst Stays r.is (λ g. ltb-true (r.row.placed.place + r.row.placed.insn.len) (length m.code) (falls_to r.row r.among g).0) goes;
    handlers = λ p h reach c cov.
        let r = reached_row p reach in
        at_some (λ f. IsSomeAnd (frame_at rows h.entry) (FrameBelow w.classes (caught_frame h f))) (frame_at rows p) r.row.before
        (frame_there r.row r.among p r.place)
        (below_at w.classes rows (caught_frame h r.row.before) h.entry (caught_to r.row r.among h c (subst (Covers h) (sym r.place) cov)));
    leaders = λ q leader. leader_ready q leader;
  }
    where
      ready_at : (q : ℕ) → RowAt rows q → IsSomeAnd (frame_at rows q) (λ f. All IsNotFresh f.stack)
      ready_at q r = at_some (λ f. All IsNotFresh f.stack) (frame_at rows q) r.row.before (frame_there r.row r.among q r.place) (stack_ready r.row r.among)

      leader_ready : (q : ℕ) → IsLeader m q → IsSomeAnd (frame_at rows q) (λ f. All IsNotFresh f.stack)
      leader_ready _ (led_to {i = i} {q = q} stands reach among) =
          let r = row_of i stands in
          let c : Contains (targets m.code r.row.placed) (pos q) = subst (λ (k : Placed). Contains (targets m.code k) (pos q)) (sym r.is) among in
          ready_at q (fits_row rows (after_row w m.rec r.row) q (target_to r.row r.among q c))
      leader_ready _ (entered {h = h} {p = p} reach c cov) =
          let r = reached_row p reach in
          ready_at h.entry (fits_row rows (caught_frame h r.row.before) h.entry (caught_to r.row r.among h c (subst (Covers h) (sym r.place) cov)))

  -- the method has a typing
  pub rows_typing : HasFlowTyping w m Top
  rows_typing = record { frames = frame_at rows; typing = rows_type }
