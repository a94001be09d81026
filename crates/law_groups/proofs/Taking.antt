-- The way over an edge that a conditional or a switch takes: cells, then locals are copied.
use Rattle.std.proofs.Common.{◌≡◌, ◌≢◌, ℕ, ◌+◌, ◌*◌, ◌<◌, ◌≤◌, Bool, true, false, if◌then◌else◌, List, [], ◌∷◌}
use Rattle.std.proofs.Common.{◌++◌, length, refl, sym, ap, ◌∙◌, subst, arith}
use Rattle.std.specs.Prelude.{pos, Some, Ok, is_some, slice_get}
use Rattle.jc_base.specs.Each.{Each}
use Rattle.jc_base.specs.World.{Linked}
use Rattle.jc_decode.specs.declared.insn.Placed.{Placed}
use Rattle.jc_decode.specs.declared.symbols.Item.{Item}
use Rattle.jc_decode.specs.declared.symbols.Item.TheVariants.{Label}
use Rattle.jc_decode.specs.Listing.{listing, targets}
use Rattle.jc_decode.specs.Standing.{AreSteps}
use Rattle.jc_decode.specs.Symbols.{jump, place_of}
use Rattle.jc_control.specs.Control.{IsReached}
use Rattle.jc_control.specs.WellFormed.{HasInstruction}
use Rattle.jc_ops.specs.declared.operation.Operation.{Operation}
use Rattle.vm_store.specs.declared.cell.Cell.{Cell}
use Rattle.vm_store.specs.Cells.{tagged}
use Rattle.vm_store.specs.State.{State, IsRunning, top}
use Rattle.vm_step.specs.Methods.{code_at}
use Rattle.vm_step.specs.Raising.{running}
use Rattle.vm_step.specs.Run.{Runs, stands as none_taken, steps as after_step}
use Rattle.xf_homes.specs.declared.home.Home.{Home}
use Rattle.xf_homes.specs.Walk.{operands_of, same_home}
use Rattle.xf_homes.specs.Source.{Source}
use Rattle.xf_homes.specs.Plan.{stack_homes, is_leader, needed, operation}
use Rattle.xf_emission.specs.declared.origin.Origin.TheVariants.{After}
use Rattle.xf_emission.specs.Edge.{cell_copies, copies}
use Rattle.xf_emission.specs.Emission.{items}
use Rattle.xf_emission.specs.Group.{group}
use Rattle.xf_emission.specs.Move.{copy}
use Rattle.xf_emission.specs.Jump.{goto, label_by, lead, stub, stub_label, stub_of, branch_copies, under, way_of}
use Rattle.xf_emission.proofs.Ways.{way-found}
use Rattle.xf_emission.specs.Mnemonics.{goto_w}
use Rattle.law_rewritten_typing.specs.Edges.{AreMatched, LeadsTo}
use Rattle.law_homes.specs.Edges.{HoldsAfter, insns, top_at}
use Rattle.law_homes.specs.Held.{HoldsValue, HoldsLocals, slots}
use Rattle.law_homes.proofs.Beside.{among-each, each-among, held-as, held-in-registers, held-in-slots}
use Rattle.law_groups.specs.Laid.{IsLaidIn, count_of, group_at, steps_of}
use Rattle.law_groups.specs.Beside.{AreEqualBut, AreOf, IsTypedAt}
use Rattle.law_groups.specs.Comes.{ComesToGroup, ComesWithin}
use Rattle.law_groups.specs.Steps.{ItemsStandFrom}
use Rattle.law_groups.specs.Moves.{MovesRun}
use Rattle.law_groups.proofs.Arriving.{at-step, beside, kept-registers, leader-holds, leader-keeps, runs-then, still-after}
use Rattle.law_groups.proofs.Context.{here-at, reached-some, steps-are, target-at}
use Rattle.law_groups.proofs.Going.{group-inside}
use Rattle.law_groups.proofs.Leading.{goto-steps}
use Rattle.law_groups.proofs.Moving.{AreMoves, copies-move, count-moves, moves-both, moves-if, moves-stand}
use Rattle.law_groups.proofs.Plain.{frames-are}
use Rattle.law_groups.proofs.Placing.{count-append, groups-stand-at-steps, stubs-stand-at-steps}
use Rattle.law_groups.proofs.Standing.{stand-as, stand-at, stand-first, stand-inside, stand-labelled, stand-last, step-at}

-- ---- copies of cells

pub cell-moves : (s : Source) (hs ks : List Home) → AreMoves (cell_copies s hs ks)
cell-moves s [] ks = tt
cell-moves s (h ∷ hs) [] = tt
cell-moves s (h ∷ hs) (k ∷ ks) = grind (arith, moves-both, moves-if, cell-moves s hs ks)

pub cell-few : (s : Source) (hs ks : List Home) → count_of (cell_copies s hs ks) ≤ 2 * length ks
cell-few s [] ks = omega arith
cell-few s (h ∷ hs) [] = omega arith
cell-few s (h ∷ hs) (k ∷ ks) =
    let both = count-append (if same_home h k then [] else copy s h k) (cell_copies s hs ks) in
    let one = one-few (same_home h k) in
    let rest = cell-few s hs ks in
    omega (arith, both, one, rest)
  where
    one-few : (b : Bool) → count_of (if b then [] else copy s h k) ≤ 2
    one-few true = omega arith
    one-few false = omega arith

module _
    {v w : Linked} {s : Source} {place : ℕ → ℕ} (laid : IsLaidIn v w s place) (moving : MovesRun v)
    (p n : ℕ) (op : Operation) (y x : State Cell) (typed : IsTypedAt v s y) (equal : AreEqualBut y x) (of : AreOf s (top y) (top x))
    (leader : is_leader s (top y).place ≡ true) (leads : LeadsTo s (After p op) (top y).place) (from_p : IsReached s.method p)
    (match : AreMatched s (under s p n) (stack_homes s (top y).place))
    (bare : (top x).stack ≡ []) (held : Each (HoldsValue s (slots (top y)) (top x)) (under s p n))
    (before : HoldsAfter s p op (top y).place (top y) (top x)) where
  abbrev q : ℕ
  q = (top y).place

  running-too : IsRunning x
  running-too = let same = equal.frames in let some = typed.runs in omega (arith, same, some)

  -- after the copies
  pub record Taken (m : ℕ) : Type 0 where
    pub registers : List Cell
    pub runs : Runs tagged w (count_of (branch_copies s p op n q)) x (running (top_at x (place (m + count_of (branch_copies s p op n q))) registers []))
    pub count : length registers ≡ length (top x).registers
    pub cells : Each (HoldsValue s (slots (top y)) (record (top x) { registers = registers })) (stack_homes s q)
    pub locals : HoldsLocals s q (top y) (record (top x) { registers = registers })

  pub taken-runs :
      (m : ℕ)
      → ItemsStandFrom s m (branch_copies s p op n q)
      → (top x).place ≡ place m
      → m + count_of (branch_copies s p op n q) < length (steps_of s)
      → Taken m
  unfolding branch_copies
  taken-runs m st at inside =
      let cc_items = cell_copies s (under s p n) (stack_homes s q) in
      let cs = copies s (After p op) q in
      let first_moves = cell-moves s (under s p n) (stack_homes s q) in
      let moves = copies-move s (After p op) q in
      let first_size : count_of cc_items ≡ length (insns cc_items) = count-moves cc_items first_moves in
      let size : count_of cs ≡ length (insns cs) = count-moves cs moves in
      let both = count-append cc_items cs in
      let near = beside laid y x typed equal.heap of in
      let keeps = leader-keeps laid q leader in
      let depth = ap length bare in
      let a = moving.cells_run w laid.new place (steps_of s) x m s q (top y) (under s p n) (stack_homes s q) laid.world laid.planned near match
      (at-step laid x m (length (insns cc_items)) running-too of.target at (omega (arith, inside, first_size, both)))
      (moves-stand s m cc_items first_moves (stand-first s m cc_items cs st)) (omega (arith, depth)) (λ k among. among) keeps held in
      let r : ℕ = m + length (insns cc_items) in
      let x1 : State Cell = top_at x (place r) a.registers [] in
      let run1 : Runs tagged w (length (insns cc_items)) x (running x1) =
      subst (λ stack. Runs tagged w (length (insns cc_items)) x (running (top_at x (place r) a.registers stack))) bare a.runs in
      let of1 : AreOf s (top y) (top x1) = record { source = of.source; target = of.target; count = a.count ∙ of.count } in
      let before1 : HoldsAfter s p op q (top y) (top x1) =
      still-after laid moving.needs p q op (top y) (top x) (top x1) from_p typed.reached
      (λ h known own. held-in-registers s (top y) (top x1) h own.known
      (held-as s (slots (top y)) (record (top x) { registers = a.registers }) (top x1) h refl
      (a.others h known.has (held-in-slots s (top y) (top x) h own)))) before in
      let rest : ItemsStandFrom s r cs =
      stand-at s (m + count_of cc_items) r cs (ap (λ k. m + k) first_size) (stand-last s m cc_items cs st) in
      let c = moving.edges w laid.new place (steps_of s) x1 r s (After p op) q (top y) laid.world laid.planned
      (beside laid y x1 typed equal.heap of1) leads
      (at-step laid x1 r (length (insns cs)) (omega arith) of.target refl (omega (arith, inside, first_size, size, both)))
      (moves-stand s r cs moves rest) (omega arith) before1 in
      let all : length (insns cc_items) + length (insns cs) ≡ count_of (cc_items ++ cs) = omega (arith, first_size, size, both) in
      let last : r + length (insns cs) ≡ m + count_of (cc_items ++ cs) = omega (arith, first_size, size, both) in
      let run2 : Runs tagged w (length (insns cs)) x1 (running (top_at x (place (m + count_of (cc_items ++ cs))) c.registers [])) =
      subst (λ k. Runs tagged w (length (insns cs)) x1 (running (top_at x1 (place k) c.registers []))) last c.runs in
      record {
        registers = c.registers;
        runs = grind (arith, runs-then);
        count = c.count ∙ a.count;
        cells =
            each-among (HoldsValue s (slots (top y)) (record (top x) { registers = c.registers })) (stack_homes s q)
            (λ h among. held-as s (slots (top y)) (record (top x1) { registers = c.registers }) (record (top x) { registers = c.registers }) h
            refl
            (c.others h (kept-registers laid moving.fill q h keeps typed.reached among)
            (held-as s (slots (top y)) (record (top x) { registers = a.registers }) (top x1) h refl
            (among-each (HoldsValue s (slots (top y)) (record (top x) { registers = a.registers })) (stack_homes s q) h a.cells among))));
        locals = grind (arith, each-among, held-as, among-each);
      }

  -- at the group, once they are done
  arrives :
      (least most k : ℕ) (registers : List Cell)
      → least ≤ k
      → k ≤ most
      → Runs tagged w k x (running (top_at x (place (group_at s q)) registers []))
      → length registers ≡ length (top x).registers
      → Each (HoldsValue s (slots (top y)) (record (top x) { registers = registers })) (stack_homes s q)
      → HoldsLocals s q (top y) (record (top x) { registers = registers })
      → ComesWithin w least most x (ComesToGroup s place y x)
  arrives least most k registers some small run count in_cells locals =
      let u : State Cell = top_at x (place (group_at s q)) registers [] in
      let whole = ap length (frames-are x running-too) in
      let same = equal.frames in
      record {
        count = k;
        more = some;
        fewer = small;
        outcome = running u;
        runs = run;
        comes = record {
          state = u;
          is = refl;
          are = record {
            first = record { frames = frames-are y typed.runs };
            second = record { frames = refl };
            equal = record { frames = omega (arith, whole, same); heap = equal.heap; statics = equal.statics };
            group = record {
              of = record { source = of.source; target = of.target; count = count ∙ of.count };
              at = refl;
              holds =
                  leader-holds laid (top y) (top u) leader
                  (record {
                    stack = refl;
                    cells =
                        each-among (HoldsValue s (slots (top y)) (top u)) (stack_homes s q)
                        (λ h among. held-as s (slots (top y)) (record (top x) { registers = registers }) (top u) h refl
                        (among-each (HoldsValue s (slots (top y)) (record (top x) { registers = registers })) (stack_homes s q) h in_cells among));
                    locals = λ l.
                        each-among (HoldsValue s (top y).registers (top u)) (needed s q l)
                        (λ h among. held-as s (top y).registers (record (top x) { registers = registers }) (top u) h refl
                        (among-each (HoldsValue s (top y).registers (record (top x) { registers = registers })) (needed s q l) h (locals l)
                        among));
                  });
            };
          };
        };
      }

  few-taken : count_of (branch_copies s p op n q) ≤ 1018
  unfolding branch_copies
  few-taken = grind (arith, count-append, cell-few, leader-keeps, count-moves, copies-move)

  -- where these items are followed by the group
  pub taken-falls :
      (m : ℕ)
      → ItemsStandFrom s m (branch_copies s p op n q)
      → (top x).place ≡ place m
      → m + count_of (branch_copies s p op n q) ≡ group_at s q
      → ComesWithin w 0 1018 x (ComesToGroup s place y x)
  taken-falls m st at last =
      let inside = group-inside laid q typed.reached in
      let a = taken-runs m st at (omega (arith, last, inside)) in
      let small = few-taken in
      arrives 0 1018 (count_of (branch_copies s p op n q)) a.registers (omega arith) small
      (subst (λ k. Runs tagged w (count_of (branch_copies s p op n q)) x (running (top_at x (place k) a.registers []))) last a.runs) a.count a.cells
      a.locals

  -- where a goto follows
  pub taken-goes :
      (m : ℕ)
      → ItemsStandFrom s m (branch_copies s p op n q ++ goto q ∷ [])
      → (top x).place ≡ place m
      → ComesWithin w 0 1019 x (ComesToGroup s place y x)
  taken-goes m st at =
      let ts = branch_copies s p op n q in
      let all = stand-inside s m (ts ++ goto q ∷ []) st in
      let both = count-append ts (goto q ∷ []) in
      let one : count_of (goto q ∷ []) ≡ 1 = refl in
      let a = taken-runs m (stand-first s m ts (goto q ∷ []) st) at (omega (arith, all, both, one)) in
      let k : ℕ = m + count_of ts in
      let x1 : State Cell = top_at x (place k) a.registers [] in
      let rest : ItemsStandFrom s k (goto q ∷ []) = stand-last s m ts (goto q ∷ []) st in
      let found : slice_get (steps_of s) k ≡ Some (record { insn = jump goto_w; targets = group_at s q ∷ []; keys = [] }) =
      step-at s k (goto q) [] (record { insn = jump goto_w; targets = place_of q (items s) ∷ []; keys = [] }) [] rest refl in
      let method : (top x1).method ≡ s.method.number = of.target in
      let jumped = goto-steps w laid.new place (steps_of s) x1 laid.code.target.rec k (group_at s q) (omega arith)
      (ap (slice_get w.methods) method ∙ target-at laid)
      (subst (λ r. AreSteps (code_at w r) place 0 (steps_of s) (listing (code_at w r))) (sym method) (steps-are laid))
      found refl (group-inside laid q typed.reached) (omega arith) in
      let small = few-taken in
      arrives 0 1019 (count_of ts + 1) a.registers (omega arith) (omega (arith, small))
      (runs-then w (count_of ts) 1 x x1 (running (top_at x (place (group_at s q)) a.registers [])) a.runs (after_step jumped none_taken))
      a.count a.cells a.locals

  -- from the label to which a branch leads
  pub led-arrives :
      (i : Placed) (k : ℕ)
      → i.place ≡ p
      → HasInstruction s.method.code i
      → operation s i ≡ Ok op
      → operands_of s.world (Ok op) ≡ Some n
      → slice_get (targets s.method.code i) k ≡ Some (pos q)
      → (top x).place ≡ place (place_of (lead s p op n (way_of (targets s.method.code i) (pos q)) (pos q)) (items s))
      → ComesWithin w 0 1019 x (ComesToGroup s place y x)
  unfolding lead stub
  led-arrives i k here stands does some target at = by (branch_copies s p op n q) refl at
    where
      direct : branch_copies s p op n q ≡ [] → (top x).place ≡ place (group_at s q) → ComesWithin w 0 1018 x (ComesToGroup s place y x)
      direct e there =
          let h = here-at laid q (reached-some laid q typed.reached) in
          let also : is_some (s.frames h.instruction.place) ≡ true =
          ap (λ r. is_some (s.frames r)) h.at ∙ reached-some laid q typed.reached in
          let whole = groups-stand-at-steps s h.instruction laid.planned.code h.stands also in
          let none : ItemsStandFrom s (group_at s q) [] =
          subst (λ r. ItemsStandFrom s (group_at s r) []) h.at (stand-first s (group_at s h.instruction.place) [] (group s h.instruction) whole) in
          let zero_count : count_of (branch_copies s p op n q) ≡ 0 = ap count_of e in
          taken-falls (group_at s q) (subst (ItemsStandFrom s (group_at s q)) (sym e) none) there (omega (arith, zero_count))

      wider : ComesWithin w 0 1018 x (ComesToGroup s place y x) → ComesWithin w 0 1019 x (ComesToGroup s place y x)
      wider c = grind (arith)

      by :
          (ts : List Item)
          → branch_copies s p op n q ≡ ts
          → (top x).place ≡ place (place_of (label_by q (stub_label p (way_of (targets s.method.code i) (pos q))) (branch_copies s p op n q)) (items s))
          → ComesWithin w 0 1019 x (ComesToGroup s place y x)
      by [] e there =
          wider (direct e (there ∙ ap (λ us. place (place_of (label_by q (stub_label p (way_of (targets s.method.code i) (pos q))) us) (items s))) e))
      by (t ∷ ts) e there =
          let some_taken : branch_copies s i.place op n q ≢ [] = λ none. absurd
          (let bad = sym none ∙ (ap (λ r. branch_copies s r op n q) here ∙ e) in not-none t ts bad) in
          let reached : is_some (s.frames i.place) ≡ true = reached-some laid i.place (subst (IsReached s.method) (sym here) from_p) in
          let st = stubs-stand-at-steps s i op n (way_of (targets s.method.code i) (pos q)) (pos q) laid.planned.code stands reached does some
          (way-found (targets s.method.code i) k (pos q) target) some_taken in
          let own : ItemsStandFrom s (place_of (stub_label p (way_of (targets s.method.code i) (pos q))) (items s))
          (stub_of (stub_label p (way_of (targets s.method.code i) (pos q))) q (branch_copies s p op n q)) =
          subst
          (λ r. ItemsStandFrom s (place_of (stub_label r (way_of (targets s.method.code i) (pos q))) (items s))
          (stub_of (stub_label r (way_of (targets s.method.code i) (pos q))) q (branch_copies s r op n q))) here st in
          let shown : ItemsStandFrom s (place_of (stub_label p (way_of (targets s.method.code i) (pos q))) (items s))
          (Label (stub_label p (way_of (targets s.method.code i) (pos q))) ∷ ((t ∷ ts) ++ goto q ∷ [])) =
          stand-as s (place_of (stub_label p (way_of (targets s.method.code i) (pos q))) (items s))
          (stub_of (stub_label p (way_of (targets s.method.code i) (pos q))) q (branch_copies s p op n q)) _
          (ap (stub_of (stub_label p (way_of (targets s.method.code i) (pos q))) q) e) own in
          taken-goes (place_of (stub_label p (way_of (targets s.method.code i) (pos q))) (items s))
          (subst (λ us. ItemsStandFrom s (place_of (stub_label p (way_of (targets s.method.code i) (pos q))) (items s)) (us ++ goto q ∷ [])) (sym e)
          (stand-labelled s (place_of (stub_label p (way_of (targets s.method.code i) (pos q))) (items s))
          (stub_label p (way_of (targets s.method.code i) (pos q))) ((t ∷ ts) ++ goto q ∷ []) shown))
          (there ∙ ap (λ us. place (place_of (label_by q (stub_label p (way_of (targets s.method.code i) (pos q))) us) (items s))) e)
        where
          not-none : (t : Item) (ts : List Item) → [] ≡ t ∷ ts → ⊥
          not-none t ts e = absurd (cc)
