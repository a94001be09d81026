-- The group of an instruction: from where control comes to its place, to where it falls, or away.
use Rattle.std.proofs.Common.{◌≡◌, ℕ, ◌+◌, Bool, true, false, if◌then◌else◌, List, []}
use Rattle.std.proofs.Common.{◌++◌, map, Option, Some, None, Ok, IfSome, refl, arith}
use Rattle.std.proofs.Common.{sym, ◌∙◌, ap, subst}
use Rattle.jc_base.specs.Cell.{IsDeclared}
use Rattle.jc_base.specs.declared.record.MethodRec.{MethodRec}
use Rattle.jc_base.specs.declared.ty.Ty.{Ty}
use Rattle.jc_decode.specs.declared.insn.Placed.{Placed}
use Rattle.jc_decode.specs.declared.symbols.Item.{Item}
use Rattle.jc_decode.specs.Listing.{targets}
use Rattle.jc_ops.specs.declared.operation.Branch.TheVariants as branches
use Rattle.jc_ops.specs.declared.operation.Holder.TheVariants as holders
use Rattle.jc_ops.specs.declared.operation.Operation.{Operation}
use Rattle.jc_ops.specs.declared.operation.Operation.TheVariants as ops
use Rattle.jc_ops.specs.Next.{falls_from, jumps_from}
use Rattle.jc_rules.specs.Demand.{Frame}
use Rattle.jc_rules.specs.Flow.{CellsBelow, FrameBelow}
use Rattle.xf_homes.specs.Home.{IsConditional}
use Rattle.xf_homes.specs.Walk.{operands_of}
use Rattle.xf_homes.specs.Source.{Source}
use Rattle.xf_homes.specs.Plan.{is_leader}
use Rattle.xf_emission.specs.Laws.{IsCode}
use Rattle.xf_emission.specs.Group.{body, fall_by, fallen, first_place, entrance, done, group_by, group}
use Rattle.law_rewritten_typing.specs.Typed.{registers_of}
use Rattle.law_rewritten_typing.proofs.Walks.{State, holding, left, Asked, nothing_asked, emptied, Flows, flow_end, flows-append, count}
use Rattle.law_rewritten_typing.proofs.Ready.{IsReady}
use Rattle.law_rewritten_typing.proofs.Renames.{named}
use Rattle.law_rewritten_typing.proofs.Turns.{IsLesser}
use Rattle.law_rewritten_typing.specs.Premises.{AreTypingLaws}
use Rattle.law_rewritten_typing.proofs.Running.{IsRecordFor, IsRun, IsPassed, kept-passed, load-passed}
use Rattle.law_rewritten_typing.proofs.Storing.{increment-passed, store-passed}
use Rattle.law_rewritten_typing.proofs.This.{read-passed, write-passed}
use Rattle.law_rewritten_typing.proofs.Leading.{Arrives, FallsInto, fall-arrives, entered-flows}
use Rattle.law_rewritten_typing.proofs.ForkTypings.{branch-flows}
use Rattle.law_rewritten_typing.proofs.Edges.{fork-falls, gone-flows}

module _ (new : ℕ → ℕ) (apart : (a b : ℕ) → new a ≡ new b → a ≡ b) (s : Source) (l : AreTypingLaws s.world) (ready : IsReady s) (r : MethodRec)
    (own_rec : IsRecordFor s.method.rec r) (asks : ℕ → Asked) (res : IfSome s.method.rec.sig.result (IsDeclared s.world.classes)) (code : IsCode s)
  where
    -- the frame at a place to which control goes is above what is left
    pub record IsAbove (after : Frame) (q : ℕ) : Type 0 where
      pub frame : Frame
      pub at : s.frames q ≡ Some frame
      pub below : FrameBelow s.world.classes after frame

    -- where control goes after an instruction
    pub record LeadsOn (i : Placed) (op : Operation) (after : Frame) : Type 0 where
      pub falls : falls_from op ≡ true → IsAbove after (i.place + i.insn.len)
      pub jumps : jumps_from op ≡ true → IsAbove after (first_place (targets s.method.code i))
      pub leads : jumps_from op ≡ true → is_leader s (first_place (targets s.method.code i)) ≡ true

    -- control falls into the next place, or does not come from here
    pub record IsGone (n : ℕ) (i : Placed) (op : Operation) (a : State) (xs : List Item) : Type 0 where
      pub state : State
      pub flow : Flows s.world r (registers_of s.homes) asks n a xs state
      pub arrives : falls_from op ≡ true → Arrives new apart s l ready r own_rec asks res code (i.place + i.insn.len) state
      pub leaves : falls_from op ≡ false → state ≡ left

    differ : (b : Bool) → b ≡ true → b ≡ false → ⊥
    differ b e f = absurd (cc)

    -- an instruction whose body leaves these cells where it goes on, and the way from there
    flows-gone : (i : Placed) (op : Operation) (st over : List Ty) (n : ℕ) (asked : Option ℕ) → operands_of s.world (Ok op) ≡ asked
        → Flows s.world r (registers_of s.homes) asks n (holding (map (named new apart) st)) (body s i op) (if falls_from op then holding over else left)
        → (falls_from op ≡ true → FallsInto new apart s l ready r own_rec asks res code (i.place + i.insn.len) (holding over)
        (fall_by s i.place op asked (i.place + i.insn.len)))
        → IsGone n i op (holding (map (named new apart) st)) (done s i (Ok op))
    unfolding fallen
    flows-gone i op st over n asked is p into = by (falls_from op) refl
      where
        q : ℕ
        q = i.place + i.insn.len

        by : (b : Bool) → falls_from op ≡ b
            → IsGone n i op (holding (map (named new apart) st))
            (body s i op ++ (if falls_from op then fall_by s i.place op (operands_of s.world (Ok op)) q else []))
        by true e = grind (arith, holding, flows-append)
        by false e = grind (arith, holding, flow_end, flows-append)

    passed-gone : (i : Placed) (op : Operation) (f after : Frame) (st : List Ty) (n : ℕ) → IsRun s i op f after → LeadsOn i op after
        → operands_of s.world (Ok op) ≡ None → IsPassed new apart s l ready r own_rec asks res n (body s i op) op st after
        → IsGone n i op (holding (map (named new apart) st)) (done s i (Ok op))
    passed-gone i op f after st n run leads none p =
        flows-gone i op st (map (named new apart) p.stack) n None none p.flow
        (λ e. let g = leads.falls e in
        fall-arrives new apart s l ready r own_rec asks res code i op f after g.frame (i.place + i.insn.len) p.stack run g.at g.below p.lesser)

    -- a conditional branch or a switch, whose body is that of its operands
    fork-gone : (i : Placed) (op : Operation) (f after : Frame) (st : List Ty) (n m : ℕ) → IsRun s i op f after → LeadsOn i op after
        → IsConditional op → operands_of s.world (Ok op) ≡ Some m
        → Flows s.world r (registers_of s.homes) asks n (holding (map (named new apart) st)) (body s i op) (if falls_from op then holding [] else left)
        → IsGone n i op (holding (map (named new apart) st)) (done s i (Ok op))
    fork-gone i op f after st n m run leads is some p =
        flows-gone i op st [] n (Some m) some p
        (λ e. let g = leads.falls e in
        fork-falls new apart s l ready r own_rec asks res code i op f after g.frame m (i.place + i.insn.len) run is some g.at g.below)

    -- ---- each operation

    pub done-flows : (i : Placed) (op : Operation) (f after : Frame) (st : List Ty) (n : ℕ) → IsRun s i op f after → LeadsOn i op after
        → new i.place ≡ n → IsLesser s.world f st → IsGone n i op (holding (map (named new apart) st)) (done s i (Ok op))
    unfolding body
    done-flows i (ops.Load letter x) f after st n run leads here lesser =
        passed-gone i (ops.Load letter x) f after st n run leads refl (load-passed new apart s l ready r own_rec asks res i letter x f after st n run lesser)
    done-flows i (ops.Increment width x amount) f after st n run leads here lesser =
        passed-gone i (ops.Increment width x amount) f after st n run leads refl
        (increment-passed new apart s l ready r own_rec asks res i width x amount f after st n run lesser)
    done-flows i (ops.Store letter x) f after st n run leads here lesser =
        let g = leads.falls refl in
        passed-gone i (ops.Store letter x) f after st n run leads refl
        (store-passed new apart s l ready r own_rec asks res i letter x f after g.frame st n run g.at g.below lesser)
    done-flows i (ops.FieldRead fld holders.This) f after st n run leads here lesser =
        passed-gone i (ops.FieldRead fld holders.This) f after st n run leads refl
        (read-passed new apart s l ready r own_rec asks res i fld f after st n run here lesser)
    done-flows i (ops.FieldWrite fld holders.This) f after st n run leads here lesser =
        passed-gone i (ops.FieldWrite fld holders.This) f after st n run leads refl
        (write-passed new apart s l ready r own_rec asks res i fld f after st n run here lesser)
    done-flows i (ops.Branch branches.Always) f after st n run leads here lesser =
        let g = leads.jumps refl in
        passed-gone i (ops.Branch branches.Always) f after st n run leads refl
        (record {
          stack = st;
          lesser = record {
            below = subst (CellsBelow s.world.classes st) (sym run.does.stack) lesser.below;
            full = lesser.full;
            known = lesser.known;
          };
          flow = gone-flows new apart s l ready r own_rec asks res code i f after g.frame (first_place (targets s.method.code i)) st
              n run g.at g.below (leads.leads refl) lesser;
        })
    done-flows i (ops.Branch b) f after st n run leads here lesser =
        fork-gone i (ops.Branch b) f after st n _ run leads tt refl
        (branch-flows new apart s l ready r own_rec asks res code i (ops.Branch b) f after _ st n run tt refl lesser)
    done-flows i (ops.Switch width) f after st n run leads here lesser =
        fork-gone i (ops.Switch width) f after st n _ run leads tt refl
        (branch-flows new apart s l ready r own_rec asks res code i (ops.Switch width) f after _ st n run tt refl lesser)
    done-flows i op f after st n run leads here lesser =
        passed-gone i op f after st n run leads refl (kept-passed new apart s l ready r own_rec asks res i op f after st n run tt tt refl here lesser)

    -- ---- the group

    pub group-flows : (i : Placed) (op : Operation) (f after : Frame) (n : ℕ) (a : State) → IsRun s i op f after → LeadsOn i op after
        → new i.place ≡ n + count (entrance s i.place) → asks i.place ≡ (if is_leader s i.place then emptied else nothing_asked)
        → Arrives new apart s l ready r own_rec asks res code i.place a → IsGone n i op a (group s i)
    unfolding group
    group-flows i op f after n a run leads here wants comes =
        let head = entered-flows new apart s l ready r own_rec asks res code n i.place f run.at wants a comes in
        let rest = done-flows i op f after head.stack (n + count (entrance s i.place)) run leads here head.lesser in
        let whole : group_by s i (s.frames i.place) ≡ entrance s i.place ++ done s i (Ok op) = ap (group_by s i) run.at
        ∙ ap (λ o. entrance s i.place ++ done s i o) run.resolves in
        record {
          state = rest.state;
          flow =
              subst (λ (xs : List Item). Flows s.world r (registers_of s.homes) asks n a xs rest.state) (sym whole)
              (flows-append s.world r (registers_of s.homes) asks head.flow rest.flow);
          arrives = rest.arrives;
          leaves = rest.leaves;
        }
