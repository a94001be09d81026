-- Branches and switches at a frame's turn.
use Rattle.std.proofs.Common.{◌≡◌, ℕ, ◌+◌, Bool, true, false, inl, inr, if◌then◌else◌, List, [], ◌∷◌, drop, map, refl, sym, ap, arith}
use Rattle.std.proofs.Common.{◌∙◌, subst}
use Rattle.std.specs.Prelude.{ℤ, pos, negsuc, Option, Some, None, Contains, find}
use Rattle.std.proofs.lemmas.List.Elements.{All-nil, All-drop}
use Rattle.jc_base.specs.Each.{IsAmong}
use Rattle.jc_base.specs.World.{Linked, IsWorld, code_of}
use Rattle.jc_base.proofs.Tests.{found-passes}
use Rattle.jc_decode.specs.declared.insn.Case.{Case}
use Rattle.jc_decode.specs.declared.insn.Placed.{Placed}
use Rattle.jc_decode.specs.Cases.{cases}
use Rattle.jc_decode.specs.Listing.{jumps, target, targets}
use Rattle.jc_control.specs.Control.{jumped}
use Rattle.jc_decode.proofs.Elements.{Contains-first, Contains-later}
use Rattle.jc_ops.specs.declared.operation.Width.{Width}
use Rattle.jc_ops.specs.declared.operation.Branch.{Branch}
use Rattle.jc_ops.specs.declared.operation.Branch.TheVariants as branches
use Rattle.jc_ops.specs.declared.operation.Operation.{Operation}
use Rattle.jc_ops.specs.declared.operation.Operation.TheVariants as ops
use Rattle.jc_ops.specs.Next.{falls_from, jumps_from}
use Rattle.jc_rules.specs.declared.effect.Cells.TheVariants as given
use Rattle.jc_rules.specs.Rule.{effect, replacing}
use Rattle.jc_rules.specs.Flow.{no_cells}
use Rattle.jc_rules.proofs.CellLists.{cells-same}
use Rattle.vm_store.specs.declared.cell.Cell.{Cell}
use Rattle.vm_store.specs.Cells.{tagged}
use Rattle.vm_store.specs.State.{Frame, Object}
use Rattle.vm_step.specs.Methods.{code_at}
use Rattle.vm_step.specs.Act.{jumps as jumping}
use Rattle.vm_step.specs.Branching.{is_taken, leads_if, branch_act, has_key, case_offset, switch_act}
use Rattle.vm_step.specs.Numbers.{number_on, dropped}
use Rattle.vm_step.specs.Settled.{settled}
use Rattle.law_sound.specs.Frames.{Typings, types_of_frame, IsStacked}
use Rattle.law_sound.specs.Soundness.{IsTypedOutcome}
use Rattle.law_sound.proofs.Finish.{jumps-safe, code-is}
use Rattle.law_sound.proofs.Going.{jumps-on}
use Rattle.law_sound.proofs.Handles.{kinds_of}
use Rattle.law_sound.proofs.Places.{instruction-there}
use Rattle.law_sound.proofs.Turns.{lands}
use Rattle.law_sound.proofs.SafeTurns.{Here, replace-safe, replaced-below}

-- ---- where an instruction leads

pub targets-are : (code : List ℕ) (p : Placed) → jumps p.insn.op ≡ true
    → targets code p ≡ target p.place p.insn.x ∷ map (λ (c : Case). target p.place c.offset) (cases code p.place p.insn)
unfolding targets
targets-are code p h = ap (λ b. if b then target p.place p.insn.x ∷ map (λ (c : Case). target p.place c.offset) (cases code p.place p.insn) else []) h

mapped-among : {X Y : Type 0} (g : X → Y) (xs : List X) (x : X) → IsAmong x xs → Contains (map g xs) (g x)
mapped-among g [] x h = absurd h
mapped-among g (y ∷ ys) x (inl same) = subst (λ z. Contains (g y ∷ map g ys) (g z)) same (Contains-first (g y) (map g ys))
mapped-among g (y ∷ ys) x (inr more) = Contains-later (g y) (map g ys) (g x) (mapped-among g ys x more)

default-led : (code : List ℕ) (p : Placed) → jumps p.insn.op ≡ true → Contains (targets code p) (target p.place p.insn.x)
default-led code p h = grind (arith, targets-are)

chosen-led :
    (code : List ℕ) (p : Placed) (test : Case → Bool) (chosen : Option Case) → jumps p.insn.op ≡ true → find test (cases code p.place p.insn)
    ≡ chosen
    → Contains (targets code p) (target p.place (case_offset p.insn.x chosen))
chosen-led code p test None h e = default-led code p h
chosen-led code p test (Some c) h e =
    let g : Case → ℤ = λ (x : Case). target p.place x.offset in
    subst (λ ts. Contains ts (target p.place c.offset)) (sym (targets-are code p h))
    (Contains-later (target p.place p.insn.x) (map g (cases code p.place p.insn)) (g c)
    (mapped-among g (cases code p.place p.insn) c (found-passes test (cases code p.place p.insn) c e).1))

module _ (w : Linked) (world : IsWorld w) (assigned : Typings) (f : Frame Cell) (below : List (Frame Cell)) (heap : List (Object Cell)) (statics : List Cell)
    (here : Here w assigned f below heap statics)
  where
    -- to a place to which the instruction leads
    leads-safe :
        (next : ℕ) (to : ℤ) (taken : ℕ) (op : Operation)
        → here.turn.operation ≡ op
        → effect w op (types_of_frame w.classes (assigned.unset f.method) (kinds_of heap) f) ≡ replacing taken given.Nothing
        → Contains (targets (code_of w.infos here.turn.stands.rec) here.turn.stands.instruction) to
        → IsTypedOutcome w assigned (settled tagged w next (record { frames = f ∷ below; heap = heap; statics = statics })
        (jumping to (dropped (record { frames = f ∷ below; heap = heap; statics = statics }) taken)))
    leads-safe next (pos q) taken op is does leads =
        let ks = kinds_of heap in
        let st = here.turn.stands in
        let exact = types_of_frame w.classes (assigned.unset f.method) ks f in
        jumps-safe w assigned (record f { stack = drop taken f.stack }) q below heap statics (record {
          made = here.store.made;
          heap = here.store.objects;
          statics = here.store.fields;
          frames = (
            lands w world assigned ks f here.turn ks f.registers (drop taken f.stack) q (jumped leads)
                (replaced-below w world assigned f below heap statics here taken given.Nothing [] ks (ap (λ o. effect w o exact) is ∙ does) no_cells
                (cells-same w.classes exact.regs) (cells-same w.classes exact.stack))
                (All-drop (IsStacked w st.rec ks) taken f.stack here.turn.stacked),
            here.waits,
          );
        })
    leads-safe next (negsuc n) taken op is does leads = grind (arith, instruction-there)

    led-to : (op : Operation) → here.turn.operation ≡ op → jumps_from op ≡ true
        → Contains (targets (code_of w.infos here.turn.stands.rec) here.turn.stands.instruction) (target f.place here.turn.stands.instruction.insn.x)
    led-to op is jumps =
        let st = here.turn.stands in
        let there = instruction-there (code_of w.infos st.rec) f.place st.instruction st.there in
        subst (λ p. Contains (targets (code_of w.infos st.rec) st.instruction) (target p st.instruction.insn.x)) there.at
        (default-led (code_of w.infos st.rec) st.instruction
        (jumps-on w st.rec st.instruction.place st.instruction.insn here.turn.operation here.turn.resolves (ap jumps_from is ∙ jumps)))

    -- a branch that may be taken or not
    branch-by :
        (b : Branch) (taken : Bool) (width : ℕ) → here.turn.operation ≡ ops.Branch b
        → effect w (ops.Branch b) (types_of_frame w.classes (assigned.unset f.method) (kinds_of heap) f) ≡ replacing width given.Nothing
        → falls_from (ops.Branch b) ≡ true
        → IsTypedOutcome w assigned (settled tagged w (here.turn.stands.instruction.place + here.turn.stands.instruction.insn.len)
        (record { frames = f ∷ below; heap = heap; statics = statics })
        (leads_if taken (target f.place here.turn.stands.instruction.insn.x) (dropped (record { frames = f ∷ below; heap = heap; statics = statics }) width)))
    branch-by b true width is does falls =
        leads-safe (here.turn.stands.instruction.place + here.turn.stands.instruction.insn.len) (target f.place here.turn.stands.instruction.insn.x) width
        (ops.Branch b) is does
        (led-to (ops.Branch b) is refl)
    branch-by b false width is does falls =
        replace-safe w world assigned f below heap statics here width given.Nothing [] heap statics
        (ap (λ o. effect w o (types_of_frame w.classes (assigned.unset f.method) (kinds_of heap) f)) is ∙ does) (ap falls_from is ∙ falls)
        no_cells (All-nil (IsStacked w here.turn.stands.rec (kinds_of heap))) here.store refl

    pub branch-safe :
        (b : Branch) → here.turn.operation ≡ ops.Branch b
        → IsTypedOutcome w assigned (settled tagged w (here.turn.stands.instruction.place + here.turn.stands.instruction.insn.len)
        (record { frames = f ∷ below; heap = heap; statics = statics })
        (branch_act tagged here.turn.stands.instruction.insn b (record { frames = f ∷ below; heap = heap; statics = statics })))
    branch-safe branches.Always is =
        leads-safe (here.turn.stands.instruction.place + here.turn.stands.instruction.insn.len) (target f.place here.turn.stands.instruction.insn.x) 0
        (ops.Branch branches.Always) is refl
        (led-to (ops.Branch branches.Always) is refl)
    branch-safe (branches.Zero o) is = branch-by (branches.Zero o) (is_taken tagged (branches.Zero o) f.stack) 1 is refl refl
    branch-safe (branches.Null e) is = branch-by (branches.Null e) (is_taken tagged (branches.Null e) f.stack) 1 is refl refl
    branch-safe (branches.References e) is = branch-by (branches.References e) (is_taken tagged (branches.References e) f.stack) 2 is refl refl
    branch-safe (branches.Shorts o) is = branch-by (branches.Shorts o) (is_taken tagged (branches.Shorts o) f.stack) 2 is refl refl

    switch-by :
        (width : Width) (size : ℕ) → here.turn.operation ≡ ops.Switch width
        → effect w (ops.Switch width) (types_of_frame w.classes (assigned.unset f.method) (kinds_of heap) f) ≡ replacing size given.Nothing
        → IsTypedOutcome w assigned (settled tagged w (here.turn.stands.instruction.place + here.turn.stands.instruction.insn.len)
        (record { frames = f ∷ below; heap = heap; statics = statics })
        (jumping
        (target f.place
        (case_offset here.turn.stands.instruction.insn.x
        (find (has_key (number_on tagged width f.stack)) (cases (code_at w f.method) f.place here.turn.stands.instruction.insn))))
        (dropped (record { frames = f ∷ below; heap = heap; statics = statics }) size)))
    switch-by width size is does =
        let st = here.turn.stands in
        let code : List ℕ = code_of w.infos st.rec in
        let there = instruction-there (code_of w.infos st.rec) f.place st.instruction st.there in
        let test : Case → Bool = has_key (number_on tagged width f.stack) in
        let to : ℕ → List ℕ → ℤ = λ p bytes. target p (case_offset st.instruction.insn.x (find test (cases bytes p st.instruction.insn))) in
        let led : Contains (targets code st.instruction) (to st.instruction.place code) =
        chosen-led code st.instruction test (find test (cases code st.instruction.place st.instruction.insn))
        (jumps-on w st.rec st.instruction.place st.instruction.insn here.turn.operation here.turn.resolves (ap jumps_from is)) refl in
        let at_place : Contains (targets code st.instruction) (to f.place code) = subst (λ p. Contains (targets code st.instruction) (to p code)) there.at
        led in
        leads-safe (st.instruction.place + st.instruction.insn.len) (to f.place (code_at w f.method)) size (ops.Switch width) is does
        (subst (λ bytes. Contains (targets code st.instruction) (to f.place bytes)) (sym (code-is w assigned f.method st.rec st.is_method)) at_place)

    pub switch-safe :
        (width : Width) → here.turn.operation ≡ ops.Switch width
        → IsTypedOutcome w assigned (settled tagged w (here.turn.stands.instruction.place + here.turn.stands.instruction.insn.len)
        (record { frames = f ∷ below; heap = heap; statics = statics })
        (switch_act tagged (code_at w f.method) here.turn.stands.instruction.insn width (record { frames = f ∷ below; heap = heap; statics = statics })))
    switch-safe x is = grind (arith, switch-by)
