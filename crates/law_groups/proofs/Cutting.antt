-- A conditional branch or a switch rests on its operands alone: without the cells under them it leads to the same place.
use Rattle.std.proofs.Common.{◌≡◌, ℕ, zero, suc, ◌+◌, Bool, true, false, List, []}
use Rattle.std.proofs.Common.{◌∷◌, length, map, take, drop, refl, sym, ap, ◌∙◌, subst, arith}
use Rattle.std.specs.Prelude.{ℤ, Some, None, Ok, nat_lt}
use Rattle.std.proofs.lemmas.Bool.{le-ltb}
use Rattle.jc_base.specs.declared.ty.Ty.TheVariants.{Bottom}
use Rattle.jc_base.specs.World.{Linked, IsWorld}
use Rattle.jc_decode.specs.declared.insn.Placed.{Placed}
use Rattle.jc_decode.specs.Listing.{target}
use Rattle.jc_ops.specs.declared.operation.Branch.TheVariants as branches
use Rattle.jc_ops.specs.declared.operation.Operation.{Operation}
use Rattle.jc_ops.specs.declared.operation.Operation.TheVariants as ops
use Rattle.jc_ops.specs.declared.operation.Width.TheVariants as widths
use Rattle.jc_ops.specs.Sound.{OperationsAreDecided}
use Rattle.jc_rules.specs.Demand.{SatisfiesAll}
use Rattle.jc_rules.specs.Footprint.{footprint}
use Rattle.jc_rules.specs.Rule.{demands}
use Rattle.law_sound.specs.Frames.{types_of_frame}
use Rattle.law_sound.proofs.Passing.{passes-before}
use Rattle.law_sound.proofs.Finish.{pick, pick-yes}
use Rattle.vm_store.specs.declared.cell.Cell.{Cell}
use Rattle.vm_store.specs.Cells.{tagged}
use Rattle.vm_store.specs.State.{State, Frame, Object, top, with_place, with_stack}
use Rattle.vm_step.specs.declared.ending.Fault.TheVariants.{JumpFault, StackFault}
use Rattle.vm_step.specs.Act.{Act, goes, jumps}
use Rattle.vm_step.specs.Branching.{is_taken, leads_if}
use Rattle.vm_step.specs.Methods.{code_at, max_stack_of}
use Rattle.vm_step.specs.Numbers.{dropped}
use Rattle.vm_step.specs.Performed.{act}
use Rattle.vm_step.specs.Raising.{Outcome, running}
use Rattle.vm_step.specs.Settled.{fault_next, fault_target, goes_to, is_over, is_past}
use Rattle.vm_step.specs.Settled.{is_target_place, jumps_to, place_number, settled, unless_fault}
use Rattle.vm_step.specs.Step.{Fetches, Steps, performed, performs}
use Rattle.vm_step.specs.Tests.{fault_before}
use Rattle.vm_step.proofs.Running.{steps-one}
use Rattle.law_erasure.specs.Erasure.{IsNoFault}
use Rattle.law_alike.specs.Running.{Executes}
use Rattle.law_alike.proofs.Asked.{passed-asks}
use Rattle.law_alike.proofs.Settling.{unless-none, both-passed, picked-last}
use Rattle.xf_homes.specs.Walk.{operands_of}

-- the state with the operands alone on its stack
abbrev pub cut_state : State Cell → ℕ → State Cell
cut_state z n = with_stack z (take n (top z).stack)

-- both lead to one place
pub record IsForked (v : Linked) (z : State Cell) (n : ℕ) (o : Outcome Cell) : Type 0 where
  pub place : ℕ
  pub is : o ≡ running (with_place (dropped z n) place)
  pub cut : Steps tagged v (cut_state z n) (running (with_place (dropped (cut_state z n) n) place))

-- ---- the tests after

pub none-left : {X : Type 0} (n : ℕ) (xs : List X) → drop n (take n xs) ≡ []
none-left zero xs = refl
none-left (suc n) [] = refl
none-left (suc n) (x ∷ xs) = none-left n xs

module _
    (v : Linked) (world : IsWorld v) (i : Placed)
    (f : Frame Cell) (below : List (Frame Cell)) (heap : List (Object Cell)) (statics : List Cell) where
  -- with another stack
  abbrev at : List Cell → State Cell
  at stack =
      record {
        frames = record { method = f.method; place = f.place; registers = f.registers; stack = stack } ∷ below;
        heap = heap;
        statics = statics;
      }

  abbrev Asks : Operation → List Cell → Type 0
  Asks op stack =
      SatisfiesAll v.classes (types_of_frame v.classes Bottom (map (λ (o : Object Cell). o.kind) heap) (top (at stack))) (demands v op)

  -- what is done with the whole stack, and with the operands alone
  data Both (op : Operation) (n : ℕ) (stack : List Cell) : Type 0 where
    both_go :
        act tagged v i.insn op (at stack) ≡ goes (dropped (at stack) n)
        → act tagged v i.insn op (at (take n stack)) ≡ goes (dropped (at (take n stack)) n)
        → Asks op (take n stack)
        → Both op n stack
    both_jump :
        (to : ℤ)
        → act tagged v i.insn op (at stack) ≡ jumps to (dropped (at stack) n)
        → act tagged v i.insn op (at (take n stack)) ≡ jumps to (dropped (at (take n stack)) n)
        → Asks op (take n stack)
        → Both op n stack

  both-lead :
      (op : Operation) (n : ℕ) (stack : List Cell) (to : ℤ) (c : Bool)
      → act tagged v i.insn op (at stack) ≡ leads_if c to (dropped (at stack) n)
      → act tagged v i.insn op (at (take n stack)) ≡ leads_if c to (dropped (at (take n stack)) n)
      → Asks op (take n stack)
      → Both op n stack
  both-lead op n stack to true one two asks = both_jump to one two asks
  both-lead op n stack to false one two asks = both_go one two asks

  both :
      (op : Operation) (n : ℕ) (stack : List Cell)
      → operands_of v (Ok op) ≡ Some n
      → Asks op stack
      → Both op (footprint v op).taken stack
  both (ops.Branch branches.Always) n stack e asks = absurd (cc)
  both (ops.Branch (branches.Zero o)) n [] e asks = absurd asks.0
  both (ops.Branch (branches.Zero o)) n (a ∷ rest) e asks =
      both-lead (ops.Branch (branches.Zero o)) 1 (a ∷ rest) (target f.place i.insn.x) (is_taken tagged (branches.Zero o) (a ∷ [])) refl refl
      asks
  both (ops.Branch (branches.Null o)) n [] e asks = absurd asks.0
  both (ops.Branch (branches.Null o)) n (a ∷ rest) e asks =
      both-lead (ops.Branch (branches.Null o)) 1 (a ∷ rest) (target f.place i.insn.x) (is_taken tagged (branches.Null o) (a ∷ [])) refl refl
      asks
  both (ops.Branch (branches.References o)) n [] e asks = absurd asks.0
  both (ops.Branch (branches.References o)) n (a ∷ []) e asks = absurd asks.1.0
  both (ops.Branch (branches.References o)) n (a ∷ b ∷ rest) e asks =
      both-lead (ops.Branch (branches.References o)) 2 (a ∷ b ∷ rest) (target f.place i.insn.x)
      (is_taken tagged (branches.References o) (a ∷ b ∷ [])) refl refl asks
  both (ops.Branch (branches.Shorts o)) n [] e asks = absurd asks.0
  both (ops.Branch (branches.Shorts o)) n (a ∷ []) e asks = absurd asks.1.0
  both (ops.Branch (branches.Shorts o)) n (a ∷ b ∷ rest) e asks =
      both-lead (ops.Branch (branches.Shorts o)) 2 (a ∷ b ∷ rest) (target f.place i.insn.x)
      (is_taken tagged (branches.Shorts o) (a ∷ b ∷ [])) refl refl asks
  both (ops.Switch widths.Short) n [] e asks = absurd asks.0
  both (ops.Switch widths.Short) n (a ∷ rest) e asks = both_jump _ refl refl asks
  both (ops.Switch widths.Int) n [] e asks = absurd asks.0
  both (ops.Switch widths.Int) n (a ∷ []) e asks = absurd asks.1.0
  both (ops.Switch widths.Int) n (a ∷ b ∷ rest) e asks = both_jump _ refl refl asks
  both _ n stack e asks = absurd (cc)

  -- ---- what is led to

  module _
      (op : Operation) (n : ℕ) (ex : Executes v (at f.stack) i op) (o : Outcome Cell)
      (is : o ≡ settled tagged v (i.place + i.insn.len) (at f.stack) (act tagged v i.insn op (at f.stack))) (fine : IsNoFault o) where
    abbrev next : ℕ
    next = i.place + i.insn.len

    abbrev whole : State Cell
    whole = at f.stack

    abbrev cut : State Cell
    cut = at (take n f.stack)

    depth : length (drop n (take n f.stack)) ≡ 0
    depth = ap length (none-left n f.stack)

    fetched-too : Fetches v cut ex.method i
    fetched-too = record { runs = omega arith; method = ex.fetched.method; instruction = ex.fetched.instruction }

    steps-cut :
        (a : Act Cell) (p : Outcome Cell)
        → act tagged v i.insn op cut ≡ a
        → Asks op (take n f.stack)
        → settled tagged v next cut a ≡ p
        → Steps tagged v cut p
    steps-cut a p does asks leads =
        let before : fault_before tagged v op cut ≡ None = passes-before v world.chains (top cut) below heap statics op asks in
        performs fetched-too op ex.resolved
        (sym (ap (λ x. unless_fault cut x (settled tagged v next cut (act tagged v i.insn op cut))) before
        ∙ (ap (settled tagged v next cut) does ∙ leads)))

    room-free : is_over v (dropped cut n) (length (drop n (take n f.stack))) ≡ false
    room-free = ap (nat_lt (max_stack_of v f.method)) depth ∙ le-ltb (max_stack_of v f.method) 0 (omega arith)

    forked : Both op n f.stack → IsForked v whole n o
    forked (both_go one two asks) =
        let leads : o ≡ goes_to tagged v next whole (dropped whole n) = is ∙ ap (settled tagged v next whole) one in
        let passed = unless-none whole (fault_next tagged v (dropped whole n) (length (drop n f.stack)) next)
        (running (with_place (dropped whole n) next)) (subst IsNoFault leads fine) in
        let calm : is_past v (dropped whole n) next ≡ false =
        (both-passed StackFault JumpFault (is_over v (dropped whole n) (length (drop n f.stack))) (is_past v (dropped whole n) next) passed.0).1 in
        let after : fault_next tagged v (dropped cut n) (length (drop n (take n f.stack))) next ≡ None =
        pick (Some StackFault) (Some JumpFault) (is_over v (dropped cut n) (length (drop n (take n f.stack)))) (is_past v (dropped cut n) next)
        room-free calm in
        record {
          place = next;
          is = leads ∙ passed.1;
          cut =
              steps-cut (goes (dropped cut n)) (running (with_place (dropped cut n) next)) two asks
              (ap (λ x. unless_fault cut x (running (with_place (dropped cut n) next))) after);
        }
    forked (both_jump to one two asks) =
        let leads : o ≡ jumps_to tagged v to (dropped whole n) = is ∙ ap (settled tagged v next whole) one in
        let passed = unless-none (dropped whole n) (fault_target tagged v (dropped whole n) to)
        (running (with_place (dropped whole n) (place_number to))) (subst IsNoFault leads fine) in
        let there : is_target_place (code_at v f.method) to ≡ true =
        (picked-last StackFault JumpFault (is_over v (dropped whole n) (length (drop n f.stack))) (is_target_place (code_at v f.method) to) passed.0).1 in
        let after : fault_target tagged v (dropped cut n) to ≡ None =
        pick-yes (Some StackFault) (Some JumpFault) (is_over v (dropped cut n) (length (drop n (take n f.stack)))) (is_target_place (code_at v f.method) to)
        room-free there in
        record {
          place = place_number to;
          is = leads ∙ passed.1;
          cut =
              steps-cut (jumps to (dropped cut n)) (running (with_place (dropped cut n) (place_number to))) two asks
              (ap (λ x. unless_fault (dropped cut n) x (running (with_place (dropped cut n) (place_number to)))) after);
        }

same-taken : (v : Linked) (op : Operation) (n : ℕ) → operands_of v (Ok op) ≡ Some n → (footprint v op).taken ≡ n
same-taken v y n e = grind (arith)

pub forks-cut :
    (v : Linked) → IsWorld v → OperationsAreDecided v → (z : State Cell) (o : Outcome Cell) (i : Placed) (op : Operation) (n : ℕ)
    → Executes v z i op
    → operands_of v (Ok op) ≡ Some n
    → Steps tagged v z o
    → IsNoFault o
    → IsForked v z n o
forks-cut v world decided z o i op n ex some step fine = by z.frames z.heap z.statics ex step
  where
    by :
        (fs : List (Frame Cell)) (heap : List (Object Cell)) (statics : List Cell)
        → Executes v (record { frames = fs; heap = heap; statics = statics }) i op
        → Steps tagged v (record { frames = fs; heap = heap; statics = statics }) o
        → IsForked v (record { frames = fs; heap = heap; statics = statics }) n o
    by [] heap statics ex step = absurd (let lt = ex.fetched.runs in omega (arith, lt))
    by (f ∷ below) heap statics ex step =
        let s : State Cell = record { frames = f ∷ below; heap = heap; statics = statics } in
        let is : o ≡ performed tagged v i op s =
        steps-one tagged v decided s o (performed tagged v i op s) step (performs ex.fetched op ex.resolved refl) in
        let leads : Outcome Cell = settled tagged v (i.place + i.insn.len) s (act tagged v i.insn op s) in
        let passed = unless-none s (fault_before tagged v op s) leads (subst IsNoFault is fine) in
        let asks = passed-asks v world f below heap statics op passed.0 in
        let b = both v world i f below heap statics op n f.stack some asks in
        forked v world i f below heap statics op n ex o (is ∙ passed.1) fine
        (subst (λ k. Both v world i f below heap statics op k f.stack) (same-taken v op n some) b)
