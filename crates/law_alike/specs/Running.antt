-- Two frames that come to instructions which are equal but for the numbers of registers and the places of targets, in worlds that
-- differ in
-- the code of methods alone, and what their steps come to (JCVM 2.2, section 3.5 and chapter 7).
use Rattle.std.specs.Prelude.{◌≡◌, ℕ, ◌+◌, ◌≤◌, ℤ, pos, true, ⊤, List, length, map, All, Ok, Some, slice_get}
use Rattle.jc_base.specs.declared.record.MethodRec.{MethodRec}
use Rattle.jc_base.specs.World.{Linked}
use Rattle.jc_decode.specs.declared.insn.Placed.{Placed}
use Rattle.jc_decode.specs.Cases.{cases}
use Rattle.jc_decode.specs.Listing.{targets}
use Rattle.jc_control.specs.WellFormed.{IsPlace, IsTargetPlace}
use Rattle.jc_ops.specs.declared.operation.Operation.{Operation}
use Rattle.jc_ops.specs.declared.operation.Operation.TheVariants.{Switch}
use Rattle.jc_ops.specs.Alike.{IsAlike}
use Rattle.jc_ops.specs.Next.{falls_from}
use Rattle.jc_ops.specs.Resolve.{Resolves}
use Rattle.jc_rules.specs.Footprint.{registers_asked, registers_read, footprint}
use Rattle.jc_rules.specs.Rule.{demands}
use Rattle.vm_store.specs.Cells.{Cells}
use Rattle.vm_store.specs.State.{State, top, arguments, with_call, without_top}
use Rattle.vm_step.specs.declared.ending.Value.{Value}
use Rattle.vm_step.specs.declared.ending.Plain.{Plain}
use Rattle.vm_step.specs.declared.ending.Ending.TheVariants as endings
use Rattle.vm_step.specs.declared.ending.Exception.{Exception}
use Rattle.vm_step.specs.Act.{calls, gives, raises, throws}
use Rattle.vm_step.specs.Methods.{code_at, max_stack_of}
use Rattle.vm_step.specs.Performed.{act}
use Rattle.vm_step.specs.Raising.{Outcome, running, ended, thrown, raised}
use Rattle.vm_step.specs.Settled.{given_to}
use Rattle.vm_step.specs.Step.{Fetches}
use Rattle.law_alike.specs.Alike.{renamed_new, AreAlike, ArePlain, StayAlike}

-- ---- before the step

-- the code of the method on top
abbrev pub top_code : {A : Type 0} → Linked → State A → List ℕ
top_code w s = code_at w (top s).method

-- the operation of the instruction at the place of the frame on top
pub record Executes {A : Type 0} (w : Linked) (s : State A) (i : Placed) (op : Operation) : Type 0 where
  pub method : MethodRec
  pub fetched : Fetches w s method i
  pub resolved : Resolves w method i.place i.insn (Ok op)

-- the keys of two switches are equal
abbrev pub HaveKeys : Operation → List ℤ → List ℤ → Type 0
HaveKeys (Switch width) keys others = keys ≡ others
HaveKeys op keys others = ⊤

abbrev pub keys_at : {A : Type 0} → Linked → State A → Placed → List ℤ
keys_at w s i = map (λ c. c.key) (cases (top_code w s) i.place i.insn)

-- the frame on top of t, at the instruction j with the operation b, against that of s, at i with a: the operations are equal but
-- for
-- registers, and for the place of a `new`; each target of j, and the place after it where it falls through, is an instruction's;
-- the
-- states are alike; the second has the registers that it names, and in those that it reads the cells that the first has in its own;
-- and no less room on its stack
pub record RunAlike {A : Type 0} (e : A → A) (place : ℕ → ℕ) (v w : Linked) (s t : State A) (i j : Placed) (a b : Operation) :
    Type 0 where
  pub operations : IsAlike (renamed_new place a) b
  pub keys : HaveKeys a (keys_at v s i) (keys_at w t j)
  pub targets : All (IsTargetPlace (top_code w t)) (targets (top_code w t) j)
  pub next : falls_from b ≡ true → IsPlace (top_code w t) (j.place + j.insn.len)
  pub states : AreAlike e s t
  pub named : registers_asked (demands w b) ≤ length (top t).registers
  pub read :
      map (slice_get (top t).registers) (registers_read (demands w b))
      ≡ map (slice_get (top s).registers) (registers_read (demands v a))
  pub room : max_stack_of v (top s).method ≤ max_stack_of w (top t).method

-- ---- after the step

-- what a step from s in the world v and one from t in the world w come to, where they come to the same
pub data ComeAlike {A : Type 0}
    (k : Cells A) (e : A → A) (v w : Linked) (s t : State A) (i j : Placed) (a b : Operation)
    : Outcome A → Outcome A → Type 0
  where
    -- each goes on at the instruction after
    next_alike :
        {z y : State A}
        → StayAlike e (footprint v a) (footprint v b) s z t y
        → falls_from b ≡ true
        → (top z).place ≡ i.place + i.insn.len
        → (top y).place ≡ j.place + j.insn.len
        → ComeAlike k e v w s t i j a b (running z) (running y)
    -- each jumps to its target of the same number
    target_alike :
        (n : ℕ) {z y : State A}
        → StayAlike e (footprint v a) (footprint v b) s z t y
        → slice_get (targets (top_code v s) i) n ≡ Some (pos (top z).place)
        → slice_get (targets (top_code w t) j) n ≡ Some (pos (top y).place)
        → ComeAlike k e v w s t i j a b (running z) (running y)
    -- both call the same method with equal arguments, and wait at their calls
    call_alike :
        (method count : ℕ) {z y : State A} {o p : Outcome A}
        → StayAlike e (footprint v a) (footprint v b) s z t y
        → (top z).place ≡ (top s).place
        → (top y).place ≡ (top t).place
        → arguments count (top y).stack ≡ arguments count (top z).stack
        → act k v i.insn a s ≡ calls method count z
        → o ≡ running (with_call k v.methods z method count)
        → p ≡ running (with_call k w.methods y method count)
        → ComeAlike k e v w s t i j a b o p
    -- both return the same value, in the same cells, none of which is an uninitialised object
    return_alike :
        (value : Value) (cells : List A) {o p : Outcome A}
        → ArePlain k cells
        → act k v i.insn a s ≡ gives value cells
        → o ≡ given_to k v value cells (without_top s)
        → p ≡ given_to k w value cells (without_top t)
        → ComeAlike k e v w s t i j a b o p
    -- both throw an exception of the same role
    exception_alike :
        (exception : Exception) {o p : Outcome A}
        → act k v i.insn a s ≡ raises exception
        → o ≡ raised k v exception s
        → p ≡ raised k w exception t
        → ComeAlike k e v w s t i j a b o p
    -- both throw the same object
    throw_alike :
        (handle : ℕ) {o p : Outcome A}
        → act k v i.insn a s ≡ throws handle
        → o ≡ thrown k v handle s
        → p ≡ thrown k w handle t
        → ComeAlike k e v w s t i j a b o p
    -- both end in the same way, with equal objects and static fields
    end_alike :
        (ending : Plain) (z : State A) → ComeAlike k e v w s t i j a b (ended (endings.Plain ending) z)
        (ended (endings.Plain ending) z)
