-- Registers of a method that are live: what they hold may be read before it is written again (Aho, Lam, Sethi and Ullman, section 9.2.5).
use Rattle.std.specs.Prelude.{ℕ, ◌+◌, ◌<◌, ◌≤◌, Ok, Contains}
use Rattle.jc_base.specs.declared.record.Handler.{Handler}
use Rattle.jc_base.specs.World.{Linked}
use Rattle.jc_decode.specs.declared.insn.Placed.{Placed}
use Rattle.jc_control.specs.Control.{IsSuccessor, Covers}
use Rattle.jc_control.specs.Method.{Method}
use Rattle.jc_control.specs.WellFormed.{HasInstruction}
use Rattle.jc_ops.specs.declared.operation.Operation.{Operation}
use Rattle.jc_ops.specs.Resolve.{Resolves}
use Rattle.jc_rules.specs.Footprint.{footprint, registers_read}
use Rattle.jc_rules.specs.Rule.{demands}

-- an instruction of the method, with its operation
pub record Operates (w : Linked) (m : Method) (i : Placed) (op : Operation) : Type 0 where
  pub stands : HasInstruction m.code i
  pub resolves : Resolves w m.rec i.place i.insn (Ok op)

-- the operation asks what the register holds; an increment does, before it writes it
abbrev pub Reads : Linked → Operation → ℕ → Type 0
Reads w op x = Contains (registers_read (demands w op)) x

-- the operation stores into the register
pub record Writes (w : Linked) (op : Operation) (x : ℕ) : Type 0 where
  pub from : (footprint w op).register ≤ x
  pub before : x < (footprint w op).register + (footprint w op).written

-- the successors of an instruction: the places to which control may go from there, and the entries of all handlers that cover it
pub data MayLeadTo (m : Method) (i : Placed) : ℕ → Type 0 where
  leads_on : {q : ℕ} → IsSuccessor m.code i q → MayLeadTo m i q
  leads_off : {h : Handler} → Contains m.rec.handlers h → Covers h i.place → MayLeadTo m i h.entry

-- a walk along successors comes from the place to an instruction that reads the register, before any that writes it
pub data IsLiveAt (w : Linked) (m : Method) (x : ℕ) : ℕ → Type 0 where
  live_read : (i : Placed) (op : Operation) → Operates w m i op → Reads w op x → IsLiveAt w m x i.place
  live_on :
      (i : Placed) (op : Operation) (q : ℕ)
      → Operates w m i op
      → ¬ (Writes w op x)
      → MayLeadTo m i q
      → IsLiveAt w m x q
      → IsLiveAt w m x i.place
