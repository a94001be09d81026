-- Where control goes in a method, and the places at which it comes together (JCVM 2.2, sections 6.9.1 and 7.5).
use Rattle.std.specs.Prelude.{ℕ, ◌+◌, ◌<◌, ◌≤◌, pos, List, Contains, IsTrue}
use Rattle.jc_base.specs.declared.record.Handler.{Handler}
use Rattle.jc_decode.specs.declared.insn.Placed.{Placed}
use Rattle.jc_decode.specs.Listing.{falls, targets}
use Rattle.jc_control.specs.Method.{Method}
use Rattle.jc_control.specs.WellFormed.{HasInstruction}

-- control may go from the instruction to this place: after it, or to a target
pub data IsSuccessor (code : List ℕ) (i : Placed) : ℕ → Type 0 where
  falls_through : IsTrue (falls i.insn.op) → IsSuccessor code i (i.place + i.insn.len)
  jumped : {q : ℕ} → Contains (targets code i) (pos q) → IsSuccessor code i q

-- the handler's range has the place
pub record Covers (h : Handler) (place : ℕ) : Type 0 where
  pub from : h.start ≤ place
  pub before : place < h.end

-- the least set of places with place 0, the successors of its members, and the entry of each handler that covers a member
pub data IsReached (m : Method) : ℕ → Type 0 where
  begins : IsReached m 0
  follows : {i : Placed} {q : ℕ} → HasInstruction m.code i → IsReached m i.place → IsSuccessor m.code i q → IsReached m q
  caught : {h : Handler} {p : ℕ} → IsReached m p → Contains m.rec.handlers h → Covers h p → IsReached m h.entry

-- a handler whose range has a reached place
pub record IsLive (m : Method) (h : Handler) : Type 0 where
  pub listed : Contains m.rec.handlers h
  pub place : ℕ
  pub reached : IsReached m place
  pub covers : Covers h place

-- a target of a reached branch or switch, or the entry of a handler that covers a reached place
pub data IsLeader (m : Method) : ℕ → Type 0 where
  led_to : {i : Placed} {q : ℕ} → HasInstruction m.code i → IsReached m i.place → Contains (targets m.code i) (pos q)
      → IsLeader m q
  entered : {h : Handler} {p : ℕ} → IsReached m p → Contains m.rec.handlers h → Covers h p → IsLeader m h.entry
