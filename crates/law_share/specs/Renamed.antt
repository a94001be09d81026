-- A method of a world, and one of another world that has the same code but for the numbers of its registers.
use Rattle.std.specs.Prelude.{◌≡◌, ℕ, pos, ◌+◌, ◌<◌, ◌≤◌, ◌⊎◌, map, Contains}
use Rattle.jc_base.specs.declared.record.Handler.{Handler}
use Rattle.jc_base.specs.World.{Linked}
use Rattle.jc_decode.specs.declared.insn.Placed.{Placed}
use Rattle.jc_decode.specs.Cases.{cases}
use Rattle.jc_decode.specs.Listing.{falls, jumps, targets}
use Rattle.jc_control.specs.Method.{Method, IsMethodOf}
use Rattle.jc_control.specs.WellFormed.{HasInstruction, IsPlace, IsWellFormed}
use Rattle.jc_ops.specs.declared.operation.Operation.{Operation}
use Rattle.jc_ops.specs.Alike.{IsAlike}
use Rattle.jc_rules.specs.Footprint.{footprint, registers_asked, registers_read}
use Rattle.jc_rules.specs.Rule.{demands}
use Rattle.vm_step.specs.Raising.{catches}
use Rattle.vm_step.specs.Settled.{place_number}
use Rattle.law_alike.specs.Alike.{IsOneToOne, renamed_new}
use Rattle.law_share.specs.Live.{Operates, Writes, MayLeadTo, IsLiveAt}

-- the words that a method has in its registers
abbrev pub register_total : Method → ℕ
register_total m = m.rec.nargs + m.rec.max_locals

-- the instruction j of the method r in w is i of m in v with its registers renamed: it reads and writes the same but for their numbers, and
-- it writes none that has to hold a live one
pub record AreMatched
    (v w : Linked) (m r : Method) (place reg : ℕ → ℕ) (i : Placed) (a : Operation) (j : Placed) (b : Operation)
    : Type 0
  where
    pub operates : Operates w r j b
    pub at : j.place ≡ place i.place
    pub next : j.place + j.insn.len ≡ place (i.place + i.insn.len)
    pub falls_alike : falls j.insn.op ≡ falls i.insn.op
    pub jumps_alike : jumps j.insn.op ≡ jumps i.insn.op
    pub alike : IsAlike (renamed_new place a) b
    pub keys : map (λ c. c.key) (cases m.code i.place i.insn) ≡ map (λ c. c.key) (cases r.code j.place j.insn)
    pub leads : targets r.code j ≡ map (λ t. pos (place (place_number t))) (targets m.code i)
    pub reads : registers_read (demands w b) ≡ map reg (registers_read (demands v a))
    pub asked : registers_asked (demands v a) ≤ register_total m → registers_asked (demands w b) ≤ register_total r
    pub writes : (k : ℕ) → k < (footprint v a).written → (footprint v b).register + k ≡ reg ((footprint v a).register + k)
    pub apart : (q x : ℕ) → MayLeadTo m i q → IsLiveAt v m x q → ¬ (Writes v a x) → ¬ (Writes v b (reg x))

pub record IsMatched (v w : Linked) (m r : Method) (place reg : ℕ → ℕ) (i : Placed) (a : Operation) : Type 0 where
  pub other : Placed
  pub new : Operation
  pub are : AreMatched v w m r place reg i a other new

-- the handlers of both, one by one
pub record CatchAlike (v : Linked) (m r : Method) (place : ℕ → ℕ) (handler : Handler → Handler) : Type 0 where
  pub handlers : r.rec.handlers ≡ map handler m.rec.handlers
  pub entry : (h : Handler) → Contains m.rec.handlers h → (handler h).entry ≡ place h.entry
  pub class : (h : Handler) → Contains m.rec.handlers h → (handler h).class ≡ h.class
  pub catch :
      (p class : ℕ) (h : Handler)
      → IsPlace m.code p
      → Contains m.rec.handlers h
      → catches v.classes (place p) class (handler h) ≡ catches v.classes p class h

-- a register that is live at the start holds there what it did: an argument, or nothing
pub record BeginsAlike (m r : Method) (reg : ℕ → ℕ) (x : ℕ) : Type 0 where
  pub argument : x < m.rec.nargs → reg x ≡ x
  pub variable : m.rec.nargs ≤ x → m.rec.nargs ≤ reg x
  pub there : (x < register_total m × (reg x < register_total r)) ⊎ (register_total m ≤ x × (register_total r ≤ reg x))

-- an instruction of the method begins where this one comes to
pub record IsFrom (m : Method) (place : ℕ → ℕ) (j : Placed) : Type 0 where
  pub source : Placed
  pub stands : HasInstruction m.code source
  pub at : j.place ≡ place source.place

-- the method of this number in w is m of v, at other places and with its registers renamed
pub record IsRenamed (v w : Linked) (m : Method) (place reg : ℕ → ℕ) : Type 0 where
  pub target : Method
  pub is_target : IsMethodOf w target
  pub number : target.number ≡ m.number
  pub formed : IsWellFormed target
  pub nargs : target.rec.nargs ≡ m.rec.nargs
  pub room : target.rec.max_stack ≡ m.rec.max_stack
  pub begins : place 0 ≡ 0
  pub one_to_one : IsOneToOne place
  pub places : (p : ℕ) → IsPlace m.code p → IsPlace target.code (place p)
  pub start : (x : ℕ) → IsLiveAt v m x 0 → BeginsAlike m target reg x
  pub matched : (i : Placed) (a : Operation) → Operates v m i a → IsMatched v w m target place reg i a
  pub whole : (j : Placed) → HasInstruction target.code j → IsFrom m place j
  pub handler : Handler → Handler
  pub catches : CatchAlike v m target place handler
