-- What the verifier on the card asks of the places of a method, whatever the types (Leroy 2002, section 3; JCVM 2.2, section 7.5).
use Rattle.std.specs.Prelude.{◌≡◌, ℕ, ◌+◌, List, Contains, IsTrue}
use Rattle.jc_base.specs.declared.ty.Ty.{Ty}
use Rattle.jc_base.specs.declared.ty.Ty.TheVariants.{Class}
use Rattle.jc_base.specs.declared.record.Handler.{Handler}
use Rattle.jc_base.specs.Class.{ClassTable, IsClass}
use Rattle.jc_base.specs.Order.{Below}
use Rattle.jc_decode.specs.declared.insn.Placed.{Placed}
use Rattle.jc_decode.specs.Listing.{falls, listing}
use Rattle.jc_decode.specs.Places.{IsTargetIn}
use Rattle.jc_control.specs.Method.{Method}
use Rattle.jc_control.specs.WellFormed.{HasInstruction}

-- a branch or switch of the method leads to this place, reached or not
abbrev pub IsTarget : Method → ℕ → Type 0
IsTarget m q = IsTargetIn m.code (listing m.code) q

-- one of the handlers begins at this place
pub record IsEntryAmong (handlers : List Handler) (q : ℕ) : Type 0 where
  pub handler : Handler
  pub listed : Contains handlers handler
  pub begins : handler.entry ≡ q

-- of those of a method
abbrev pub IsEntry : Method → ℕ → Type 0
IsEntry m q = IsEntryAmong m.rec.handlers q

-- control falls into this place: as the method begins, or from the instruction before it
pub data IsFallenInto (m : Method) : ℕ → Type 0 where
  fallen_first : IsFallenInto m 0
  fallen_from : (i : Placed) → HasInstruction m.code i → IsTrue (falls i.insn.op) → IsFallenInto m (i.place + i.insn.len)

-- the type is above the class that each of the handlers catches which begins at this place
abbrev pub IsAboveCaughtBy : ClassTable → List Handler → ℕ → Ty → Type 0
IsAboveCaughtBy t handlers q ty = (h : Handler) → Contains handlers h → h.entry ≡ q → Below t (Class h.class) ty

-- the join of the classes that are caught at this place is this class
pub record AreCaughtAt (t : ClassTable) (handlers : List Handler) (q c : ℕ) : Type 0 where
  pub class : IsClass t c
  pub above : IsAboveCaughtBy t handlers q (Class c)
  pub least : (u : Ty) → IsAboveCaughtBy t handlers q u → Below t (Class c) u

-- of the handlers of a method
abbrev pub IsAboveCaught : ClassTable → Method → ℕ → Ty → Type 0
IsAboveCaught t m q ty = IsAboveCaughtBy t m.rec.handlers q ty

abbrev pub CatchesAt : ClassTable → Method → ℕ → ℕ → Type 0
CatchesAt t m q c = AreCaughtAt t m.rec.handlers q c
