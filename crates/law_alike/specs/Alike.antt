-- States of two machines that run the same method in other code: their operand stacks are equal but for the places that
-- uninitialised objects carry (JCVM 2.2, section 3.5; Leroy 2002, section 2).
use Rattle.std.specs.Prelude.{◌≡◌, ℕ, ℤ, ◌+◌, ◌<◌, ◌≤◌, ◌⊎◌, List, ◌∷◌, length, map, slice_get}
use Rattle.jc_ops.specs.declared.operation.Operation.{Operation}
use Rattle.jc_ops.specs.declared.operation.Operation.TheVariants.{New}
use Rattle.jc_rules.specs.Footprint.{Footprint}
use Rattle.vm_store.specs.declared.cell.Cell.{Cell}
use Rattle.vm_store.specs.declared.cell.Cell.TheVariants.{Fresh}
use Rattle.vm_store.specs.Cells.{Cells}
use Rattle.vm_store.specs.State.{State, map_object, top, other_frames}

-- ---- places

-- no two places become one
abbrev pub IsOneToOne : (ℕ → ℕ) → Type 0
IsOneToOne place = (p q : ℕ) → place p ≡ place q → p ≡ q

-- an uninitialised object carries the place of the `new` that made it, which is another in other code
abbrev pub renamed_cell : (ℕ → ℕ) → Cell → Cell
renamed_cell place (Fresh h p) = Fresh h (place p)
renamed_cell place c = c

-- and so does the `new` itself
abbrev pub renamed_new : (ℕ → ℕ) → Operation → Operation
renamed_new place (New p class) = New (place p) class
renamed_new place op = op

-- a map of cells leaves numbers, ready references and what was never stored as they are
pub record KeepsPlain {A : Type 0} (k : Cells A) (f : A → A) : Type 0 where
  pub empty : f k.empty ≡ k.empty
  pub short : (n : ℤ) → f (k.short n) ≡ k.short n
  pub high : (n : ℕ) → f (k.high n) ≡ k.high n
  pub low : (n : ℕ) → f (k.low n) ≡ k.low n
  pub reference : (h : ℕ) → f (k.reference h) ≡ k.reference h

-- such cells alone are among these: every such map leaves them as they are
abbrev pub ArePlain : {A : Type 0} → Cells A → List A → Type 0
ArePlain {A = A} k cells = (f : A → A) → KeepsPlain k f → map f cells ≡ cells

-- ---- states

-- as many frames, equal objects and static fields, and a stack on top that is equal but for a map of its cells. The map leaves the
-- cells
-- of objects and of static fields as they are: no uninitialised object is kept there
pub record AreAlike {A : Type 0} (e : A → A) (s t : State A) : Type 0 where
  pub frames : length t.frames ≡ length s.frames
  pub stack : (top t).stack ≡ map e (top s).stack
  pub heap : t.heap ≡ s.heap
  pub statics : t.statics ≡ s.statics
  pub objects_stay : map (map_object e) s.heap ≡ s.heap
  pub statics_stay : map e s.statics ≡ s.statics

-- a state z after s in which the same frame is on top: of its registers those of the footprint may be written, and no other
pub record StaysInFrame {A : Type 0} (p : Footprint) (s z : State A) : Type 0 where
  pub frames : z.frames ≡ top z ∷ other_frames s.frames
  pub method : (top z).method ≡ (top s).method
  pub count : length (top z).registers ≡ length (top s).registers
  pub others :
      (x : ℕ)
      → (x < p.register) ⊎ (p.register + p.written ≤ x)
      → slice_get (top z).registers x ≡ slice_get (top s).registers x

-- two such states, z after s and y after t, that are alike, with equal cells in the registers that were written
pub record StayAlike {A : Type 0} (e : A → A) (p q : Footprint) (s z t y : State A) : Type 0 where
  pub alike : AreAlike e z y
  pub first : StaysInFrame p s z
  pub second : StaysInFrame q t y
  pub written :
      (n : ℕ)
      → n < p.written
      → slice_get (top y).registers (q.register + n) ≡ slice_get (top z).registers (p.register + n)
