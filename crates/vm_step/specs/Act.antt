-- What an operation comes to in a state that has what it asks (JCVM 2.2, section 3.5 and chapter 7).
use Rattle.std.specs.Prelude.{ℕ, ◌==◌, if◌then◌else◌, ℤ, List, Option, Some, None}
use Rattle.vm_store.specs.declared.cell.ObjectKind.{ObjectKind}
use Rattle.vm_store.specs.State.{State}
use Rattle.vm_step.specs.declared.ending.Value.{Value}
use Rattle.vm_step.specs.declared.ending.Exception.{Exception}
use Rattle.vm_step.specs.declared.ending.Exception.TheVariants.{NullPointer, Arithmetic, ArrayIndex, NegativeSize, ClassCast, ArrayStore}

pub data Act (A : Type 0) : Type 0 where
  -- on to the instruction after, in this state
  goes : State A → Act A
  -- to a place, which is told by its distance from the first byte of the code
  jumps : ℤ → State A → Act A
  -- an object with these cells is made; its reference, of this form, comes on the stack; and on to the instruction after
  makes : ObjectKind → List A → (ℕ → A) → State A → Act A
  -- a method is called with so many cells of the stack
  calls : ℕ → ℕ → State A → Act A
  -- the method ends with this value, whose cells come on the stack of the caller
  gives : Value → List A → Act A
  -- an exception is thrown, of which an object is made first
  raises : Exception → Act A
  -- the object of a handle is thrown
  throws : ℕ → Act A
  -- an object of this class has no method for that of an interface
  lacks : ℕ → Act A

-- the role of the class of an exception, among the eight of a world
abbrev pub role_of : Exception → ℕ
role_of NullPointer = 2
role_of Arithmetic = 3
role_of ArrayIndex = 4
role_of NegativeSize = 5
role_of ClassCast = 6
role_of ArrayStore = 7

-- what is done with the object of a handle; null is refused
abbrev pub unless_null : {A : Type 0} → ℕ → (ℕ → Act A) → Act A
unless_null h act = if h == 0 then raises NullPointer else act h

-- what is done with a thing, where there is one; where there is none, an exception is thrown
abbrev pub if_some : {A X : Type 0} → Exception → Option X → (X → Act A) → Act A
if_some exception None act = raises exception
if_some exception (Some x) act = act x
