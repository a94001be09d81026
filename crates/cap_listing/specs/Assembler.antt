-- What an assembler has read.
use Rattle.std.specs.Prelude.{◌≤◌, ℕ, Bool, false, List, [], length, Option, Some, None}
use Rattle.jc_decode.specs.declared.symbols.LaidHandler.{LaidHandler}
use Rattle.cap_listing.specs.declared.method.ListedMethod.{ListedMethod}
use Rattle.cap_listing.specs.declared.method.Heading.{Heading}
use Rattle.cap_listing.specs.declared.open_method.OpenMethod.{OpenMethod}
use Rattle.cap_listing.specs.declared.assembling.Assembler.{Assembler}
use Rattle.cap_listing.specs.Reading.{State}

-- a method of these numbers, code and handlers
abbrev pub method_with : Heading → List ℕ → List LaidHandler → ListedMethod
method_with h code handlers = record {
  class_no = h.class_no;
  method_no = h.method_no;
  laid = record { code = code; handlers = handlers; max_stack = h.max_stack; nargs = h.nargs; max_locals = h.max_locals };
}

-- the methods that were read, and one that has begun
abbrev pub opened : List ListedMethod → Heading → List ℕ → List LaidHandler → Bool → State
opened done h code handlers closed = record {
  done = done;
  begun = Some (record { method = method_with h code handlers; closed = closed });
}

-- of the last only its first line was read
abbrev pub fresh : List ListedMethod → Heading → State
fresh done h = opened done h [] [] false

abbrev pub between : List ListedMethod → State
between done = record { done = done; begun = None }

abbrev pub method_of : OpenMethod → ListedMethod
method_of o = method_with o.heading o.code.items o.handlers.items

abbrev pub inside : List ListedMethod → OpenMethod → State
inside done o = opened done o.heading o.code.items o.handlers.items o.closed

abbrev pub state_by : List ListedMethod → Option OpenMethod → State
state_by done None = between done
state_by done (Some o) = inside done o

abbrev pub state_of : Assembler → State
state_of a = state_by a.methods.items a.begun

-- the code of a method that has begun has at most 65,535 bytes
abbrev pub IsFewOf : Option OpenMethod → Type 0
IsFewOf None = Unit {0}
IsFewOf (Some o) = length o.code.items ≤ 65535

abbrev pub IsFew : Assembler → Type 0
IsFew a = IsFewOf a.begun
