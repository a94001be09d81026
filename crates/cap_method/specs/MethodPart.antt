-- The Method component as a value of the program.
use Rattle.std.specs.Prelude.{ℕ, List, []}
use Rattle.cap_bytes.specs.Grammar.{repeat}
use Rattle.cap_bytes.specs.Taking.{given}
use Rattle.cap_bytes.specs.Spelling.{Spells}
use Rattle.cap_method.specs.declared.read_methods.HandlerInfo.{HandlerInfo}
use Rattle.cap_method.specs.declared.method_part.HandlerEntries.{HandlerEntries}
use Rattle.cap_method.specs.declared.read_methods.MethodHeader.{MethodHeader}
use Rattle.cap_method.specs.declared.method_part.MethodPart.{MethodPart}
use Rattle.cap_method.specs.MethodFormat.{Header, handler_info, method_header}

-- the entries of the handler table that an iterator has left
abbrev pub handlers_left : HandlerEntries → List HandlerInfo
handlers_left x = given [] (repeat x.left handler_info) x.items

-- the handler table
abbrev pub handlers : MethodPart → List HandlerInfo
handlers x = handlers_left x.handlers

abbrev pub header_seen : MethodHeader → Header
header_seen h = record { flags = h.flags.0; size = h.size; max_stack = h.max_stack; nargs = h.nargs; max_locals = h.max_locals }

-- a header stands at this offset of the info
abbrev pub HeaderAt : List ℕ → ℕ → Header → Type 0
HeaderAt bytes offset header = (after : ℕ) × Spells method_header bytes offset header after
