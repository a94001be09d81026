-- The format of the Method component (JCVM 2.2, section 6.9): the exception handlers, and the methods
-- after them.
use Rattle.std.specs.Prelude.{ℕ, ◌/◌, ◌%◌, ◌^◌, Bool, true, false, List, nat_le}
use Rattle.std.specs.Int.RustNames.{bit_and}
use Rattle.cap_bytes.specs.Grammar.{Grammar, u1, u2, counted, rest, give, ◌>>=◌}
use Rattle.cap_method.specs.declared.read_methods.HandlerInfo.{HandlerInfo}

-- exception_handler_info: the stop bit stands above a length of 15 bits
abbrev pub handler_info : Grammar HandlerInfo
handler_info = do
  start ← u2
  active ← u2
  entry ← u2
  index ← u2
  give (record { start = start; stop = nat_le (2 ^ 15) active; length = active % 2 ^ 15; entry = entry; index = index })

-- the component: where a method begins is said by those who name it, and not here
abbrev pub methods_info : Grammar (List HandlerInfo)
methods_info = do
  handlers ← counted handler_info
  methods ← rest
  give handlers

-- method_header_info and extended_method_header_info, with the header's own size
pub record Header : Type 0 where
  pub flags : ℕ
  pub size : ℕ
  pub max_stack : ℕ
  pub nargs : ℕ
  pub max_locals : ℕ

-- the bits of the high nibble that have a name: extended and abstract
abbrev pub method_flags : ℕ → ℕ
method_flags byte = bit_and (byte / 16) 12

abbrev pub extended_header : ℕ → Grammar Header
extended_header first = do
  max_stack ← u1
  nargs ← u1
  max_locals ← u1
  give (record { flags = method_flags first; size = 4; max_stack = max_stack; nargs = nargs; max_locals = max_locals })

abbrev pub compact_header : ℕ → Grammar Header
compact_header first = do
  second ← u1
  give (record { flags = method_flags first; size = 2; max_stack = first % 16; nargs = second / 16; max_locals = second % 16 })

abbrev pub header_after : Bool → ℕ → Grammar Header
header_after true first = extended_header first
header_after false first = compact_header first

-- the highest bit of the first byte tells the two apart
abbrev pub method_header : Grammar Header
method_header = u1 >>= λ first. header_after (nat_le 128 first) first
