-- The lists of a record as values of the program.
use Rattle.std.specs.Prelude.{List, []}
use Rattle.cap_bytes.specs.Grammar.{repeat}
use Rattle.cap_bytes.specs.Taking.{given}
use Rattle.cap_class.specs.declared.class_info.Implemented.{Implemented}
use Rattle.cap_class.specs.declared.class_info.Interfaces.{Interfaces}
use Rattle.cap_class.specs.ClassFormat.{Interface, interface_info}

abbrev pub interface_seen : Implemented → Interface
interface_seen i = record { class_ref = i.class_ref; tokens = i.tokens.now }

-- the interfaces that an iterator has left
abbrev pub interfaces_left : Interfaces → List Interface
interfaces_left x = given [] (repeat x.left (interface_info x.extended)) x.items
