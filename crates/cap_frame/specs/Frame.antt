-- The file of a component (JCVM 2.2, section 6.1): u1 tag, u2 size, and so many bytes of info. The tag
-- and the size are one item.
use Rattle.std.specs.Prelude.{ℕ, ◌/◌, ◌%◌, List, Option}
use Rattle.cap_bytes.specs.declared.fault.FormKind.{FormKind}
use Rattle.cap_bytes.specs.declared.fault.FormKind.TheVariants.{WrongTag}
use Rattle.cap_bytes.specs.Grammar.{Grammar, give, number, piece, finish, only, ◌>>=◌}

-- a tag and a size whose tag is another one
abbrev pub other_tag : ℕ → ℕ → Option FormKind
other_tag tag head = only tag WrongTag (head / 65536)

abbrev pub component : ℕ → Grammar (List ℕ)
component tag = do
  head ← number 3 (other_tag tag)
  info ← piece (head % 65536)
  end ← finish
  give info
