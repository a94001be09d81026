-- Type descriptors (JCVM 2.2, section 6.13.4): a count of nibbles, and the nibbles, two in each byte, the
-- high one first. Each type is one nibble, and after a reference and an array of references stand the
-- four nibbles of a class reference.
use Rattle.std.specs.Prelude.{ℕ, ◌+◌, ◌*◌, ◌/◌, ◌%◌, Bool, List, [], ◌∷◌, length, take, drop, Option, Some, None}
use Rattle.std.specs.Prelude.{◌==◌, ◌||◌, ◌&&◌, nat_le, if◌then◌else◌, option_and_then, option_map}
use Rattle.std.specs.Result.{result_ok}
use Rattle.cap_bytes.specs.Number.{number_at}
use Rattle.cap_bytes.specs.Grammar.{Grammar, number, any, that, when, repeat, until_end, finish, give, ◌>>=◌}
use Rattle.cap_bytes.specs.Spelling.{info_of}
use Rattle.cap_bytes.specs.Reading.{Reading, read, is_read, value_or}
use Rattle.cap_desc.specs.declared.type_list.TypeItem.{TypeItem}

-- the nibbles of bytes
abbrev pub nibbles : List ℕ → List ℕ
nibbles [] = []
nibbles (byte ∷ bytes) = byte / 16 ∷ byte % 16 ∷ nibbles bytes

-- a reference (6), and an array of references (E)
abbrev pub names_class : ℕ → Bool
names_class n = (n == 6) || (n == 14)

-- void (1), boolean, byte, short, int, a reference (6), and from A on arrays of boolean, byte, short, int and
-- references (E)
abbrev pub is_type : ℕ → Bool
is_type n = (nat_le 1 n && nat_le n 6) || (nat_le 10 n && nat_le n 14)

-- a class reference in four nibbles
abbrev pub class_nibbles : Grammar ℕ
class_nibbles = do
  a ← number 1 any
  b ← number 1 any
  c ← number 1 any
  d ← number 1 any
  give (4096 * a + 256 * b + 16 * c + d)

abbrev pub type_item : Grammar TypeItem
type_item = do
  nibble ← number 1 (that is_type)
  class_ref ← when (names_class nibble) 0 class_nibbles
  give (record { nibble = nibble; class_ref = class_ref })

-- types, to the end of the nibbles
abbrev pub type_items : Grammar (List TypeItem)
type_items = until_end (λ (s : Unit {0}). type_item) (λ s x. s) (tt {0})

-- reading nibbles from a place on
abbrev pub nibbles_read : {X : Type 0} → Grammar X → List ℕ → ℕ → Reading X
nibbles_read = read (info_of 11)

-- whether n types stand from a place of nibbles on
unfoldable pub gives_types : ℕ → List ℕ → ℕ → Bool
gives_types n ns at = is_read (nibbles_read (repeat n type_item) ns at)

-- the n types, or none where there are not so many
unfoldable pub given_types : ℕ → List ℕ → ℕ → List TypeItem
given_types n ns at = value_or [] (nibbles_read (repeat n type_item) ns at)

-- the types that nibbles spell, where they spell any
unfoldable pub types_in : List ℕ → Option (List TypeItem)
types_in ns = option_map (λ p. p.0) (result_ok (nibbles_read type_items ns 0))

-- the type that nibbles spell, where they spell one alone
unfoldable pub one_type_in : List ℕ → Option TypeItem
one_type_in ns = option_map (λ p. p.0) (result_ok (nibbles_read (type_item >>= λ x. finish >>= λ end. give x) ns 0))

-- so many nibbles, from a place of bytes on, where the bytes reach
abbrev pub nibbles_at : List ℕ → ℕ → ℕ → Option (List ℕ)
nibbles_at bytes at count = if nat_le (at + (count + 1) / 2) (length bytes)
    then Some (take count (nibbles (take ((count + 1) / 2) (drop at bytes)))) else None

-- the nibbles of the type descriptor at a place, where the bytes reach
abbrev pub descriptor_nibbles : List ℕ → ℕ → Option (List ℕ)
descriptor_nibbles bytes at = option_and_then (λ count. nibbles_at bytes (at + 1) count) (number_at 1 at bytes)

-- the types of the well-formed type descriptor at a place, if one stands there
abbrev pub types_at : List ℕ → ℕ → Option (List TypeItem)
types_at bytes at = option_and_then (λ count. option_and_then types_in (nibbles_at bytes (at + 1) count)) (number_at 1 at bytes)

-- the type of the descriptor of one type at a place, if one stands there
abbrev pub type_at : List ℕ → ℕ → Option TypeItem
type_at bytes at = option_and_then (λ count. option_and_then one_type_in (nibbles_at bytes (at + 1) count)) (number_at 1 at bytes)
