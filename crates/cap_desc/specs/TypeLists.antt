-- A list of types as a value of the program.
use Rattle.std.specs.Prelude.{List}
use Rattle.cap_desc.specs.declared.types.Types.{Types}
use Rattle.cap_desc.specs.declared.type_list.TypeItem.{TypeItem}
use Rattle.cap_desc.specs.TypeFormat.{given_types}
use Rattle.cap_desc.specs.Nibbles.{nibbles_in}

-- the types that are left
abbrev pub types_left : Types → List TypeItem
types_left x = given_types x.left (nibbles_in x.nibbles) x.at
