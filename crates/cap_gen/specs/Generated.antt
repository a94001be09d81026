-- The package that is generated from a seed, as its parts (JCVM 2.2, chapter 6).
use Rattle.std.specs.Prelude.{ℕ, List, [], ◌∷◌, ◌++◌, length, replicate}
use Rattle.std.specs.List.{flat_map}
use Rattle.byteorder.specs.Endian.{big_bytes}
use Rattle.cap_components.specs.Parts.{Lent}
use Rattle.cap_gen.specs.Methods.{method_info}
use Rattle.cap_gen.specs.Described.{descriptor_bytes, location_bytes}

-- a file: the tag of its component, the size of the info, and the info
abbrev pub file : ℕ → List ℕ → Lent
file tag info = record { part = tag; bytes = tag ∷ (big_bytes 2 (length info) ++ info) }

-- format 2.2, no flag, version 1.0 of the package F0 01 02 03 04, and no name
abbrev pub header_bytes : List ℕ
header_bytes = 0xDE ∷ 0xCA ∷ 0xFF ∷ 0xED ∷ 2 ∷ 2 ∷ 0 ∷ 0 ∷ 1 ∷ 5 ∷ 0xF0 ∷ 1 ∷ 2 ∷ 3 ∷ 4 ∷ 0 ∷ []

-- a Classref of the first class, and one of the fourth
abbrev pub pool_bytes : List ℕ
pool_bytes = 0 ∷ 2 ∷ 1 ∷ 0 ∷ 2 ∷ 0 ∷ 1 ∷ 0 ∷ 32 ∷ 0 ∷ []

-- a class below the one with a reference, without fields, dispatch tables and interfaces
abbrev pub class_bytes : ℕ → List ℕ
class_bytes parent = 0 ∷ (big_bytes 2 parent ++ 0 ∷ 0xFF ∷ 0 ∷ 0 ∷ 0 ∷ 0 ∷ 0 ∷ [])

-- no signature pool; object, throwable below it, and six classes below throwable
abbrev pub classes_bytes : List ℕ
classes_bytes = 0 ∷ 0 ∷ flat_map class_bytes (0xFFFF ∷ 2 ∷ replicate 6 12)

-- an image of one short with the value 7
abbrev pub static_bytes : List ℕ
static_bytes = 0 ∷ 2 ∷ 0 ∷ 0 ∷ 0 ∷ 0 ∷ 0 ∷ 0 ∷ 0 ∷ 2 ∷ 0 ∷ 7 ∷ []

-- the sizes of the components 1 to 12
abbrev pub sizes : ℕ → List ℕ
sizes seed = length header_bytes ∷ 33 ∷ 0 ∷ 1 ∷ length pool_bytes ∷ length classes_bytes
    ∷ length (method_info seed) ∷ length static_bytes ∷ length location_bytes ∷ 0 ∷ length descriptor_bytes ∷ 0 ∷ []

-- an image of two bytes, with no initial array; no import, no applet and no custom component
abbrev pub directory_bytes : ℕ → List ℕ
directory_bytes seed = flat_map (big_bytes 2) (sizes seed) ++ 0 ∷ 2 ∷ 0 ∷ 0 ∷ 0 ∷ 0 ∷ 0 ∷ 0 ∷ 0 ∷ []

-- the parts
abbrev pub generated_parts : ℕ → List Lent
generated_parts seed =
    file 1 header_bytes
    ∷ file 2 (directory_bytes seed)
    ∷ file 4 (0 ∷ [])  -- no import
    ∷ file 5 pool_bytes
    ∷ file 6 classes_bytes
    ∷ file 7 (method_info seed)
    ∷ file 8 static_bytes
    ∷ file 9 location_bytes
    ∷ file 11 descriptor_bytes
    ∷ []
