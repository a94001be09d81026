-- The methods of the package that is generated from a seed, and the info of its Method component (JCVM 2.2, section 6.9).
use Rattle.std.specs.Prelude.{◌≡◌, refl, ℕ, ◌+◌, ◌-◌, ◌*◌, ◌/◌, ◌%◌, List, [], ◌∷◌, ◌++◌, ◌==◌, if◌then◌else◌}
use Rattle.std.specs.List.{flat_map, range_with_len}
use Rattle.byteorder.specs.Endian.{big_bytes}
use Rattle.cap_gen.specs.Shape.{of_kind, shape_bytes}

-- what the methods give, one after the other: two hundred
unfoldable pub each_method : {X : Type 0} → (ℕ → List X) → List X
each_method f = flat_map f (range_with_len 0 200)

-- the header and the code of a method: the four kinds come in turn, with constants by the seed and its number
unfoldable pub method_bytes : ℕ → ℕ → List ℕ
method_bytes seed k = shape_bytes (of_kind (k % 4) ((seed + k) % 100) ((seed + 2 * k) % 100))

-- codes have twelve and sixteen bytes in turn, and the header before each has two; the handler table has 801
abbrev pub code_size_of_kind : ℕ → ℕ
code_size_of_kind k = if k % 2 == 0 then 12 else 16

abbrev pub method_offset : ℕ → ℕ
method_offset k = 801 + 16 * k - 2 * (k % 2)

abbrev pub code_offset : ℕ → ℕ
code_offset k = method_offset k + 2

-- every fourth method, which divides, has two handlers
abbrev pub handler_count : ℕ → ℕ
handler_count k = if k % 4 == 2 then 2 else 0

-- the number of its first entry in the handler table, and 0 where it has none
abbrev pub handler_index : ℕ → ℕ
handler_index k = if k % 4 == 2 then 2 * (k / 4) else 0

-- its entries in the handler table, as numbers of two bytes: where the range begins, its length, where the handler's code begins, and an
-- entry of the constant pool. The first catches the class that entry 1 names; the second, with the stop bit above its length, anything
unfoldable pub entry_table : ℕ → List ℕ
entry_table k =
    if k % 4 == 2
    then flat_map (big_bytes 2)
    (code_offset k ∷ 3 ∷ (code_offset k + 4) ∷ 1 ∷ code_offset k ∷ 0x8008 ∷ (code_offset k + 8) ∷ 0 ∷ [])
    else []

-- the info: the handler table after its length, and the methods
unfoldable pub method_info : ℕ → List ℕ
method_info seed = 100 ∷ (each_method entry_table ++ each_method (method_bytes seed))

-- the first method of the package of seed 7: 7 or 7 + 0
first : method_bytes 7 0
    ≡ 0x02 ∷ 0x20 ∷ 0x1C ∷ 0x1D ∷ 0x60 ∷ 6 ∷ 0x10 ∷ 7 ∷ 0x70 ∷ 4 ∷ 0x10 ∷ 7 ∷ 0x41 ∷ 0x78 ∷ []
unfolding method_bytes
first = refl

-- the sixth method with handlers, the 23rd of all, of the package of seed 90
sixth : method_bytes 90 22
    ≡ 0x02 ∷ 0x20 ∷ 0x1C ∷ 0x1D ∷ 0x47 ∷ 0x78 ∷ 0x3B ∷ 0x10 ∷ 12 ∷ 0x78 ∷ 0x3B ∷ 0x10 ∷ 34 ∷ 0x78 ∷ []
unfolding method_bytes
sixth = refl

-- its code begins at 1155; the first of its entries covers 3 bytes, the other 8
its_entries : entry_table 22 ≡ 4 ∷ 0x83 ∷ 0 ∷ 3 ∷ 4 ∷ 0x87 ∷ 0 ∷ 1 ∷ 4 ∷ 0x83 ∷ 0x80 ∷ 8 ∷ 4 ∷ 0x8B ∷ 0 ∷ 0 ∷ []
unfolding entry_table
its_entries = refl
