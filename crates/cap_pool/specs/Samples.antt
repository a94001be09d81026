-- Worked cases: a pool of two entries, an exported class, and distances.
use Rattle.std.specs.Prelude.{◌≡◌, [], ◌∷◌, Ok, Err, refl}
use Rattle.cap_bytes.specs.declared.fault.FormKind.TheVariants.{BadValue, Cut}
use Rattle.cap_bytes.specs.Grammar.{table}
use Rattle.cap_bytes.specs.Spelling.{info_of}
use Rattle.cap_bytes.specs.Reading.{reading}
use Rattle.cap_pool.specs.PoolFormat.{pool_info}
use Rattle.cap_pool.specs.ExportFormat.{export_info}
use Rattle.cap_pool.specs.LocationFormat.{locations_info}

two_entries : reading (info_of 5) pool_info (0 ∷ 2 ∷ 1 ∷ 0 ∷ 12 ∷ 0 ∷ 6 ∷ 0x81 ∷ 2 ∷ 3 ∷ [])
    ≡ Ok (record { tag = 1; bytes = 0 ∷ 12 ∷ 0 ∷ [] } ∷ record { tag = 6; bytes = 0x81 ∷ 2 ∷ 3 ∷ [] } ∷ [])
unfolding reading
two_entries = refl

no_such_tag : reading (info_of 5) pool_info (0 ∷ 1 ∷ 7 ∷ 0 ∷ 12 ∷ 0 ∷ []) ≡ Err (record { part = 5; at = 5; kind = BadValue })
unfolding reading
no_such_tag = refl

-- a class at offset 10 with a static field at 6 and a static method at 16
one_class : reading (info_of 10) export_info (1 ∷ 0 ∷ 10 ∷ 1 ∷ 1 ∷ 0 ∷ 6 ∷ 0 ∷ 16 ∷ [])
    ≡ Ok (record { class_offset = 10; fields = 6 ∷ []; methods = 16 ∷ [] } ∷ [])
unfolding reading table
one_class = refl

-- the distances 262 and 5, and none to an index of two bytes
distances : reading (info_of 9) locations_info (0 ∷ 3 ∷ 0xFF ∷ 7 ∷ 5 ∷ 0 ∷ 0 ∷ [])
    ≡ Ok (record { byte = 0xFF ∷ 7 ∷ 5 ∷ []; byte2 = [] })
unfolding reading
distances = refl

too_few : reading (info_of 9) locations_info (0 ∷ 3 ∷ 0xFF ∷ []) ≡ Err (record { part = 9; at = 6; kind = Cut })
unfolding reading
too_few = refl
