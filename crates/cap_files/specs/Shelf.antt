-- A folder in memory: the parts that it holds, and its room.
use Rattle.std.specs.Prelude.{ℕ, Bool, List, refl, if◌then◌else◌}
use Rattle.std.specs.FinMap as map
use Rattle.std.specs.Coded.{Coded, code_by, coded×, coded_ℕ, coded_list}
use Rattle.cap_files.specs.Folder.{Parts}
use Rattle.cap_files.specs.Room.{Room, suffices}

-- the parts that are held, and the room for them
pub record Shelved : Type 0 where
  pub parts : Parts
  pub room : Room

-- it is stored as the tuple of its fields
abbrev pub shelved_code : Coded Shelved
shelved_code =
    code_by (Parts × (ℕ × ℕ)) (coded× (map.code (coded_list coded_ℕ) (coded_list coded_ℕ)) (coded× coded_ℕ coded_ℕ))
    (λ s. (s.parts, (s.room.parts, s.room.bytes))) (λ p. record { parts = p.0; room = record { parts = p.1.0; bytes = p.1.1 } })
    (λ _. refl)

-- nothing is held, and there is room for so many parts and bytes
abbrev pub empty_shelf : ℕ → ℕ → Shelved
empty_shelf parts bytes = record { parts = map.empty; room = record { parts = parts; bytes = bytes } }

-- whether the room suffices for what is held once the bytes are put at the key
abbrev pub has_room : Shelved → List ℕ → List ℕ → Bool
has_room shelf key bytes = suffices shelf.room (map.insert shelf.parts key bytes)

-- the bytes are put at the key, and all else is as before
abbrev pub put : Shelved → List ℕ → List ℕ → Shelved
put shelf key bytes = record shelf { parts = map.insert shelf.parts key bytes }

-- the same where the room suffices, and else nothing is put
abbrev pub placed : Shelved → List ℕ → List ℕ → Shelved
placed shelf key bytes = if has_room shelf key bytes then put shelf key bytes else shelf
