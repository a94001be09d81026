-- How a pile lays its parts into one buffer: for each entry a piece, of which the first bytes are the folder's word.
use Rattle.std.specs.Prelude.{◌≡◌, ℕ, ◌≤◌, List, [], ◌∷◌, length, take, drop}
use Rattle.cap_files.specs.declared.records.Entry.{Entry}

-- the key and the bytes of an entry's piece
abbrev pub record_of : Entry → List ℕ → List ℕ × List ℕ
record_of entry piece = (entry.part.0 ∷ take entry.word piece, drop entry.word piece)

-- the records of the entries, whose pieces stand one after another
abbrev pub records : List Entry → List ℕ → List (List ℕ × List ℕ)
records [] bytes = []
records (e ∷ es) bytes = record_of e (take e.size bytes) ∷ records es (drop e.size bytes)

-- the pieces fill the buffer
abbrev pub IsLaid : List Entry → List ℕ → Type 0
IsLaid [] bytes = length bytes ≡ 0
IsLaid (e ∷ es) bytes = (e.word ≤ e.size) × (e.size ≤ length bytes) × IsLaid es (drop e.size bytes)
