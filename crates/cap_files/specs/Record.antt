-- What a record that a pile lends is.
use Rattle.std.specs.Prelude.{ℕ, List, ◌∷◌}
use Rattle.cap_files.specs.declared.records.Record.{Record}

-- its key and its bytes
abbrev pub key_and_bytes : Record → List ℕ × List ℕ
key_and_bytes held = (held.part.0 ∷ held.word.now, held.bytes.now)
