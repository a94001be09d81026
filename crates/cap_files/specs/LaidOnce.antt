-- That pieces fill a buffer is one fact.
use Rattle.std.specs.Prelude.{ℕ, List, [], ◌∷◌, drop}
use Rattle.std.proofs.Props.{props}
use Rattle.cap_files.specs.declared.records.Entry.{Entry}
use Rattle.cap_files.specs.Laid.{IsLaid}

pub IsLaid-once : (es : List Entry) (bytes : List ℕ) → IsProp (IsLaid es bytes)
IsLaid-once [] bytes = hlevel props
IsLaid-once (e ∷ es) bytes = hlevel (props, IsLaid-once es (drop e.size bytes))
