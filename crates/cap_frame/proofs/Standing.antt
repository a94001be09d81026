-- What is read of a component's file stands there.
use Rattle.std.proofs.Common.{ℕ, ◌≡◌, List, Ok}
use Rattle.cap_bytes.proofs.Laws.{broken, is_exact, stood}
use Rattle.cap_bytes.specs.Grammar.{Grammar}
use Rattle.cap_bytes.specs.Reading.{read, outcome}
use Rattle.cap_bytes.specs.Spelling.{Stands, file_of}
use Rattle.cap_frame.specs.Frame.{component}

pub component_stands : (part : ℕ) (bytes x : List ℕ) → outcome (read (file_of part) (component part) bytes 0) ≡ Ok x → Stands (component part) bytes x
component_stands part bytes x h = stood (file_of part) (component part) bytes x h

pub ruleset component_file = (component_stands, broken, is_exact)
