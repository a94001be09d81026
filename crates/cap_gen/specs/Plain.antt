-- The files before the Method component, as they stand in the program.
use Rattle.std.specs.Prelude.{List, [], ◌∷◌}
use Rattle.cap_components.specs.Parts.{Lent}
use Rattle.cap_gen.specs.declared.plain.TheConstants.{HEADER, DIRECTORY, IMPORT, CONSTANT_POOL, CLASS}

abbrev pub first_parts : List Lent
first_parts =
    record { part = 1; bytes = HEADER }
    ∷ record { part = 2; bytes = DIRECTORY }
    ∷ record { part = 4; bytes = IMPORT }
    ∷ record { part = 5; bytes = CONSTANT_POOL }
    ∷ record { part = 6; bytes = CLASS }
    ∷ []
