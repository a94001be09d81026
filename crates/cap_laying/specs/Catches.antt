-- Where the handler table has the pool numbers of caught classes.
use Rattle.std.specs.Prelude.{◌+◌, ℕ, List, [], ◌∷◌, ◌++◌, ◌==◌, if◌then◌else◌}
use Rattle.jc_decode.specs.declared.symbols.LaidHandler.{LaidHandler}

-- the place in an entry that stands at a place; a handler of every class, whose number is 0, has none
abbrev pub catch_place : ℕ → ℕ → List ℕ
catch_place at pool = if pool == 0 then [] else (at + 6) ∷ []

-- the places in the entries of handlers, the first of which stands at a place
abbrev pub catch_places : ℕ → List LaidHandler → List ℕ
catch_places at [] = []
catch_places at (h ∷ hs) = catch_place at h.pool ++ catch_places (at + 8) hs
