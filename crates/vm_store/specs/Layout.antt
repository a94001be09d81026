-- How the objects lie in memory: the cells of one after those of another, and a header for each
-- that says what it is and where they are.
use Rattle.std.specs.Prelude.{◌≡◌, ℕ, ◌+◌, ◌*◌, List, [], ◌∷◌, ◌++◌, length, map, take, drop}
use Rattle.vm_store.specs.declared.cell.ObjectHeader.{ObjectHeader}
use Rattle.vm_store.specs.Kind.{element_width}
use Rattle.vm_store.specs.State.{Object}

-- the number of cells of an object
abbrev pub size : ObjectHeader → ℕ
size h = element_width h.kind * h.elements

-- the object of a header
abbrev pub object_in : {A : Type 0} → List A → ObjectHeader → Object A
object_in cells h = record { kind = h.kind; cells = take (size h) (drop h.start cells) }

-- the objects of the headers
abbrev pub objects_in : {A : Type 0} → List A → List ObjectHeader → List (Object A)
objects_in cells headers = map (object_in cells) headers

-- the cells of the objects follow one another, from a number to an end
abbrev pub Follow : ℕ → List ObjectHeader → ℕ → Type 0
Follow from [] end = from ≡ end
Follow from (h ∷ hs) end = (h.start ≡ from) × Follow (from + size h) hs end

-- the cells, of which those from a place on are others
abbrev pub overwritten : {A : Type 0} → List A → ℕ → List A → List A
overwritten cells from others = take from cells ++ (others ++ drop (from + length others) cells)
