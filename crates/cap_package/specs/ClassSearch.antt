-- A search for class records by their offsets, of which those before a place were passed.
use Rattle.std.specs.Prelude.{◌≡◌, ℕ, Bool, false, List, Option, find, ◌==◌}
use Rattle.offset_set.specs.Bits.{holds}
use Rattle.cap_class.specs.ClassFormat.{Class}
use Rattle.cap_class.specs.ClassPart.{classes_left, records}
use Rattle.cap_package.specs.declared.classes.ClassSearch.{ClassSearch}

-- the first record at an offset
abbrev pub record_at : ℕ → List Class → Option Class
record_at offset = find (λ (c : Class). c.offset == offset)

-- at an offset that was not passed, what is left of records has the record that all have
abbrev pub HasUnpassed : (ℕ → Bool) → List Class → List Class → Type 0
HasUnpassed passed left all = (offset : ℕ) → passed offset ≡ false → record_at offset left ≡ record_at offset all

pub record Serves (search : ClassSearch) : Type 0 where
  pub unpassed : HasUnpassed (holds search.passed) (classes_left search.rest) (records search.classes)
