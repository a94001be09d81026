-- The parts of a pile that an iterator has left to visit.
use Rattle.std.specs.Prelude.{ℕ, List}
use Rattle.cap_files.specs.declared.records.Records.{Records}
use Rattle.cap_files.specs.Laid.{records}

abbrev pub records_left : Records → List (List ℕ × List ℕ)
records_left left = records left.entries.now left.buffer.now
