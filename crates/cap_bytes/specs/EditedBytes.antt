-- Laws of bytes that are written over.
use Rattle.std.specs.Prelude.{ℕ, List, length}
use Rattle.cap_bytes.specs.Edit.{Edit, patched_all, AreInside, FitBytes}
use Rattle.cap_bytes.specs.Renewal.{Renews}

-- numbers that are written over at rising places stand there, and change nothing else
abbrev pub PatchesRenew : Type 0
PatchesRenew = (edits : List Edit) (bytes : List ℕ) → AreInside edits 0 (length bytes) → FitBytes edits
    → Renews edits bytes (patched_all edits bytes)
