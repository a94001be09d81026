-- What it is that bytes are others but for some numbers: the numbers stand at their places, every other byte is as it
-- was, and so is the length.
use Rattle.std.specs.Prelude.{◌≡◌, ◌≤◌, ◌<◌, ◌+◌, ℕ, List, [], ◌∷◌, length, take, drop, Some, slice_index}
use Rattle.byteorder.specs.Endian.{big_bytes}
use Rattle.cap_bytes.specs.Number.{number_at}
use Rattle.cap_bytes.specs.Edit.{Edit}

-- the bytes from a place to another are the same
pub record AreSame (low high : ℕ) (bytes out : List ℕ) : Type 0 where
  pub each : (k : ℕ) → low ≤ k → k < high → slice_index out k ≡ slice_index bytes k

-- the number of an edit stands at its place, in its two bytes
pub record IsApplied (e : Edit) (out : List ℕ) : Type 0 where
  pub number : number_at 2 e.at out ≡ Some e.number
  pub bytes : take 2 (drop e.at out) ≡ big_bytes 2 e.number

-- from a place to another the bytes are the same but for the numbers of the edits, which stand at their places
abbrev pub IsEdited : List Edit → ℕ → ℕ → List ℕ → List ℕ → Type 0
IsEdited [] low high bytes out = AreSame low high bytes out
IsEdited (e ∷ es) low high bytes out =
    AreSame low e.at bytes out × IsApplied e out × IsEdited es (e.at + 2) high bytes out

-- whole bytes are others but for the numbers of the edits
pub record Renews (edits : List Edit) (bytes out : List ℕ) : Type 0 where
  pub long : length out ≡ length bytes
  pub inside : IsEdited edits 0 (length bytes) bytes out
