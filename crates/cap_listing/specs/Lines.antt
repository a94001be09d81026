-- Lines of a code, by their bytes.
use Rattle.std.specs.Prelude.{◌≡◌, ◌≢◌, ℕ, List, [], IsErr}
use Rattle.jc_decode.specs.declared.insn.Insn.{Insn}
use Rattle.cap_bytes.specs.Bytes.{AreBytes}
use Rattle.jc_decode.specs.Decoding.{decoded}
use Rattle.cap_listing.specs.Words.{joined}
use Rattle.cap_listing.specs.Text.{bytes_words}
use Rattle.cap_listing.specs.Reading.{IsOne, block_words}

-- the line is that of the instruction of these bytes at a place
pub record IsInstructionLine (place : ℕ) (bytes line : List ℕ) : Type 0 where
  pub insn : Insn
  pub one : IsOne bytes insn
  pub is : line ≡ joined (block_words place bytes insn)

-- the line is that of these bytes at a place, at which no instruction is decoded
pub record IsBytesLine (place : ℕ) (bytes line : List ℕ) : Type 0 where
  pub some : bytes ≢ []
  pub bare : AreBytes bytes
  pub none : IsErr (decoded bytes 0)
  pub is : line ≡ joined (bytes_words place bytes)
