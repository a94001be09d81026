-- The values of static fields and initial arrays as words of 16 bits (JCVM 2.2, sections 2.2 and 6.10).
use Rattle.std.specs.Prelude.{ℕ, ◌+◌, List, map, nat_lt, nat_le, if◌then◌else◌}
use Rattle.jc_base.specs.Index.{words_of_bytes}

-- a byte as a word, its sign in the upper half
abbrev pub signed : ℕ → ℕ
signed byte = if nat_lt byte 128 then byte else 0xFF00 + byte

-- the words of the elements of an array, by the number of their type: a boolean (2) or a byte (3)
-- is one word, a short (4) one of two bytes, an int (5) two words, the high one first
abbrev pub element_words : ℕ → List ℕ → List ℕ
element_words kind bytes = if nat_le kind 3 then map signed bytes else words_of_bytes bytes
