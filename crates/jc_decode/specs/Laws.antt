-- Laws of instructions and of listings.
use Rattle.std.specs.Prelude.{◌≡◌, ◌≤◌, ◌<◌, ◌+◌, ℕ, List, [], ◌∷◌, length, Some, Ok, Err, IsErr, ◌++◌, All}
use Rattle.std.specs.Prelude.{Contains, slice_get, false}
use Rattle.std.specs.List.{filter}
use Rattle.jc_decode.specs.declared.insn.Insn.{Insn}
use Rattle.jc_decode.specs.declared.insn.Placed.{Placed}
use Rattle.jc_decode.specs.declared.insn.CodeEnd.{CodeEnd}
use Rattle.jc_decode.specs.declared.insn.CodeEnd.TheVariants.{Cut}
use Rattle.jc_decode.specs.declared.symbols.Item.{Item}
use Rattle.jc_decode.specs.declared.symbols.Item.TheVariants.{Label}
use Rattle.jc_decode.specs.Forms.{length_of, plain_length, short_form}
use Rattle.jc_decode.specs.Symbols.{place_of, is_label, is_instruction}
use Rattle.jc_decode.specs.Decoding.{decoded}
use Rattle.jc_decode.specs.Encoding.{ReadsBack}
use Rattle.jc_decode.specs.Listing.{listing, listing_from, listing_end, targets, Lists}

-- bytes that are one instruction of a code of their own are that instruction wherever they stand, with its cases
abbrev pub BytesReadBack : List ℕ → Type 0
BytesReadBack bytes = (i : Insn) → decoded bytes 0 ≡ Ok i → i.len ≡ length bytes → ReadsBack bytes 0 i bytes

-- the listing from a place on has the instruction there first, where there is one, and then those after it
pub record ListingIsOne : Type 0 where
  pub start : (code : List ℕ) → listing code ≡ listing_from code 0
  pub more : (code : List ℕ) (at : ℕ) (i : Insn) → decoded code at ≡ Ok i
      → listing_from code at ≡ record { place = at; insn = i } ∷ listing_from code (at + i.len)
  pub none : (code : List ℕ) (at : ℕ) (e : CodeEnd) → decoded code at ≡ Err e → listing_from code at ≡ []

-- the instructions of a code: each is the one that is decoded at its place, ends in the code, and is a byte
-- long at least; no two stand at one place, the next begins where one ends or later, and in the listing
-- places rise; where they end, no instruction is decoded
pub record AreListed (code : List ℕ) : Type 0 where
  pub lists : Lists code 0 (listing code)
  pub decodes : (i : Placed) → Contains (listing code) i → decoded code i.place ≡ Ok i.insn
  pub long : (at : ℕ) (i : Insn) → decoded code at ≡ Ok i → 0 < i.len
  pub reaches : (at : ℕ) (i : Insn) → decoded code at ≡ Ok i → at + i.len ≤ length code
  pub inside : (i : Placed) → Contains (listing code) i → i.place < length code
  pub within : (i : Placed) → Contains (listing code) i → i.place + i.insn.len ≤ length code
  pub one : (i j : Placed) → Contains (listing code) i → Contains (listing code) j → i.place ≡ j.place → i ≡ j
  pub after :
      (i j : Placed)
      → Contains (listing code) i
      → Contains (listing code) j
      → i.place < j.place
      → i.place + i.insn.len ≤ j.place
  pub rising :
      (a b : ℕ) (i j : Placed)
      → slice_get (listing code) a ≡ Some i
      → slice_get (listing code) b ≡ Some j
      → a < b
      → i.place < j.place
  pub before_end : (i : Placed) → Contains (listing code) i → i.place < listing_end code
  pub stops : IsErr (decoded code (listing_end code))

abbrev pub InstructionsAreListed : Type 0
InstructionsAreListed = (code : List ℕ) → AreListed code

-- an instruction has no more targets than the code has bytes, and one
abbrev pub TargetsAreFew : Type 0
TargetsAreFew = (code : List ℕ) (i : Placed) → decoded code i.place ≡ Ok i.insn → length (targets code i) ≤ length code + 1

-- a label stands for as many instructions as there are before it
abbrev pub LabelsStandBetween : Type 0
LabelsStandBetween = (before after : List Item) (l : ℕ) → All (λ i. is_label l i ≡ false) before
    → place_of l (before ++ (Label l ∷ after)) ≡ length (filter is_instruction before)

-- after the end of the code nothing is decoded
abbrev pub NothingPastTheEnd : Type 0
NothingPastTheEnd = (code : List ℕ) (at : ℕ) → length code ≤ at → decoded code at ≡ Err Cut

-- the short form of an instruction is no longer than its plain length
abbrev pub ShortIsNoLonger : Type 0
ShortIsNoLonger = (i : Insn) → length_of (short_form i) ≤ plain_length i
