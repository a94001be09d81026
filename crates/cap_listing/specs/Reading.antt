-- How a listing is read, line by line.
use Rattle.std.specs.Prelude.{◌≡◌, ◌≢◌, ◌≤◌, ◌+◌, ℕ, Bool, true, false, List, [], ◌∷◌, ◌++◌, All, length}
use Rattle.std.specs.Prelude.{map, decimal, Option, Some, None, Ok, IsErr}
use Rattle.std.specs.Fmt.{signed_decimal}
use Rattle.jc_decode.specs.declared.insn.Insn.{Insn}
use Rattle.jc_decode.specs.declared.symbols.Laid.{Laid}
use Rattle.jc_decode.specs.declared.symbols.LaidHandler.{LaidHandler}
use Rattle.jc_decode.specs.Names.{name}
use Rattle.cap_bytes.specs.Bytes.{AreBytes}
use Rattle.jc_decode.specs.Decoding.{decoded}
use Rattle.jc_decode.specs.Cases.{cases}
use Rattle.jc_decode.specs.Listing.{listing_end}
use Rattle.cap_listing.specs.declared.method.ListedMethod.{ListedMethod}
use Rattle.cap_listing.specs.Numbers.{numbers_of}
use Rattle.cap_listing.specs.Text.{IsMethod, IsHandler, head_words, bytes_words, handler_words, end_words, begun_lines, lines_of}

-- a method of which some lines were read: after its bytes or a handler no instruction comes
pub record Begun : Type 0 where
  pub method : ListedMethod
  pub closed : Bool

-- the methods that were read, and the one that has begun
pub record State : Type 0 where
  pub done : List ListedMethod
  pub begun : Option Begun

-- the bytes are one instruction
pub record IsOne (bytes : List ℕ) (i : Insn) : Type 0 where
  pub are : AreBytes bytes
  pub decodes : decoded bytes 0 ≡ Ok i
  pub whole : i.len ≡ length bytes

-- the words of an instruction of these bytes at a place
abbrev pub block_words : ℕ → List ℕ → Insn → List (List ℕ)
block_words place bytes i = decimal place ∷ name i.op ∷ map signed_decimal (numbers_of place i (cases bytes 0 i))

abbrev pub laid_with_bytes : Laid → List ℕ → Laid
laid_with_bytes l bytes = record l { code = l.code ++ bytes }

abbrev pub laid_with_handler : Laid → LaidHandler → Laid
laid_with_handler l h = record l { handlers = l.handlers ++ h ∷ [] }

abbrev pub with_bytes : ListedMethod → List ℕ → ListedMethod
with_bytes m bytes = record m { laid = laid_with_bytes m.laid bytes }

abbrev pub with_handler : ListedMethod → LaidHandler → ListedMethod
with_handler m h = record m { laid = laid_with_handler m.laid h }

-- no line of the code or of a handler was read
pub record IsBare (m : ListedMethod) : Type 0 where
  pub is : IsMethod m
  pub code : m.laid.code ≡ []
  pub handlers : m.laid.handlers ≡ []

-- ---- the five kinds of line

pub record BeginsMethod (before : State) (words : List (List ℕ)) (after : State) : Type 0 where
  pub method : ListedMethod
  pub bare : IsBare method
  pub from : before.begun ≡ None
  pub are : words ≡ head_words method
  pub to : after ≡ record { done = before.done; begun = Some (record { method = method; closed = false }) }

pub record AddsInstruction (before : State) (words : List (List ℕ)) (after : State) : Type 0 where
  pub method : ListedMethod
  pub bytes : List ℕ
  pub insn : Insn
  pub one : IsOne bytes insn
  pub few : length (method.laid.code ++ bytes) ≤ 65535
  pub from : before.begun ≡ Some (record { method = method; closed = false })
  pub are : words ≡ block_words (length method.laid.code) bytes insn
  pub to : after ≡ record { done = before.done; begun = Some (record { method = with_bytes method bytes; closed = false }) }

pub record AddsBytes (before : State) (words : List (List ℕ)) (after : State) : Type 0 where
  pub method : ListedMethod
  pub bytes : List ℕ
  pub some : bytes ≢ []
  pub bare : AreBytes bytes
  pub none : IsErr (decoded bytes 0)
  pub few : length (method.laid.code ++ bytes) ≤ 65535
  pub from : before.begun ≡ Some (record { method = method; closed = false })
  pub are : words ≡ bytes_words (length method.laid.code) bytes
  pub to : after ≡ record { done = before.done; begun = Some (record { method = with_bytes method bytes; closed = true }) }

pub record AddsHandler (before : State) (words : List (List ℕ)) (after : State) : Type 0 where
  pub begun : Begun
  pub handler : LaidHandler
  pub fits : IsHandler handler
  pub from : before.begun ≡ Some begun
  pub are : words ≡ handler_words handler
  pub to : after ≡ record { done = before.done; begun = Some (record { method = with_handler begun.method handler; closed = true }) }

pub record EndsMethod (before : State) (words : List (List ℕ)) (after : State) : Type 0 where
  pub begun : Begun
  pub from : before.begun ≡ Some begun
  pub are : words ≡ end_words
  pub to : after ≡ record { done = before.done ++ begun.method ∷ []; begun = None }

-- a line of these words may come, and what is read then
pub data Next (before : State) (words : List (List ℕ)) (after : State) : Type 0 where
  next_head : BeginsMethod before words after → Next before words after
  next_instruction : AddsInstruction before words after → Next before words after
  next_bytes : AddsBytes before words after → Next before words after
  next_handler : AddsHandler before words after → Next before words after
  next_end : EndsMethod before words after → Next before words after

-- lines of these words were read from one state to another
pub data Reads : State → List (List (List ℕ)) → State → Type 0 where
  reads_nothing : (st : State) → Reads st [] st
  reads_more :
      (st : State) (words : List (List ℕ)) (between : State) (lines : List (List (List ℕ))) (after : State)
      → Next st words between
      → Reads between lines after
      → Reads st (words ∷ lines) after

-- nothing is read yet
abbrev pub start : State
start = record { done = []; begun = None }

-- ---- the lines that were read, by the state

abbrev pub lines_begun : Option Begun → List (List (List ℕ))
lines_begun None = []
lines_begun (Some b) = begun_lines b.method

abbrev pub read_lines : State → List (List (List ℕ))
read_lines st = lines_of st.done ++ lines_begun st.begun

-- what holds of a method of which some lines were read: where instructions may come, the code is instructions alone
pub record IsBegun (b : Begun) : Type 0 where
  pub method : IsMethod b.method
  pub whole : b.closed ≡ false → (b.method.laid.handlers ≡ []) × (listing_end b.method.laid.code ≡ length b.method.laid.code)

abbrev pub MayBegin : Option Begun → Type 0
MayBegin None = Unit {0}
MayBegin (Some b) = IsBegun b

pub record IsState (st : State) : Type 0 where
  pub done : All IsMethod st.done
  pub begun : MayBegin st.begun
