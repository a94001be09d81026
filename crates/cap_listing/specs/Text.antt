-- The listing of methods: a text that tells each of them.
use Rattle.std.specs.Prelude.{◌≡◌, ◌≤◌, ◌<◌, ◌^◌, ◌+◌, ℕ, List, [], ◌∷◌, ◌++◌, All, length, drop, map}
use Rattle.std.specs.Prelude.{codes, decimal}
use Rattle.std.specs.Fmt.{signed_decimal}
use Rattle.hex.specs.Hex.{encode_lower}
use Rattle.jc_decode.specs.declared.insn.Placed.{Placed}
use Rattle.jc_decode.specs.declared.symbols.LaidHandler.{LaidHandler}
use Rattle.jc_decode.specs.Names.{name}
use Rattle.cap_bytes.specs.Bytes.{AreBytes}
use Rattle.jc_decode.specs.Cases.{cases}
use Rattle.jc_decode.specs.Listing.{listing, listing_end}
use Rattle.cap_listing.specs.declared.method.ListedMethod.{ListedMethod}
use Rattle.cap_listing.specs.declared.method.Heading.{Heading}
use Rattle.cap_listing.specs.Numbers.{numbers_of}
use Rattle.cap_listing.specs.Words.{text_of_lines}

-- ---- the words of each line

-- the numbers of a method: of its class, its own, the most words of its stack, those of its arguments and of its locals
abbrev pub heading_words : Heading → List (List ℕ)
heading_words h =
    codes "method" ∷ (decimal h.class_no ++ 46 ∷ decimal h.method_no)
    ∷ codes "stack" ∷ decimal h.max_stack
    ∷ codes "args" ∷ decimal h.nargs
    ∷ codes "locals" ∷ decimal h.max_locals ∷ []

abbrev pub heading_of : ListedMethod → Heading
heading_of m = record {
  class_no = m.class_no;
  method_no = m.method_no;
  max_stack = m.laid.max_stack;
  nargs = m.laid.nargs;
  max_locals = m.laid.max_locals;
}

abbrev pub head_words : ListedMethod → List (List ℕ)
head_words m = heading_words (heading_of m)

-- an instruction of the code: its place, its name and its numbers
abbrev pub instruction_words : List ℕ → Placed → List (List ℕ)
instruction_words code p =
    decimal p.place ∷ name p.insn.op ∷ map signed_decimal (numbers_of p.place p.insn (cases code p.place p.insn))

-- the bytes of the code from a place on at which none is decoded
abbrev pub bytes_words : ℕ → List ℕ → List (List ℕ)
bytes_words place bytes = codes "bytes" ∷ decimal place ∷ encode_lower bytes ∷ []

-- a handler: where the range begins and where it ends, the place of its code and the number in the constant pool
abbrev pub handler_words : LaidHandler → List (List ℕ)
handler_words h =
    codes "handler" ∷ decimal h.start ∷ decimal (h.start + h.length) ∷ decimal h.entry ∷ decimal h.pool ∷ []

abbrev pub end_words : List (List ℕ)
end_words = codes "end" ∷ []

-- ---- the text

-- the line of the bytes at which no instruction is decoded, where there are any
abbrev pub rest_lines : ℕ → List ℕ → List (List (List ℕ))
rest_lines place [] = []
rest_lines place (b ∷ bs) = bytes_words place (b ∷ bs) ∷ []

-- the lines of a code
abbrev pub code_lines : List ℕ → List (List (List ℕ))
code_lines code =
    map (instruction_words code) (listing code) ++ rest_lines (listing_end code) (drop (listing_end code) code)

-- the lines of a method but for the last, by their words
abbrev pub begun_lines : ListedMethod → List (List (List ℕ))
begun_lines m = head_words m ∷ (code_lines m.laid.code ++ map handler_words m.laid.handlers)

abbrev pub lines_of : List ListedMethod → List (List (List ℕ))
lines_of [] = []
lines_of (m ∷ ms) = begun_lines m ++ (end_words ∷ lines_of ms)

-- the listing of methods
abbrev pub text_of : List ListedMethod → List ℕ
text_of ms = text_of_lines (lines_of ms)

-- ---- what may be listed

abbrev pub IsShort : ListedMethod → Type 0
IsShort m = length m.laid.code ≤ 65535

pub record IsHandler (h : LaidHandler) : Type 0 where
  pub start : h.start < 2 ^ 16
  pub end : h.start + h.length < 2 ^ 16
  pub entry : h.entry < 2 ^ 16
  pub pool : h.pool < 2 ^ 16

-- the numbers of a heading are of two bytes and of one
pub record IsHeading (h : Heading) : Type 0 where
  pub class_no : h.class_no < 2 ^ 16
  pub method_no : h.method_no < 2 ^ 16
  pub max_stack : h.max_stack < 2 ^ 8
  pub nargs : h.nargs < 2 ^ 8
  pub max_locals : h.max_locals < 2 ^ 8

pub record IsMethod (m : ListedMethod) : Type 0 where
  pub class_no : m.class_no < 2 ^ 16
  pub method_no : m.method_no < 2 ^ 16
  pub max_stack : m.laid.max_stack < 2 ^ 8
  pub nargs : m.laid.nargs < 2 ^ 8
  pub max_locals : m.laid.max_locals < 2 ^ 8
  pub bytes : AreBytes m.laid.code
  pub few : length m.laid.code ≤ 65535
  pub handlers : All IsHandler m.laid.handlers

-- the text is the listing of these methods
pub record Lists (ms : List ListedMethod) (text : List ℕ) : Type 0 where
  pub methods : All IsMethod ms
  pub is : text ≡ text_of ms

-- the text begins a listing
pub record Begins (text : List ℕ) : Type 0 where
  pub methods : List ListedMethod
  pub rest : List ℕ
  pub lists : Lists methods (text ++ rest)
