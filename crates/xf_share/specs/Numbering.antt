-- The numbers that the registers of a method get, and its code with these.
use Rattle.std.specs.Prelude.{◌≡◌, ◌<◌, ◌≤◌, ℕ, List, length, Option, Some, None, slice_index_or}
use Rattle.jc_base.specs.declared.record.MethodRec.{MethodRec}
use Rattle.jc_base.specs.World.{Linked}
use Rattle.jc_control.specs.Method.{Method, IsMethodOf}
use Rattle.jc_control.specs.WellFormed.{IsWellFormed}
use Rattle.jc_decode.specs.declared.symbols.Symbols.{Symbols}
use Rattle.cap_bytes.specs.Bytes.{AreBytes}
use Rattle.jc_decode.specs.Laws.{AreListed}
use Rattle.jc_decode.specs.Listing.{listing}
use Rattle.jc_decode.specs.Places.{AllLeadInto}
use Rattle.law_renumbered.specs.Symbols.{renumbered_method}
use Rattle.xf_allot.specs.declared.sharing.Sharing.{Sharing}
use Rattle.xf_allot.specs.Sharing.{AnswersSharing}

-- the new number of each register, and how many there are beyond the arguments; a method that does not share its registers keeps them
abbrev pub number_of : Option Sharing → ℕ → ℕ
number_of None x = x
number_of (Some s) x = slice_index_or s.numbers.items x 0

abbrev pub locals_of : MethodRec → Option Sharing → ℕ
locals_of r None = r.max_locals
locals_of r (Some s) = s.locals

-- the code of a method with these numbers, whatever the method's own
abbrev pub symbols_of : MethodRec → List ℕ → Option Sharing → Symbols
symbols_of r code s = renumbered_method (record { number = 0; rec = r; code = code }) (number_of s) (locals_of r s)

-- code of a method's length, in which each target is a place
pub record IsReadable (code : List ℕ) : Type 0 where
  pub short : length code ≤ 32767
  pub listed : AreListed code
  pub leads : AllLeadInto code (listing code)

-- what is known of a method, and of its code with these numbers
pub record IsRenumbered (w : Linked) (m : Method) (s : Option Sharing) (symbols : Symbols) : Type 0 where
  pub method : IsMethodOf w m
  pub formed : IsWellFormed m
  pub short : length m.code ≤ 32767
  pub bytes : AreBytes m.code
  pub small : (x : ℕ) → x < 256 → number_of s x < 256
  pub answers : AnswersSharing w m s
  pub are : symbols ≡ renumbered_method m (number_of s) (locals_of m.rec s)
