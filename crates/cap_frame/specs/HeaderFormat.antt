-- The Header component (JCVM 2.2, section 6.3), in the formats 2.1 and 2.2.
use Rattle.std.specs.Prelude.{ℕ, List, [], Option, Some, None, ◌==◌, ◌||◌, if◌then◌else◌}
use Rattle.std.specs.Int.RustNames.{bit_and}
use Rattle.cap_bytes.specs.declared.fault.FormKind.{FormKind}
use Rattle.cap_bytes.specs.declared.fault.FormKind.TheVariants.{BadMagic, BadVersion}
use Rattle.cap_bytes.specs.declared.fault.Format.{Format}
use Rattle.cap_bytes.specs.declared.fault.Format.TheVariants.{V21, V22}
use Rattle.cap_bytes.specs.Grammar.{Grammar, give, number, piece, finish, u1, only, ◌>>=◌}
use Rattle.cap_frame.specs.PackageFormat.{Package, package_info}

pub record HeaderItems : Type 0 where
  pub format : Format
  pub flags : ℕ
  pub package_of : Package
  pub name : List ℕ

-- ACC_INT 1, ACC_EXPORT 2 and ACC_APPLET 4; the other bits mean nothing
abbrev pub header_flags : ℕ → ℕ
header_flags byte = bit_and byte 7

-- ---- the format

-- a minor version of which there is no format
abbrev pub wrong_minor : ℕ → Option FormKind
wrong_minor minor = if minor == 1 || minor == 2 then None else Some BadVersion

-- the format with a minor version
abbrev pub format_of : ℕ → Format
format_of minor = if minor == 1 then V21 else V22

unfoldable pub version : Grammar Format
version = do
  minor ← number 1 wrong_minor
  major ← number 1 (only 2 BadVersion)
  give (format_of minor)

-- ---- the items

-- the package's name, which format 2.1 does not have
unfoldable pub name_info : Format → Grammar (List ℕ)
name_info V21 = give []
name_info V22 = do
  length ← u1
  piece length

unfoldable pub magic : Grammar ℕ
magic = number 4 (only 0xDECAFFED BadMagic)

abbrev pub header_info : Grammar HeaderItems
header_info = do
  first ← magic
  format ← version
  flags ← u1
  this ← package_info
  name ← name_info format
  end ← finish
  give (record { format = format; flags = header_flags flags; package_of = this; name = name })
