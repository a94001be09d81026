-- What stands at an offset, from what taking it there answered.
use Rattle.std.proofs.Common.{◌≡◌, ℕ, ◌<◌, List, length, Result, Ok, Err, arith}
use Rattle.std.proofs.Common.{refl, sym}
use Rattle.std.specs.Prelude.{IfSome, IfNone}
use Rattle.std.specs.Result.{result_ok}
use Rattle.cap_bytes.specs.declared.fault.FormFault.{FormFault}
use Rattle.cap_bytes.specs.declared.cursor.Cursor.{Cursor}
use Rattle.cap_bytes.specs.Spelling.{Spells, info_of}
use Rattle.cap_bytes.specs.Taking.{Takes}
use Rattle.cap_bytes.proofs.Laws.{spelled-read, read-spells, Spells-one}
use Rattle.cap_method.specs.declared.read_methods.MethodHeader.{MethodHeader}
use Rattle.cap_method.specs.MethodFormat.{Header, method_header}
use Rattle.cap_method.specs.MethodPart.{header_seen, HeaderAt}
use Rattle.cap_bytes.proofs.Wide.{reaches}

pub header_found : (r : Result MethodHeader FormFault) (before after : Cursor) → Takes header_seen method_header before r after
    → IfSome (result_ok r) (λ h. HeaderAt before.info.bytes.now before.at (header_seen h))
header_found (Ok h) before after t =
    (after.at, read-spells (info_of before.part) method_header before.info.bytes.now before.at (header_seen h) after.at t.value)
header_found (Err fault) before after t = tt

pub header_none : (r : Result MethodHeader FormFault) (before after : Cursor) → Takes header_seen method_header before r after
    → IfNone (result_ok r) ((h : Header) → HeaderAt before.info.bytes.now before.at h → ⊥)
header_none (Ok h) before after t = tt
header_none (Err fault) before after t =
    λ h there. let e = spelled-read (info_of before.part) method_header before.info.bytes.now before.at h there.0 there.1 in let f = t.answer in absurd cc

-- a header has a first byte, so none stands past the end
pub header_within : (bytes : List ℕ) (offset : ℕ) (h : Header) → HeaderAt bytes offset h → length bytes < offset → ⊥
unfolding Spells
header_within bytes offset h there past = let first = reaches 1 bytes offset there.1.0 _ refl there.1.2.0 in absurd (omega arith)

-- and one at most stands there
pub header_one : (bytes : List ℕ) (offset : ℕ) (g h : Header) → HeaderAt bytes offset g → HeaderAt bytes offset h → g ≡ h
header_one bytes offset g h p q = sym (Spells-one method_header bytes offset g h p.0 q.0 p.1 q.1).0
