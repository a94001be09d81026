-- The header that stands at an offset is the one that is read there.
use Rattle.std.proofs.Common.{◌≡◌, ℕ, List, Option, Some, None, Ok, Err, IfSome, IfNone, refl}
use Rattle.std.specs.Result.{result_ok}
use Rattle.std.specs.Option.{option_map}
use Rattle.cap_bytes.specs.Spelling.{info_of}
use Rattle.cap_bytes.specs.Reading.{Reading, read}
use Rattle.cap_bytes.proofs.Laws.{spelled-read, read-spells}
use Rattle.cap_method.specs.declared.read_methods.MethodHeader.{MethodHeader}
use Rattle.cap_method.specs.MethodFormat.{Header, method_header}
use Rattle.cap_method.specs.MethodPart.{header_seen, HeaderAt}
use Rattle.cap_package.specs.HeaderChecks.{header_in}

none_read : (info : List ℕ) (offset : ℕ) (r : Reading Header) → read (info_of 7) method_header info offset ≡ r
    → ((h : Header) → HeaderAt info offset h → ⊥) → None ≡ option_map (λ (p : Header × ℕ). p.0) (result_ok r)
none_read info offset (Err e) h none = refl
none_read info offset (Ok x) h none = absurd (none x.0 (x.1, read-spells (info_of 7) method_header info offset x.0 x.1 h))

pub header_known : (info : List ℕ) (offset : ℕ) (found : Option MethodHeader) → IfSome found (λ h. HeaderAt info offset (header_seen h))
    → IfNone found ((h : Header) → HeaderAt info offset h → ⊥) → option_map header_seen found ≡ header_in info offset
unfolding header_in
header_known info offset None some none = none_read info offset (read (info_of 7) method_header info offset) refl none
header_known info offset (Some h) some none = rw (spelled-read (info_of 7) method_header info offset (header_seen h) some.0 some.1) refl
