-- Laws of the Method component that is written anew.
use Rattle.std.specs.Prelude.{◌≡◌, ◌≤◌, ◌<◌, ℕ, List, Option, length, take, drop}
use Rattle.cap_method.specs.declared.read_methods.HandlerInfo.{HandlerInfo}
use Rattle.cap_method.specs.MethodPart.{HeaderAt}
use Rattle.cap_laying.specs.declared.member.WrittenMember.{WrittenMember}
use Rattle.cap_laying.specs.HeaderBytes.{HeaderNumbers, header_bytes, header_size, header_of}
use Rattle.cap_laying.specs.MethodInfo.{method_info, AreSmallEntries, IsInfoWritten}

-- numbers of one byte
pub record FitInBytes (n : HeaderNumbers) : Type 0 where
  pub max_stack : n.max_stack < 256
  pub nargs : n.nargs < 256
  pub max_locals : n.max_locals < 256

-- where the bytes of a header stand, its numbers are read
abbrev pub HeadersReadBack : Type 0
HeadersReadBack = (n : HeaderNumbers) (info : List ℕ) (at : ℕ) → FitInBytes n
    → take (header_size n) (drop at info) ≡ header_bytes n → HeaderAt info at (header_of n)

-- the info stands for its handler table, and each method stands in it where the one before it ends
abbrev pub InfosAreWritten : Type 0
InfosAreWritten = (entries : List HandlerInfo) (table : List (Option WrittenMember)) → length entries ≤ 255 → AreSmallEntries entries
    → IsInfoWritten entries table (method_info entries table)
