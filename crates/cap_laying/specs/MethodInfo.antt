-- The info of the Method component that is written anew (JCVM 2.2, section 6.9): the handler table, and after it the
-- methods one after the other.
use Rattle.std.specs.Prelude.{◌≡◌, ◌<◌, ◌+◌, ◌*◌, ℕ, zero, suc, List, [], ◌∷◌, ◌++◌, length, take, drop}
use Rattle.std.specs.Prelude.{Option, Some, slice_index_or, None}
use Rattle.cap_bytes.specs.Spelling.{Stands}
use Rattle.cap_method.specs.declared.read_methods.HandlerInfo.{HandlerInfo}
use Rattle.cap_method.specs.MethodFormat.{methods_info}
use Rattle.cap_laying.specs.declared.member.WrittenMember.{WrittenMember}
use Rattle.cap_laying.specs.HandlerTable.{table_bytes}
use Rattle.cap_laying.specs.Member.{body_bytes, body_size, bodies, size_if}

abbrev pub method_info : List HandlerInfo → List (Option WrittenMember) → List ℕ
method_info entries table = length entries ∷ (table_bytes entries ++ bodies table)

-- where the methods begin
abbrev pub methods_start : List HandlerInfo → ℕ
methods_start entries = 1 + 8 * length entries

-- the offset at which the n-th method of a table stands, where the first stands at a place
abbrev pub place_in_table : ℕ → List (Option WrittenMember) → ℕ → ℕ
place_in_table at [] n = at
place_in_table at (m ∷ ms) zero = at
place_in_table at (m ∷ ms) (suc n) = place_in_table (at + size_if m) ms n

-- the entries have numbers that their items hold
pub record IsSmallEntry (e : HandlerInfo) : Type 0 where
  pub start : e.start < 65536
  pub length : e.length < 32768
  pub entry : e.entry < 65536
  pub index : e.index < 65536

abbrev pub AreSmallEntries : List HandlerInfo → Type 0
AreSmallEntries [] = Unit {0}
AreSmallEntries (e ∷ es) = IsSmallEntry e × AreSmallEntries es

-- the info stands for the entries, and each method stands at its place
pub record IsInfoWritten (entries : List HandlerInfo) (table : List (Option WrittenMember)) (info : List ℕ) : Type 0 where
  pub stands : Stands methods_info info entries
  pub bodies : (n : ℕ) (m : WrittenMember) → slice_index_or table n None ≡ Some m
      → take (body_size m.body) (drop (place_in_table (methods_start entries) table n) info) ≡ body_bytes m.body
