-- The header of a method that is written anew (JCVM 2.2, section 6.9.2): compact where its three numbers fit, and of the
-- flags ACC_EXTENDED alone.
use Rattle.std.specs.Prelude.{◌≡◌, ◌+◌, ◌*◌, ℕ, Bool, List, [], ◌∷◌, nat_le, ◌&&◌, if◌then◌else◌, refl}
use Rattle.cap_method.specs.MethodFormat.{Header}

-- the numbers of a header
pub record HeaderNumbers : Type 0 where
  pub max_stack : ℕ
  pub nargs : ℕ
  pub max_locals : ℕ

abbrev pub is_compact : HeaderNumbers → Bool
is_compact n = nat_le n.max_stack 15 && nat_le n.nargs 15 && nat_le n.max_locals 15

abbrev pub compact_bytes : HeaderNumbers → List ℕ
compact_bytes n = n.max_stack ∷ (16 * n.nargs + n.max_locals) ∷ []

abbrev pub extended_bytes : HeaderNumbers → List ℕ
extended_bytes n = 128 ∷ n.max_stack ∷ n.nargs ∷ n.max_locals ∷ []

unfoldable pub header_bytes : HeaderNumbers → List ℕ
header_bytes n = if is_compact n then compact_bytes n else extended_bytes n

-- how many they are
abbrev pub header_size : HeaderNumbers → ℕ
header_size n = if is_compact n then 2 else 4

-- what is read there
abbrev pub header_of : HeaderNumbers → Header
header_of n = record {
  flags = if is_compact n then 0 else 8;
  size = header_size n;
  max_stack = n.max_stack;
  nargs = n.nargs;
  max_locals = n.max_locals;
}

compact : header_bytes (record { max_stack = 3; nargs = 2; max_locals = 1 }) ≡ 3 ∷ 33 ∷ []
unfolding header_bytes
compact = refl

extended : header_bytes (record { max_stack = 16; nargs = 2; max_locals = 1 }) ≡ 128 ∷ 16 ∷ 2 ∷ 1 ∷ []
unfolding header_bytes
extended = refl
