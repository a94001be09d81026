-- The bytes of a method by its kind.
use Rattle.std.proofs.Common.{arith}
use Rattle.std.proofs.Common.{◌≡◌, ◌+◌, ◌%◌, ℕ, List, [], ◌∷◌, ◌++◌, ap, ◌∙◌, append_assoc}
use Rattle.std.proofs.lemmas.Bool.{ne_eqb}
use Rattle.std.specs.Prelude.{Bool, ◌*◌, ◌==◌, if◌then◌else◌}
use Rattle.std.specs.List.{flat_map}
use Rattle.byteorder.specs.Endian.{big_bytes}
use Rattle.cap_gen.specs.Shape.{of_kind, shape_bytes}
use Rattle.cap_gen.specs.Methods.{method_bytes, code_offset, code_size_of_kind, method_offset, handler_count, handler_index}
use Rattle.cap_gen.specs.Methods.{entry_table}
use Rattle.cap_gen.specs.Described.{described_bytes}

bytes_of : (seed k c d n : ℕ) → k % 4 ≡ n → c ≡ (seed + k) % 100 → d ≡ (seed + 2 * k) % 100
    → method_bytes seed k ≡ shape_bytes (of_kind n c d)
unfolding method_bytes
bytes_of seed k c d n e f g = grind (arith)

pub choosing_bytes : (seed k c d : ℕ) → k % 4 ≡ 0 → c ≡ (seed + k) % 100 → d ≡ (seed + 2 * k) % 100
    → method_bytes seed k ≡ 0x02 ∷ 0x20 ∷ 0x1C ∷ 0x1D ∷ 0x60 ∷ 6 ∷ 0x10 ∷ c ∷ 0x70 ∷ 4 ∷ 0x10 ∷ d ∷ 0x41 ∷ 0x78 ∷ []
choosing_bytes seed k c d e f g = bytes_of seed k c d 0 e f g

pub reusing_bytes : (seed k c d : ℕ) → k % 4 ≡ 1 → c ≡ (seed + k) % 100 → d ≡ (seed + 2 * k) % 100
    → method_bytes seed k
    ≡ 0x02 ∷ 0x21 ∷ 0x1C ∷ 0x31 ∷ 0x1E ∷ 0x10 ∷ c ∷ 0x41 ∷ 0x30 ∷ 0x01 ∷ 0x2D ∷ 0x1A ∷ 0x66 ∷ 4 ∷ 0x05 ∷ 0x78 ∷ 0x1D
    ∷ 0x78 ∷ []
reusing_bytes seed k c d e f g = bytes_of seed k c d 1 e f g

pub dividing_bytes : (seed k c d : ℕ) → k % 4 ≡ 2 → c ≡ (seed + k) % 100 → d ≡ (seed + 2 * k) % 100
    → method_bytes seed k ≡ 0x02 ∷ 0x20 ∷ 0x1C ∷ 0x1D ∷ 0x47 ∷ 0x78 ∷ 0x3B ∷ 0x10 ∷ c ∷ 0x78 ∷ 0x3B ∷ 0x10 ∷ d ∷ 0x78 ∷ []
dividing_bytes seed k c d e f g = bytes_of seed k c d 2 e f g

pub looping_bytes : (seed k c d : ℕ) → k % 4 ≡ 3 → c ≡ (seed + k) % 100 → d ≡ (seed + 2 * k) % 100
    → method_bytes seed k
    ≡ 0x02 ∷ 0x21 ∷ 0x10 ∷ 8 ∷ 0x31 ∷ 0x1C ∷ 0x10 ∷ c ∷ 0x41 ∷ 0x2F ∷ 0x59 ∷ 2 ∷ 0xFF ∷ 0x1E ∷ 0x61 ∷ 0xF7 ∷ 0x1C
    ∷ 0x78 ∷ []
looping_bytes seed k c d e f g = bytes_of seed k c d 3 e f g

pub ruleset bytes_by_kind = (choosing_bytes, reusing_bytes, dividing_bytes, looping_bytes)

-- ---- entries of the handler table

abbrev pub numbers_bytes : ℕ → ℕ → ℕ → ℕ → List ℕ
numbers_bytes start active entry index = big_bytes 2 start ++ (big_bytes 2 active ++ (big_bytes 2 entry ++ big_bytes 2 index))

abbrev both_entries : ℕ → List ℕ
both_entries code = flat_map (big_bytes 2) (code ∷ 3 ∷ (code + 4) ∷ 1 ∷ code ∷ 0x8008 ∷ (code + 8) ∷ 0 ∷ [])

pub division_entries : (k : ℕ) → k % 4 ≡ 2 → entry_table k ≡ numbers_bytes (code_offset k) 3 (code_offset k + 4) 1 ++ numbers_bytes
    (code_offset k) 0x8008 (code_offset k + 8) 0
unfolding entry_table
division_entries k e = ap (λ (n : ℕ). if n == 2 then both_entries (code_offset k) else []) e

none_of : (n : ℕ) (xs : List ℕ) → (n ≡ 2 → ⊥) → (if n == 2 then xs else []) ≡ []
none_of n xs h = ap (λ (b : Bool). if b then xs else []) (ne_eqb n 2 h)

pub no_entries : (k : ℕ) → (k % 4 ≡ 2 → ⊥) → entry_table k ≡ []
unfolding entry_table
no_entries k h = none_of (k % 4) (both_entries (code_offset k)) h

-- what is left where both entries were appended
pub entries_steps : (k at : ℕ) (out one : List ℕ) → k % 4 ≡ 2 → at ≡ method_offset k → one ≡ out ++ numbers_bytes (at + 2) 3 (at + 2 + 4) 1
    → one ++ numbers_bytes (at + 2) 0x8008 (at + 2 + 8) 0 ≡ out ++ entry_table k
entries_steps k at out one e is h = grind (arith, division_entries, append_assoc)

-- ---- records of the Descriptor

pub record_steps : (k offset size count index : ℕ) (out one two : List ℕ) → offset ≡ method_offset k → size ≡ code_size_of_kind k
    → count ≡ handler_count k
    → index ≡ handler_index k → one ≡ out ++ k ∷ 9 ∷ [] → two ≡ one ++ big_bytes 2 offset → two ++ numbers_bytes 6 size count index
    ≡ out ++ described_bytes k
unfolding described_bytes
record_steps k offset size count index out one two eo es ec ei e1 e2 =
    let rest = numbers_bytes 6 size count index in
    let same : k ∷ 9 ∷ (big_bytes 2 offset ++ rest) ≡ described_bytes k =
    ap (λ (n : ℕ). k ∷ 9 ∷ (big_bytes 2 n ++ rest)) eo
    ∙ (ap (λ (n : ℕ). k ∷ 9 ∷ (big_bytes 2 (method_offset k) ++ numbers_bytes 6 n count index)) es
    ∙ (ap (λ (n : ℕ). k ∷ 9 ∷ (big_bytes 2 (method_offset k) ++ numbers_bytes 6 (code_size_of_kind k) n index)) ec
    ∙ ap (λ (n : ℕ). k ∷ 9 ∷ (big_bytes 2 (method_offset k) ++ numbers_bytes 6 (code_size_of_kind k) (handler_count k) n)) ei)) in
    ap (λ (xs : List ℕ). xs ++ rest) (e2 ∙ ap (λ (xs : List ℕ). xs ++ big_bytes 2 offset) e1)
    ∙ (append_assoc (out ++ k ∷ 9 ∷ []) (big_bytes 2 offset) rest
    ∙ (append_assoc out (k ∷ 9 ∷ []) (big_bytes 2 offset ++ rest)
    ∙ ap (λ (xs : List ℕ). out ++ xs) same))
