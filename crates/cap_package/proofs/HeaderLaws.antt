-- A method whose bytes lie in the info has a header there, of the size that its first byte tells.
use Rattle.std.proofs.Common.{◌≡◌, ℕ, ◌+◌, ◌/◌, ◌%◌, ◌≤◌, Bool, true, false, ◌||◌, ltb, leb, cond, List, length, Option}
use Rattle.std.proofs.Common.{Some, None, refl, sym, subst, arith}
use Rattle.std.proofs.lemmas.Bool.{false≢true, le-leb, ltb-false}
use Rattle.cap_bytes.specs.Number.{number_at}
use Rattle.cap_bytes.specs.Spelling.{Spells, info_of}
use Rattle.cap_bytes.proofs.Laws.{spelled-read}
use Rattle.cap_method.specs.MethodFormat.{Header, method_flags, header_after, method_header}
use Rattle.cap_desc.specs.DescriptorFormat.{MethodDescriptor}
use Rattle.cap_components.specs.declared.fault.PackFault.TheVariants.{MethodOutside}
use Rattle.cap_package.specs.HeaderChecks.{header_in, registers_fault}
use Rattle.cap_package.specs.MethodChecks.{size_by, code_start, code_end, outside_fault}

-- a byte that is there
some_byte : (b : Bool) (n : ℕ) → b ≡ true → (k : ℕ) × (cond b (Some n) None ≡ Some k)
some_byte true n e = (n, refl)
some_byte false n e = absurd (false≢true e)

byte_at : (info : List ℕ) (at : ℕ) → at + 1 ≤ length info → (n : ℕ) × (number_at 1 at info ≡ Some n)
byte_at info at h = some_byte (leb (at + 1) (length info)) _ (le-leb (at + 1) (length info) h)

-- a header that stands at an offset, with its size
pub record HasHeader (info : List ℕ) (offset : ℕ) : Type 0 where
  pub header : Header
  pub there : header_in info offset ≡ Some header
  pub size : header.size ≡ size_by (number_at 1 offset info)

header_found : (info : List ℕ) (offset after : ℕ) (h : Header) → Spells method_header info offset h after → header_in info offset ≡ Some h
unfolding header_in
header_found info offset after h s = rw (spelled-read (info_of 7) method_header info offset h after s) refl

header_by : (info : List ℕ) (offset first : ℕ) (b : Bool) → leb 128 first ≡ b → number_at 1 offset info ≡ Some first
    → offset + cond b 4 2 ≤ length info → HasHeader info offset
unfolding Spells
header_by info offset first true e at h =
    let second = byte_at info (offset + 1) (omega arith) in
    let third = byte_at info (offset + 1 + 1) (omega arith) in
    let fourth = byte_at info (offset + 1 + 1 + 1) (omega arith) in
    let found : Header = record { flags = method_flags first; size = 4; max_stack = second.0; nargs = third.0; max_locals = fourth.0 } in
    let end = offset + 1 + 1 + 1 + 1 in
    let farther : Spells (header_after true first) info (offset + 1) found end = (
      second.0,
      offset + 1 + 1,
      (second.1, refl, refl),
      (third.0, offset + 1 + 1 + 1, (third.1, refl, refl), (fourth.0, end, (fourth.1, refl, refl), (refl, refl))),
    ) in
    record {
      header = found;
      there =
          header_found info offset end found (
            first,
            offset + 1,
            (at, refl, refl),
            subst (λ k. Spells (header_after k first) info (offset + 1) found end)
                (sym e) farther,
          );
      size = rw (at, e) refl;
    }
header_by info offset first false e at h =
    let second = byte_at info (offset + 1) (omega arith) in
    let found : Header = record { flags = method_flags first; size = 2; max_stack = first % 16; nargs = second.0 / 16; max_locals = second.0 % 16 } in
    let end = offset + 1 + 1 in
    let farther : Spells (header_after false first) info (offset + 1) found end = (second.0, end, (second.1, refl, refl), (refl, refl)) in
    record {
      header = found;
      there =
          header_found info offset end found (
            first,
            offset + 1,
            (at, refl, refl),
            subst (λ k. Spells (header_after k first) info (offset + 1) found end)
                (sym e) farther,
          );
      size = rw (at, e) refl;
    }

within_by : (m : MethodDescriptor) (a b : Bool) → cond (a || b) (Some (MethodOutside m.method_offset)) None ≡ None → b ≡ false
within_by m x b e = grind (arith)

-- a method that is not outside ends within the info
pub ends-within : (info : List ℕ) (count : ℕ) (m : MethodDescriptor) → outside_fault info count m ≡ None → code_end info m ≤ length info
unfolding outside_fault
ends-within info count m e = grind (arith, ltb-false, length, within_by, ltb)

size_of : (b : Bool) → 2 ≤ cond b 4 2
size_of x = grind (arith)

pub size_least : (o : Option ℕ) → 2 ≤ size_by o
size_least x = grind (arith, size_of, leb)

header_at : (info : List ℕ) (offset first : ℕ) → number_at 1 offset info ≡ Some first → offset + size_by (number_at 1 offset info) ≤ length info
    → HasHeader info offset
header_at info offset first at h = grind (arith, header_by, leb)

pub has-header : (info : List ℕ) (m : MethodDescriptor) → code_end info m ≤ length info → HasHeader info m.method_offset
unfolding code_end code_start
has-header info m h = grind (arith, size_least, byte_at, header_at)

-- ---- registers

-- a method that has not too many registers has at most 255
pub few_registers : (info : List ℕ) (m : MethodDescriptor) (h : Header) → header_in info m.method_offset ≡ Some h → registers_fault info m ≡ None
    → h.nargs + h.max_locals ≤ 255
unfolding registers_fault
few_registers info m h at none = grind (arith, ltb, ltb-false)
