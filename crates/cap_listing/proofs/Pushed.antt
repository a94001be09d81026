-- The bytes for which numbers stand, appended one operand after the other.
use Rattle.std.proofs.Common.{◌≡◌, ◌<◌, ◌≤◌, ◌+◌, ◌*◌, ◌-ℤ◌, ℕ, Ok, List, [], ◌∷◌, ◌++◌, length, drop, get_or}
use Rattle.std.proofs.Common.{arith, append_assoc}
use Rattle.std.specs.Prelude.{ℤ, pos}
use Rattle.std.proofs.lemmas.List.{append-nil, drop_more, length-drop}
use Rattle.jc_decode.specs.declared.layout.Operand.{Operand}
use Rattle.jc_decode.specs.declared.layout.Operand.TheVariants.{S2}
use Rattle.jc_decode.specs.declared.layout.Cases.TheVariants.{Range, Pairs}
use Rattle.jc_decode.specs.declared.layout.Layout.{Layout}
use Rattle.jc_decode.specs.Layout.{layout_of}
use Rattle.jc_decode.specs.Listing.{jumps}
use Rattle.cap_listing.specs.Numbers.{read_first, kept_bytes, table_of, first_number, after_operand, later_bytes, block_of}

pub range-step : (place : ℕ) (ns : List ℤ) (n : ℕ) (d : ℤ) (out new : List ℕ) (arg : ℤ) → n < length ns → arg ≡ get_or ns n d -ℤ pos place
    → new ≡ out ++ kept_bytes S2 arg → new ++ table_of Range place (drop (n + 1) ns) ≡ out ++ table_of Range place (drop n ns)
range-step place ns n d out new arg h is pushed = grind (arith, append_assoc, get_or, drop_more)

pub pairs-step : (key : Operand) (place : ℕ) (ns : List ℤ) (n : ℕ) (d : ℤ) (out a b : List ℕ) (k t : ℤ) → 2 * n + 2 ≤ length ns
    → k ≡ get_or ns (2 * n) d → t ≡ get_or ns (2 * n + 1) d -ℤ pos place → a ≡ out ++ kept_bytes key k → b ≡ a ++ kept_bytes S2 t
    → b ++ table_of (Pairs key) place (drop (2 * (n + 1)) ns) ≡ out ++ table_of (Pairs key) place (drop (2 * n) ns)
pairs-step key place ns n d out a b k t h first second one two = grind (arith, get_or, drop_more, append_assoc)

no-table : (key : Operand) (place : ℕ) (ns : List ℤ) → length ns ≤ 1 → table_of (Pairs key) place ns ≡ []
no-table key place z h = grind (arith)

pub pairs-end : (key : Operand) (place : ℕ) (ns : List ℤ) (n : ℕ) (out : List ℕ) → length ns ≤ 2 * n + 1
    → out ≡ out ++ table_of (Pairs key) place (drop (2 * n) ns)
pairs-end key place ns n out h = grind (arith, no-table, length-drop, append-nil)

pub later-pushed : (l : Layout) (place : ℕ) (ns : List ℤ) (a b c d : List ℕ) (y z : ℤ) → y ≡ first_number ns
    → z ≡ first_number (after_operand l.y ns) → b ≡ a ++ kept_bytes l.y y → c ≡ b ++ kept_bytes l.z z
    → d ≡ c ++ table_of l.cases place (after_operand l.z (after_operand l.y ns)) → d ≡ a ++ later_bytes l place ns
later-pushed l place ns a b c d y z first second one two three = grind (arith, append_assoc)

pub block-pushed : (place op : ℕ) (ns : List ℤ) (l : Layout) → layout_of op ≡ Ok l → (a b c d : List ℕ) (x : ℤ)
    → x ≡ read_first (jumps op) place (first_number ns) → b ≡ a ++ op ∷ [] → c ≡ b ++ kept_bytes l.x x
    → d ≡ c ++ later_bytes l place (after_operand l.x ns) → d ≡ a ++ block_of place op ns
block-pushed place op ns l is a b c d x first one two three = grind (arith, append_assoc)
