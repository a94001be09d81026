-- Numbers of two bytes, and tables of them.
use Rattle.std.proofs.Common.{◌≡◌, ℕ, ◌+◌, ◌<◌, List, drop, Some, None, Bool, true, false, cond, slice_index, arith}
use Rattle.std.proofs.lemmas.List.{get_or-drop}
use Rattle.byteorder.specs.Endian.{big_number}
use Rattle.cap_bytes.specs.Number.{number_at}
use Rattle.cap_bytes.specs.Grammar.{u2}
use Rattle.cap_bytes.specs.Spelling.{Spells}
use Rattle.cap_bytes.specs.Bytes.{AreBytes}
use Rattle.cap_renewal.specs.NewMethods.{KeepsSmall}
use Rattle.cap_renewal.specs.Along.{number_edits, two_bytes}
use Rattle.cap_renewal.proofs.Items.{IsItem, IsFit}

pub number_value : (w at : ℕ) (bytes : List ℕ) (n : ℕ) → number_at w at bytes ≡ Some n → n ≡ big_number w (drop at bytes)
number_value w at bytes n h = by _ h
  where
    by : (b : Bool) → cond b (Some (big_number w (drop at bytes))) None ≡ Some n → n ≡ big_number w (drop at bytes)
    by true e = cc
    by false e = absurd (cc)

pub number_small : (at : ℕ) (bytes : List ℕ) (n : ℕ) → AreBytes bytes → number_at 2 at bytes ≡ Some n → n < 65536
number_small at bytes n are h = grind (arith, number_value, slice_index, get_or-drop)

pub number_item : (to : ℕ → ℕ) (bytes : List ℕ) → IsItem u2 (number_edits to) two_bytes to bytes
unfolding Spells
number_item to bytes = grind (arith)

pub number_fit : (to : ℕ → ℕ) (bytes : List ℕ) → AreBytes bytes → KeepsSmall to → IsFit u2 (number_edits to) bytes
unfolding Spells
number_fit to bytes are keeps = record { fit = λ at n after h. (keeps.each n (number_small at bytes n are h.0), tt) }

pub wide_u2 : (bytes : List ℕ) (at n after : ℕ) → Spells u2 bytes at n after → after ≡ at + 2
unfolding Spells
wide_u2 bytes at n after h = h.2
