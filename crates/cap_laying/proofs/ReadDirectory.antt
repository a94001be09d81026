-- What is known of the items of a Directory that was read.
use Rattle.std.proofs.Common.{◌≡◌, ◌<◌, ℕ, zero, suc, Bool, true, false, cond, List, length, drop, Some, None, refl, ap}
use Rattle.std.proofs.Common.{arith}
use Rattle.std.specs.Prelude.{IsTrue}
use Rattle.std.proofs.lemmas.List.{length-take, length-drop}
use Rattle.cap_bytes.specs.declared.fault.FormKind.TheVariants.{BadValue}
use Rattle.cap_bytes.specs.declared.fault.Format.{Format}
use Rattle.cap_bytes.specs.Grammar.{that, u2, is_aid_length, each, repeat, table}
use Rattle.cap_bytes.specs.Spelling.{Spells, Stands}
use Rattle.cap_frame.specs.DirectoryFormat.{Custom, DirectoryItems, custom_info, is_new_tag, and_that_of, directory_info}
use Rattle.cap_bytes.specs.Bytes.{AreBytes}
use Rattle.cap_renewal.proofs.Numbers.{number_small}
use Rattle.cap_laying.specs.WrittenDirectory.{AreSmall, AreCustoms, MayStand}
use Rattle.jc_decode.proofs.Refusals.{op-fits}

passed_is : (test : ℕ → Bool) (n : ℕ) → that test n ≡ None → IsTrue (test n)
passed_is test n h = by (test n) h
  where
    by : (b : Bool) → cond b None (Some BadValue) ≡ None → IsTrue b
    by true h = refl
    by false h = absurd (cc)

-- numbers that were read
record AreRead (n : ℕ) (ns : List ℕ) : Type 0 where
  counted : length ns ≡ n
  small : AreSmall ns

sizes_read : (bytes : List ℕ) → AreBytes bytes → (n at : ℕ) (ns : List ℕ) (after : ℕ) → Spells (repeat n u2) bytes at ns after → AreRead n ns
unfolding Spells
sizes_read bytes are zero at ns after h = rw h.0 (record { counted = refl; small = tt })
sizes_read bytes are (suc n) at ns after h =
    let g = h.3 in
    let r = sizes_read bytes are n h.1 g.0 g.1 g.2 in
    rw g.3.0 (record { counted = ap suc r.counted; small = (number_small at bytes h.0 are h.2.0, r.small) })

-- custom components that were read
record AreReadCustoms (named : ℕ → Bool) (n : ℕ) (cs : List Custom) : Type 0 where
  counted : length cs ≡ n
  customs : AreCustoms named cs

record IsReadCustom (named : ℕ → Bool) (c : Custom) : Type 0 where
  new : IsTrue (is_new_tag named c.tag)
  tag : c.tag < 256
  size : c.size < 65536
  aid : IsTrue (is_aid_length (length c.aid))

custom_read : (bytes : List ℕ) → AreBytes bytes → (named : ℕ → Bool) (at : ℕ) (c : Custom) (after : ℕ)
    → Spells (custom_info named) bytes at c after → IsReadCustom named c
unfolding Spells
custom_read bytes are named at c after h = grind (arith, length, length-take, drop, length-drop, passed_is, op-fits, number_small)

customs_read : (bytes : List ℕ) → AreBytes bytes → (n : ℕ) (named : ℕ → Bool) (at : ℕ) (cs : List Custom) (after : ℕ)
    → Spells (each n custom_info and_that_of named) bytes at cs after → AreReadCustoms named n cs
unfolding Spells
customs_read bytes are zero named at cs after h = rw h.0 (record { counted = refl; customs = tt })
customs_read bytes are (suc n) named at cs after h =
    let g = h.3 in
    let c = custom_read bytes are named at h.0 h.1 h.2 in
    let r = customs_read bytes are n (and_that_of named h.0) h.1 g.0 g.1 g.2 in
    rw g.3.0 (record { counted = ap suc r.counted; customs = (c.new, c.tag, c.size, c.aid, r.customs) })

pub read_may_stand : (format : Format) (bytes : List ℕ) (d : DirectoryItems) → AreBytes bytes → Stands (directory_info format) bytes d
    → MayStand format d
unfolding Stands Spells table
read_may_stand format bytes d are s = grind (arith, sizes_read, customs_read, length, op-fits, number_small)
