-- Renumbered code is such as is laid.
use Rattle.std.proofs.Common.{◌≡◌, ℕ, ◌+◌, ◌*◌, ◌<◌, ◌≤◌, Bool, true, false, if◌then◌else◌, inl, inr, List, [], ◌∷◌, All}
use Rattle.std.proofs.Common.{length, map, Ok, refl, arith}
use Rattle.std.specs.Prelude.{ℤ, pos, negsuc, ◌||◌, slice_index_or, ◌-◌, ◌/◌, ◌%◌}
use Rattle.std.proofs.lemmas.List.{length-map}
use Rattle.std.proofs.lemmas.List.Elements.{All-map, All-weaker, All-head}
use Rattle.std.proofs.lemmas.List.Sums.{sum_by-cons}
use Rattle.std.proofs.Math.Nat.{le_of_lt}
use Rattle.jc_base.specs.Each.{Each, IsAmong}
use Rattle.jc_base.proofs.Eaching.{All-from_Each, Contains-from_IsAmong}
use Rattle.jc_base.specs.declared.record.Handler.{Handler}
use Rattle.jc_control.specs.WellFormed.{HasInstruction, IsHandlerOf, IsTargetPlace}
use Rattle.jc_decode.specs.declared.insn.Insn.{Insn}
use Rattle.jc_decode.specs.declared.insn.Placed.{Placed}
use Rattle.jc_decode.specs.declared.symbols.Item.TheVariants.{Plain, Branch, Switch, Label}
use Rattle.jc_decode.specs.Cases.{cases, is_switch}
use Rattle.cap_bytes.specs.Bytes.{AreBytes}
use Rattle.jc_decode.specs.Decoding.{decoded}
use Rattle.jc_decode.specs.Forms.{is_load_n, is_store_n, plain_length, wide, with_operand}
use Rattle.jc_decode.specs.Listing.{is_branch, jumps, listing, listing_end, Lists, targets}
use Rattle.jc_decode.specs.Symbols.{IsItem, IsOnce, IsRange, plain_bytes, plain_size}
use Rattle.jc_decode.proofs.Decoded.{IsWithin-decoded}
use Rattle.jc_decode.proofs.Ranges.{IsAllowed-decoded, op-fits}
use Rattle.jc_ops.specs.Resolve.{byte_of}
use Rattle.law_renumbered.specs.Instruction.{uses_register, renumbered_instruction}
use Rattle.law_renumbered.specs.Symbols.{item_of, items_from, labels_of, range_of}
use Rattle.vm_step.specs.Settled.{place_number}
use Rattle.xf_share.specs.Numbering.{IsReadable}
use Rattle.xf_share.proofs.Labels.{IsLabelIn, boundary-label, listing-rises, once, place-label, places-rise}
use Rattle.xf_share.proofs.Operands.{branch-wide, plain-suits}
use Rattle.jc_decode.proofs.PlainLengths.{own-length, plain-length}
use Rattle.std.proofs.lemmas.Bool.{or_right}

-- ---- sizes

operand-long : (i : Insn) → (with_operand i).len ≡ i.len
operand-long i = by (is_load_n i.op) (is_store_n i.op)
  where
    by : (a b : Bool)
        → (if a then record i { op = 21 + (i.op - 24) / 4; x = pos ((i.op - 24) % 4) }
        else if b then record i { op = 40 + (i.op - 43) / 4; x = pos ((i.op - 43) % 4) } else i).len
        ≡ i.len
    by true b = refl
    by false true = refl
    by false false = refl

module _ (code : List ℕ) (reg : ℕ → ℕ) where
  item-size : (i : Placed) → plain_bytes (item_of code reg i) ≤ i.insn.len + 13
  item-size i = by (is_switch i.insn.op) (is_branch i.insn.op) (uses_register i.insn.op)
    where
      x : ℤ
      x = pos (reg (byte_of (with_operand i.insn).x))

      renamed : plain_length (record (with_operand i.insn) { x = x }) ≤ i.insn.len + 13
      renamed = omega (arith, plain-length (record (with_operand i.insn) { x = x }), operand-long i.insn)

      plain : (c : Bool) → plain_length (if c then record (with_operand i.insn) { x = x } else i.insn) ≤ i.insn.len + 13
      plain x = grind (arith, renamed, plain-length)

      by : (a b c : Bool)
          → plain_bytes (if a then Switch i.insn i.place (labels_of code i)
          else if b then Branch (wide i.insn.op) (slice_index_or (labels_of code i) 0 0)
          else Plain (if c then record (with_operand i.insn) { x = x } else i.insn))
          ≤ i.insn.len + 13
      by x b c = grind (arith, own-length, plain)

  sizes : (at : ℕ) (ps : List Placed) → Lists code at ps → at ≤ length code
      → plain_size (items_from code reg ps) + 14 * at ≤ 14 * length code
  sizes at [] l le = omega (arith, sum_by-cons plain_bytes (Label (length code)) [])
  sizes at (i ∷ is) l le =
      let w = IsWithin-decoded code at i.insn l.1 in
      omega (
        arith,
        sum_by-cons plain_bytes (Label i.place) (item_of code reg i ∷ items_from code reg is),
        sum_by-cons plain_bytes (item_of code reg i) (items_from code reg is),
        item-size i,
        w.one,
        sizes (at + i.insn.len) is l.2 w.reaches,
      )

  module _ (readable : IsReadable code) (ends : listing_end code ≡ length code) where
    pub size-small : plain_size (items_from code reg (listing code)) ≤ 458738
    size-small = omega (arith, sizes 0 (listing code) readable.listed.lists (omega arith), readable.short)

    label-once : (l : ℕ) → IsLabelIn (length code) (listing code) l → IsOnce (items_from code reg (listing code)) l
    label-once l a = once code reg l (listing-rises code readable.listed ends) a

    -- ---- ranges

    range-suits : (h : Handler) → IsHandlerOf code h → IsRange (items_from code reg (listing code)) (range_of h)
    range-suits h is = record {
      «from» = label-once h.start (place-label code h.start is.start);
      to = label-once h.end (boundary-label code h.end is.end);
      entry = label-once h.entry (place-label code h.entry is.entry);
      order =
          places-rise code reg 0 h.start h.end (listing code) (listing-rises code readable.listed ends) (place-label code h.start is.start)
          (le_of_lt is.order);
    }

    pub ranges-suit : (hs : List Handler) → All (IsHandlerOf code) hs
        → All (IsRange (items_from code reg (listing code))) (map range_of hs)
    ranges-suit hs all =
        All-map (IsRange (items_from code reg (listing code))) range_of hs
        (All-weaker (IsHandlerOf code) (λ h. IsRange (items_from code reg (listing code)) (range_of h)) range-suits hs all)

    -- ---- items

    module _ (bytes : AreBytes code) (few : (x : ℕ) → x < 256 → reg x < 256) where
      target-once : (t : ℤ) → IsTargetPlace code t → IsOnce (items_from code reg (listing code)) (place_number t)
      target-once (pos p) is = label-once p (place-label code p is)
      target-once (negsuc n) is = absurd is

      labels-once : (i : Placed) → HasInstruction code i → All (IsOnce (items_from code reg (listing code))) (labels_of code i)
      labels-once i stands =
          All-map (IsOnce (items_from code reg (listing code))) place_number (targets code i)
          (All-weaker (IsTargetPlace code) (λ t. IsOnce (items_from code reg (listing code)) (place_number t)) target-once (targets code i)
          (readable.leads i stands))

      labels-count : (i : Placed) → jumps i.insn.op ≡ true → length (labels_of code i) ≡ length (cases code i.place i.insn) + 1
      unfolding targets
      labels-count i e = grind (arith, length-map, length, map)

      first-once : (i : Placed) → HasInstruction code i → jumps i.insn.op ≡ true
          → IsOnce (items_from code reg (listing code)) (slice_index_or (labels_of code i) 0 0)
      first-once i stands e = by (labels_of code i) (labels-count i e) (labels-once i stands)
        where
          by : (ls : List ℕ) → length ls ≡ length (cases code i.place i.insn) + 1 → All (IsOnce (items_from code reg (listing code))) ls
              → IsOnce (items_from code reg (listing code)) (slice_index_or ls 0 0)
          by [] long all = absurd (omega (arith, long))
          by (l ∷ ls) long all = All-head (IsOnce (items_from code reg (listing code))) l ls all

      item-suits : (i : Placed) → HasInstruction code i → IsItem code (items_from code reg (listing code)) (item_of code reg i)
      item-suits i stands = by (is_switch i.insn.op) (is_branch i.insn.op) refl refl
        where
          d : decoded code i.place ≡ Ok i.insn
          d = readable.listed.decodes i stands

          small : i.insn.op < 256
          small = op-fits code i.place i.insn bytes d

          neither : (a b : Bool) → a ≡ false → b ≡ false → (b || a) ≡ false
          neither a b e f = cc

          by : (a b : Bool) → is_switch i.insn.op ≡ a → is_branch i.insn.op ≡ b
              → IsItem code (items_from code reg (listing code))
              (if a then Switch i.insn i.place (labels_of code i)
              else if b then Branch (wide i.insn.op) (slice_index_or (labels_of code i) 0 0)
              else Plain (renumbered_instruction reg i.insn))
          by true b e f = grind (arith, or_right (is_branch i.insn.op) (is_switch i.insn.op) e, labels-once i stands, labels-count)
          by false true e f = grind (arith, branch-wide, small, first-once)
          by false false e f =
              plain-suits i.insn reg small few (neither (is_switch i.insn.op) (is_branch i.insn.op) e f)
              (IsAllowed-decoded code i.place i.insn bytes d)

      each-suits : (ps : List Placed) → ((i : Placed) → IsAmong i ps → HasInstruction code i)
          → Each (IsItem code (items_from code reg (listing code))) (items_from code reg ps)
      each-suits [] inside = (tt {0}, tt)
      each-suits (i ∷ is) inside = (tt {0}, (item-suits i (inside i (inl refl)), each-suits is (λ j a. inside j (inr a))))

      pub items-suit : All (IsItem code (items_from code reg (listing code))) (items_from code reg (listing code))
      items-suit =
          All-from_Each (IsItem code (items_from code reg (listing code))) (items_from code reg (listing code))
          (each-suits (listing code) (λ i a. Contains-from_IsAmong i (listing code) a))
