-- A line tells what is read: two that are the same lead to the same state.
use Rattle.std.proofs.Common.{◌≡◌, ◌<◌, ◌≤◌, ◌^◌, ℕ, Bool, true, false, Some, None, Result, Ok}
use Rattle.std.proofs.Common.{Err, List, [], ◌∷◌, ◌++◌, length, map, get_or, refl, sym, ap, ◌∙◌, ⊎_elim, arith, rules}
use Rattle.std.proofs.Common.{drop, length-append}
use Rattle.std.specs.Prelude.{All, ℤ, pos, negsuc, decimal, FitsSigned, ◌==◌}
use Rattle.std.specs.Int.{w32}
use Rattle.std.specs.List.{slice_split}
use Rattle.std.specs.Fmt.{signed_decimal}
use Rattle.std.proofs.lemmas.Fmt.{decimal_injective, signed_decimal_injective}
use Rattle.std.proofs.lemmas.Bool.Decides.{eqb_tells}
use Rattle.std.proofs.lemmas.List.Splits.{slice_split_at, slice_split_none}
use Rattle.std.proofs.lemmas.List.Elements.{All-nil}
use Rattle.hex.specs.Hex.{encode_lower, decode_of}
use Rattle.hex.proofs.HexLemmas.{decode_of-encode_lower, decode_of-same}
use Rattle.jc_decode.specs.declared.insn.Insn.{Insn}
use Rattle.jc_decode.specs.declared.layout.Layout.{Layout}
use Rattle.jc_decode.specs.declared.insn.CodeEnd.{CodeEnd}
use Rattle.jc_decode.specs.declared.symbols.LaidHandler.{LaidHandler}
use Rattle.jc_decode.specs.Layout.{layout_of, opcode}
use Rattle.cap_bytes.specs.Bytes.{AreBytes}
use Rattle.jc_decode.specs.Decoding.{decoded}
use Rattle.jc_decode.specs.Cases.{cases}
use Rattle.jc_decode.proofs.Decoded.{Begins-decoded}
use Rattle.jc_decode.proofs.Ranges.{op-fits}
use Rattle.jc_decode.proofs.NameTable.{names-apart}
use Rattle.std.specs.List.{range_with_len}
use Rattle.std.specs.Prelude.{replicate, nat_lt}
use Rattle.std.proofs.lemmas.Bool.{ltb-true}
use Rattle.std.proofs.lemmas.List.{get_or-replicate}
use Rattle.std.proofs.lemmas.List.FromFn.{get_or-map-range_with_len}
use Rattle.cap_listing.specs.declared.method.ListedMethod.{ListedMethod}
use Rattle.cap_listing.specs.Words.{ArePlain, joined}
use Rattle.cap_listing.specs.Numbers.{numbers_of, block_of, AreShown}
use Rattle.cap_listing.specs.Text.{IsMethod, IsHandler, head_words, bytes_words, handler_words}
use Rattle.cap_listing.specs.Reading.{Begun, State, IsOne, IsBare, with_bytes, block_words}
use Rattle.cap_listing.specs.Reading.{Next, next_head, next_instruction, next_bytes, next_handler, next_end}
use Rattle.cap_listing.proofs.Words.{IsDigits, decimal-digits, decimal-first, plain-decimal, plain-name, plain-hex, plain-map, plain-append}
use Rattle.cap_listing.proofs.Words.{joined-same}
use Rattle.cap_listing.proofs.Tell.{numbers-tell}
use Rattle.cap_listing.proofs.Shown.{numbers-shown}

-- the n-th word
abbrev word : ℕ → List (List ℕ) → List ℕ
word n ws = get_or ws n []

-- ---- two numbers with a full stop between them

digits-stop : (w : List ℕ) → IsDigits w → All (λ b. (b == 46) ≡ false) w
digits-stop [] h = All-nil (λ b. (b == 46) ≡ false)
digits-stop (b ∷ w) h = grind (arith, ⊎_elim, eqb_tells, digits-stop w h.1)

pub stop-split : (m n : ℕ) → m < 2 ^ 64 → n < 2 ^ 64 → slice_split (λ b. b == 46) (decimal m ++ 46 ∷ decimal n) ≡ decimal m ∷ decimal n ∷ []
stop-split m n h k = grind (arith, slice_split_at, digits-stop, decimal-digits, slice_split_none)

-- ---- the words of a line are plain

pub head-plain : (m : ListedMethod) → IsMethod m → ArePlain (head_words m)
head-plain m h = (
  search rules,
  (
    plain-append (decimal m.class_no) (46 ∷ decimal m.method_no) (plain-decimal m.class_no (small h.class_no))
        ((omega arith, omega arith), plain-decimal m.method_no (small h.method_no)),
    (
      search rules,
      (
        plain-decimal m.laid.max_stack (narrow h.max_stack),
        (search rules, (plain-decimal m.laid.nargs (narrow h.nargs), (search rules, (plain-decimal m.laid.max_locals (narrow h.max_locals), search rules)))),
      ),
    ),
  ),
)
  where
    small : {n : ℕ} → n < 2 ^ 16 → n < 2 ^ 64
    small l = omega arith

    narrow : {n : ℕ} → n < 2 ^ 8 → n < 2 ^ 64
    narrow l = omega arith

pub bytes-plain : (place : ℕ) (bytes : List ℕ) → place ≤ 65535 → AreBytes bytes → ArePlain (bytes_words place bytes)
bytes-plain place bytes h are = (search rules, (plain-decimal place (omega arith), (plain-hex bytes are, search rules)))

pub handler-plain : (x : LaidHandler) → IsHandler x → ArePlain (handler_words x)
handler-plain x h = grind (arith, plain-decimal)

-- ---- the same words say the same

mk-method : ℕ → ℕ → List ℕ → List LaidHandler → ℕ → ℕ → ℕ → ListedMethod
mk-method c m code hs s a l = record { class_no = c; method_no = m; laid = record { code = code; handlers = hs; max_stack = s; nargs = a; max_locals = l } }

head-same : (m n : ListedMethod) → IsBare m → IsBare n → head_words m ≡ head_words n → m ≡ n
unfolding mk-method
head-same m n h k e =
    let names = sym (stop-split m.class_no m.method_no (omega (arith, h.is.class_no)) (omega (arith, h.is.method_no)))
    ∙ ap (λ (ws : List (List ℕ)). slice_split (λ b. b == 46) (word 1 ws)) e
    ∙ stop-split n.class_no n.method_no (omega (arith, k.is.class_no)) (omega (arith, k.is.method_no)) in
    let c = decimal_injective m.class_no n.class_no (omega (arith, h.is.class_no)) (omega (arith, k.is.class_no)) (ap (word 0) names) in
    let d = decimal_injective m.method_no n.method_no (omega (arith, h.is.method_no)) (omega (arith, k.is.method_no)) (ap (word 1) names) in
    let s = decimal_injective m.laid.max_stack n.laid.max_stack (omega (arith, h.is.max_stack)) (omega (arith, k.is.max_stack)) (ap (word 3) e) in
    let a = decimal_injective m.laid.nargs n.laid.nargs (omega (arith, h.is.nargs)) (omega (arith, k.is.nargs)) (ap (word 5) e) in
    let l = decimal_injective m.laid.max_locals n.laid.max_locals (omega (arith, h.is.max_locals)) (omega (arith, k.is.max_locals)) (ap (word 7) e) in
    ap (λ (x : ℕ). mk-method x m.method_no m.laid.code m.laid.handlers m.laid.max_stack m.laid.nargs m.laid.max_locals) c
    ∙ ap (λ (x : ℕ). mk-method n.class_no x m.laid.code m.laid.handlers m.laid.max_stack m.laid.nargs m.laid.max_locals) d
    ∙ ap (λ (x : List ℕ). mk-method n.class_no n.method_no x m.laid.handlers m.laid.max_stack m.laid.nargs m.laid.max_locals) (h.code ∙ sym k.code)
    ∙ ap (λ (x : List LaidHandler). mk-method n.class_no n.method_no n.laid.code x m.laid.max_stack m.laid.nargs m.laid.max_locals)
    (h.handlers ∙ sym k.handlers)
    ∙ ap (λ (x : ℕ). mk-method n.class_no n.method_no n.laid.code n.laid.handlers x m.laid.nargs m.laid.max_locals) s
    ∙ ap (λ (x : ℕ). mk-method n.class_no n.method_no n.laid.code n.laid.handlers n.laid.max_stack x m.laid.max_locals) a
    ∙ ap (λ (x : ℕ). mk-method n.class_no n.method_no n.laid.code n.laid.handlers n.laid.max_stack n.laid.nargs x) l

signed-same : (ys zs : List ℤ) → AreShown ys → AreShown zs → map signed_decimal ys ≡ map signed_decimal zs → ys ≡ zs
signed-same [] [] h k e = refl
signed-same [] (z ∷ zs) h k e = absurd (omega (arith, ap length e))
signed-same (y ∷ ys) [] h k e = absurd (omega (arith, ap length e))
signed-same (y ∷ ys) (z ∷ zs) h k e =
    ap (λ (x : ℤ). x ∷ ys) (one y z h.0 k.0 (ap (word 0) e))
    ∙ ap (λ (l : List ℤ). z ∷ l) (signed-same ys zs h.1 k.1 (ap (drop 1) e))
  where
    one : (a b : ℤ) → FitsSigned w32 a → FitsSigned w32 b → signed_decimal a ≡ signed_decimal b → a ≡ b
    one (pos a) (pos b) p q s = signed_decimal_injective (pos a) (pos b) (omega arith) (omega arith) s
    one (pos a) (negsuc b) p q s = signed_decimal_injective (pos a) (negsuc b) (omega arith) (omega arith) s
    one (negsuc a) (pos b) p q s = signed_decimal_injective (negsuc a) (pos b) (omega arith) (omega arith) s
    one (negsuc a) (negsuc b) p q s = signed_decimal_injective (negsuc a) (negsuc b) (omega arith) (omega arith) s

-- each opcode of an instruction has a name
has_layout : Result Layout CodeEnd → Bool
has_layout (Ok l) = true
has_layout (Err e) = false

no_more : Bool → ℕ → Bool
no_more true op = nat_lt op 185
no_more false op = true

all_named : map (λ op. no_more (has_layout (layout_of op)) op) (range_with_len 0 256) ≡ replicate 256 true
unfolding no_more has_layout layout_of opcode
all_named = refl

pub opcode-named : (xs : List ℕ) (at : ℕ) (i : Insn) → AreBytes xs → decoded xs at ≡ Ok i → i.op < 185
unfolding no_more has_layout
opcode-named xs at i are h =
    let b = Begins-decoded xs at i h in
    let small = op-fits xs at i are h in
    let all = sym (get_or-map-range_with_len (λ k. no_more (has_layout (layout_of k)) k) 0 256 i.op i.op true small (omega arith))
    ∙ ap (λ (t : List Bool). get_or t i.op true) all_named ∙ get_or-replicate 256 i.op true true small in
    ltb-true i.op 185 (ap (λ (r : Result Layout CodeEnd). no_more (has_layout r) i.op) (sym b.is_layout) ∙ all)

block-same : (place : ℕ) (xs ys : List ℕ) (i j : Insn) → place ≤ 65535 → IsOne xs i → IsOne ys j
    → block_words place xs i ≡ block_words place ys j → xs ≡ ys
block-same place xs ys i j h one two e =
    let op = names-apart i.op j.op (opcode-named xs 0 i one.are one.decodes) (opcode-named ys 0 j two.are two.decodes) (ap (word 1) e) in
    let numbers = signed-same (numbers_of place i (cases xs 0 i)) (numbers_of place j (cases ys 0 j))
    (numbers-shown place xs 0 i h one.are one.decodes) (numbers-shown place ys 0 j h two.are two.decodes) (ap (drop 2) e) in
    sym (numbers-tell place xs i one) ∙ ap (λ (n : ℕ). block_of place n (numbers_of place i (cases xs 0 i))) op ∙ ap (block_of place j.op) numbers
    ∙ numbers-tell place ys j two

pub hex-same : (xs ys : List ℕ) → AreBytes xs → AreBytes ys → encode_lower xs ≡ encode_lower ys → xs ≡ ys
hex-same xs ys h k e =
    decode_of-same (encode_lower xs) xs ys (decode_of-encode_lower xs h) (ap decode_of e ∙ decode_of-encode_lower ys k)

mk-handler : ℕ → ℕ → ℕ → ℕ → LaidHandler
mk-handler s l e p = record { start = s; length = l; entry = e; pool = p }

-- ---- the kinds of line are apart by the first byte

abbrev lead : List (List ℕ) → ℕ
lead ws = get_or (word 0 ws) 0 0

block-lead : (place : ℕ) (xs : List ℕ) (i : Insn) → place ≤ 65535 → lead (block_words place xs i) ≤ 57
block-lead place xs i h = (decimal-first place (omega arith)).1

-- the method that has begun is one
begun-same : (st : State) (a b : Begun) → st.begun ≡ Some a → st.begun ≡ Some b → a ≡ b
begun-same st a b p q = cc

not-begun : (st : State) (b : Begun) → st.begun ≡ None → st.begun ≡ Some b → ⊥
not-begun st b p q = absurd (cc)

few-before : (xs ys : List ℕ) → length (xs ++ ys) ≤ 65535 → length xs ≤ 65535
few-before xs ys h = omega (arith, length-append xs ys, h)

abbrev after-open : List ListedMethod → ListedMethod → List ℕ → Bool → State
after-open done m bytes closed = record { done = done; begun = Some (record { method = with_bytes m bytes; closed = closed }) }

-- two lines of the same words from one state
pub next-one : (st : State) (vs ws : List (List ℕ)) (a b : State) → Next st vs a → Next st ws b → vs ≡ ws → a ≡ b
next-one st vs ws a b (next_head x) (next_head y) e = grind (arith, head-same x.method y.method x.bare y.bare (sym x.are ∙ e ∙ y.are))
next-one st vs ws a b (next_head x) (next_instruction y) e = absurd (not-begun st _ x.from y.from)
next-one st vs ws a b (next_head x) (next_bytes y) e = absurd (not-begun st _ x.from y.from)
next-one st vs ws a b (next_head x) (next_handler y) e = absurd (not-begun st _ x.from y.from)
next-one st vs ws a b (next_head x) (next_end y) e = absurd (not-begun st _ x.from y.from)
next-one st vs ws a b (next_instruction x) (next_head y) e = absurd (not-begun st _ y.from x.from)
next-one st vs ws a b (next_instruction x) (next_instruction y) e = grind (arith, begun-same, few-before, block-same)
next-one st vs ws a b (next_instruction x) (next_bytes y) e =
    grind (arith, block-lead (length x.method.laid.code) x.bytes x.insn (few-before x.method.laid.code x.bytes x.few))
next-one st vs ws a b (next_instruction x) (next_handler y) e =
    grind (arith, block-lead (length x.method.laid.code) x.bytes x.insn (few-before x.method.laid.code x.bytes x.few))
next-one st vs ws a b (next_instruction x) (next_end y) e = grind (arith, block-lead, few-before)
next-one st vs ws a b (next_bytes x) (next_head y) e = absurd (not-begun st _ y.from x.from)
next-one st vs ws a b (next_bytes x) (next_instruction y) e =
    absurd
    (omega (
      arith,
      block-lead (length y.method.laid.code) y.bytes y.insn (few-before y.method.laid.code y.bytes y.few),
      ap lead (sym x.are ∙ e ∙ y.are),
    ))
next-one st vs ws a b (next_bytes x) (next_bytes y) e =
    let same = ap (λ (g : Begun). g.method) (begun-same st _ _ x.from y.from) in
    x.to ∙ ap (λ (xs : List ℕ). after-open st.done x.method xs true) (hex-same x.bytes y.bytes x.bare y.bare (ap (word 2) (sym x.are ∙ e ∙ y.are)))
    ∙ ap (λ (m : ListedMethod). after-open st.done m y.bytes true) same ∙ sym y.to
next-one st vs ws a b (next_bytes x) (next_handler y) e = absurd (omega (arith, ap lead (sym x.are ∙ e ∙ y.are)))
next-one st vs ws a b (next_bytes x) (next_end y) e = absurd (omega (arith, ap lead (sym x.are ∙ e ∙ y.are)))
next-one st vs ws a b (next_handler x) (next_head y) e = absurd (not-begun st _ y.from x.from)
next-one st vs ws a b (next_handler x) (next_instruction y) e =
    absurd
    (omega (
      arith,
      block-lead (length y.method.laid.code) y.bytes y.insn (few-before y.method.laid.code y.bytes y.few),
      ap lead (sym x.are ∙ e ∙ y.are),
    ))
next-one st vs ws a b (next_handler x) (next_bytes y) e = absurd (omega (arith, ap lead (sym x.are ∙ e ∙ y.are)))
next-one st vs ws a b (next_handler x) (next_handler y) e = grind (arith, begun-same, decimal_injective)
next-one st vs ws a b (next_handler x) (next_end y) e = absurd (omega (arith, ap lead (sym x.are ∙ e ∙ y.are)))
next-one st vs ws a b (next_end x) (next_head y) e = absurd (not-begun st _ y.from x.from)
next-one st vs ws a b (next_end x) (next_instruction y) e = grind (arith, block-lead, few-before)
next-one st vs ws a b (next_end x) (next_bytes y) e = absurd (omega (arith, ap lead (sym x.are ∙ e ∙ y.are)))
next-one st vs ws a b (next_end x) (next_handler y) e = absurd (omega (arith, ap lead (sym x.are ∙ e ∙ y.are)))
next-one st vs ws a b (next_end x) (next_end y) e = grind (arith, begun-same)

-- the words of a line that may come: there is one, and they are plain
pub record IsLineOf (ws : List (List ℕ)) : Type 0 where
  pub first : List ℕ
  pub others : List (List ℕ)
  pub are : ws ≡ first ∷ others
  pub plain : ArePlain (first ∷ others)

pub next-plain : (st : State) (ws : List (List ℕ)) (a : State) → Next st ws a → IsLineOf ws
next-plain st ws a (next_head x) = record { first = _; others = _; are = x.are; plain = head-plain x.method x.bare.is }
next-plain st ws a (next_instruction x) = grind (arith, few-before, plain-decimal, plain-name, plain-map, numbers-shown)
next-plain st ws a (next_bytes x) =
    record { first = _; others = _; are = x.are; plain = bytes-plain (length x.method.laid.code) x.bytes (few-before x.method.laid.code x.bytes x.few) x.bare }
next-plain st ws a (next_handler x) = record { first = _; others = _; are = x.are; plain = handler-plain x.handler x.fits }
next-plain st ws a (next_end x) = grind (arith)

-- two lines of the same bytes from one state
pub line-one : (st : State) (vs ws : List (List ℕ)) (a b : State) → Next st vs a → Next st ws b → joined vs ≡ joined ws → a ≡ b
line-one st vs ws a b x y e =
    let v = next-plain st vs a x in
    let w = next-plain st ws b y in
    next-one st vs ws a b x y
    (v.are ∙ joined-same v.first v.others w.first w.others v.plain w.plain (ap joined (sym v.are) ∙ e ∙ ap joined w.are) ∙ sym w.are)
