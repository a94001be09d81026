-- What is read of a line is what the line tells, if it tells anything.
use Rattle.std.proofs.Common.{◌≡◌, ◌<◌, ◌≤◌, ◌+◌, ◌-◌, ◌^◌, ℕ, Ok, Err, Option, Some, None, List, [], ◌∷◌, ◌++◌}
use Rattle.std.proofs.Common.{Bool, true, false, length, map, sym, ap, ◌∙◌, arith, append_assoc, length-append}
use Rattle.std.specs.Prelude.{ℤ, FitsSigned, decimal, codes, ◌==◌}
use Rattle.std.proofs.lemmas.Bool.{eqb-true, eqb-false}
use Rattle.std.specs.Int.{w32}
use Rattle.std.specs.Fmt.{signed_decimal}
use Rattle.std.proofs.lemmas.List.{append-nil}
use Rattle.hex.specs.Hex.{encode_lower, decode_of}
use Rattle.hex.specs.declared.error.FromHexError.{FromHexError}
use Rattle.hex.proofs.HexLemmas.{decode_of-encode_lower, decode_of-same}
use Rattle.jc_decode.specs.declared.insn.Insn.{Insn}
use Rattle.jc_decode.specs.declared.symbols.LaidHandler.{LaidHandler}
use Rattle.jc_decode.specs.Names.{name, HasName}
use Rattle.jc_decode.specs.Cases.{cases}
use Rattle.cap_bytes.specs.Bytes.{AreBytes}
use Rattle.cap_listing.specs.declared.method.ListedMethod.{ListedMethod}
use Rattle.cap_listing.specs.declared.method.Heading.{Heading}
use Rattle.cap_listing.specs.Words.{IsPlain, joined, spaced}
use Rattle.cap_listing.specs.Numbers.{AreShown, numbers_of, block_of}
use Rattle.cap_listing.specs.Text.{IsMethod, IsHandler, heading_of, head_words, bytes_words, handler_words}
use Rattle.cap_listing.specs.Reading.{IsOne, block_words}
use Rattle.cap_listing.proofs.Words.{plain-signed, plain-decimal, plain-name}
use Rattle.cap_listing.proofs.Cuts.{signed-some}
use Rattle.cap_listing.proofs.Shown.{numbers-shown}
use Rattle.cap_listing.proofs.Tell.{numbers-tell}
use Rattle.cap_listing.proofs.Apart.{head-plain, handler-plain, bytes-plain, opcode-named}

-- ---- numbers, word by word

-- of these numbers some were read, and the rest writes the others
pub record IsLeft (read : List ℤ) (rest : List ℕ) (ns : List ℤ) : Type 0 where
  pub left : List ℤ
  pub shown : AreShown left
  pub writes : rest ≡ joined (map signed_decimal left)
  pub all : ns ≡ read ++ left

pub none-read : (words : List ℕ) (read ns : List ℤ) → read ≡ [] → AreShown ns → words ≡ joined (map signed_decimal ns) → IsLeft read words ns
none-read words read ns none h e = record { left = ns; shown = h; writes = e; all = ap (λ (xs : List ℤ). xs ++ ns) (sym none) }

-- what cutting a word says
abbrev pub Cuts : List ℕ → List ℕ → List ℕ → Type 0
Cuts words first rest = (w : List ℕ) (ws : List (List ℕ)) → IsPlain w → words ≡ joined (w ∷ ws) → (first ≡ w) × (rest ≡ joined ws)

pub number-read : (read : List ℤ) (rest word after : List ℕ) (more ns : List ℤ) → 0 < length rest → Cuts rest word after
    → ((z : ℤ) → FitsSigned w32 z → word ≡ signed_decimal z → more ≡ read ++ z ∷ []) → IsLeft read rest ns → IsLeft more after ns
number-read read rest word after more ns some cut number l = by l.left l.shown l.writes l.all
  where
    by : (left : List ℤ) → AreShown left → rest ≡ joined (map signed_decimal left) → ns ≡ read ++ left → IsLeft more after ns
    by [] shown e all = absurd (omega (arith, some, ap length e))
    by (z ∷ zs) shown e all =
        let parts = cut (signed_decimal z) (map signed_decimal zs) (plain-signed z shown.0) e in
        record {
          left = zs;
          shown = shown.1;
          writes = parts.1;
          all = all ∙ sym (append_assoc read (z ∷ []) zs) ∙ ap (λ (xs : List ℤ). xs ++ zs) (sym (number z shown.0 parts.0));
        }

pub all-read : (read : List ℤ) (rest : List ℕ) (ns : List ℤ) → length rest ≤ 0 → IsLeft read rest ns → read ≡ ns
all-read read rest ns empty l = by l.left l.shown l.writes l.all
  where
    by : (left : List ℤ) → AreShown left → rest ≡ joined (map signed_decimal left) → ns ≡ read ++ left → read ≡ ns
    by [] shown e all = sym (all ∙ append-nil read)
    by (z ∷ zs) shown e all =
        absurd (omega (arith, empty, ap length e, signed-some z shown.0, length-append (signed_decimal z) (spaced (map signed_decimal zs))))

-- ---- the bytes of an instruction

-- what cutting two words says
abbrev pub CutsTwo : List ℕ → List ℕ → List ℕ → Type 0
CutsTwo words second rest =
    (v w : List ℕ) (ws : List (List ℕ)) → IsPlain v → IsPlain w → words ≡ joined (v ∷ w ∷ ws) → (second ≡ w) × (rest ≡ joined ws)

module _ (place : ℕ) (few : place ≤ 65535) (line word after : List ℕ) (cut : CutsTwo line word after) where
  block-cut : (bytes : List ℕ) (i : Insn) → IsOne bytes i → line ≡ joined (block_words place bytes i)
      → (word ≡ name i.op) × (after ≡ joined (map signed_decimal (numbers_of place i (cases bytes 0 i))))
  block-cut bytes i one e = grind (arith, plain-decimal, plain-name)

  pub has-name : (bytes : List ℕ) (i : Insn) → IsOne bytes i → line ≡ joined (block_words place bytes i) → HasName word i.op
  has-name bytes i one e = (opcode-named bytes 0 i one.are one.decodes, (block-cut bytes i one e).0)

  pub block-read : (op : ℕ) (numbers : List ℤ) (v : List ℕ)
      → ((ns : List ℤ) → AreShown ns → after ≡ joined (map signed_decimal ns) → numbers ≡ ns)
      → ((p : ℕ) → HasName word p → op ≡ p) → v ≡ block_of place op numbers
      → (bytes : List ℕ) (i : Insn) → IsOne bytes i → line ≡ joined (block_words place bytes i) → v ≡ bytes
  block-read op numbers v reads named is bytes i one e = grind (arith, numbers-shown, block-cut, has-name, numbers-tell)

-- ---- the first line of a method, a handler and bytes

abbrev pub Counts : List ℕ → ℕ → Type 0
Counts word n = (k : ℕ) → k < 2 ^ 16 → word ≡ decimal k → n ≡ k

abbrev pub CountsByte : List ℕ → ℕ → Type 0
CountsByte word n = (k : ℕ) → k < 2 ^ 8 → word ≡ decimal k → n ≡ k

abbrev pub CountsTwo : List ℕ → ℕ → ℕ → Type 0
CountsTwo word m n = (k l : ℕ) → k ≤ 65535 → l ≤ 65535 → word ≡ decimal k ++ 46 ∷ decimal l → (m ≡ k) × (n ≡ l)

mk-heading : ℕ → ℕ → ℕ → ℕ → ℕ → Heading
mk-heading c m s a l = record { class_no = c; method_no = m; max_stack = s; nargs = a; max_locals = l }

pub heading-read : (line name a stack b args d locals f : List ℕ) (class_no method_no max_stack nargs max_locals : ℕ) → CutsTwo line name a
    → CutsTwo a stack b → CutsTwo b args d → CutsTwo d locals f → CountsTwo name class_no method_no → CountsByte stack max_stack → CountsByte args nargs
    → CountsByte locals max_locals → (m : ListedMethod) → IsMethod m → line ≡ joined (head_words m)
    → record { class_no = class_no; method_no = method_no; max_stack = max_stack; nargs = nargs; max_locals = max_locals } ≡ heading_of m
unfolding mk-heading
heading-read line name a stack b args d locals f class_no method_no max_stack nargs max_locals one two three four names first second third m h e =
    let s = decimal m.laid.max_stack in
    let n = decimal m.laid.nargs in
    let l = decimal m.laid.max_locals in
    let plain = head-plain m h in
    let from_stack = plain.1.1 in
    let from_args = from_stack.1.1 in
    let from_locals = from_args.1.1 in
    let last = codes "locals" ∷ l ∷ [] in
    let after_name = codes "args" ∷ n ∷ last in
    let w1 = one (codes "method") (decimal m.class_no ++ 46 ∷ decimal m.method_no) (codes "stack" ∷ s ∷ after_name) plain.0 plain.1.0 e in
    let w2 = two (codes "stack") s after_name from_stack.0 from_stack.1.0 w1.1 in
    let w3 = three (codes "args") n last from_args.0 from_args.1.0 w2.1 in
    let w4 = four (codes "locals") l [] from_locals.0 from_locals.1.0 w3.1 in
    let numbers = names m.class_no m.method_no (omega (arith, h.class_no)) (omega (arith, h.method_no)) w1.0 in
    ap (λ (x : ℕ). mk-heading x method_no max_stack nargs max_locals) numbers.0
    ∙ ap (λ (x : ℕ). mk-heading m.class_no x max_stack nargs max_locals) numbers.1
    ∙ ap (λ (x : ℕ). mk-heading m.class_no m.method_no x nargs max_locals) (first m.laid.max_stack h.max_stack w2.0)
    ∙ ap (λ (x : ℕ). mk-heading m.class_no m.method_no m.laid.max_stack x max_locals) (second m.laid.nargs h.nargs w3.0)
    ∙ ap (λ (x : ℕ). mk-heading m.class_no m.method_no m.laid.max_stack m.laid.nargs x) (third m.laid.max_locals h.max_locals w4.0)

mk-handler : ℕ → ℕ → ℕ → ℕ → LaidHandler
mk-handler s l e p = record { start = s; length = l; entry = e; pool = p }

pub handler-read : (line first a second b third d fourth f : List ℕ) (start end length entry pool : ℕ) → CutsTwo line first a → Cuts a second b
    → Cuts b third d → Cuts d fourth f → Counts first start → Counts second end → length ≡ end - start → Counts third entry → Counts fourth pool
    → (h : LaidHandler) → IsHandler h → line ≡ joined (handler_words h)
    → record { start = start; length = length; entry = entry; pool = pool } ≡ h
unfolding mk-handler
handler-read line first a second b third d fourth f start end length entry pool one two three four starts ends long entries pools h fits e =
    let plain = handler-plain h fits in
    let from_end = plain.1.1 in
    let w = decimal (h.start + h.length) in
    let x = decimal h.entry in
    let y = decimal h.pool in
    let w1 = one (codes "handler") (decimal h.start) (w ∷ x ∷ y ∷ []) plain.0 plain.1.0 e in
    let w2 = two w (x ∷ y ∷ []) from_end.0 w1.1 in
    let w3 = three x (y ∷ []) from_end.1.0 w2.1 in
    let w4 = four y [] from_end.1.1.0 w3.1 in
    let s = starts h.start fits.start w1.0 in
    let n = ends (h.start + h.length) fits.end w2.0 in
    let l : length ≡ h.length = omega (arith, long, s, n) in
    ap (λ (k : ℕ). mk-handler k length entry pool) s ∙ ap (λ (k : ℕ). mk-handler h.start k entry pool) l
    ∙ ap (λ (k : ℕ). mk-handler h.start h.length k pool) (entries h.entry fits.entry w3.0)
    ∙ ap (λ (k : ℕ). mk-handler h.start h.length h.entry k) (pools h.pool fits.pool w4.0)

pub digits-read : (digits read bytes : List ℕ) → decode_of digits ≡ Ok read → AreBytes bytes → digits ≡ encode_lower bytes → read ≡ bytes
digits-read digits read bytes is are e = decode_of-same digits read bytes is (ap decode_of e ∙ decode_of-encode_lower bytes are)

pub digits-unread : (digits bytes : List ℕ) (e : FromHexError) → decode_of digits ≡ Err e → AreBytes bytes → digits ≡ encode_lower bytes → ⊥
digits-unread digits bytes e is are same = grind (arith, decode_of-encode_lower)

pub bytes-cut : (line place_word a digits b : List ℕ) → CutsTwo line place_word a → Cuts a digits b → (place : ℕ) (bytes : List ℕ) → place ≤ 65535
    → AreBytes bytes → line ≡ joined (bytes_words place bytes) → digits ≡ encode_lower bytes
bytes-cut line place_word a digits b one two place bytes few are e =
    let plain = bytes-plain place bytes few are in
    (two (encode_lower bytes) [] plain.1.1.0 (one (codes "bytes") (decimal place) (encode_lower bytes ∷ []) plain.0 plain.1.0 e).1).0

-- ---- tests

pub some-bytes : (xs : List ℕ) (b : Bool) → b ≡ (length xs == 0) → b ≡ false → 0 < length xs
some-bytes xs b p q = let apart = eqb-false (length xs) 0 (sym p ∙ q) in omega (arith, apart)

pub no-bytes : (xs : List ℕ) (b : Bool) → b ≡ (length xs == 0) → b ≡ true → length xs ≤ 0
no-bytes xs b p q = let same = eqb-true (length xs) 0 (sym p ∙ q) in omega (arith, same)

pub some-same : (o : Option ℕ) (x y : ℕ) → o ≡ Some x → o ≡ Some y → x ≡ y
some-same o x y p q = cc

pub not-some : (o : Option ℕ) (x : ℕ) → o ≡ None → o ≡ Some x → ⊥
not-some o x p q = absurd (cc)
