-- Words, and lines of them: what is joined is cut into the same words.
use Rattle.std.proofs.Common.{◌≡◌, ◌<◌, ◌≤◌, ◌+◌, ◌^◌, ℕ, zero, suc, Bool, true, false, List, [], ◌∷◌}
use Rattle.std.proofs.Common.{◌++◌, length, map, get_or, refl, sym, ap, ◌∙◌, ⊎_elim, ◌/◌, ◌%◌, arith, rules, append_assoc, nat_lt, subst}
use Rattle.std.proofs.Common.{drop}
use Rattle.std.specs.Prelude.{ℤ, All, decimal, FitsSigned, ⊤, ◌==◌, ◌&&◌}
use Rattle.std.specs.Int.{w32}
use Rattle.std.specs.Fmt.{signed_decimal}
use Rattle.std.proofs.lemmas.List.{append-nil}
use Rattle.std.proofs.lemmas.List.Elements.{All-nil}
use Rattle.std.proofs.lemmas.Bool.Decides.{eqb_tells}
use Rattle.std.proofs.lemmas.Fmt.{decimal_by_steps, decimal_nonempty}
use Rattle.std.proofs.lemmas.Bool.{ltb-true, and_parts}
use Rattle.std.proofs.lemmas.List.FromFn.{get_or-map-range_with_len}
use Rattle.std.proofs.lemmas.List.{get_or-replicate}
use Rattle.hex.specs.Hex.{encode_with, encode_lower, lower_digits}
use Rattle.jc_decode.specs.Names.{names, name}
use Rattle.cap_bytes.specs.Bytes.{AreBytes}
use Rattle.std.specs.List.{slice_split, list_all}
use Rattle.std.proofs.lemmas.List.Splits.{slice_split_at, slice_split_none}
use Rattle.cap_listing.specs.Words.{IsPlain, ArePlain, HasNone, IsCut, spaced, joined, line, text_of_lines}
use Rattle.cap_listing.specs.Fault.{HasNoFeed}
use Rattle.cap_listing.specs.Numbers.{AreShown}

-- ---- lines

pub spaced-append : (vs ws : List (List ℕ)) → spaced (vs ++ ws) ≡ spaced vs ++ spaced ws
spaced-append [] ws = refl
spaced-append (v ∷ vs) ws = grind (arith, append_assoc, spaced-append vs ws)

pub text-append : (ls ks : List (List (List ℕ))) → text_of_lines (ls ++ ks) ≡ text_of_lines ls ++ text_of_lines ks
text-append [] ks = refl
text-append (l ∷ ls) ks = ap (λ (t : List ℕ). line l ++ t) (text-append ls ks) ∙ sym (append_assoc (line l) (text_of_lines ls) (text_of_lines ks))

pub free-append : (a b : List ℕ) → HasNoFeed a → HasNoFeed b → HasNoFeed (a ++ b)
free-append [] b h k = k
free-append (x ∷ a) b h k = (h.0, free-append a b h.1 k)

pub plain-free : (w : List ℕ) → IsPlain w → HasNoFeed w
plain-free [] h = h
plain-free (b ∷ w) h = (λ (e : b ≡ 10). omega (arith, e, h.0.0), plain-free w h.1)

spaced-free : (ws : List (List ℕ)) → ArePlain ws → HasNoFeed (spaced ws)
spaced-free [] h = h
spaced-free (w ∷ ws) h = (λ (e : 32 ≡ 10). omega (arith, e), free-append w (spaced ws) (plain-free w h.0) (spaced-free ws h.1))

-- a line of plain words has no line feed but its last byte
pub joined-free : (ws : List (List ℕ)) → ArePlain ws → HasNoFeed (joined ws)
joined-free x h = grind (arith, free-append, plain-free, spaced-free)

-- two lists that are the same are the same up to the first byte of a value, and after it
pub first-cut : (c : ℕ) (a x b y : List ℕ) → HasNone c a → HasNone c b → a ++ c ∷ x ≡ b ++ c ∷ y → (a ≡ b) × (x ≡ y)
first-cut c [] x [] y h k e = (refl, ap (drop 1) e)
first-cut c [] x (d ∷ b) y h k e = absurd (k.0 (sym (ap (λ (l : List ℕ). get_or l 0 0) e)))
first-cut c (d ∷ a) x [] y h k e = absurd (h.0 (ap (λ (l : List ℕ). get_or l 0 0) e))
first-cut c (d ∷ a) x (f ∷ b) y h k e = grind (arith, get_or, first-cut c a x b y h.1 k.1 (ap (drop 1) e))

pub none-cut : (c : ℕ) (xs ys : List ℕ) → HasNone c (xs ++ c ∷ ys) → ⊥
none-cut c [] ys h = h.0 refl
none-cut c (x ∷ xs) ys h = none-cut c xs ys h.1

pub plain-none : (w : List ℕ) → IsPlain w → HasNone 32 w
plain-none [] h = h
plain-none (b ∷ w) h = (λ (e : b ≡ 32). omega (arith, e, h.0.0), plain-none w h.1)

-- the first of some words, and the others
pub word-cut : (xs a b w : List ℕ) (ws : List (List ℕ)) → IsCut 32 xs a b → IsPlain w → xs ≡ joined (w ∷ ws) → (a ≡ w) × (b ≡ joined ws)
word-cut xs a b w [] cut plain e = grind (arith, none-cut, append-nil, plain-none)
word-cut xs a b w (v ∷ ws) cut plain e = first-cut 32 a b w (joined (v ∷ ws)) cut.free (plain-none w plain) (sym cut.is ∙ e)

pub word-whole : (xs w : List ℕ) (ws : List (List ℕ)) → HasNone 32 xs → xs ≡ joined (w ∷ ws) → (xs ≡ w) × ([] ≡ joined ws)
word-whole xs w [] none e = (e ∙ append-nil w, refl)
word-whole xs w (v ∷ ws) none e = absurd (none-cut 32 w (joined (v ∷ ws)) (subst (HasNone 32) e none))

-- ---- words

pub plain-apart : (w : List ℕ) → IsPlain w → All (λ b. (b == 32) ≡ false) w
plain-apart [] h = All-nil (λ b. (b == 32) ≡ false)
plain-apart (b ∷ w) h = grind (arith, ⊎_elim, eqb_tells, plain-apart w h.1)

-- what plain words are joined to is cut into these words
pub split-joined : (w : List ℕ) (ws : List (List ℕ)) → ArePlain (w ∷ ws) → slice_split (λ b. b == 32) (joined (w ∷ ws)) ≡ w ∷ ws
split-joined w [] h = ap (slice_split (λ b. b == 32)) (append-nil w) ∙ slice_split_none (λ b. b == 32) w (plain-apart w h.0)
split-joined w (v ∷ ws) h = grind (arith, slice_split_at, plain-apart, split-joined v ws h.1)

-- words that are joined to the same bytes are the same
pub joined-same : (v : List ℕ) (vs : List (List ℕ)) (w : List ℕ) (ws : List (List ℕ)) → ArePlain (v ∷ vs) → ArePlain (w ∷ ws)
    → joined (v ∷ vs) ≡ joined (w ∷ ws) → v ∷ vs ≡ w ∷ ws
joined-same v vs w ws h k e = sym (split-joined v vs h) ∙ ap (slice_split (λ b. b == 32)) e ∙ split-joined w ws k

-- ---- which words are plain

pub plain-append : (v w : List ℕ) → IsPlain v → IsPlain w → IsPlain (v ++ w)
plain-append [] w h k = k
plain-append (b ∷ v) w h k = (h.0, plain-append v w h.1 k)

-- the digits of a number
abbrev pub IsDigits : List ℕ → Type 0
IsDigits [] = ⊤
IsDigits (b ∷ bs) = ((48 ≤ b) × (b ≤ 57)) × IsDigits bs

digits-append : (v w : List ℕ) → IsDigits v → IsDigits w → IsDigits (v ++ w)
digits-append [] w h k = k
digits-append (b ∷ v) w h k = (h.0, digits-append v w h.1 k)

pub decimal-digits : (n : ℕ) → n < 2 ^ 64 → IsDigits (decimal n)
decimal-digits n h =
    decimal_by_steps (λ m ds. IsDigits ds) (λ m below. ((omega arith, omega arith), search rules))
    (λ m ds above more. digits-append ds ((48 + m % 10) ∷ []) more ((omega arith, omega arith), search rules)) n h

digits-plain : (w : List ℕ) → IsDigits w → IsPlain w
digits-plain [] h = h
digits-plain (b ∷ w) h = ((omega (arith, h.0.0), omega (arith, h.0.1)), digits-plain w h.1)

pub plain-decimal : (n : ℕ) → n < 2 ^ 64 → IsPlain (decimal n)
plain-decimal n h = digits-plain (decimal n) (decimal-digits n h)

pub plain-signed : (z : ℤ) → FitsSigned w32 z → IsPlain (signed_decimal z)
plain-signed x h = grind (arith, plain-decimal, suc)

-- the first byte of a decimal number is a digit
pub digits-first : (w : List ℕ) → IsDigits w → zero < length w → (48 ≤ get_or w 0 0) × (get_or w 0 0 ≤ 57)
digits-first [] h some = absurd (omega (arith, some))
digits-first (b ∷ w) h some = h.0

pub decimal-first : (n : ℕ) → n < 2 ^ 64 → (48 ≤ get_or (decimal n) 0 0) × (get_or (decimal n) 0 0 ≤ 57)
decimal-first n h = digits-first (decimal n) (decimal-digits n h) (decimal_nonempty n h)

is_plain_byte : ℕ → Bool
is_plain_byte b = nat_lt 32 b && nat_lt b 127

is_plain : List ℕ → Bool
is_plain w = list_all is_plain_byte w

plain-byte : (b : ℕ) → is_plain_byte b ≡ true → (32 < b) × (b < 127)
unfolding is_plain_byte
plain-byte b e = let p = and_parts (nat_lt 32 b) _ e in (ltb-true 32 b p.0, ltb-true b 127 p.1)

is_plain-plain : (w : List ℕ) → is_plain w ≡ true → IsPlain w
unfolding is_plain
is_plain-plain [] e = search rules
is_plain-plain (b ∷ w) e = let p = and_parts (is_plain_byte b) _ e in (plain-byte b p.0, is_plain-plain w p.1)

names_plain : list_all is_plain names ≡ true
unfolding names is_plain is_plain_byte
names_plain = refl

plain-at : (ws : List (List ℕ)) → list_all is_plain ws ≡ true → (n : ℕ) → IsPlain (get_or ws n [])
plain-at [] e n = search rules
plain-at (w ∷ ws) e zero = is_plain-plain w (and_parts (is_plain w) _ e).0
plain-at (w ∷ ws) e (suc n) = plain-at ws (and_parts (is_plain w) _ e).1 n

pub plain-name : (op : ℕ) → IsPlain (name op)
plain-name op = plain-at names names_plain op

digit-plain : (k : ℕ) → k < 16 → (32 < get_or lower_digits k 0) × (get_or lower_digits k 0 < 127)
digit-plain k h = grind (arith, plain-byte, get_or, get_or-map-range_with_len, get_or-replicate)

pub plain-hex : (bytes : List ℕ) → AreBytes bytes → IsPlain (encode_lower bytes)
unfolding encode_with
plain-hex [] h = search rules
plain-hex (b ∷ bytes) h =
    let small : b < 256 = h 0 in
    (digit-plain (b / 16) (omega arith), (digit-plain (b % 16) (omega arith), plain-hex bytes (λ k. h (suc k))))

pub plain-map : (zs : List ℤ) → AreShown zs → ArePlain (map signed_decimal zs)
plain-map [] h = h
plain-map (z ∷ zs) h = (plain-signed z h.0, plain-map zs h.1)
