-- Bytes up to the first of a value, and numbers in decimal.
use Rattle.std.proofs.Common.{◌≡◌, ◌≢◌, ◌<◌, ◌≤◌, ◌+◌, ◌^◌, ℕ, zero, suc, Result, Ok, Err, List, [], ◌∷◌, ◌++◌, length, take, drop}
use Rattle.std.proofs.Common.{sym, ap, subst, ◌∙◌, arith, rules, get_or, length-append}
use Rattle.std.specs.Prelude.{decimal, ℤ, pos, FitsSigned, negsuc}
use Rattle.std.specs.Int.{w32}
use Rattle.std.specs.Fmt.{signed_decimal}
use Rattle.std.specs.Str.{IsUtf8, IsAscii}
use Rattle.std.specs.Str.Parse.{ParsesUnsigned, ParsesSigned}
use Rattle.std.proofs.lemmas.Fmt.{parse-decimal, parse-signed_decimal, decimal_nonempty}
use Rattle.std.proofs.lemmas.Str.{IsUtf8-from_ascii}
use Rattle.std.proofs.lemmas.List.{take_more, drop_more, take_all, take-append-drop}
use Rattle.cap_listing.specs.Words.{HasNone, IsCut}
use Rattle.cap_listing.proofs.Words.{IsDigits, decimal-digits, first-cut, none-cut}
use Rattle.std.proofs.lemmas.Str.Ascii.{IsAscii-cons}

pub none-more : (c : ℕ) (xs : List ℕ) (b : ℕ) → HasNone c xs → b ≢ c → HasNone c (xs ++ b ∷ [])
none-more c [] b h k = (k, search rules)
none-more c (x ∷ xs) b h k = (h.0, none-more c xs b h.1 k)

-- ---- digits

digits-ascii : (w : List ℕ) → IsDigits w → IsAscii w
digits-ascii [] h i = omega arith
digits-ascii (b ∷ w) h zero = omega (arith, h.0.1)
digits-ascii (b ∷ w) h (suc i) = digits-ascii w h.1 i

signed-ascii : (z : ℤ) → FitsSigned w32 z → IsAscii (signed_decimal z)
signed-ascii (pos n) h = digits-ascii (decimal n) (decimal-digits n (omega arith))
signed-ascii (negsuc n) h =
    IsAscii-cons 45 (decimal (suc n)) (omega arith) (digits-ascii (decimal (suc n)) (decimal-digits (suc n) (omega arith)))

pub decimal-text : (n : ℕ) (word : List ℕ) → n < 2 ^ 16 → word ≡ decimal n → IsUtf8 word
decimal-text n word h e = subst IsUtf8 (sym e) (IsUtf8-from_ascii (decimal n) (digits-ascii (decimal n) (decimal-digits n (omega (arith, h)))))

pub signed-text : (z : ℤ) (word : List ℕ) → FitsSigned w32 z → word ≡ signed_decimal z → IsUtf8 word
signed-text z word h e = subst IsUtf8 (sym e) (IsUtf8-from_ascii (signed_decimal z) (signed-ascii z h))

pub count-read : {E : Type 0} (word : List ℕ) (r : Result ℕ E) (n : ℕ) → ParsesUnsigned 16 10 word r → n < 2 ^ 16 → word ≡ decimal n → r ≡ Ok n
count-read word r n reads h e = parse-decimal 16 n word r h (omega (arith, h)) e reads

pub number-parsed : {E : Type 0} (word : List ℕ) (r : Result ℤ E) (z : ℤ) → ParsesSigned w32 10 word r → FitsSigned w32 z → word ≡ signed_decimal z
    → r ≡ Ok z
number-parsed word r z reads h e = grind (arith, parse-signed_decimal)

digits-none : (w : List ℕ) → IsDigits w → HasNone 46 w
digits-none [] h = h
digits-none (b ∷ w) h = (λ (e : b ≡ 46). omega (arith, e, h.0.0), digits-none w h.1)

-- two numbers with a full stop between them
pub stop-cut : (word a b : List ℕ) (m n : ℕ) → IsCut 46 word a b → m ≤ 65535 → word ≡ decimal m ++ 46 ∷ decimal n
    → (a ≡ decimal m) × (b ≡ decimal n)
stop-cut word a b m n cut h e =
    first-cut 46 a b (decimal m) (decimal n) cut.free (digits-none (decimal m) (decimal-digits m (omega (arith, h)))) (sym cut.is ∙ e)

pub no-stop : (word : List ℕ) (m n : ℕ) → HasNone 46 word → word ≡ decimal m ++ 46 ∷ decimal n → ⊥
no-stop word m n none e = none-cut 46 (decimal m) (decimal n) (subst (HasNone 46) e none)

-- ---- words that write numbers

pub signed-some : (z : ℤ) → FitsSigned w32 z → 0 < length (signed_decimal z)
signed-some x h = grind (arith, decimal_nonempty)

-- ---- the first of a value

pub none-at : (c : ℕ) (bytes : List ℕ) (k : ℕ) → k < length bytes → HasNone c (take k bytes) → get_or bytes k 0 ≢ c → HasNone c (take (k + 1) bytes)
none-at c bytes k h none other = grind (arith, take_more bytes k 0 h, none-more c (take k bytes) (get_or bytes k 0) none other)

pub cut-at : (c : ℕ) (bytes : List ℕ) (k : ℕ) → k < length bytes → HasNone c (take k bytes) → get_or bytes k 0 ≡ c
    → IsCut c bytes (take k bytes) (drop (k + 1) bytes)
cut-at c bytes k h none e = grind (arith, take-append-drop, drop_more)

pub none-whole : (c : ℕ) (bytes : List ℕ) (k : ℕ) → length bytes ≤ k → HasNone c (take k bytes) → HasNone c bytes
none-whole c bytes k h none = subst (HasNone c) (take_all k bytes h) none

pub cut-shorter : (c : ℕ) (bytes a b : List ℕ) → IsCut c bytes a b → length b < length bytes
cut-shorter c bytes a b cut = omega (arith, ap length cut.is, length-append a (c ∷ b))

pub ruleset cutting = (none-at, cut-at, none-whole)

pub parsed-same : {E : Type 0} (r : Result ℤ E) (x z : ℤ) → r ≡ Ok x → r ≡ Ok z → x ≡ z
parsed-same {E = E} r x z p q = ap value (sym p ∙ q)
  where
    value : Result ℤ E → ℤ
    value (Ok y) = y
    value (Err e) = pos 0
