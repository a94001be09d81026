-- std's `parse` reads each word that the grammar allows, and a comparison of texts that fails
-- tells two lists apart.
use Rattle.std.proofs.Common.{◌≡◌, ◌≢◌, ℕ, ◌<◌, ◌≤◌, ◌^◌, ℤ, pos, negsuc, FitsSigned, List, ◌∷◌, length, Bor, ap, subst}
use Rattle.std.proofs.Common.{drop, get_or, false, eqb, sym, ◌∙◌, arith, rules, w32, to_z, of_z, true≢false}
use Rattle.std.specs.Prelude.{Result, Ok, Err, Option, MatchOption, IfSome, IfNone, IsTrue, codes, decimal}
use Rattle.std.specs.Fmt.{signed_decimal}
use Rattle.std.specs.Str.Parse.{ParsesUnsigned, ParsesSigned}
use Rattle.std.proofs.lemmas.Bool.{false≢true}
use Rattle.std.proofs.lemmas.Int.{to_z-of_z}
use Rattle.std.specs.Str.Parse.{AllDigits}
use Rattle.std.proofs.lemmas.Fmt.{parse-decimal, parse-signed_decimal, decimal_is_IsNumeral}
use Rattle.hex.specs.Hex.{encode_lower, decode_of}
use Rattle.hex.specs.declared.error.FromHexError.{FromHexError}
use Rattle.hex.proofs.HexLemmas.{length-encode_with, decode_of-encode_lower, decode_of-ok, decode_of-same}
use Rattle.cap_listing.proofs.Cuts.{count-read}
use Rattle.cap_text.specs.Word.{IsNumberWord, IsBytesWord, IsArgWord}
use Rattle.vm_step.specs.Arguments.{Argument, number, null, bytes}
use lib.Pointwise.{pointwise, bytes_decides}

pub number_is_read : {E : Type 0} (word : List ℕ) (r : Result ℕ E) (n : ℕ) → ParsesUnsigned 32 10 word r → IsNumberWord word n → r ≡ Ok n
number_is_read word r n reads w = parse-decimal 32 n word r w.fits (omega (arith, w.fits)) w.writes reads

pub argument_is_read : {E : Type 0} (word : List ℕ) (r : Result ℤ E) (z : ℤ) → ParsesSigned w32 10 word r → IsArgWord word (number z) → r ≡ Ok z
argument_is_read word r z reads w = parse-signed_decimal w32 z word r w.1 (search rules) w.0 reads

pub differs : (xs ys : List ℕ) → false ≡ pointwise eqb xs ys → xs ≡ ys → ⊥
differs xs ys apart same = true≢false (sym ((bytes_decides xs ys).1 same) ∙ sym apart)

-- no number stands in a word that the number that was read does not print
pub no_number : {E : Type 0} (word : List ℕ) (r : Result ℕ E) (x : ℕ) → ParsesUnsigned 32 10 word r → r ≡ Ok x
    → (word ≡ decimal x → IsTrue false) → (n : ℕ) → IsNumberWord word n → ⊥
no_number word r x reads is other n w = grind (arith, number_is_read, false≢true)

-- a word without a number sign writes no bytes
no_bytes : (word bs : List ℕ) → ((rest : List ℕ) → word ≢ 35 ∷ rest) → IsBytesWord word bs → ⊥
no_bytes word bs no_sign w = no_sign (encode_lower bs) w.writes

-- no argument stands in a word that is not null, has no number sign, and that the number that was read does not print
pub no_argument : {E : Type 0} (word : List ℕ) (r : Result ℤ E) (x : ℤ) → ParsesSigned w32 10 word r → r ≡ Ok x
    → (word ≡ signed_decimal (to_z w32 (of_z w32 x)) → IsTrue false) → false ≡ pointwise eqb word (codes "null")
    → ((rest : List ℕ) → word ≢ 35 ∷ rest) → (a : Argument) → IsArgWord word a → ⊥
no_argument word r x reads is other no_null no_sign (number z) w =
    let read : r ≡ Ok z = argument_is_read word r z reads w in
    let writes = w.0 in
    let fits : to_z w32 (of_z w32 z) ≡ z = to_z-of_z w32 z (w.1) in
    false≢true (other (cc))
no_argument word r x reads is other no_null no_sign null w = differs word (codes "null") no_null w
no_argument word r x reads is other no_null no_sign (bytes bs) w = no_bytes word bs no_sign w

-- no argument stands in a word that is not null, has no number sign, and does not parse
pub nothing_read : {E : Type 0} (word : List ℕ) (r : Result ℤ E) (e : E) → ParsesSigned w32 10 word r → r ≡ Err e
    → false ≡ pointwise eqb word (codes "null") → ((rest : List ℕ) → word ≢ 35 ∷ rest) → (a : Argument) → IsArgWord word a → ⊥
nothing_read word r e reads is no_null no_sign (number z) w = let read : r ≡ Ok z = argument_is_read word r z reads w in cc
nothing_read word r e reads is no_null no_sign null w = differs word (codes "null") no_null w
nothing_read word r e reads is no_null no_sign (bytes bs) w = no_bytes word bs no_sign w

-- ---- bytes

-- the digits of a word of bytes are the text of these bytes
digits_of : (digits bs : List ℕ) → IsBytesWord (35 ∷ digits) bs → digits ≡ encode_lower bs
digits_of digits bs w = ap (drop 1) w.writes

-- more digits than 2,048 write no bytes
pub too_many : (digits bs : List ℕ) → 2048 < length digits → IsBytesWord (35 ∷ digits) bs → ⊥
too_many digits bs more w = grind (arith, length, digits_of, length-encode_with)

-- digits that are no text write no bytes
pub unread : (digits bs : List ℕ) (e : FromHexError) → decode_of digits ≡ Err e → IsBytesWord (35 ∷ digits) bs → ⊥
unread digits bs e is w = grind (arith, digits_of, decode_of-encode_lower)

-- digits that the bytes that were read do not print write no bytes
pub printed_apart : (digits bs read : List ℕ) → decode_of digits ≡ Ok read → (encode_lower read ≡ digits → ⊥)
    → IsBytesWord (35 ∷ digits) bs → ⊥
printed_apart digits bs read is apart w = grind (arith, digits_of, decode_of-encode_lower, decode_of-same)

-- bytes that were read from digits and print as them are written by them
pub written : (digits read : List ℕ) → decode_of digits ≡ Ok read → encode_lower read ≡ digits → length digits ≤ 2048
    → IsBytesWord (35 ∷ digits) read
written digits read is prints few = grind (arith, length, length-encode_with, decode_of-ok)

-- ---- a number of 16 bits

-- no number of 16 bits is written by a word that the one that was read does not print
pub no_short : {E : Type 0} (word : List ℕ) (r : Result ℕ E) (x : ℕ) → ParsesUnsigned 16 10 word r → r ≡ Ok x
    → (word ≡ decimal x → IsTrue false)
    → (n : ℕ) → n < 2 ^ 16 → word ≢ decimal n
no_short word r x reads is other n fits = grind (arith, count-read, false≢true)

-- ---- the number sign

pub sign_found : (word : List ℕ) (r : Option (Bor (List ℕ))) → MatchOption r ((rest : List ℕ) → word ≢ 35 ∷ rest) (λ x. word ≡ 35 ∷ x.now)
    → IfSome r (λ x. word ≡ 35 ∷ x.now)
sign_found word x is = grind (arith)

pub sign_missing : (word : List ℕ) (r : Option (Bor (List ℕ))) → MatchOption r ((rest : List ℕ) → word ≢ 35 ∷ rest) (λ x. word ≡ 35 ∷ x.now)
    → IfNone r ((rest : List ℕ) → word ≢ 35 ∷ rest)
sign_missing word x is = grind (arith)

-- `null` and a number begin with no number sign
pub no_sign : (z : ℤ) (digits : List ℕ) → FitsSigned w32 z → 35 ∷ digits ≡ signed_decimal z → ⊥
no_sign (pos n) digits fits e = absurd (omega (arith, (subst (AllDigits 10) (sym e) ((decimal_is_IsNumeral n (search rules)).0.1)).0))
no_sign (negsuc n) digits fits e = let differ : 35 ≡ 45 = ap (λ (l : List ℕ). get_or l 0 0) e in omega (arith, differ)

pub no_null_sign : (digits : List ℕ) → 35 ∷ digits ≡ codes "null" → ⊥
no_null_sign digits e = let differ : 35 ≡ 110 = ap (λ (l : List ℕ). get_or l 0 0) e in omega (arith, differ)

-- a word with a number sign writes bytes or nothing
pub no_signed : (word digits : List ℕ) → word ≡ 35 ∷ digits → ((bs : List ℕ) → IsBytesWord (35 ∷ digits) bs → ⊥) → (a : Argument)
    → IsArgWord word a → ⊥
no_signed word digits is none null w = no_null_sign digits (sym is ∙ w)
no_signed word digits is none (number z) w = no_sign z digits w.1 (sym is ∙ w.0)
no_signed word digits is none (bytes bs) w = none bs (subst (λ t. IsBytesWord t bs) is w)
