-- The header that is written is read.
use Rattle.std.proofs.Common.{◌≡◌, ℕ, ◌+◌, ◌*◌, ◌/◌, ◌%◌, ◌≤◌, ◌<◌, List, [], ◌∷◌, ◌++◌, length, take, drop, Bool}
use Rattle.std.proofs.Common.{true, false, refl, sym, ap, subst, ◌∙◌, arith, length-append}
use Rattle.std.specs.Prelude.{nat_le, ◌&&◌, if◌then◌else◌}
use Rattle.std.proofs.lemmas.Bool.{leb-true}
use Rattle.std.proofs.lemmas.List.{take-append-drop, length-take, length-drop}
use Rattle.cap_bytes.specs.Grammar.{u1, give, any, ◌>>=◌}
use Rattle.cap_bytes.specs.Spelling.{Spells}
use Rattle.cap_method.specs.MethodFormat.{Header, method_header, header_after, compact_header, extended_header, method_flags}
use Rattle.cap_method.specs.MethodPart.{HeaderAt}
use Rattle.cap_bytes.specs.Writing.{SpellsInPlace}
use Rattle.cap_bytes.proofs.Written.{writes_give, writes_number, writes_then}
use Rattle.cap_laying.specs.HeaderBytes.{HeaderNumbers, is_compact, compact_bytes, extended_bytes, header_bytes, header_size, header_of}
use Rattle.cap_laying.specs.declared.member.Body.{Body}
use Rattle.cap_laying.specs.Member.{body_bytes, body_size}
use Rattle.cap_laying.specs.WrittenMethods.{FitInBytes}

pub writes_u1 : (total n at : ℕ) → n < 256 → SpellsInPlace total u1 at (n ∷ []) n
writes_u1 total n at h = grind (arith, writes_number total 1 n at any h refl)

-- the three tests
compact_facts : (a b c : Bool) → a && b && c ≡ true → (a ≡ true) × (b ≡ true) × (c ≡ true)
compact_facts x b c h = grind (arith)

compact_written : (total at : ℕ) (n : HeaderNumbers) → n.max_stack ≤ 15 → n.nargs ≤ 15 → n.max_locals ≤ 15
    → SpellsInPlace total method_header at (compact_bytes n)
    (record { flags = 0; size = 2; max_stack = n.max_stack; nargs = n.nargs; max_locals = n.max_locals })
compact_written total at n a b c =
    let second = 16 * n.nargs + n.max_locals in
    let small : nat_le 128 n.max_stack ≡ false = grind arith in
    let q : n.max_stack / 16 ≡ 0 = omega arith in
    let r : n.max_stack % 16 ≡ n.max_stack = omega arith in
    let d : second / 16 ≡ n.nargs = omega arith in
    let m : second % 16 ≡ n.max_locals = omega arith in
    let read : Header = record { flags = method_flags n.max_stack; size = 2; max_stack = n.max_stack % 16; nargs = second / 16; max_locals = second % 16 } in
    let one : SpellsInPlace total (compact_header n.max_stack) (at + length (n.max_stack ∷ [])) (second ∷ []) read =
    writes_then total (at + length (n.max_stack ∷ [])) u1
    (λ k. give (record { flags = method_flags n.max_stack; size = 2; max_stack = n.max_stack % 16; nargs = k / 16; max_locals = k % 16 }))
    (second ∷ []) [] second read
    (writes_u1 total second (at + length (n.max_stack ∷ [])) (omega arith))
    (writes_give total (at + length (n.max_stack ∷ []) + length (second ∷ [])) read) in
    let two : SpellsInPlace total method_header at (n.max_stack ∷ second ∷ []) read =
    writes_then total at u1 (λ first. header_after (nat_le 128 first) first) (n.max_stack ∷ []) (second ∷ []) n.max_stack read
    (writes_u1 total n.max_stack at (omega arith)) (rw small one) in
    let flags : method_flags n.max_stack ≡ 0 = rw q refl in
    let same : read ≡ record { flags = 0; size = 2; max_stack = n.max_stack; nargs = n.nargs; max_locals = n.max_locals } = rw (flags, r, d, m) refl in
    subst (λ h. SpellsInPlace total method_header at (n.max_stack ∷ second ∷ []) h) same two

extended_written : (total at : ℕ) (n : HeaderNumbers) → FitInBytes n → SpellsInPlace total method_header at (extended_bytes n)
    (record { flags = 8; size = 4; max_stack = n.max_stack; nargs = n.nargs; max_locals = n.max_locals })
extended_written total at n are =
    let read : Header = record { flags = 8; size = 4; max_stack = n.max_stack; nargs = n.nargs; max_locals = n.max_locals } in
    let three : SpellsInPlace total (u1 >>= λ k. give (record { flags = 8; size = 4; max_stack = n.max_stack; nargs = n.nargs; max_locals = k }))
    (at + 1 + 1 + 1) (n.max_locals ∷ []) read =
    writes_then total (at + 1 + 1 + 1) u1 (λ k. give (record { flags = 8; size = 4; max_stack = n.max_stack; nargs = n.nargs; max_locals = k }))
    (n.max_locals ∷ []) [] n.max_locals read (writes_u1 total n.max_locals (at + 1 + 1 + 1) are.max_locals)
    (writes_give total (at + 1 + 1 + 1 + 1) read) in
    let two : SpellsInPlace total (u1 >>= λ j. u1 >>= λ k. give (record { flags = 8; size = 4; max_stack = n.max_stack; nargs = j; max_locals = k }))
    (at + 1 + 1) (n.nargs ∷ n.max_locals ∷ []) read =
    writes_then total (at + 1 + 1) u1 (λ j. u1 >>= λ k. give (record { flags = 8; size = 4; max_stack = n.max_stack; nargs = j; max_locals = k }))
    (n.nargs ∷ []) (n.max_locals ∷ []) n.nargs read (writes_u1 total n.nargs (at + 1 + 1) are.nargs) three in
    let one : SpellsInPlace total (extended_header 128) (at + 1) (n.max_stack ∷ n.nargs ∷ n.max_locals ∷ []) read =
    writes_then total (at + 1) u1 (λ i. u1 >>= λ j. u1 >>= λ k. give (record { flags = 8; size = 4; max_stack = i; nargs = j; max_locals = k }))
    (n.max_stack ∷ []) (n.nargs ∷ n.max_locals ∷ []) n.max_stack read (writes_u1 total n.max_stack (at + 1) are.max_stack) two in
    writes_then total at u1 (λ first. header_after (nat_le 128 first) first) (128 ∷ []) (n.max_stack ∷ n.nargs ∷ n.max_locals ∷ []) 128 read
    (writes_u1 total 128 at (omega arith)) one

header_written : (total at : ℕ) (n : HeaderNumbers) → FitInBytes n → SpellsInPlace total method_header at (header_bytes n) (header_of n)
unfolding header_bytes
header_written total at n are = by (is_compact n) refl
  where
    by : (b : Bool) → is_compact n ≡ b → SpellsInPlace total method_header at (if b then compact_bytes n else extended_bytes n)
        (record { flags = if b then 0 else 8; size = if b then 2 else 4; max_stack = n.max_stack; nargs = n.nargs; max_locals = n.max_locals })
    by true e =
        let f = compact_facts (nat_le n.max_stack 15) (nat_le n.nargs 15) (nat_le n.max_locals 15) e in
        compact_written total at n (leb-true _ _ f.0) (leb-true _ _ f.1) (leb-true _ _ f.2)
    by false e = extended_written total at n are

pub length_header : (n : HeaderNumbers) → length (header_bytes n) ≡ header_size n
unfolding header_bytes
length_header n = by (is_compact n)
  where
    by : (b : Bool) → length (if b then compact_bytes n else extended_bytes n) ≡ (if b then 2 else 4)
    by true = refl
    by false = refl

pub header_back : (n : HeaderNumbers) (info : List ℕ) (at : ℕ) → FitInBytes n → take (header_size n) (drop at info) ≡ header_bytes n
    → HeaderAt info at (header_of n)
header_back n info at are e =
    let size = header_size n in
    let long : length (take size (drop at info)) ≡ size = ap length e ∙ length_header n in
    let some = some_bytes n in
    let front : length (take at info) ≡ at = omega (arith, long, length-take size (drop at info), length-drop at info, length-take at info) in
    let after = drop size (drop at info) in
    let whole : take at info ++ (header_bytes n ++ after) ≡ info =
    ap (λ h. take at info ++ (h ++ after)) (sym e) ∙ ap (λ xs. take at info ++ xs) (take-append-drop size (drop at info)) ∙ take-append-drop at info in
    let s : Spells method_header (take at info ++ (header_bytes n ++ after)) at (header_of n) (at + length (header_bytes n)) =
    (header_written (length (take at info) + (length (header_bytes n) + length after)) at n are).there (take at info) after front refl in
    (at + length (header_bytes n), subst (λ bytes. Spells method_header bytes at (header_of n) (at + length (header_bytes n))) whole s)
  where
    some_bytes : (n : HeaderNumbers) → 2 ≤ header_size n
    some_bytes n = by (is_compact n)
      where
        by : (b : Bool) → 2 ≤ (if b then 2 else 4)
        by true = omega arith
        by false = omega arith

pub length_body : (b : Body) → length (body_bytes b) ≡ body_size b
length_body x = grind (arith, length-append, length_header)
