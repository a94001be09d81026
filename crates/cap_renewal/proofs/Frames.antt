-- The frame of a component.
use Rattle.std.proofs.Common.{◌≡◌, ◌≤◌, ◌<◌, ◌+◌, ◌*◌, ◌/◌, ◌%◌, ◌^◌, ℕ, Bool, true, false, cond, List, [], ◌∷◌}
use Rattle.std.proofs.Common.{◌++◌, length, Some, None, refl, ap, subst, ◌∙◌, arith}
use Rattle.std.specs.Prelude.{◌==◌}
use Rattle.std.proofs.lemmas.Bool.Decides.{nat_tests}
use Rattle.std.proofs.lemmas.List.{append-nil}
use Rattle.byteorder.specs.Endian.{big_bytes}
use Rattle.cap_bytes.specs.declared.fault.FormKind.{FormKind}
use Rattle.cap_bytes.specs.Grammar.{give, number, piece, finish, only, ◌>>=◌}
use Rattle.cap_bytes.specs.Spelling.{Stands}
use Rattle.cap_frame.specs.Frame.{other_tag, component}
use Rattle.cap_bytes.specs.Writing.{SpellsInPlace}
use Rattle.cap_bytes.proofs.Written.{writes_give, writes_number, writes_piece, writes_finish, writes_then, writes_stands}
use Rattle.cap_renewal.specs.Files.{file_bytes}

-- the steps of writing a file
pub file_steps : (tag : ℕ) (info one two three : List ℕ) → one ≡ [] ++ tag ∷ [] → two ≡ one ++ big_bytes 2 (length info)
    → three ≡ two ++ info → three ≡ file_bytes tag info
file_steps tag info one two three a b c = c ∙ ap (λ xs. xs ++ info) (b ∙ ap (λ xs. xs ++ big_bytes 2 (length info)) a)

-- a tag and a size as one number of three bytes
three_bytes : (tag n : ℕ) → tag < 256 → n < 65536 → big_bytes 3 (65536 * tag + n) ≡ tag ∷ big_bytes 2 n
three_bytes tag n t s = grind (arith)

only_this : (m n : ℕ) (kind : FormKind) → n ≡ m → only m kind n ≡ None
only_this m n kind e = by (n == m) refl
  where
    by : (b : Bool) → (n == m) ≡ b → cond b None (Some kind) ≡ None
    by true f = refl
    by false f = absurd (grind (arith, nat_tests))

pub file_stands : (tag : ℕ) (info : List ℕ) → tag < 256 → length info ≤ 65535 → Stands (component tag) (file_bytes tag info) info
file_stands tag info t s =
    let n = length info in
    let head = 65536 * tag + n in
    let total = length (file_bytes tag info) in
    let three : length (file_bytes tag info) ≡ 3 + length info = omega arith in
    let fits : head < 256 ^ 3 = omega arith in
    let high : head / 65536 ≡ tag = omega arith in
    let low : n ≡ head % 65536 = omega arith in
    let first : SpellsInPlace total (number 3 (other_tag tag)) 0 (big_bytes 3 head) head = writes_number total 3 head 0 (other_tag tag) fits
    (only_this tag (head / 65536) _ high) in
    let second : SpellsInPlace total (piece (head % 65536)) 3 info info = writes_piece total (head % 65536) 3 info low in
    let end : total ≡ 3 + length info = three in
    let last : SpellsInPlace total (finish >>= λ end. give info) (3 + length info) ([] ++ []) info = writes_then total (3 + length info) finish
    (λ end. give info) [] [] (tt {0}) info (writes_finish total (3 + length info) end) (writes_give total (3 + length info + 0) info) in
    let rest = writes_then total 3 (piece (head % 65536)) (λ info. finish >>= λ end. give info) info ([] ++ []) info info second last in
    let all : SpellsInPlace total (component tag) 0 (big_bytes 3 head ++ (info ++ ([] ++ []))) info = writes_then total 0 (number 3 (other_tag tag))
    (λ head. piece (head % 65536) >>= λ info. finish >>= λ end. give info) (big_bytes 3 head) (info ++ ([] ++ [])) head info first rest in
    let bytes : big_bytes 3 head ++ (info ++ ([] ++ [])) ≡ file_bytes tag info =
    ap (λ xs. big_bytes 3 head ++ xs) (append-nil info) ∙ ap (λ xs. xs ++ info) (three_bytes tag n t (omega arith)) in
    writes_stands (component tag) (file_bytes tag info) info (subst (λ xs. SpellsInPlace total (component tag) 0 xs info) bytes all)
