-- The info that is written for exact indexes of methods is, by the format of a target index, that of these lists.
use Rattle.std.proofs.Common.{◌≡◌, true, ◌≤◌, ◌<◌, ◌+◌, ◌*◌, ◌==◌, ℕ, zero, suc, List, [], ◌∷◌, ◌++◌, length, Option, Some, None, refl, sym}
use Rattle.std.proofs.Common.{ap, subst}
use Rattle.std.proofs.Common.{◌∙◌, arith, length-append, Contains}
use Rattle.std.specs.Prelude.{cond, count_by, is_some, slice_get, take}
use Rattle.std.specs.List.{flat_map}
use Rattle.std.proofs.lemmas.Grind.{flat_map-append}
use Rattle.std.proofs.lemmas.List.{append-nil}
use Rattle.std.proofs.lemmas.List.Sums.{sum_by-cons}
use Rattle.byteorder.specs.Endian.{big_bytes}
use Rattle.cap_bytes.specs.declared.fault.FormKind.TheVariants.{BadValue}
use Rattle.cap_bytes.specs.Grammar.{any, that, u2, number, piece, finish, give, repeat, ◌>>=◌}
use Rattle.cap_bytes.specs.Spelling.{Stands}
use Rattle.cap_bytes.specs.Writing.{SpellsInPlace}
use Rattle.cap_bytes.proofs.Written.{writes_give, writes_number, writes_piece, writes_finish, writes_then, writes_stands}
use Rattle.jc_base.specs.Index.{words_of_bytes}
use Rattle.jc_decode.specs.declared.symbols.Laid.{Laid}
use Rattle.jc_decode.specs.Laws.{InstructionsAreListed}
use Rattle.jc_decode.proofs.Elements.{Contains-first, Contains-later}
use Rattle.jc_control.specs.ExactIndex.{IsExactIndex}
use Rattle.cap_index.specs.IndexFormat.{list_info, index_info}
use Rattle.cap_index.specs.TargetIndex.{AreExact, AreShortCodes, IsIndexOf, counted, entries_of, index_bytes}
use Rattle.cap_index.proofs.Entries.{bytes_long, lists_few}

-- each is a number of two bytes
abbrev AreShort : List ℕ → Type 0
AreShort [] = Unit {0}
AreShort (n ∷ ns) = (n < 65536) × AreShort ns

abbrev AllShort : List (List ℕ) → Type 0
AllShort [] = Unit {0}
AllShort (x ∷ xs) = AreShort x × (length x < 65536) × AllShort xs

-- ---- numbers

two-bytes : (n : ℕ) → n < 65536 → words_of_bytes (big_bytes 2 n) ≡ n ∷ []
two-bytes n lt = grind (arith)

words-back : (ns : List ℕ) → AreShort ns → words_of_bytes (flat_map (big_bytes 2) ns) ≡ ns
words-back [] s = refl
words-back (n ∷ ns) s = grind (arith, two-bytes, words-back ns s.1)

-- ---- lists

abbrev spelled : List ℕ → List ℕ
spelled ns = flat_map (big_bytes 2) ns

list-written : (total at : ℕ) (x : List ℕ) → AreShort x → length x < 65536 → SpellsInPlace total list_info at (spelled (counted x)) x
list-written total at x s small =
    let n = length x in
    let bytes = spelled x in
    let size : length bytes ≡ n * 2 = omega (arith, bytes_long x) in
    let first = at + length (big_bytes 2 n) in
    let value : SpellsInPlace total (give (words_of_bytes bytes)) (first + length bytes) [] x = subst
    (λ y. SpellsInPlace total (give (words_of_bytes bytes)) (first + length bytes) [] y) (words-back x s)
    (writes_give total (first + length bytes) (words_of_bytes bytes)) in
    let rest : SpellsInPlace total (piece (n * 2) >>= λ bytes. give (words_of_bytes bytes)) first (bytes ++ []) x = writes_then total first (piece (n * 2))
    (λ bytes. give (words_of_bytes bytes)) bytes [] bytes x (writes_piece total (n * 2) first bytes size) value in
    let whole : SpellsInPlace total list_info at (big_bytes 2 n ++ (bytes ++ [])) x = writes_then total at u2
    (λ count. piece (count * 2) >>= λ bytes. give (words_of_bytes bytes)) (big_bytes 2 n) (bytes ++ []) n x (writes_number total 2 n at any small refl) rest in
    subst (λ ys. SpellsInPlace total list_info at (big_bytes 2 n ++ ys) x) (append-nil bytes) whole

lists-written : (total at : ℕ) (xs : List (List ℕ)) → AllShort xs
    → SpellsInPlace total (repeat (length xs) list_info) at (spelled (entries_of xs)) xs
lists-written total at [] s = writes_give total at []
lists-written total at (x ∷ xs) s =
    let one = spelled (counted x) in
    let more = spelled (entries_of xs) in
    let first = list-written total at x s.0 s.1 in
    let rest = lists-written total (at + length one) xs s.2 in
    let last : SpellsInPlace total (repeat (length xs) list_info >>= λ ys. give (x ∷ ys)) (at + length one) (more ++ []) (x ∷ xs) =
    writes_then total (at + length one) (repeat (length xs) list_info) (λ ys. give (x ∷ ys)) more [] xs (x ∷ xs) rest
    (writes_give total (at + length one + length more) (x ∷ xs)) in
    let whole : SpellsInPlace total (repeat (suc (length xs)) list_info) at (one ++ (more ++ [])) (x ∷ xs) = writes_then total at list_info
    (λ y. repeat (length xs) list_info >>= λ ys. give (y ∷ ys)) one (more ++ []) x (x ∷ xs) first last in
    subst (λ zs. SpellsInPlace total (repeat (suc (length xs)) list_info) at zs (x ∷ xs))
    (ap (λ ys. one ++ ys) (append-nil more) ∙ sym (flat_map-append (big_bytes 2) (counted x) (entries_of xs))) whole

info-stands : (xs : List (List ℕ)) → length xs < 65536 → AllShort xs → Stands (index_info (length xs)) (index_bytes xs) xs
info-stands xs small s =
    let n = length xs in
    let head = big_bytes 2 n in
    let entries = spelled (entries_of xs) in
    let total = length (index_bytes xs) in
    let end = 0 + length head + length entries in
    let all : total ≡ end = omega (arith, length-append head entries) in
    let same : (n == n) ≡ true = grind arith in
    let last : SpellsInPlace total (finish >>= λ end. give xs) end ([] ++ []) xs = writes_then total end finish (λ end. give xs) [] [] (tt {0}) xs
    (writes_finish total end all) (writes_give total (end + 0) xs) in
    let rest : SpellsInPlace total (repeat n list_info >>= λ lists. finish >>= λ end. give lists) (0 + length head) (entries ++ ([] ++ [])) xs =
    writes_then total (0 + length head) (repeat n list_info) (λ lists. finish >>= λ end. give lists) entries ([] ++ []) xs xs
    (lists-written total (0 + length head) xs s) last in
    let whole : SpellsInPlace total (index_info n) 0 (head ++ (entries ++ ([] ++ []))) xs = writes_then total 0 (number 2 (that (λ k. k == n)))
    (λ count. repeat n list_info >>= λ lists. finish >>= λ end. give lists) head (entries ++ ([] ++ [])) n xs
    (writes_number total 2 n 0 (that (λ k. k == n)) small (ap (λ b. cond b None (Some BadValue)) same)) rest in
    writes_stands (index_info n) (index_bytes xs) xs
    (subst (λ ys. SpellsInPlace total (index_info n) 0 (head ++ ys) xs) (append-nil entries) whole)

-- ---- exact indexes

exact-short : InstructionsAreListed → (code : List ℕ) → length code ≤ 32767 → (index : List ℕ)
    → ((q : ℕ) → Contains index q → IsExactIndex code index → q < 65536)
exact-short listed code short index q c exact =
    let place = ((exact.targets q).0 c).place in
    let inside = (listed code).inside place.0 place.1 in
    omega (arith, inside, place.2, short)

are-short : (ns : List ℕ) → ((q : ℕ) → Contains ns q → q < 65536) → AreShort ns
are-short [] h = tt
are-short (n ∷ ns) h = (h n (Contains-first n ns), are-short ns (λ q c. h q (Contains-later n ns q c)))

all-short : InstructionsAreListed → (laid : List (Option Laid)) (lists : List (List ℕ)) → AreShortCodes laid → AreExact laid lists
    → length (entries_of lists) < 65536 → AllShort lists
all-short listed [] [] s e few = tt
all-short listed [] (x ∷ xs) s e few = absurd e
all-short listed (None ∷ ls) xs s e few = all-short listed ls xs s e few
all-short listed (Some l ∷ ls) [] s e few = absurd e
all-short listed (Some l ∷ ls) (x ∷ xs) s e few =
    let long = length-append (counted x) (entries_of xs) in (
      are-short x (λ q c. exact-short listed l.code s.0 x q c e.0),
      omega (arith, long, few),
      all-short listed ls xs s.1 e.1 (omega (arith, long, few)),
    )

-- the lists of an info, which it has by the format
pub record HasExactLists (laid : List (Option Laid)) (info : List ℕ) : Type 0 where
  pub lists : List (List ℕ)
  pub exact : AreExact laid lists
  pub formed : Stands (index_info (length lists)) info lists

pub read-back : InstructionsAreListed → (laid : List (Option Laid)) (info : List ℕ) → AreShortCodes laid → IsIndexOf laid (Some info)
    → HasExactLists laid info
read-back listed laid info s is = grind (arith, bytes_long, length, info-stands, lists_few, all-short)

-- ---- the list of a method, by the methods with code before it

pub exact-at : (laid : List (Option Laid)) (lists : List (List ℕ)) → AreExact laid lists → (k : ℕ) (l : Laid) → slice_get laid k ≡ Some (Some l)
    → (x : List ℕ) × (slice_get lists (count_by is_some (take k laid)) ≡ Some x) × IsExactIndex l.code x
exact-at [] lists e k l at = absurd cc
exact-at (None ∷ ls) xs e zero l at = absurd cc
exact-at (None ∷ ls) xs e (suc k) l at = grind (arith, sum_by-cons, exact-at ls xs e k l at)
exact-at (Some o ∷ ls) [] e k l at = absurd e
exact-at (Some o ∷ ls) (x ∷ xs) e zero l at = grind (arith)
exact-at (Some o ∷ ls) (x ∷ xs) e (suc k) l at =
    let rest = exact-at ls xs e.1 k l at in
    let count : count_by is_some (Some o ∷ take k ls) ≡ suc (count_by is_some (take k ls)) =
    omega (arith, sum_by-cons (λ (y : Option Laid). cond (is_some y) 1 0) (Some o) (take k ls)) in
    (rest.0, ap (slice_get (x ∷ xs)) count ∙ rest.1, rest.2)
