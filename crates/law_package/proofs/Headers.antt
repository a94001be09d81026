-- The headers of methods, wherever their bytes stand.
use Rattle.std.proofs.Common.{◌≡◌, ◌+◌, ℕ, zero, suc, List, [], ◌∷◌, take, drop, Bool, true, false, Option, Some, None, Ok, Err, refl}
use Rattle.std.proofs.Common.{sym, ap, ◌∙◌, arith, length-drop, length-take}
use Rattle.std.specs.Prelude.{if◌then◌else◌, nat_le}
use Rattle.std.specs.Result.{result_ok}
use Rattle.std.specs.Option.{option_map}
use Rattle.std.proofs.lemmas.List.{drop-drop}
use Rattle.cap_bytes.specs.Number.{number_at}
use Rattle.cap_bytes.specs.Spelling.{Spells}
use Rattle.cap_bytes.specs.Reading.{Reading}
use Rattle.cap_bytes.proofs.Laws.{spelled-read, read-spells}
use Rattle.cap_method.specs.MethodFormat.{Header, header_after}
use Rattle.cap_components.specs.MethodPlaces.{size_by}
use Rattle.cap_package.specs.HeaderChecks.{header_in}
use Rattle.law_package.specs.Written.{lead_bytes}

-- ---- a byte

number_drop : (n k : ℕ) (xs : List ℕ) → number_at 1 (n + k) xs ≡ number_at 1 k (drop n xs)
number_drop n k xs = grind (arith, drop-drop, length-drop)

no_item : (a b : ℕ) → drop {A = ℕ} b (take a []) ≡ []
no_item zero zero = refl
no_item zero (suc b) = refl
no_item (suc a) zero = refl
no_item (suc a) (suc b) = refl

pub drop_take : (k s : ℕ) (ys : List ℕ) → drop k (take (k + s) ys) ≡ take s (drop k ys)
drop_take zero s ys = let e : 0 + s ≡ s = omega arith in rw e refl
drop_take (suc k) s [] = no_item (suc k + s) (suc k) ∙ sym (ap (take s) (no_item 0 (suc k)) ∙ no_item s 0)
drop_take (suc k) s (y ∷ ys) = let e : suc k + s ≡ suc (k + s) = omega arith in rw e (drop_take k s ys)

number_take : (k j : ℕ) (ys : List ℕ) → number_at 1 k (take (k + suc j) ys) ≡ number_at 1 k ys
number_take k j ys = grind (arith, length-take, suc, drop_take)

-- where so many bytes are the same, so is each of them
same_byte : (k j m n : ℕ) (xs ys : List ℕ) → take (k + suc j) (drop n ys) ≡ take (k + suc j) (drop m xs)
    → number_at 1 (n + k) ys ≡ number_at 1 (m + k) xs
same_byte k j m n xs ys e = grind (arith, number_drop n k ys, number_take k j (drop n ys), number_take k j (drop m xs), number_drop m k xs)

byte_moved : (k j m n at to x : ℕ) (xs ys : List ℕ) → take (k + suc j) (drop n ys) ≡ take (k + suc j) (drop m xs) → at ≡ m + k → to ≡ n + k
    → number_at 1 at xs ≡ Some x → number_at 1 to ys ≡ Some x
byte_moved k j m n at to x xs ys e a t h = grind (arith, same_byte)

-- ---- a header

-- what stands at an offset that is read as a header
pub record IsRead (info : List ℕ) (offset : ℕ) (h : Header) : Type 0 where
  pub first : ℕ
  pub after : ℕ
  pub there : number_at 1 offset info ≡ Some first
  pub rest : Spells (header_after (nat_le 128 first) first) info (offset + 1) h after

of_read : (r : Reading Header) (h : Header) → option_map (λ (p : Header × ℕ). p.0) (result_ok r) ≡ Some h → (after : ℕ) × (r ≡ Ok (h, after))
of_read (Ok x) h e = let s : x.0 ≡ h = cc in (x.1, ap (λ k. Ok (k, x.1)) s)
of_read (Err e) h k = absurd cc

pub is_read : (info : List ℕ) (offset : ℕ) (h : Header) → header_in info offset ≡ Some h → IsRead info offset h
unfolding header_in Spells
is_read info offset h e = grind (arith, of_read, read-spells)

pub read_is : (info : List ℕ) (offset : ℕ) (h : Header) → IsRead info offset h → header_in info offset ≡ Some h
unfolding header_in Spells
read_is info offset h r = grind (arith, spelled-read)

size_read : (b : Bool) (first at after : ℕ) (info : List ℕ) (h : Header) → Spells (header_after b first) info at h after
    → h.size ≡ (if b then 4 else 2)
unfolding Spells
size_read x first at after info h s = grind (arith)

-- the size of a header is what its first byte tells
pub header_sized : (info : List ℕ) (offset : ℕ) (h : Header) → header_in info offset ≡ Some h → h.size ≡ size_by (number_at 1 offset info)
header_sized info offset h e =
    let r = is_read info offset h e in
    size_read (nat_le 128 r.first) r.first (offset + 1) r.after info h r.rest ∙ sym (ap size_by r.there)

rest_moved : (b : Bool) (first m n after : ℕ) (xs ys : List ℕ) (h : Header) → take (if b then 4 else 2) (drop n ys) ≡ take (if b then 4 else 2)
    (drop m xs) → Spells (header_after b first) xs (m + 1) h after
    → (end : ℕ) × Spells (header_after b first) ys (n + 1) h end
unfolding Spells
rest_moved true first m n after xs ys h e s =
    let t = s.3 in
    let u = t.3 in
    let a : number_at 1 (n + 1) ys ≡ Some s.0 = byte_moved 1 2 m n (m + 1) (n + 1) s.0 xs ys e refl refl s.2.0 in
    let b : number_at 1 (n + 1 + 1) ys ≡ Some t.0 = byte_moved 2 1 m n s.1 (n + 1 + 1) t.0 xs ys e (omega (arith, s.2.2)) (omega arith) t.2.0 in
    let c : number_at 1 (n + 1 + 1 + 1) ys ≡ Some u.0 = byte_moved 3 0 m n t.1 (n + 1 + 1 + 1) u.0 xs ys e (omega (arith, s.2.2, t.2.2)) (omega arith)
    u.2.0 in
    (n + 1 + 1 + 1 + 1, (s.0, n + 1 + 1, (a, refl, refl), (t.0, n + 1 + 1 + 1, (b, refl, refl), (u.0, n + 1 + 1 + 1 + 1, (c, refl, refl), (u.3.0, refl)))))
rest_moved false first m n after xs ys h e s =
    let a : number_at 1 (n + 1) ys ≡ Some s.0 = byte_moved 1 0 m n (m + 1) (n + 1) s.0 xs ys e refl refl s.2.0 in
    (n + 1 + 1, (s.0, n + 1 + 1, (a, refl, refl), (s.3.0, refl)))

-- ---- the same bytes at another offset

pub some_bytes : (o : Option ℕ) → (j : ℕ) × (size_by o ≡ suc j)
some_bytes None = (1, refl)
some_bytes (Some first) = by (nat_le 128 first)
  where
    by : (b : Bool) → (j : ℕ) × ((if b then 4 else 2) ≡ suc j)
    by true = (3, refl)
    by false = (1, refl)

-- the first byte is the same
pub first_same : (m n : ℕ) (xs ys : List ℕ) → take 1 (drop n ys) ≡ take 1 (drop m xs) → number_at 1 n ys ≡ number_at 1 m xs
first_same m n xs ys e = grind (arith, same_byte 0 0 m n xs ys e)

pub front_of : (j : ℕ) (xs : List ℕ) → take 1 (take (suc j) xs) ≡ take 1 xs
front_of j y = grind (arith)

front_by : (o : Option ℕ) (xs : List ℕ) → take 1 (take (size_by o) xs) ≡ take 1 xs
front_by o xs = let s = some_bytes o in ap (λ n. take 1 (take n xs)) s.1 ∙ front_of s.0 xs

pub record IsMoved (xs ys : List ℕ) (m n : ℕ) : Type 0 where
  pub first : number_at 1 n ys ≡ number_at 1 m xs
  pub header : header_in ys n ≡ header_in xs m

-- the same bytes are read as the same header
pub moved : (xs ys : List ℕ) (m n : ℕ) (h : Header) → lead_bytes ys n ≡ lead_bytes xs m → header_in xs m ≡ Some h → IsMoved xs ys m n
unfolding lead_bytes
moved xs ys m n h e there =
    let r = is_read xs m h there in
    let one : take 1 (drop n ys) ≡ take 1 (drop m xs) = sym (front_by (number_at 1 n ys) (drop n ys)) ∙ ap (take 1) e
    ∙ front_by (number_at 1 m xs) (drop m xs) in
    let first : number_at 1 n ys ≡ number_at 1 m xs = first_same m n xs ys one in
    let size : size_by (number_at 1 n ys) ≡ size_by (number_at 1 m xs) = ap size_by first in
    let told : size_by (number_at 1 m xs) ≡ (if nat_le 128 r.first then 4 else 2) = ap size_by r.there in
    let same : take (if nat_le 128 r.first then 4 else 2) (drop n ys) ≡ take (if nat_le 128 r.first then 4 else 2) (drop m xs) =
    ap (λ s. take s (drop n ys)) (sym (size ∙ told)) ∙ e ∙ ap (λ s. take s (drop m xs)) told in
    let rest = rest_moved (nat_le 128 r.first) r.first m n r.after xs ys h same r.rest in
    record {
      first = first;
      header = read_is ys n h (record { first = r.first; after = rest.0; there = first ∙ r.there; rest = rest.1 }) ∙ sym there;
    }
