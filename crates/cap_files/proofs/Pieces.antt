-- Pieces of a buffer, one after another.
use Rattle.std.proofs.Common.{◌≡◌, ℕ, zero, suc, ◌+◌, ◌<◌, ◌≤◌, List, [], ◌∷◌, ◌++◌, length, take, drop, remove, slice_index_or}
use Rattle.std.proofs.Common.{refl, ap, sym, subst, ◌∙◌, arith, length-append, length-drop, zero-add, add_assoc, sum_by, append_assoc}
use Rattle.std.proofs.lemmas.List.{take-append-le, drop-append-le, take-append-drop, length-take-le, drop-drop}
use Rattle.std.proofs.lemmas.List.Sums.{sum_by-cons}
use Rattle.std.proofs.Math.Seq.{drop-append_seam, take-append_seam, take-add, take-length, drop-length}
use Rattle.cap_bytes.specs.declared.fault.Part.{Part}
use Rattle.cap_files.specs.declared.records.Entry.{Entry}
use Rattle.cap_files.specs.Laid.{records, record_of, IsLaid}
use Rattle.cap_files.specs.Room.{size_of}

abbrev pub end_of : List Entry → ℕ
end_of es = sum_by (λ e. e.size) es

pub length-records : (es : List Entry) (bs : List ℕ) → length (records es bs) ≡ length es
length-records [] bs = refl
length-records (e ∷ es) bs = ap suc (length-records es (drop e.size bs))

size_of-record : (e : Entry) (piece : List ℕ) → size_of (record_of e piece) ≡ length piece
size_of-record e piece = sym (length-append (take e.word piece) (drop e.word piece)) ∙ ap length (take-append-drop e.word piece)

size_of-piece : (e : Entry) (bs : List ℕ) → e.size ≤ length bs → size_of (record_of e (take e.size bs)) ≡ e.size
size_of-piece e bs reach = size_of-record e (take e.size bs) ∙ length-take-le e.size bs reach

-- the pieces together are the buffer
pub sizes : (es : List Entry) (bs : List ℕ) → IsLaid es bs → sum_by size_of (records es bs) ≡ length bs
sizes [] bs laid = sym laid
sizes (e ∷ es) bs laid =
    let here = size_of-piece e bs laid.1 in
    let rest = sizes es (drop e.size bs) laid.2 in
    let whole = sum_by-cons size_of (record_of e (take e.size bs)) (records es (drop e.size bs)) in
    omega (arith, laid.1, length-drop e.size bs)

-- pieces after pieces
pub records-append : (es fs : List Entry) (xs ys : List ℕ) → IsLaid es xs → records (es ++ fs) (xs ++ ys) ≡ records es xs ++ records fs ys
records-append [] fs [] ys laid = refl
records-append [] fs (x ∷ xs) ys laid = absurd (omega arith)
records-append (e ∷ es) fs xs ys laid =
    let rest = records-append es fs (drop e.size xs) ys laid.2 in
    let reach : e.size ≤ length xs = laid.1 in
    rw (take-append-le e.size xs ys reach, drop-append-le e.size xs ys reach, rest) refl

pub laid-append : (es fs : List Entry) (xs ys : List ℕ) → IsLaid es xs → IsLaid fs ys → IsLaid (es ++ fs) (xs ++ ys)
laid-append [] fs [] ys laid farther = farther
laid-append [] fs (x ∷ xs) ys laid farther = absurd (omega arith)
laid-append (e ∷ es) fs xs ys laid farther =
    let reach : e.size ≤ length xs = laid.1 in
    (laid.0, omega (arith, length-append xs ys), rw (drop-append-le e.size xs ys reach) (laid-append es fs (drop e.size xs) ys laid.2 farther))

head_kept : (k : ℕ) (bs xs : List ℕ) → k ≤ length bs → take k (take k bs ++ xs) ≡ take k bs
head_kept k bs xs reach = subst (λ n. take n (take k bs ++ xs) ≡ take k bs) (length-take-le k bs reach) (take-append_seam (take k bs) xs)

after_kept : (k : ℕ) (bs xs : List ℕ) → k ≤ length bs → drop k (take k bs ++ xs) ≡ xs
after_kept k bs xs reach = subst (λ n. drop n (take k bs ++ xs) ≡ xs) (length-take-le k bs reach) (drop-append_seam (take k bs) xs)

end_of-cons : (e : Entry) (es : List Entry) → end_of (e ∷ es) ≡ e.size + end_of es
end_of-cons e es = sum_by-cons (λ (e : Entry). e.size) e es

all_taken : (xs ys : List ℕ) → take (length xs + length ys) (xs ++ ys) ≡ xs ++ ys
all_taken xs ys = ap (λ n. take n (xs ++ ys)) (sym (length-append xs ys)) ∙ take-length (xs ++ ys)

all_dropped : (xs ys : List ℕ) → drop (length xs + length ys) (xs ++ ys) ≡ []
all_dropped xs ys = ap (λ n. drop n (xs ++ ys)) (sym (length-append xs ys)) ∙ drop-length (xs ++ ys)

-- the buffer without the piece of the n-th entry
abbrev pub cut : List Entry → ℕ → List ℕ → List ℕ
cut [] n bs = bs
cut (e ∷ es) zero bs = drop e.size bs
cut (e ∷ es) (suc n) bs = take e.size bs ++ cut es n (drop e.size bs)

pub cut-taken : (es : List Entry) (n : ℕ) (d : Entry) (bs : List ℕ) → IsLaid es bs → n < length es
    → take (end_of (take n es)) bs ++ drop (end_of (take n es) + (slice_index_or es n d).size) bs ≡ cut es n bs
cut-taken [] n d bs laid l = absurd (omega arith)
cut-taken (e ∷ es) zero d bs laid l = ap (λ n. drop n bs) (zero-add e.size)
cut-taken (e ∷ es) (suc n) d bs laid l =
    let rest = cut-taken es n d (drop e.size bs) laid.2 (omega arith) in
    let before = end_of (take n es) in
    let size = (slice_index_or es n d).size in
    let front : take (end_of (e ∷ take n es)) bs ≡ take e.size bs ++ take before (drop e.size bs) = ap (λ k. take k bs) (end_of-cons e (take n es))
    ∙ take-add e.size before bs in
    let farther : drop (end_of (e ∷ take n es) + size) bs ≡ drop (before + size) (drop e.size bs) =
    ap (λ k. drop (k + size) bs) (end_of-cons e (take n es)) ∙ ap (λ k. drop k bs) (add_assoc e.size before size)
    ∙ sym (drop-drop (before + size) e.size bs) in
    rw (front, farther, append_assoc) (ap (λ xs. take e.size bs ++ xs) rest)

pub records-cut : (es : List Entry) (n : ℕ) (bs : List ℕ) → IsLaid es bs → n < length es → records (remove es n) (cut es n bs)
    ≡ remove (records es bs) n
records-cut [] n bs laid l = absurd (omega arith)
records-cut (e ∷ es) zero bs laid l = refl
records-cut (e ∷ es) (suc n) bs laid l = grind (arith, drop, head_kept, after_kept, records-cut es n (drop e.size bs) laid.2 (omega arith))

pub laid-cut : (es : List Entry) (n : ℕ) (bs : List ℕ) → IsLaid es bs → n < length es → IsLaid (remove es n) (cut es n bs)
laid-cut [] n bs laid l = absurd (omega arith)
laid-cut (e ∷ es) zero bs laid l = laid.2
laid-cut (e ∷ es) (suc n) bs laid l =
    let rest = laid-cut es n (drop e.size bs) laid.2 (omega arith) in (
      laid.0,
      omega (arith, laid.1, length-append (take e.size bs) (cut es n (drop e.size bs)), length-take-le e.size bs laid.1),
      rw (after_kept e.size bs (cut es n (drop e.size bs)) laid.1) rest,
    )

pub end_within : (es : List Entry) (n : ℕ) (d : Entry) (bs : List ℕ) → IsLaid es bs → n < length es
    → end_of (take n es) + (slice_index_or es n d).size ≤ length bs
end_within [] n d bs laid l = absurd (omega arith)
end_within (e ∷ es) zero d bs laid l = rw (zero-add) laid.1
end_within (e ∷ es) (suc n) d bs laid l =
    let rest = end_within es n d (drop e.size bs) laid.2 (omega arith) in
    let whole = end_of-cons e (take n es) in
    omega (arith, laid.1, length-drop e.size bs)

-- one more piece
pub records-push : (es : List Entry) (bs word bytes : List ℕ) (part : Part) → IsLaid es bs
    → records (es ++ record { part = part; word = length word; size = length word + length bytes } ∷ []) ((bs ++ word) ++ bytes)
    ≡ records es bs ++ (part.0 ∷ word, bytes) ∷ []
records-push es bs word bytes part laid = grind (arith, append_assoc, records-append, all_taken, take-append_seam, drop-append_seam)

pub laid-push : (es : List Entry) (bs word bytes : List ℕ) (part : Part) → IsLaid es bs
    → IsLaid (es ++ record { part = part; word = length word; size = length word + length bytes } ∷ []) ((bs ++ word) ++ bytes)
laid-push es bs word bytes part laid = grind (arith, append_assoc, laid-append, length-append, length, all_dropped)

length-cut : (es : List Entry) (n : ℕ) (d : Entry) (bs : List ℕ) → IsLaid es bs → n < length es
    → length (cut es n bs) + (slice_index_or es n d).size ≡ length bs
length-cut es n d bs laid l =
    let reach = end_within es n d bs laid l in
    let before = end_of (take n es) in
    let size = (slice_index_or es n d).size in
    let parts = ap length (cut-taken es n d bs laid l) in
    omega (
      arith,
      parts,
      reach,
      length-append (take before bs) (drop (before + size) bs),
      length-take-le before bs (omega arith),
      length-drop (before + size) bs,
    )

-- what the records without one take
pub sizes-cut : (es : List Entry) (n : ℕ) (d : Entry) (bs : List ℕ) → IsLaid es bs → n < length es
    → sum_by size_of (remove (records es bs) n) + (slice_index_or es n d).size ≡ length bs
sizes-cut es n d bs laid l =
    let left = ap (sum_by size_of) (records-cut es n bs laid l) in
    let whole = sizes (remove es n) (cut es n bs) (laid-cut es n bs laid l) in
    omega (arith, left, whole, length-cut es n d bs laid l)

pub length-remove : (es : List Entry) (n : ℕ) (bs : List ℕ) → n < length es → suc (length (remove (records es bs) n)) ≡ length es
length-remove es n bs l = grind (arith, length-append, take, drop, suc, length-take-le, length-records, length-drop)
