-- Objects whose cells follow one another in memory.
use Rattle.std.proofs.Common.{◌≡◌, ℕ, zero, suc, ◌+◌, ◌-◌, ◌<◌, ◌≤◌, List, [], ◌∷◌, ◌++◌, length, take, drop, set, get_or}
use Rattle.std.proofs.Common.{refl, sym, ◌∙◌, ap, arith, length-drop, length-take}
use Rattle.std.specs.Prelude.{sum_by}
use Rattle.std.proofs.lemmas.List.{take-set-le, drop-set-lt, drop-set-add, drop-drop, take-take, drop-take, take_at, drop_at, map-append}
use Rattle.std.proofs.lemmas.List.Sums.{sum_by-cons}
use Rattle.vm_store.specs.declared.cell.ObjectHeader.{ObjectHeader}
use Rattle.vm_store.specs.State.{Object}
use Rattle.vm_store.specs.Objects.{write_object}
use Rattle.vm_store.specs.Layout.{size, object_in, objects_in, Follow, overwritten}

pub set-take : {A : Type 0} (n : ℕ) (xs : List A) (i : ℕ) (a : A) → take n (set xs i a) ≡ set (take n xs) i a
set-take zero xs i a = refl
set-take (suc n) [] i a = refl
set-take (suc n) (x ∷ xs) zero a = refl
set-take (suc n) (x ∷ xs) (suc i) a = ap (λ ys. x ∷ ys) (set-take n xs i a)

-- the end of objects that follow one another is not before their begin
pub begin-le-end : (from : ℕ) (hs : List ObjectHeader) (end : ℕ) → Follow from hs end → from ≤ end
begin-le-end from [] end f = omega (arith, f)
begin-le-end from (h ∷ hs) end (here, rest) = let r = begin-le-end (from + size h) hs end rest in omega (arith, r)

same_object :
    {A : Type 0} (xs ys : List A) (h : ObjectHeader) (from : ℕ)
    → h.start ≡ from → take (size h) (drop from xs) ≡ take (size h) (drop from ys) → object_in xs h ≡ object_in ys h
same_object {A} xs ys h from here e = grind (arith, take, drop)

-- a part of what lies between two places
part_of :
    {A : Type 0} (xs ys : List A) (from n m : ℕ)
    → n + m ≡ n + m → take (n + m) (drop from xs) ≡ take (n + m) (drop from ys)
    → (take n (drop from xs) ≡ take n (drop from ys)) × (take m (drop (from + n) xs) ≡ take m (drop (from + n) ys))
part_of {A} xs ys from n m same e =
    let le : n ≤ n + m = omega arith in
    let cut : (zs : List A) → take m (drop (from + n) zs) ≡ drop n (take (n + m) (drop from zs)) =
    λ zs. ap (take m) (sym (drop-drop n from zs)) ∙ sym (drop-take n m (drop from zs)) in (
      sym (take-take n (n + m) (drop from xs) le) ∙ (ap (take n) e ∙ take-take n (n + m) (drop from ys) le),
      cut xs ∙ (ap (drop n) e ∙ sym (cut ys)),
    )

-- memories that agree from the begin to the end hold the same objects
pub same_objects :
    {A : Type 0} (xs ys : List A) (from : ℕ) (hs : List ObjectHeader) (end : ℕ)
    → Follow from hs end → take (end - from) (drop from xs) ≡ take (end - from) (drop from ys) → objects_in xs hs ≡ objects_in ys hs
same_objects xs ys from [] end f e = refl
same_objects {A} xs ys from (h ∷ hs) end (here, rest) e =
    let after : from + size h ≤ end = begin-le-end (from + size h) hs end rest in
    let split : size h + (end - (from + size h)) ≡ end - from = omega (arith, after) in
    let e' : take (size h + (end - (from + size h))) (drop from xs) ≡ take (size h + (end - (from + size h))) (drop from ys) =
    ap (λ k. take k (drop from xs)) split ∙ (e ∙ ap (λ k. take k (drop from ys)) (sym split)) in
    let parts = part_of xs ys from (size h) (end - (from + size h)) refl e' in
    ap (λ o. o ∷ objects_in xs hs) (same_object xs ys h from here parts.0)
    ∙ ap (λ os. object_in ys h ∷ os) (same_objects xs ys (from + size h) hs end rest parts.1)

-- a write before them, or after them, changes none of them
pub write_before :
    {A : Type 0} (xs : List A) (from : ℕ) (hs : List ObjectHeader) (end p : ℕ) (v : A)
    → Follow from hs end → p < from → objects_in (set xs p v) hs ≡ objects_in xs hs
write_before xs from hs end p v f lt = same_objects (set xs p v) xs from hs end f (ap (take (end - from)) (drop-set-lt from xs p v lt))

pub write_after :
    {A : Type 0} (xs : List A) (from : ℕ) (hs : List ObjectHeader) (end p : ℕ) (v : A)
    → Follow from hs end → end ≤ p → objects_in (set xs p v) hs ≡ objects_in xs hs
write_after xs from hs end p v f le =
    let begin = begin-le-end from hs end f in
    let at : p ≡ from + (p - from) = omega (arith, begin) in
    let far : end - from ≤ p - from = omega arith in
    same_objects (set xs p v) xs from hs end f
    (ap (λ q. take (end - from) (drop from (set xs q v))) at
    ∙ (ap (take (end - from)) (drop-set-add from xs (p - from) v) ∙ take-set-le (end - from) (drop from xs) (p - from) v far))

-- each object begins at the begin of all or after it
pub start-ge : (from : ℕ) (hs : List ObjectHeader) (end k : ℕ) (d : ObjectHeader) → Follow from hs end → k < length hs
    → from ≤ (get_or hs k d).start
start-ge from [] end k d f lt = absurd (omega (arith, lt))
start-ge from (h ∷ hs) end zero d (here, rest) lt = omega (arith, here)
start-ge from (h ∷ hs) end (suc k) d (here, rest) lt = grind (arith, start-ge (from + size h) hs end k d rest (omega (arith, lt)))

-- each object ends at the end of all or before it
pub end-le : (from : ℕ) (hs : List ObjectHeader) (end k : ℕ) (d : ObjectHeader) → Follow from hs end → k < length hs
    → (get_or hs k d).start + size (get_or hs k d) ≤ end
end-le from [] end k d f lt = absurd (omega (arith, lt))
end-le from (h ∷ hs) end zero d (here, rest) lt = let r = begin-le-end (from + size h) hs end rest in omega (arith, r, here)
end-le from (h ∷ hs) end (suc k) d (here, rest) lt = end-le (from + size h) hs end k d rest (omega (arith, lt))

-- a write to a cell of one object
pub write_inside :
    {A : Type 0} (xs : List A) (from : ℕ) (hs : List ObjectHeader) (end k i : ℕ) (v : A) (d : ObjectHeader)
    → Follow from hs end → k < length hs → i < size (get_or hs k d)
    → write_object (objects_in xs hs) k i v ≡ objects_in (set xs ((get_or hs k d).start + i) v) hs
write_inside xs from [] end k i v d f lt within = absurd (omega (arith, lt))
write_inside {A} xs from (h ∷ hs) end zero i v d (here, rest) lt within =
    let p = h.start + i in
    let build : List A → Object A = λ cells. record { kind = h.kind; cells = cells } in
    let inside : set (take (size h) (drop h.start xs)) i v ≡ take (size h) (drop h.start (set xs (h.start + i) v)) =
    sym (ap (take (size h)) (drop-set-add h.start xs i v) ∙ set-take (size h) (drop h.start xs) i v) in
    let before : h.start + i < from + size h = omega (arith, here, within) in
    ap (λ cells. build cells ∷ objects_in xs hs) inside
    ∙ ap (λ os. object_in (set xs (h.start + i) v) h ∷ os) (sym (write_before xs (from + size h) hs end (h.start + i) v rest before))
write_inside {A} xs from (h ∷ hs) end (suc k) i v d (here, rest) lt within =
    let fewer : k < length hs = omega (arith, lt) in
    let p = (get_or hs k d).start + i in
    let after : from + size h ≤ (get_or hs k d).start = start-ge (from + size h) hs end k d rest fewer in
    let le : from + size h ≤ p = omega (arith, after) in
    let alone : Follow from (h ∷ []) (from + size h) = (here, refl) in
    let first : objects_in (set xs p v) (h ∷ []) ≡ objects_in xs (h ∷ []) = write_after xs from (h ∷ []) (from + size h) p v alone le in
    ap (λ os. object_in xs h ∷ os) (write_inside xs (from + size h) hs end k i v d rest fewer within)
    ∙ ap (λ os. os ++ objects_in (set xs p v) hs) (sym first)

-- how many cells all objects have
pub sum-objects :
    {A : Type 0} (xs : List A) (from : ℕ) (hs : List ObjectHeader) (end : ℕ)
    → Follow from hs end → end ≤ length xs → from + sum_by (λ o. length o.cells) (objects_in xs hs) ≡ end
sum-objects xs from [] end f le = omega (arith, f)
sum-objects {A} xs from (h ∷ hs) end (here, rest) le =
    let after = begin-le-end (from + size h) hs end rest in
    let whole : length (take (size h) (drop h.start xs)) ≡ size h = omega (
      arith,
      length-take (size h) (drop h.start xs),
      length-drop h.start xs,
      here,
      after,
    ) in
    let others = sum-objects xs (from + size h) hs end rest le in
    let sum = sum_by-cons (λ (o : Object A). length o.cells) (object_in xs h) (objects_in xs hs) in
    omega (arith, whole, others, sum)

-- one object more, after those that are there
pub follow-more : (from : ℕ) (hs : List ObjectHeader) (end : ℕ) (h : ObjectHeader) → Follow from hs end → h.start ≡ end
    → Follow from (hs ++ h ∷ []) (end + size h)
follow-more from [] end h f here = (here ∙ sym f, ap (λ k. k + size h) f)
follow-more from (g ∷ gs) end h (first, rest) here = (first, follow-more (from + size g) gs end h rest here)

-- ---- a new object

pub added :
    {A : Type 0} (xs ys news : List A) (hs : List ObjectHeader) (end : ℕ) (h : ObjectHeader)
    → Follow 0 hs end → end ≤ length xs → ys ≡ overwritten xs end news → h.start ≡ end → size h ≡ length news
    → objects_in ys (hs ++ h ∷ []) ≡ objects_in xs hs ++ record { kind = h.kind; cells = news } ∷ []
added {A} xs ys news hs end h follow enough is here width =
    let build : List A → Object A = λ cells. record { kind = h.kind; cells = cells } in
    let rest = drop (end + length news) xs in
    let front : length (take end xs) ≡ end = omega (arith, length-take end xs) in
    let whole : end - 0 ≡ end = omega arith in
    let same : take end ys ≡ take end xs = ap (take end) is ∙ take_at (take end xs) (news ++ rest) end front in
    let same' : take (end - 0) ys ≡ take (end - 0) xs = ap (λ n. take n ys) whole ∙ (same ∙ ap (λ n. take n xs) (sym whole)) in
    let old : objects_in ys hs ≡ objects_in xs hs = same_objects ys xs 0 hs end follow same' in
    let farther : drop h.start ys ≡ news ++ rest = ap (λ n. drop n ys) here ∙ (ap (drop end) is ∙ drop_at (take end xs) (news ++ rest) end front) in
    let cells : take (size h) (drop h.start ys) ≡ news = ap (take (size h)) farther ∙ take_at news rest (size h) (sym width) in
    map-append (object_in ys) hs (h ∷ [])
    ∙ (ap (λ os. os ++ object_in ys h ∷ []) old ∙ ap (λ cs. objects_in xs hs ++ build cs ∷ []) cells)
