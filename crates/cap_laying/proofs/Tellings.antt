-- Places told one after the other.
use Rattle.std.proofs.Common.{◌≡◌, ◌≤◌, ◌+◌, ◌-◌, ◌/◌, ◌%◌, ◌*◌, ◌<◌, ℕ, zero, suc, List, [], ◌∷◌, ◌++◌}
use Rattle.std.proofs.Common.{replicate, take, drop, refl, sym, ap, ◌∙◌, arith, append_assoc, length, length-append, take-append-drop}
use Rattle.std.proofs.lemmas.List.{append-nil, length-replicate}
use Rattle.std.proofs.Math.Seq.{take-append_seam}
use Rattle.cap_laying.specs.declared.location_component.ToldPlaces.{ToldPlaces}
use Rattle.cap_laying.specs.Distances.{distance_bytes, distances, last_of, Rise, places_in}
use Rattle.cap_laying.specs.Telling.{AppendsDistances, IsFew}

pub tells_none : (told : ToldPlaces) → AppendsDistances told [] told
tells_none told = record { bytes = sym (append-nil told.bytes.items); last = refl }

pub distances_both : (last : ℕ) (ps qs : List ℕ) → distances last (ps ++ qs) ≡ distances last ps ++ distances (last_of last ps) qs
distances_both last [] qs = refl
distances_both last (p ∷ ps) qs = grind (arith, append_assoc, distances_both p ps qs)

pub last_both : (last : ℕ) (ps qs : List ℕ) → last_of last (ps ++ qs) ≡ last_of (last_of last ps) qs
last_both last [] qs = refl
last_both last (p ∷ ps) qs = last_both p ps qs

-- the first of some places are told, and the rest is still to be
pub told_more : (told new : ToldPlaces) (xs ys zs whole : List ℕ) → zs ≡ xs ++ ys → AppendsDistances told xs new
    → told.bytes.items ++ distances told.last zs ≡ whole → new.bytes.items ++ distances new.last ys ≡ whole
told_more told new xs ys zs whole e t h = grind (arith, append_assoc, distances_both)

pub last_more : (told new : ToldPlaces) (xs ys zs : List ℕ) (last : ℕ) → zs ≡ xs ++ ys → AppendsDistances told xs new
    → last_of told.last zs ≡ last → last_of new.last ys ≡ last
last_more told new xs ys zs last e t h = ap (λ l. last_of l ys) t.last ∙ sym (last_both told.last xs ys) ∙ ap (last_of told.last) (sym e) ∙ h

-- all are told
pub told_all : (told initial : ToldPlaces) (zs all : List ℕ) → zs ≡ [] → told.bytes.items ++ distances told.last zs
    ≡ initial.bytes.items ++ distances initial.last all → last_of told.last zs ≡ last_of initial.last all → AppendsDistances initial all told
told_all told initial zs all e b l = grind (arith, append-nil)

-- a distance of 255 and more is a byte of 255, and what is left
pub distance_more : (d : ℕ) → 255 ≤ d → distance_bytes d ≡ 255 ∷ distance_bytes (d - 255)
distance_more d h = grind (arith, suc)

pub distance_last : (d : ℕ) → d < 255 → distance_bytes d ≡ d ∷ []
distance_last d h = grind (arith)

-- one more byte of the loop over a distance
pub put_more : (d : ℕ) (out new whole : List ℕ) → 255 ≤ d → new ≡ out ++ 255 ∷ [] → out ++ distance_bytes d ≡ whole
    → new ++ distance_bytes (d - 255) ≡ whole
put_more d out new whole h e so_far = grind (arith, append_assoc, distance_more)

pub put_last : (d : ℕ) (out new whole : List ℕ) → d < 255 → new ≡ out ++ d ∷ [] → out ++ distance_bytes d ≡ whole → new ≡ whole
put_last d out new whole h e so_far = e ∙ ap (λ xs. out ++ xs) (sym (distance_last d h)) ∙ so_far

-- ---- what was told before stands where there is no memory for more

pub begun_more : (a b c d : List ℕ) → take (length a) b ≡ a → c ≡ b ++ d → take (length a) c ≡ a
begun_more a b c d h e =
    let r = drop (length a) b in
    let is : b ≡ a ++ r = sym (take-append-drop (length a) b) ∙ ap (λ xs. xs ++ r) h in
    ap (take (length a)) (e ∙ ap (λ xs. xs ++ d) is ∙ append_assoc a r d) ∙ take-append_seam a (r ++ d)

pub begun_then : (a b c : List ℕ) → take (length a) b ≡ a → take (length b) c ≡ b → take (length a) c ≡ a
begun_then a b c h k = begun_more a b c (drop (length b) c) h (sym (take-append-drop (length b) c) ∙ ap (λ xs. xs ++ drop (length b) c) k)

-- ---- what is told is read back

whole_back : (n last r : ℕ) (bs : List ℕ) → r < 255 → places_in last (replicate n 255 ++ (r ∷ bs)) ≡ (last + n * 255 + r) ∷ places_in
    (last + n * 255 + r) bs
whole_back zero last r bs h = grind (arith)
whole_back (suc n) last r bs h = grind (arith, suc, whole_back n (last + 255) r bs h)

distance_back : (d last : ℕ) (bs : List ℕ) → places_in last (distance_bytes d ++ bs) ≡ (last + d) ∷ places_in (last + d) bs
distance_back d last bs = grind (arith, append_assoc, replicate, whole_back)

pub read_back : (last : ℕ) (ps : List ℕ) → Rise last ps → places_in last (distances last ps) ≡ ps
read_back last [] h = refl
read_back last (p ∷ ps) h = grind (arith, distance_back, read_back p ps h.1)

-- ---- how many bytes are told

length_distance : (d : ℕ) → length (distance_bytes d) ≡ d / 255 + 1
length_distance d = length-append (replicate (d / 255) 255) ((d % 255) ∷ []) ∙ ap (λ n. n + 1) (length-replicate (d / 255) 255)

pub few_more : (old new : ToldPlaces) (place : ℕ) → IsFew old → old.last < place → AppendsDistances old (place ∷ []) new → IsFew new
few_more old new place few lt t = grind (arith, length, length-append, append-nil, length_distance)
