-- Numbers that are written over at rising places.
use Rattle.std.proofs.Common.{◌≡◌, ℕ, ◌+◌, ◌^◌, ◌≤◌, ◌<◌, List, [], ◌∷◌, ◌++◌, length, take, drop, Some}
use Rattle.std.proofs.Common.{slice_index, refl, ap, ◌∙◌, arith, length-append}
use Rattle.std.proofs.lemmas.List.{get_or_append_left, get_or-append_right, get_or-take, get_or-drop, length-take, length-drop, drop_at, take_at}
use Rattle.std.proofs.Math.Nat.{mod-eq_of_lt}
use Rattle.byteorder.specs.Endian.{big_bytes, big_from, big_number}
use Rattle.byteorder.specs.Numbers.{length-bytes_high_first, big_from-bytes}
use Rattle.cap_bytes.specs.Number.{number_at}
use Rattle.cap_bytes.specs.Edit.{Edit, patched, patched_all, AreInside, FitBytes}
use Rattle.cap_bytes.specs.Renewal.{AreSame, IsEdited, Renews}
use Rattle.cap_bytes.proofs.Same.{same_part, number_same, piece_same}

length_two : (n : ℕ) → length (big_bytes 2 n) ≡ 2
length_two n = length-bytes_high_first 2 n

pub length_patched : (e : Edit) (bytes : List ℕ) → e.at + 2 ≤ length bytes → length (patched e bytes) ≡ length bytes
unfolding patched
length_patched e bytes h = grind (arith, length-append, take, drop, length_two, length-take, length-drop)

before_patched : (e : Edit) (bytes : List ℕ) (k : ℕ) → e.at + 2 ≤ length bytes → k < e.at → slice_index (patched e bytes) k ≡ slice_index bytes k
unfolding patched
before_patched e bytes k w h = grind (arith, get_or_append_left, take, drop, length-take, get_or-take)

after_patched : (e : Edit) (bytes : List ℕ) (k : ℕ) → e.at + 2 ≤ length bytes → e.at + 2 ≤ k
    → slice_index (patched e bytes) k ≡ slice_index bytes k
unfolding patched
after_patched e bytes k w h = grind (arith, length, take, length-take, get_or-append_right, drop, length_two, get_or-drop, slice_index)

-- a number stands where its bytes do
pub number_there : (w n at : ℕ) (before after : List ℕ) → n < 256 ^ w → length before ≡ at → number_at w at (before ++ (big_bytes w n ++ after))
    ≡ Some n
number_there w n at before after fits len =
    let dropped : drop at (before ++ (big_bytes w n ++ after)) ≡ big_bytes w n ++ after = drop_at before (big_bytes w n ++ after) at len in
    let read : big_from 0 w (big_bytes w n ++ after) ≡ n = big_from-bytes w n after ∙ mod-eq_of_lt fits in
    let whole = length-append before (big_bytes w n ++ after) in
    let part = length-append (big_bytes w n) after in
    let size = length-bytes_high_first w n in
    let reach : at + w ≤ length (before ++ (big_bytes w n ++ after)) = omega arith in
    number_reached w at (before ++ (big_bytes w n ++ after)) reach ∙ ap Some (ap (big_from 0 w) dropped ∙ read)
  where
    number_reached : (w at : ℕ) (xs : List ℕ) → at + w ≤ length xs → number_at w at xs ≡ Some (big_number w (drop at xs))
    number_reached w at xs h = grind arith

number_patched : (e : Edit) (bytes : List ℕ) → e.at + 2 ≤ length bytes → e.number < 65536 → number_at 2 e.at (patched e bytes) ≡ Some e.number
unfolding patched
number_patched e bytes w fits =
    number_there 2 e.number e.at (take e.at bytes) (drop (e.at + 2) bytes) fits (omega (arith, length-take e.at bytes))

bytes_patched : (e : Edit) (bytes : List ℕ) → e.at + 2 ≤ length bytes → take 2 (drop e.at (patched e bytes)) ≡ big_bytes 2 e.number
unfolding patched
bytes_patched e bytes w = grind (arith, length, take, length-take, drop_at, drop, take_at, length_two)

pub inside_order : (es : List Edit) (low high : ℕ) → AreInside es low high → low ≤ high
inside_order [] low high h = h
inside_order (e ∷ es) low high h = let r = inside_order es (e.at + 2) high h.1 in let l = h.0 in omega arith

pub length_patched_all : (es : List Edit) (low : ℕ) (bytes : List ℕ) → AreInside es low (length bytes) → length (patched_all es bytes) ≡ length bytes
length_patched_all [] low bytes h = refl
length_patched_all (e ∷ es) low bytes h =
    let one = length_patched e bytes (inside_order es (e.at + 2) (length bytes) h.1) in
    length_patched_all es (e.at + 2) (patched e bytes) (rw one h.1) ∙ one

-- what stands before the first of them is as it was
before_all : (es : List Edit) (low : ℕ) (bytes : List ℕ) (k : ℕ) → AreInside es low (length bytes) → k < low
    → slice_index (patched_all es bytes) k ≡ slice_index bytes k
before_all [] low bytes k h lt = refl
before_all (e ∷ es) low bytes k h lt =
    let w = inside_order es (e.at + 2) (length bytes) h.1 in
    let l = h.0 in
    let one = length_patched e bytes w in
    before_all es (e.at + 2) (patched e bytes) k (rw one h.1) (omega arith) ∙ before_patched e bytes k w (omega arith)

-- the same edits of bytes that are the same from there on
edited_base : (es : List Edit) (low high : ℕ) (bytes other out : List ℕ) → ((k : ℕ) → low ≤ k → slice_index other k ≡ slice_index bytes k)
    → AreInside es low high → IsEdited es low high other out → IsEdited es low high bytes out
edited_base [] low high bytes other out same i h = record { each = λ k m n. h.each k m n ∙ same k m }
edited_base (e ∷ es) low high bytes other out same i h =
    let l = i.0 in
    (record { each = λ k m n. h.0.each k m n ∙ same k m }, h.1, edited_base es (e.at + 2) high bytes other out (λ k m. same k (omega arith)) i.1 h.2)

edited : (es : List Edit) (low : ℕ) (bytes : List ℕ) → AreInside es low (length bytes) → FitBytes es
    → IsEdited es low (length bytes) bytes (patched_all es bytes)
edited [] low bytes i f = record { each = λ k m n. refl }
edited (e ∷ es) low bytes i f =
    let w : e.at + 2 ≤ length bytes = inside_order es (e.at + 2) (length bytes) i.1 in
    let one : length (patched e bytes) ≡ length bytes = length_patched e bytes w in
    let there : AreInside es (e.at + 2) (length (patched e bytes)) = rw one i.1 in
    let all : length (patched_all es (patched e bytes)) ≡ length (patched e bytes) = length_patched_all es (e.at + 2) (patched e bytes) there in
    let same : AreSame e.at (e.at + 2) (patched e bytes) (patched_all es (patched e bytes)) =
    record { each = λ k m n. before_all es (e.at + 2) (patched e bytes) k there n } in
    let rest : IsEdited es (e.at + 2) (length (patched e bytes)) (patched e bytes) (patched_all es (patched e bytes)) = edited es (e.at + 2)
    (patched e bytes) there f.1 in (
      record { each = λ k m n. before_all es (e.at + 2) (patched e bytes) k there (omega arith) ∙ before_patched e bytes k w n },
      record {
        number = number_same 2 e.at (patched e bytes) (patched_all es (patched e bytes)) all same ∙ number_patched e bytes w f.0;
        bytes = piece_same 2 e.at (patched e bytes) (patched_all es (patched e bytes)) all same ∙ bytes_patched e bytes w;
      },
      edited_base es (e.at + 2) (length bytes) bytes (patched e bytes) (patched_all es (patched e bytes)) (λ k m. after_patched e bytes k w m) i.1
          (rw (← one) rest),
    )

pub patches_renew : (es : List Edit) (bytes : List ℕ) → AreInside es 0 (length bytes) → FitBytes es → Renews es bytes (patched_all es bytes)
patches_renew es bytes i f = record { long = length_patched_all es 0 bytes i; inside = edited es 0 bytes i f }

-- ---- pieces of edited bytes

edited_from : (es : List Edit) (low mid high : ℕ) (bytes out : List ℕ) → IsEdited es low high bytes out → low ≤ mid → AreInside es mid high
    → AreSame low mid bytes out × IsEdited es mid high bytes out
edited_from [] low mid high bytes out h l i = (same_part low high low mid bytes out h (omega arith) i, same_part low high mid high bytes out h l (omega arith))
edited_from (e ∷ es) low mid high bytes out h l i = grind (arith, same_part)

-- the edits up to a place, and those from there on
pub edited_split : (es fs : List Edit) (low mid high : ℕ) (bytes out : List ℕ) → AreInside es low mid → AreInside fs mid high
    → IsEdited (es ++ fs) low high bytes out → IsEdited es low mid bytes out × IsEdited fs mid high bytes out
edited_split [] fs low mid high bytes out i j h = edited_from fs low mid high bytes out h i j
edited_split (e ∷ es) fs low mid high bytes out i j h = grind (arith, edited_split es fs (e.at + 2) mid high bytes out i.1 j h.2)

pub inside_from : (es : List Edit) (low mid high : ℕ) → low ≤ mid → AreInside es mid high → AreInside es low high
inside_from [] low mid high l h = omega arith
inside_from (e ∷ es) low mid high l h = let a = h.0 in (omega arith, h.1)

pub inside_append : (es fs : List Edit) (low mid high : ℕ) → AreInside es low mid → AreInside fs mid high → AreInside (es ++ fs) low high
inside_append [] [] low mid high i j = omega (arith, i, j)
inside_append [] (f ∷ fs) low mid high i j = let a = j.0 in (omega (arith, i, a), j.1)
inside_append (e ∷ es) fs low mid high i j = (i.0, inside_append es fs (e.at + 2) mid high i.1 j)

pub fit_append : (es fs : List Edit) → FitBytes es → FitBytes fs → FitBytes (es ++ fs)
fit_append [] fs i j = j
fit_append (e ∷ es) fs i j = (i.0, fit_append es fs i.1 j)

-- several edits and then others, one after the other
pub patched_append : (es fs : List Edit) (bytes : List ℕ) → patched_all (es ++ fs) bytes ≡ patched_all fs (patched_all es bytes)
patched_append [] fs bytes = refl
patched_append (e ∷ es) fs bytes = patched_append es fs (patched e bytes)

-- edits that end before a place leave what stands after it
pub inside_to : (es : List Edit) (low mid high : ℕ) → AreInside es low mid → mid ≤ high → AreInside es low high
inside_to [] low mid high h l = omega arith
inside_to (e ∷ es) low mid high h l = (h.0, inside_to es (e.at + 2) mid high h.1 l)

pub edited_last : (es : List Edit) (low mid high : ℕ) (bytes out : List ℕ) → AreInside es low mid → mid ≤ high → IsEdited es low high bytes out
    → IsEdited es low mid bytes out × AreSame mid high bytes out
edited_last [] low mid high bytes out i l h = (same_part low high low mid bytes out h (omega arith) l, same_part low high mid high bytes out h i (omega arith))
edited_last (e ∷ es) low mid high bytes out i l h = grind (arith, edited_last es (e.at + 2) mid high bytes out i.1 l h.2)
