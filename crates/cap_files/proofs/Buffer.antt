-- The texts at spans of a buffer, where a text is put after what stands there.
use Rattle.std.proofs.Common.{◌≡◌, ℕ, zero, suc, ◌<◌, ◌≤◌, List, [], ◌∷◌, ◌++◌, length, drop, slice_index_or, refl, sym}
use Rattle.std.proofs.Common.{subst, arith, length-append, length-drop, inl, inr}
use Rattle.std.proofs.Math.Nat.{eq-or-lt_of_le}
use Rattle.std.proofs.Math.ListN.{get_or-append}
use Rattle.std.proofs.Math.Seq.{drop-append_seam}
use Rattle.std.proofs.lemmas.List.{take-append-le, drop-append-le, map-append}
use Rattle.std.proofs.lemmas.List.Elements.{All-append}
use Rattle.std.proofs.lemmas.Str.{IsCharBoundary-at_seam, IsCharBoundary-end}
use Rattle.std.proofs.lemmas.Grind.{common_steps}
use Rattle.std.specs.Str.{IsCharBoundary, IsUtf8}
use Rattle.cap_files.specs.declared.words.Span.{Span}
use Rattle.cap_files.specs.Words.{text_at, texts, IsText, AreTexts}

boundary_before : (xs ys : List ℕ) (i : ℕ) → IsUtf8 ys → IsCharBoundary xs i → IsCharBoundary (xs ++ ys) i
boundary_before xs ys i text here =
    elim (eq-or-lt_of_le here.0) [
      | inl e ↦ subst (IsCharBoundary (xs ++ ys)) (sym e) (IsCharBoundary-at_seam (xs ++ ys) xs ys refl text)
      | inr below ↦ (
        omega (arith, length-append xs ys),
        λ _ high. let same = get_or-append xs ys 0 i below in subst (λ b. 192 ≤ b) (sym same) (here.1 below (subst (λ b. 128 ≤ b) same high)),
      )
    ]

text_before : (xs ys : List ℕ) (s : Span) → IsText xs s → text_at (xs ++ ys) s ≡ text_at xs s
text_before xs ys s here = grind (arith, length, drop, length-drop, drop-append-le, take-append-le)

is_text_before : (xs ys : List ℕ) (s : Span) → IsUtf8 ys → IsText xs s → IsText (xs ++ ys) s
is_text_before xs ys s text here = grind (arith, boundary_before xs ys s.start text here.begins, boundary_before xs ys s.end text here.ends)

pub texts_before : (xs ys : List ℕ) (spans : List Span) → AreTexts xs spans → texts (xs ++ ys) spans ≡ texts xs spans
texts_before xs ys [] all = refl
texts_before xs ys (s ∷ spans) all =
    let here = text_before xs ys s (all 0 s (omega arith)) in
    let rest = texts_before xs ys spans (λ k d l. all (suc k) d (omega arith)) in
    cc

pub are_texts_before : (xs ys : List ℕ) (spans : List Span) → IsUtf8 ys → AreTexts xs spans → AreTexts (xs ++ ys) spans
are_texts_before xs ys spans text all k d l = is_text_before xs ys _ text (all k d l)

-- a span after what stood there
pub farther : List ℕ → List ℕ → Span
farther xs ys = record { start = length xs; end = length (xs ++ ys) }

pub is_text_after : (xs ys : List ℕ) → IsUtf8 ys → IsText (xs ++ ys) (record { start = length xs; end = length (xs ++ ys) })
is_text_after xs ys text = record {
  rises = omega (arith, length-append xs ys);
  begins = IsCharBoundary-at_seam (xs ++ ys) xs ys refl text;
  ends = IsCharBoundary-end (xs ++ ys);
}

pub text_after : (xs ys : List ℕ) → text_at (xs ++ ys) (record { start = length xs; end = length (xs ++ ys) }) ≡ ys
text_after xs ys = rw (drop-append_seam xs ys) (grind (arith, common_steps, length-append xs ys))

pub texts_pushed : (xs ys : List ℕ) (spans : List Span) → AreTexts xs spans
    → texts (xs ++ ys) (spans ++ record { start = length xs; end = length (xs ++ ys) } ∷ []) ≡ texts xs spans ++ ys ∷ []
texts_pushed xs ys spans all = rw (map-append, texts_before xs ys spans all, text_after xs ys) refl

pub are_texts_pushed : (xs ys : List ℕ) (spans : List Span) → IsUtf8 ys → AreTexts xs spans
    → AreTexts (xs ++ ys) (spans ++ record { start = length xs; end = length (xs ++ ys) } ∷ [])
are_texts_pushed xs ys spans text all =
    All-append (IsText (xs ++ ys)) spans _ (are_texts_before xs ys spans text all)
    (λ k d l. elim k as (λ k. k < 1 → IsText (xs ++ ys) (slice_index_or (record { start = length xs; end = length (xs ++ ys) } ∷ []) k d)) [
      | zero ↦ λ _. is_text_after xs ys text
      | suc k ↦ λ l. absurd (omega arith)
    ] l)
