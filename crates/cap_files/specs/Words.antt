-- The words of a command: a list of texts that one buffer holds.
use Rattle.std.specs.Prelude.{ℕ, ◌≤◌, List, map, slice_range, All, IsCharBoundary}
use Rattle.cap_files.specs.declared.words.Span.{Span}

-- the text that stands at a span of the buffer
abbrev pub text_at : List ℕ → Span → List ℕ
text_at buffer span = slice_range buffer span.start span.end

-- the texts at the spans, in order
abbrev pub texts : List ℕ → List Span → List (List ℕ)
texts buffer spans = map (text_at buffer) spans

-- a span from one character of the buffer to another
pub record IsText (buffer : List ℕ) (span : Span) : Type 0 where
  pub rises : span.start ≤ span.end
  pub begins : IsCharBoundary buffer span.start
  pub ends : IsCharBoundary buffer span.end

-- each span is one
abbrev pub AreTexts : List ℕ → List Span → Type 0
AreTexts buffer spans = All (IsText buffer) spans
