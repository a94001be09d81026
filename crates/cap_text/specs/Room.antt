-- A text in memory that was taken before it is written.
use Rattle.std.specs.Prelude.{◌≡◌, ℕ, ◌+◌, ◌≤◌, List, [], ◌++◌, length}

-- the text, its length, and how long it may become
pub record Roomed : Type 0 where
  pub text : List ℕ
  pub used : ℕ
  pub whole : ℕ

-- so many bytes more fit
abbrev pub HasRoom : Roomed → ℕ → Type 0
HasRoom r more = r.used + more ≤ r.whole

-- nothing is written yet
pub record IsEmpty (r : Roomed) : Type 0 where
  pub text : r.text ≡ []
  pub used : r.used ≡ 0

-- the bytes are written after the text, and the memory is no smaller
pub record Writes (before after : Roomed) (bytes : List ℕ) : Type 0 where
  pub text : after.text ≡ before.text ++ bytes
  pub used : after.used ≡ before.used + length bytes
  pub whole : before.whole ≤ after.whole

-- so many bytes at most were written
abbrev pub WritesAtMost : Roomed → Roomed → ℕ → Type 0
WritesAtMost before after most = after.used ≤ before.used + most
