-- Where a text is no listing.
use Rattle.std.specs.Prelude.{◌≡◌, ◌≢◌, ◌⊎◌, ℕ, ◌+◌, List, [], ◌∷◌, ◌++◌, length, ⊤}
use Rattle.cap_listing.specs.declared.method.ListedMethod.{ListedMethod}
use Rattle.cap_listing.specs.Text.{Lists, Begins}
use Rattle.cap_listing.specs.Words.{HasNone, joined}
use Rattle.cap_listing.specs.Reading.{State, Next}

abbrev pub HasNoFeed : List ℕ → Type 0
HasNoFeed = HasNone 10

abbrev pub AreFree : List (List ℕ) → Type 0
AreFree [] = ⊤
AreFree (l ∷ ls) = HasNoFeed l × AreFree ls

-- lines, each ended by a line feed
abbrev pub fed : List (List ℕ) → List ℕ
fed [] = []
fed (l ∷ ls) = l ++ 10 ∷ fed ls

-- the rest of a text begins with a line, with which the text before it begins no listing
pub record IsBadLine (before rest : List ℕ) : Type 0 where
  pub bad : List ℕ
  pub after : List ℕ
  pub is : rest ≡ bad ++ 10 ∷ after
  pub free : HasNoFeed bad
  pub none : Begins (before ++ (bad ++ 10 ∷ [])) → ⊥

-- the rest has no whole line, and with it the text is no listing
pub record IsCutShort (before rest : List ℕ) : Type 0 where
  pub free : HasNoFeed rest
  pub none : (ms : List ListedMethod) → Lists ms (before ++ rest) → ⊥

-- the text is no listing from this line on, counted from 1: the lines before it begin one, and with it they don't, or it is
-- not whole, or it is missing
pub record IsNotListing (text : List ℕ) (number : ℕ) : Type 0 where
  pub before : List (List ℕ)
  pub rest : List ℕ
  pub whole : text ≡ fed before ++ rest
  pub free : AreFree before
  pub count : number ≡ length before + 1
  pub begun : Begins (fed before)
  pub here : IsBadLine (fed before) rest ⊎ IsCutShort (fed before) rest

-- ---- as a line is read

-- a line, without its line feed, that may come
pub record IsReadLine (st : State) (bytes : List ℕ) (after : State) : Type 0 where
  pub words : List (List ℕ)
  pub next : Next st words after
  pub is : bytes ≡ joined words

-- one that may not
abbrev pub IsNoLine : State → List ℕ → Type 0
IsNoLine st bytes = (words : List (List ℕ)) (after : State) → Next st words after → bytes ≢ joined words
