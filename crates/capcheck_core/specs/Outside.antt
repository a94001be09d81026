-- What the call is given and may change: folders and the memory of a card, as they are seen from outside.
use Rattle.std.specs.Prelude.{◌≡◌, ℕ, List}
use Rattle.cap_files.specs.Folder.{Folders}

-- the words of the card's three memories
pub record CardWords : Type 0 where
  pub ram : List ℕ
  pub heap : List ℕ
  pub statics : List ℕ

pub record Outside : Type 0 where
  pub folders : Folders
  pub card : CardWords

abbrev pub card_words : List ℕ → List ℕ → List ℕ → CardWords
card_words ram heap statics = record { ram = ram; heap = heap; statics = statics }

abbrev pub outside : Folders → CardWords → Outside
outside folders card = record { folders = folders; card = card }

-- nothing is stored, no load fails, and the card's memory is as before
pub record Untouched (before after : Outside) : Type 0 where
  pub folders : after.folders ≡ before.folders
  pub card : after.card ≡ before.card
