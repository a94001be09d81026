-- The info that is written stands for its items.
use Rattle.std.specs.Prelude.{◌≡◌, ◌<◌, ℕ, Bool, List, [], ◌∷◌, length, IsTrue}
use Rattle.cap_bytes.specs.declared.fault.Format.{Format}
use Rattle.cap_bytes.specs.Grammar.{is_aid_length}
use Rattle.cap_bytes.specs.Spelling.{Stands}
use Rattle.cap_frame.specs.DirectoryFormat.{Custom, DirectoryItems, size_count, is_new_tag, and_that_of, none, directory_info}
use Rattle.cap_laying.specs.DirectoryBytes.{directory_bytes}

abbrev pub AreSmall : List ℕ → Type 0
AreSmall [] = Unit {0}
AreSmall (n ∷ ns) = (n < 65536) × AreSmall ns

-- each tag is from 128 on and stands once, each identifier has 5 to 16 bytes
abbrev pub AreCustoms : (ℕ → Bool) → List Custom → Type 0
AreCustoms named [] = Unit {0}
AreCustoms named (c ∷ cs) =
    IsTrue (is_new_tag named c.tag) × (c.tag < 256) × (c.size < 65536) × IsTrue (is_aid_length (length c.aid))
    × AreCustoms (and_that_of named c) cs

pub record MayStand (format : Format) (d : DirectoryItems) : Type 0 where
  pub counted : length d.sizes ≡ size_count format
  pub sizes : AreSmall d.sizes
  pub image_size : d.image_size < 65536
  pub array_init_count : d.array_init_count < 65536
  pub array_init_size : d.array_init_size < 65536
  pub import_count : d.import_count < 256
  pub applet_count : d.applet_count < 256
  pub few : length d.customs < 256
  pub customs : AreCustoms none d.customs

abbrev pub DirectoriesStand : Type 0
DirectoriesStand = (format : Format) (d : DirectoryItems) → MayStand format d → Stands (directory_info format) (directory_bytes d) d
