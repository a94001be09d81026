-- The parts that are loaded of a folder are components, so each of them stands in the Load file.
use Rattle.std.proofs.Common.{◌≡◌, ◌≤◌, ◌<◌, ℕ, Bool, true, false, List, Option, Some, None, IsNone}
use Rattle.std.proofs.Common.{refl, ap, ◌∙◌, arith, true≢false, if◌then◌else◌}
use Rattle.std.specs.Prelude.{◌||◌, nat_le, nat_lt, is_some}
use Rattle.std.proofs.lemmas.Bool.{lt-ltb, le-leb}
use Rattle.std.proofs.lemmas.Bool.Decides.{nat_tests}
use Rattle.cap_components.specs.Parts.{Lent, held}
use Rattle.cap_files.specs.Folder.{Folders}
use Rattle.cap_load.specs.Order.{place}
use Rattle.cap_load.specs.Packing.{AreComponents}
use Rattle.cap_write.proofs.Told.{tags_from, has_tag_from}
use Rattle.capcheck_core.specs.Loads.{is_required, is_optional, is_asked, AreParts}
use Rattle.capcheck_core.proofs.Loads.{above_none}
use Rattle.law_package.proofs.Lists.{Each, each_at}
use Rattle.law_stored.specs.PackedIsInstalled.{HoldTheSame}
use Rattle.jc_decode.proofs.PoolIndices.{second-op}

-- ---- the tags that a folder may be asked for have a place

abbrev IsPlaced : ℕ → Type 0
IsPlaced tag = (is_required tag || is_optional tag) ≡ true → is_some (place tag) ≡ true

placed_each : Each IsPlaced (tags_from 1 12)
unfolding place
placed_each = grind (arith, true≢false)

custom_placed : (tag : ℕ) → 128 ≤ tag → tag < 256 → is_some (place tag) ≡ true
unfolding place
custom_placed tag least most = grind (arith, le-leb, lt-ltb)

least_tag : (tag : ℕ) → (is_required tag || is_optional tag) ≡ true → 1 ≤ tag
least_tag tag e = grind (arith, nat_tests, e)

most_tag : (tag : ℕ) → (is_required tag || is_optional tag) ≡ true → nat_le 128 tag ≡ false → tag < 13
most_tag tag e low = grind (arith, nat_tests, e, low)

from_128 : (tag : ℕ) → nat_le 128 tag ≡ true → 128 ≤ tag
from_128 tag e = grind (arith, nat_tests, e)

is_placed : (tag : ℕ) → tag < 256 → IsPlaced tag
is_placed tag most e = by (nat_le 128 tag) refl
  where
    by : (b : Bool) → nat_le 128 tag ≡ b → is_some (place tag) ≡ true
    by true high = custom_placed tag (from_128 tag high) most
    by false low = each_at IsPlaced (tags_from 1 12) tag placed_each (has_tag_from 1 12 tag (least_tag tag e) (omega (arith, most_tag tag e low))) e

-- ---- the parts of a folder

none_either : (b : Bool) (file : Option (List ℕ)) → file ≡ None → (if b then file else None) ≡ file
none_either x file e = grind (arith)

module _ (before : Folders) (dir : List ℕ) (parts : List Lent) (loaded : AreParts before dir parts) where
  below : (tag : ℕ) (bytes : List ℕ) → held parts tag ≡ Some bytes → tag < 256
  below tag bytes e = by (nat_lt tag 256) refl
    where
      under : (n : ℕ) → nat_lt n 256 ≡ true → n < 256
      under n f = grind (arith, nat_tests, f)

      over : (n : ℕ) → nat_lt n 256 ≡ false → 256 ≤ n
      over n f = grind (arith, nat_tests, f)

      by : (b : Bool) → nat_lt tag 256 ≡ b → tag < 256
      by x f = grind (arith, above_none, over)

  held_asked : (tag : ℕ) (bytes : List ℕ) → held parts tag ≡ Some bytes → is_asked parts tag ≡ true
  held_asked tag bytes e = by (is_asked parts tag) refl
    where
      some_none : (file : Option (List ℕ)) → file ≡ Some bytes → IsNone file → ⊥
      some_none None f none = absurd cc
      some_none (Some x) f none = absurd cc

      by : (b : Bool) → is_asked parts tag ≡ b → is_asked parts tag ≡ true
      by true f = f
      by false f = absurd (some_none (held parts tag) e (loaded.unasked tag (below tag bytes e) f))

  held_placed : (tag : ℕ) (bytes : List ℕ) → held parts tag ≡ Some bytes → is_some (place tag) ≡ true
  held_placed tag bytes e = grind (arith, is_placed, below, second-op, held_asked)

  -- the components among them are all of them
  pub chosen_same : (chosen : List Lent) → AreComponents parts chosen → HoldTheSame chosen parts
  chosen_same chosen are tag = are tag ∙ by (held parts tag) refl
    where
      by : (file : Option (List ℕ)) → held parts tag ≡ file → (if is_some (place tag) then held parts tag else None) ≡ held parts tag
      by None e = none_either (is_some (place tag)) (held parts tag) e
      by (Some bytes) e = ap (λ b. if b then held parts tag else None) (held_placed tag bytes e)
