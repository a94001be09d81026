-- The lengths of the memory that a run is lent.
use Rattle.std.specs.Prelude.{◌≡◌, ℕ, List, length, sum_by}
use Rattle.jc_base.specs.Cell.{width}
use Rattle.jc_base.specs.World.{Linked}

-- how many cells the static fields of a world have
abbrev pub static_cells : Linked → ℕ
static_cells w = sum_by (λ f. width f.kind) w.statics

-- 64 frames of 513 words; 12,288 words of headers and 32,768 cells of objects; a word for each static cell
pub record AreSized (w : Linked) (ram heap statics : List ℕ) : Type 0 where
  pub ram_length : length ram ≡ 32832
  pub heap_length : length heap ≡ 45056
  pub statics_length : length statics ≡ static_cells w
