-- The memory of tagged cells: what holds of its layout.
use Rattle.std.specs.Prelude.{◌≡◌, ◌≤◌, ℕ, List, length}
use Rattle.vm_store.specs.declared.cell.ObjectHeader.{ObjectHeader}
use Rattle.vm_store.specs.Layout.{Follow}

-- so many frames of which some are live, the headers in memory for so many, and so many cells of
-- which some are used
pub record IsInOrder (frames live : ℕ) (headers : List ObjectHeader) (capacity cells used : ℕ) : Type 0 where
  pub all_frames : frames ≡ 64
  pub some_live : live ≤ 64
  pub objects : length headers ≤ 4096
  pub memory : 4096 ≤ capacity
  pub all_cells : cells ≡ 32768
  pub some_used : used ≤ 32768
  pub laid : Follow 0 headers used
