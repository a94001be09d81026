-- A relation between the vertices below a number, told by a graph whose edges may go over further vertices, the helpers.
use Rattle.std.specs.Prelude.{◌≡◌, ℕ, ◌≤◌, ◌<◌, List}
use Rattle.digraph.specs.Graph.{Edge}

-- from a vertex over helpers alone to a vertex below the number
pub data Via (g : List (List ℕ)) (count : ℕ) : ℕ → ℕ → Type 0 where
  via_edge : {v n : ℕ} → Edge g v n → n < count → Via g count v n
  via_helper : {v h n : ℕ} → Edge g v h → count ≤ h → Via g count h n → Via g count v n

-- related are the vertices below the number between which there is such a way; and no way over helpers alone comes again, since its
-- edges raise some rank
pub record Tells (g : List (List ℕ)) (count : ℕ) (rank : ℕ → ℕ) (R : ℕ → ℕ → Type 0) : Type 0 where
  pub told : (m n : ℕ) → m < count → R m n → Via g count m n
  pub only : (m n : ℕ) → m < count → Via g count m n → R m n
  pub up : (h k : ℕ) → count ≤ h → count ≤ k → Edge g h k → rank h < rank k

-- helpers measure nothing
abbrev pub MeasureNothing : (ℕ → ℕ) → ℕ → Type 0
MeasureNothing measure count = (h : ℕ) → count ≤ h → measure h ≡ 0
