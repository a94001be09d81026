-- The room for the path of a part's file.
use Rattle.std.specs.Prelude.{ℕ, List}

-- the path that was made last, and how long a folder's word may be
pub record PathRoom : Type 0 where
  pub text : List ℕ
  pub longest : ℕ
