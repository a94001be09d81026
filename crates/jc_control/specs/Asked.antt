-- What is asked of the methods of a world, and the first of them that lacks it; the methods of the last package and of the others.
use Rattle.std.specs.Prelude.{◌≡◌, ℕ, ◌+◌, ◌<◌, length}
use Rattle.jc_base.specs.World.{Linked}
use Rattle.jc_control.specs.Method.{Method, IsMethodOf}

-- each method that is asked has it
abbrev pub AllHave : (Method → Type 0) → (Method → Type 0) → Type 0
AllHave Asks Has = (m : Method) → Asks m → Has m

-- the same of those that are numbered below this
abbrev pub AllHaveBelow : (Method → Type 0) → (Method → Type 0) → ℕ → Type 0
AllHaveBelow Asks Has n = (m : Method) → Asks m → m.number < n → Has m

-- one of them lacks it, and all before it have it
pub record IsFirstWithout (Asks : Method → Type 0) (Has : Method → Type 0) (m : Method) : Type 0 where
  pub asked : Asks m
  pub earlier : AllHaveBelow Asks Has m.number
  pub lacks : Has m → ⊥

-- a method with code, of the last package
pub record IsOfLast (w : Linked) (m : Method) : Type 0 where
  pub method : IsMethodOf w m
  pub last : m.rec.package + 1 ≡ length w.infos

-- a method with code, of a library: of a package before the last
pub record IsOfLibrary (w : Linked) (m : Method) : Type 0 where
  pub method : IsMethodOf w m
  pub before : m.rec.package + 1 < length w.infos
