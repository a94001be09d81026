-- Worked cases: where the parts of packages are, and the order in which a Load file and the roles are stored.
use Rattle.std.specs.Prelude.{◌≡◌, ℕ, List, [], ◌∷◌, Some, None, refl}
use Rattle.capcheck_core.specs.declared.load.Source.{Source}
use Rattle.capcheck_core.specs.Pack.{load_stores}
use Rattle.capcheck_core.specs.Place.{in_components, places}

-- one folder is the last
one_folder : (last : Source) (dir : List ℕ) → places last (dir ∷ []) ≡ record { dir = dir; source = last } ∷ []
one_folder last dir = refl

-- of several, each before the last has components
three_folders : (last : Source) (a b c : List ℕ) → places last (a ∷ b ∷ c ∷ [])
    ≡ in_components a ∷ in_components b ∷ record { dir = c; source = last } ∷ []
three_folders last a b c = refl

-- the roles come behind the Load file
roles_behind : (stream roles : List ℕ) → load_stores stream (Some roles)
    ≡ record { part = 13; bytes = stream } ∷ record { part = 0; bytes = roles } ∷ []
roles_behind stream roles = refl

no_roles : (stream : List ℕ) → load_stores stream None ≡ record { part = 13; bytes = stream } ∷ []
no_roles stream = refl
