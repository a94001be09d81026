-- Worlds to which packages are added: the same packages and roles, and more packages after them (JCVM 2.2, sections 4.3 and 6.6: a
-- package names what it imports, and never what imports it).
use Rattle.std.specs.Prelude.{◌≡◌, ℕ, ◌≤◌, List, length, take, IfSome, slice_get}
use Rattle.jc_base.specs.World.{Linked}

-- the first elements of the second list are those of the first one
abbrev pub Begins : {A : Type 0} → List A → List A → Type 0
Begins xs ys = take (length xs) ys ≡ xs

-- the second world has what the first one has, by the same numbers, and more after it
pub record HasMore (v w : Linked) : Type 0 where
  pub infos : Begins v.infos w.infos
  pub pools : Begins v.pools w.pools
  pub classes : Begins v.classes.records w.classes.records
  pub roles : w.classes.roles ≡ v.classes.roles
  pub methods : Begins v.methods w.methods
  pub statics : Begins v.statics w.statics
  pub arrays : Begins v.arrays w.arrays
  pub indexes : Begins v.indexes w.indexes
  -- the methods that are added are of classes and of packages that are added
  pub apart : (n : ℕ) → length v.methods ≤ n → IfSome (slice_get w.methods n) (λ m. length v.classes.records ≤ m.class)
  pub later : (n : ℕ) → length v.methods ≤ n → IfSome (slice_get w.methods n) (λ m. length v.infos ≤ m.«package»)
