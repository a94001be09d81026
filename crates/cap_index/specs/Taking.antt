-- Taking the index of one method after the other from the lists that are left of each package.
use Rattle.std.specs.Prelude.{◌≡◌, ℕ, List, drop, length, Option, None, slice_get, if◌then◌else◌}
use Rattle.jc_base.specs.declared.record.MethodRec.{MethodRec}
use Rattle.jc_base.specs.Linked.{list_at}
use Rattle.cap_index.specs.Indexes.{has_code, is_coded}

-- the lists that are left, by package
abbrev pub ListsLeft : Type 0
ListsLeft = List (List (List ℕ))

-- a method with code takes the first list that is left of its package
abbrev pub list_taken : ListsLeft → MethodRec → Option (List ℕ)
list_taken lists m = if has_code m then slice_get (list_at lists m.package) 0 else None

pub record IsTakenFrom (before : ListsLeft) (m : MethodRec) (index : Option (List ℕ)) (after : ListsLeft) : Type 0 where
  pub is : index ≡ list_taken before m
  pub size : length after ≡ length before
  pub left : (k : ℕ)
      → list_at after k ≡ (if is_coded k m then drop 1 (list_at before k) else list_at before k)
