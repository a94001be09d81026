-- The target index of each method of a world.
use Rattle.std.specs.Prelude.{ℕ, ◌+◌, Bool, ◌==◌, ◌&&◌, nat_lt, List, [], ◌∷◌, ◌++◌, Option, None, slice_get}
use Rattle.std.specs.Prelude.{count_by, if◌then◌else◌}
use Rattle.cap_package.specs.PackageRecord.{PackageRecord}
use Rattle.jc_base.specs.declared.record.MethodRec.{MethodRec}
use Rattle.jc_base.specs.Linked.{list_at}
use Rattle.cap_index.specs.Component.{index_in, lists_in}

abbrev pub has_code : MethodRec → Bool
has_code m = nat_lt 0 m.code_len

-- a method with code of a package
abbrev pub is_coded : ℕ → MethodRec → Bool
is_coded k m = m.package == k && has_code m

-- the lists of each package's index, from the package of a number on
abbrev pub lists_after : List MethodRec → ℕ → List PackageRecord → List (List (List ℕ))
lists_after methods k [] = []
lists_after methods k (p ∷ ps) = lists_in (count_by (is_coded k) methods) (index_in p) ∷ lists_after methods (k + 1) ps

abbrev pub package_lists : List PackageRecord → List MethodRec → List (List (List ℕ))
package_lists ps methods = lists_after methods 0 ps

-- the index of a method after these others: as the k-th method with code of its package it has the k-th list
unfoldable pub index_after : List (List (List ℕ)) → List MethodRec → MethodRec → Option (List ℕ)
index_after lists before m = if has_code m then slice_get (list_at lists m.package) (count_by (is_coded m.package) before) else None

-- those of methods that come after others
abbrev pub indexes_after : List (List (List ℕ)) → List MethodRec → List MethodRec → List (Option (List ℕ))
indexes_after lists before [] = []
indexes_after lists before (m ∷ ms) = index_after lists before m ∷ indexes_after lists (before ++ m ∷ []) ms

-- those of all methods
unfoldable pub indexes_of : List PackageRecord → List MethodRec → List (Option (List ℕ))
indexes_of ps methods = indexes_after (package_lists ps methods) [] methods
