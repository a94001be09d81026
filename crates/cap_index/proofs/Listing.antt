-- The indexes of methods, one after the other.
use Rattle.std.proofs.Common.{arith}
use Rattle.std.proofs.Common.{◌≡◌, ℕ, suc, ◌+◌, ◌<◌, List, [], ◌∷◌, ◌++◌, length, take, drop, get_or, Option}
use Rattle.std.proofs.Common.{Some, refl, sym, ap, ◌∙◌, append_assoc}
use Rattle.std.specs.Prelude.{slice_get, count_by}
use Rattle.std.proofs.lemmas.Option.{slice_get-get_or}
use Rattle.cap_bytes.specs.declared.cursor.Cursor.{Cursor}
use Rattle.cap_bytes.specs.Grammar.{give}
use Rattle.cap_bytes.specs.Taking.{Gives, gives, given}
use Rattle.cap_package.specs.PackageRecord.{PackageRecord}
use Rattle.cap_package.proofs.Given.{drop_here}
use Rattle.jc_base.specs.declared.record.MethodRec.{MethodRec}
use Rattle.cap_index.specs.Component.{index_in, lists_in}
use Rattle.cap_index.specs.Indexes.{is_coded, lists_after, package_lists, index_after, indexes_after, indexes_of}
use Rattle.jc_decode.proofs.Elements.{next-take}

pub gives_no_list : (now : Cursor) → Gives (give {X = List (List ℕ)} []) now
unfolding gives
gives_no_list now = refl

pub no_list : (now : Cursor) → given {X = List (List ℕ)} [] (give []) now ≡ []
unfolding given
no_list now = refl

after-each : (lists : List (List (List ℕ))) (before ms : List MethodRec) → length (indexes_after lists before ms) ≡ length ms
after-each lists before [] = refl
after-each lists before (m ∷ ms) = ap suc (after-each lists (before ++ m ∷ []) ms)

-- each method has one
pub indexes-each : (ps : List PackageRecord) (ms : List MethodRec) → length (indexes_of ps ms) ≡ length ms
unfolding indexes_of
indexes-each ps ms = after-each (package_lists ps ms) [] ms

-- ---- one after the other

pub lists-count : (ms : List MethodRec) (k : ℕ) (ps : List PackageRecord) → length (lists_after ms k ps) ≡ length ps
lists-count ms k [] = refl
lists-count ms k (p ∷ ps) = ap suc (lists-count ms (k + 1) ps)

-- an item of a slice that a loop has come to
pub item-there : {A : Type 0} (xs ys : List A) (n : ℕ) (x : A) → ys ≡ xs → n < length ys → x ≡ get_or ys n x → slice_get xs n ≡ Some x
item-there xs ys n x same lt is = ap (λ zs. slice_get zs n) (sym same) ∙ slice_get-get_or ys n x lt ∙ ap Some (sym is)

-- the lists of one package more
pub lists-more : (ms : List MethodRec) (xs ys all : List (List (List ℕ))) (ps : List PackageRecord) (n : ℕ) (p : PackageRecord) (lists : List (List ℕ))
    → slice_get ps n ≡ Some p → lists ≡ lists_in (count_by (is_coded n) ms) (index_in p) → ys ≡ xs ++ lists ∷ []
    → xs ++ lists_after ms n (drop n ps) ≡ all → ys ++ lists_after ms (n + 1) (drop (n + 1) ps) ≡ all
lists-more ms xs ys all ps n p lists e is more so_far = grind (arith, drop, drop_here, append_assoc)

-- the index of one method more
pub indexes-more : (lists : List (List (List ℕ))) (xs ys all : List (Option (List ℕ))) (ms : List MethodRec) (n : ℕ) (m : MethodRec)
    (index : Option (List ℕ))
    → slice_get ms n ≡ Some m → index ≡ index_after lists (take n ms) m → ys ≡ xs ++ index ∷ []
    → xs ++ indexes_after lists (take n ms) (drop n ms) ≡ all → ys ++ indexes_after lists (take (n + 1) ms) (drop (n + 1) ms) ≡ all
indexes-more lists xs ys all ms n m index e is more so_far = grind (arith, take, drop, drop_here, next-take, append_assoc)
