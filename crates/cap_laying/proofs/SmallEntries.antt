-- Entries of a handler table whose numbers their items hold.
use Rattle.std.proofs.Common.{◌≡◌, ◌<◌, ◌+◌, ℕ, suc, arith, List, [], ◌∷◌, ◌++◌, length, drop, get_or, Option}
use Rattle.std.proofs.Math.Seq.{drop-cons}
use Rattle.cap_method.specs.declared.read_methods.HandlerInfo.{HandlerInfo}
use Rattle.cap_renewal.specs.declared.new_methods.NewMethod.{NewMethod}
use Rattle.cap_renewal.specs.NewMethods.{to}
use Rattle.cap_laying.specs.declared.member.WrittenMember.{WrittenMember}
use Rattle.cap_laying.specs.Blocks.{entries_of_blocks}
use Rattle.cap_laying.specs.HandlerTable.{entries_at}
use Rattle.cap_laying.specs.Member.{handlers_of, lead_size}
use Rattle.cap_laying.specs.MethodInfo.{AreSmallEntries}

small_both : (xs ys : List HandlerInfo) → AreSmallEntries xs → AreSmallEntries ys → AreSmallEntries (xs ++ ys)
small_both [] ys a b = b
small_both (x ∷ xs) ys a b = (a.0, small_both xs ys a.1 b)

-- with the entries of the first of some blocks
pub small_first : (news : List (Option NewMethod)) (bs : List WrittenMember) (i at : ℕ) (b : WrittenMember) → i < length bs → b ≡ get_or bs i b
    → at ≡ to news b.offset → AreSmallEntries (entries_at (at + lead_size b.body) (handlers_of b.body))
    → AreSmallEntries (entries_of_blocks news (drop (i + 1) bs)) → AreSmallEntries (entries_of_blocks news (drop i bs))
small_first news bs i at b lt is e here rest = grind (arith, suc, drop, drop-cons, small_both)
