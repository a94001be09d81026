-- Methods that are written one after the other.
use Rattle.std.proofs.Common.{◌≡◌, ◌≤◌, ◌<◌, ◌+◌, ℕ, zero, suc, List, [], ◌∷◌, ◌++◌, length, drop, Option, Some, None}
use Rattle.std.proofs.Common.{◌∙◌, arith, append_assoc}
use Rattle.std.specs.Prelude.{slice_index_or}
use Rattle.cap_renewal.specs.declared.new_methods.NewMethod.{NewMethod}
use Rattle.cap_laying.specs.declared.member.WrittenMember.{WrittenMember}
use Rattle.cap_laying.specs.Member.{body_size, methods_end_from, size_if}
use Rattle.cap_laying.specs.NewPlaces.{new_if, news_from}

pub end_grows : (at : ℕ) (ms : List (Option WrittenMember)) → at ≤ methods_end_from at ms
end_grows at [] = omega arith
end_grows at (m ∷ ms) = let r = end_grows (at + size_if m) ms in omega arith

-- one more of them
pub one_new : (indexes : List ℕ) (at : ℕ) (m : Option WrittenMember) (ms : List (Option WrittenMember)) (now new whole : List (Option NewMethod))
    → new ≡ now ++ new_if indexes at m ∷ []
    → now ++ news_from indexes at (m ∷ ms) ≡ whole → new ++ news_from indexes (at + size_if m) ms ≡ whole
one_new indexes at m ms now new whole e h = rw e (append_assoc now (new_if indexes at m ∷ []) (news_from indexes (at + size_if m) ms) ∙ h)

-- what stands on the way is before the end
pub end_slot : (at : ℕ) (table : List (Option WrittenMember)) (n : ℕ) (d : Option WrittenMember) → n < length table
    → at + size_if (slice_index_or table n d) ≤ methods_end_from at (drop n table)
end_slot at [] n d lt = absurd (omega arith)
end_slot at (s ∷ ms) zero d lt = end_grows (at + size_if s) ms
end_slot at (s ∷ ms) (suc n) d lt = end_slot at ms n d (omega arith)

-- a method on the way is before the end
pub end_passes : (at : ℕ) (table : List (Option WrittenMember)) (n : ℕ) (m : WrittenMember) → slice_index_or table n None ≡ Some m
    → at + body_size m.body ≤ methods_end_from at (drop n table)
end_passes at [] n m e = absurd (cc)
end_passes at (None ∷ ms) zero m e = absurd (cc)
end_passes at (Some k ∷ ms) zero m e = grind (arith, end_grows)
end_passes at (s ∷ ms) (suc n) m e = end_passes at ms n m e
