-- The targets of an instruction are gone over one by one.
use Rattle.std.proofs.Common.{◌≡◌, ◌<◌, ◌≤◌, ◌+◌, ℕ, Some, None, List, [], ◌∷◌, length, drop, arith}
use Rattle.std.specs.Prelude.{ℤ, slice_get}
use Rattle.std.proofs.lemmas.Option.{slice_get_within}
use Rattle.jc_decode.specs.declared.insn.Placed.{Placed}
use Rattle.jc_decode.specs.Listing.{targets}
use Rattle.jc_decode.proofs.Elements.{drop-here, drop-past}

-- the number of a target is small
pub target-number : (code : List ℕ) (p : Placed) (n : ℕ) (t : ℤ) → length code ≤ 65535 → length (targets code p) ≤ length code + 1
    → slice_get (targets code p) n ≡ Some t → n < 65536
target-number code p n t short few h = omega (arith, slice_get_within (targets code p) n t h)

pub next-target : (code : List ℕ) (p : Placed) (n : ℕ) (t : ℤ) → slice_get (targets code p) n ≡ Some t
    → drop n (targets code p) ≡ t ∷ drop (n + 1) (targets code p)
next-target code p n t h = drop-here (targets code p) n t h

pub no-target : (code : List ℕ) (p : Placed) (n : ℕ) → slice_get (targets code p) n ≡ None → drop n (targets code p) ≡ []
no-target code p n h = drop-past (targets code p) n h

pub ruleset target_lists = (target-number, next-target, no-target)
