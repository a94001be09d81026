-- What is known once the offsets of a list were counted one after the other.
use Rattle.std.proofs.Common.{arith}
use Rattle.std.proofs.Common.{◌≡◌, ℕ, Bool, false, eqb, ◌||◌, ◌&&◌, List, [], ◌∷◌}
use Rattle.offset_set.specs.Sets.{is_among, is_repeated}
use Rattle.offset_set.specs.Tallies.{Tallied, none_counted, with_one, with_all, tally_of}

-- what is known of some offsets, and then those of a list
abbrev after : Tallied → List ℕ → Tallied
after t ns = record {
  met = λ offset. t.met offset || is_among ns offset;
  repeated = λ offset. t.repeated offset || ((t.met offset && is_among ns offset) || is_repeated ns offset);
}

same_tally : (s t : Tallied) → s.met ≡ t.met → s.repeated ≡ t.repeated → s ≡ t
same_tally s t e f = λ i. record { met = e i; repeated = f i }

none_after : (r m : Bool) → r ≡ (r || ((m && false) || false))
none_after x m = grind (arith)

pub turned : (a m i : Bool) → ((a || m) || i) ≡ (m || (a || i))
turned x x2 i = grind (arith)

repeated_next : (a m r i s : Bool) → (((a && m) || r) || (((a || m) && i) || s)) ≡ (r || ((m && (a || i)) || ((a && i) || s)))
repeated_next x x2 x22 i s = grind (arith)

counted-after : (ns : List ℕ) (t : Tallied) → with_all t ns ≡ after t ns
unfolding with_one
counted-after [] t = grind (arith, same_tally, none_after)
counted-after (n ∷ ns) t = grind (arith, same_tally, turned, eqb, repeated_next, counted-after ns (with_one t n))

-- the offsets of a list were counted
pub all_counted : (ns : List ℕ) → with_all none_counted ns ≡ tally_of ns
all_counted ns = counted-after ns none_counted
