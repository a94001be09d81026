-- What a test that all opcodes pass says of one.
use Rattle.std.proofs.Common.{◌≡◌, ◌∙◌, ◌<◌, ℕ, Bool, true, false, List, get_or, sym, ap, arith, refl}
use Rattle.std.specs.Prelude.{map, replicate, not, ◌||◌, nat_le}
use Rattle.std.specs.List.{range_with_len}
use Rattle.std.proofs.lemmas.List.{get_or-replicate}
use Rattle.std.proofs.lemmas.List.FromFn.{get_or-map-range_with_len}
use Rattle.std.proofs.lemmas.Bool.Decides.{nat_tests}

pub passed-at : (test : ℕ → Bool) → map test (range_with_len 0 256) ≡ replicate 256 true → (op : ℕ) → op < 256 → test op ≡ true
passed-at test all op h =
    sym (get_or-map-range_with_len test 0 256 op op false h (omega arith))
    ∙ ap (λ (bs : List Bool). get_or bs op false) all ∙ get_or-replicate 256 op true false h

pub or-rest : (a b : Bool) → (not a || b) ≡ true → a ≡ true → b ≡ true
or-rest x b h e = grind (arith)

pub at-op : {X : Type 0} (f g : ℕ → X) → map f (range_with_len 0 256) ≡ map g (range_with_len 0 256) → (op : ℕ) → op < 256 → X → f op ≡ g op
at-op f g e op lt d =
    sym (get_or-map-range_with_len f 0 256 op op d lt (omega arith))
    ∙ ap (λ xs. get_or xs op d) e
    ∙ get_or-map-range_with_len g 0 256 op op d lt (omega arith)

pub by-size : {X : Type 0} (op : ℕ) → (op < 256 → X) → (255 < op → X) → X
by-size {X = X} op small large = go (nat_le op 255) refl
  where
    go : (b : Bool) → nat_le op 255 ≡ b → X
    go true e = small (grind (arith, nat_tests, e))
    go false e = large (grind (arith, nat_tests, e))
