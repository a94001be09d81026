-- The entries of the handler table that have a home, as the claims of methods tell it.
use Rattle.std.proofs.Common.{◌≡◌, ℕ, ◌+◌, ◌<◌, ◌≤◌, Bool, true, false, cond, eqb, leb, ◌&&◌, ◌||◌, not, List, [], ◌∷◌}
use Rattle.std.proofs.Common.{length, fold, filter, Option, None, refl, ap, ◌∙◌, inl, inr, arith, eq-eqb, ne_eqb, leb-true, le-ltb}
use Rattle.std.proofs.lemmas.Bool.{cond-false}
use Rattle.offset_set.specs.Tallies.{with_one}
use Rattle.cap_method.specs.declared.read_methods.HandlerInfo.{HandlerInfo}
use Rattle.cap_desc.specs.DescriptorFormat.{MethodDescriptor}
use Rattle.cap_components.specs.declared.fault.PackFault.{PackFault}
use Rattle.cap_components.specs.Order.{lesser, least_from, least_of}
use Rattle.cap_package.specs.HandlerChecks.{claims, owners, is_within, has_home, handler_fault, numbered_fault}
use Rattle.std.specs.List.{enumerate_from}
use Rattle.cap_package.specs.HandlerClaims.{Claimed, none_claimed, claim_one, claim_table, home_fault}
use Rattle.cap_package.proofs.Neighbours.{Has}

-- ---- one entry

-- what is known of one entry: that it is claimed, that it is claimed twice, that it strays
record Entry : Type 0 where
  met : Bool
  twice : Bool
  stray : Bool

abbrev entry : Claimed → ℕ → Entry
entry c n = record { met = c.owned.met n; twice = c.owned.repeated n; stray = c.strays n }

-- a method claims it or not, in whose code it lies or not
abbrev after : Bool → Bool → Entry → Entry
after true within e = record { met = true; twice = e.met || e.twice; stray = not within || e.stray }
after false within e = e

abbrev is_good : Entry → Bool
is_good e = (e.met && not e.twice) && not e.stray

here_by : (c : Claimed) (n : ℕ) (claimed within : Bool) →
    entry (cond claimed (record { owned = with_one c.owned n; strays = cond within c.strays (λ o. eqb n o || c.strays o) }) c) n
    ≡ after claimed within (entry c n)
unfolding with_one
here_by c n x within = grind (arith, eq-eqb)

here : (info : List ℕ) (m : MethodDescriptor) (c : Claimed) (n : ℕ) (h : HandlerInfo) →
    entry (claim_one info m c (n, h)) n ≡ after (claims n m) (is_within info h m) (entry c n)
unfolding claim_one
here info m c n h = here_by c n (claims n m) (is_within info h m)

there_by : (c : Claimed) (k n : ℕ) (claimed within : Bool) → eqb k n ≡ false →
    entry (cond claimed (record { owned = with_one c.owned k; strays = cond within c.strays (λ o. eqb k o || c.strays o) }) c) n
    ≡ entry c n
unfolding with_one
there_by c k n x within e = grind (arith)

there : (info : List ℕ) (m : MethodDescriptor) (c : Claimed) (k n : ℕ) (h : HandlerInfo) → (k ≡ n → ⊥) → entry (claim_one info m c (k, h)) n
    ≡ entry c n
unfolding claim_one
there info m c k n h apart = there_by c k n (claims k m) (is_within info h m) (ne_eqb k n apart)

-- ---- a table

-- entries from a number on leave those before it
before : (info : List ℕ) (m : MethodDescriptor) (c : Claimed) (k n : ℕ) (hs : List HandlerInfo) → n < k →
    entry (claim_table info (enumerate_from k hs) c m) n ≡ entry c n
before info m c k n [] lt = refl
before info m c k n (h ∷ hs) lt =
    before info m (claim_one info m c (k, h)) (k + 1) n hs (omega arith) ∙ there info m c k n h (λ same. omega (arith, same, lt))

from_on : (n k : ℕ) (h : HandlerInfo) (hs : List HandlerInfo) → Has {X = ℕ × HandlerInfo} (n, h) (enumerate_from k hs) → k ≤ n
from_on n k h [] has = absurd has
from_on n k h (g ∷ hs) (inl same) = grind (arith)
from_on n k h (g ∷ hs) (inr has) = grind (arith, from_on n (k + 1) h hs has)

claimed_table : (info : List ℕ) (m : MethodDescriptor) (c : Claimed) (n k : ℕ) (h : HandlerInfo) (hs : List HandlerInfo) →
    Has {X = ℕ × HandlerInfo} (n, h) (enumerate_from k hs) →
    entry (claim_table info (enumerate_from k hs) c m) n ≡ after (claims n m) (is_within info h m) (entry c n)
claimed_table info m c n k h [] has = absurd has
claimed_table info m c n k h (g ∷ hs) (inl same) = grind (arith, before, here)
claimed_table info m c n k h (g ∷ hs) (inr has) =
    let le = from_on n (k + 1) h hs has in
    claimed_table info m (claim_one info m c (k, g)) n (k + 1) h hs has
    ∙ ap (after (claims n m) (is_within info h m)) (there info m c k n g (λ same. omega (arith, same, le)))

-- ---- methods

abbrev afters : List ℕ → ℕ → HandlerInfo → Entry → List MethodDescriptor → Entry
afters info n h = fold (λ e m. after (claims n m) (is_within info h m) e)

claimed_all : (info : List ℕ) (ms : List MethodDescriptor) (c : Claimed) (n : ℕ) (h : HandlerInfo) (hs : List HandlerInfo) →
    Has {X = ℕ × HandlerInfo} (n, h) (enumerate_from 0 hs) →
    entry (fold (claim_table info (enumerate_from 0 hs)) c ms) n ≡ afters info n h (entry c n) ms
claimed_all info [] c n h hs has = refl
claimed_all info (m ∷ ms) c n h hs has =
    claimed_all info ms (claim_table info (enumerate_from 0 hs) c m) n h hs has
    ∙ ap (λ e. afters info n h e ms) (claimed_table info m c n 0 h hs has)

abbrev is_none : {X : Type 0} → List X → Bool
is_none [] = true
is_none (x ∷ xs) = false

module _ (info : List ℕ) (n : ℕ) (h : HandlerInfo) where
  abbrev test : MethodDescriptor → Bool
  test m = claims n m

  two_owners : (ms : List MethodDescriptor) (stray : Bool) → is_good (afters info n h (record { met = true; twice = true; stray = stray })
      ms) ≡ false
  two_owners [] stray = refl
  two_owners (m ∷ ms) stray = by (claims n m) (is_within info h m) (two_owners ms)
    where
      by : (b w : Bool) →
          ((t : Bool) → is_good (afters info n h (record { met = true; twice = true; stray = t }) ms) ≡ false) →
          is_good (afters info n h (after b w (record { met = true; twice = true; stray = stray })) ms) ≡ false
      by true w known = known (not w || stray)
      by false w known = known stray

  one_owner : (ms : List MethodDescriptor) (stray : Bool) →
      is_good (afters info n h (record { met = true; twice = false; stray = stray }) ms) ≡ (is_none (filter test ms) && not stray)
  one_owner [] stray = refl
  one_owner (m ∷ ms) stray = by (claims n m) (is_within info h m) (one_owner ms stray)
    where
      by : (b w : Bool) →
          is_good (afters info n h (record { met = true; twice = false; stray = stray }) ms)
          ≡ (is_none (filter test ms) && not stray) →
          is_good (afters info n h (after b w (record { met = true; twice = false; stray = stray })) ms)
          ≡ (is_none (cond b (m ∷ filter test ms) (filter test ms)) && not stray)
      by true w known = two_owners ms (not w || stray)
      by false w known = known

  home_by : (m : MethodDescriptor) (rest : List MethodDescriptor) (w : Bool) → is_within info h m ≡ w →
      (is_none rest && not (not w || false)) ≡ has_home info h (m ∷ rest)
  home_by m x w e = grind (arith)

  no_owner : (ms : List MethodDescriptor) →
      is_good (afters info n h (record { met = false; twice = false; stray = false }) ms) ≡ has_home info h (filter test ms)
  no_owner [] = refl
  no_owner (m ∷ ms) = by (claims n m) (is_within info h m) refl (no_owner ms)
    where
      by : (b w : Bool) → is_within info h m ≡ w →
          is_good (afters info n h (record { met = false; twice = false; stray = false }) ms) ≡ has_home info h (filter test ms) →
          is_good (afters info n h (after b w (record { met = false; twice = false; stray = false })) ms)
          ≡ has_home info h (cond b (m ∷ filter test ms) (filter test ms))
      by true w e known = one_owner ms (not w || false) ∙ home_by m (filter test ms) w e
      by false w e known = known

-- ---- the table's faults

home_told : (info : List ℕ) (ms : List MethodDescriptor) (hs : List HandlerInfo) (p : ℕ × HandlerInfo) → Has p (enumerate_from 0 hs) →
    home_fault (fold (claim_table info (enumerate_from 0 hs)) none_claimed ms) p ≡ numbered_fault info ms p
unfolding handler_fault owners
home_told info ms hs p has = grind (arith, claimed_all info ms none_claimed p.0 p.1 hs has, no_owner info p.0 p.1 ms, cond)

same_faults : {X : Type 0} (f g : X → Option PackFault) (xs : List X) (least : Option PackFault) →
    ((x : X) → Has x xs → f x ≡ g x) →
    least_from least f xs ≡ least_from least g xs
same_faults f g [] least same = refl
same_faults f g (x ∷ xs) least same =
    ap (λ o. least_from (lesser least o) f xs) (same x (inl refl))
    ∙ same_faults f g xs (lesser least (g x)) (λ y has. same y (inr has))

pub homes_told : (info : List ℕ) (ms : List MethodDescriptor) (hs : List HandlerInfo) (c : Claimed) →
    c ≡ fold (claim_table info (enumerate_from 0 hs)) none_claimed ms →
    least_of (home_fault c) (enumerate_from 0 hs) ≡ least_of (numbered_fault info ms) (enumerate_from 0 hs)
homes_told info ms hs c e = grind (arith, same_faults, fold, home_told)

pub no_entries : (hs : List HandlerInfo) (f : ℕ × HandlerInfo → Option PackFault) → length hs ≡ 0 → None ≡ least_of f (enumerate_from 0 hs)
no_entries [] f e = refl
no_entries (h ∷ hs) f e = absurd cc

-- ---- a method without handlers claims nothing

claims_none : (info : List ℕ) (p : ℕ × HandlerInfo) (c : Claimed) (m : MethodDescriptor) → m.handler_count ≡ 0 → claim_one info m c p ≡ c
unfolding claim_one
claims_none info p c m none = grind (arith, cond-false, cond, eqb, leb, leb-true, le-ltb)

pub claims_nothing : (info : List ℕ) (table : List (ℕ × HandlerInfo)) (c : Claimed) (m : MethodDescriptor) → m.handler_count ≡ 0 →
    claim_table info table c m ≡ c
claims_nothing info [] c m none = refl
claims_nothing info (p ∷ table) c m none = grind (arith, claims_none, claims_nothing info table c m none)
