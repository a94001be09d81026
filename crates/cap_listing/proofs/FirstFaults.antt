-- The first fault is found in one pass over the methods.
use Rattle.std.proofs.Common.{◌≡◌, ◌≢◌, ◌<◌, ◌≤◌, ◌+◌, ℕ, cond, min, List, [], ◌∷◌, length, drop, get_or}
use Rattle.std.proofs.Common.{Err, refl, ap, arith}
use Rattle.std.proofs.lemmas.List.{drop_more, drop_all, length-drop}
use Rattle.jc_decode.specs.declared.symbols.LaidHandler.{LaidHandler}
use Rattle.cap_listing.specs.declared.method.ListedMethod.{ListedMethod}
use Rattle.cap_listing.specs.declared.fault.AsmFault.{AsmFault}
use Rattle.cap_listing.specs.declared.fault.AsmFault.TheVariants.{OtherMethod}
use Rattle.cap_listing.specs.Placing.{is_same, other_faults, range_faults, handler_total, first_refused}

-- ---- methods that are not the package's own

module _ (n : ℕ) (ms owns : List ListedMethod) (m own : ListedMethod) (h : n < length ms) (k : n < length owns) (is : m ≡ get_or ms n m)
    (it : own ≡ get_or owns n own) where
  abbrev later : List AsmFault
  later = other_faults (n + 1) (drop (n + 1) ms) (drop (n + 1) owns)

  here : other_faults n (drop n ms) (drop n owns) ≡ cond (is_same m own) later (OtherMethod n ∷ later)
  here = grind (arith, drop_more)

one-missing : (n : ℕ) (xs ys : List ListedMethod) → length xs ≢ length ys → min (length xs) (length ys) ≡ 0
    → first_refused (other_faults n xs ys) ≡ Err (OtherMethod n)
one-missing n [] [] apart h = absurd (apart refl)
one-missing n [] (y ∷ ys) apart h = refl
one-missing n (x ∷ xs) [] apart h = refl
one-missing n (x ∷ xs) (y ∷ ys) apart h = absurd (omega (arith, h))

pub missing-refused : (n j : ℕ) (ms owns : List ListedMethod) → n ≡ min (length ms) (length owns) → j ≡ n → length ms ≢ length owns
    → first_refused (other_faults n (drop n ms) (drop n owns)) ≡ Err (OtherMethod j)
missing-refused n j ms owns h same apart = grind (arith, one-missing, length-drop)

-- ---- handlers

module _ (n size k : ℕ) (hs : List LaidHandler) (h : LaidHandler) (lt : k < length hs) (is : h ≡ get_or hs k h) where
  abbrev rest : List AsmFault
  rest = range_faults n size (k + 1) (drop (k + 1) hs)

-- ---- the sum of the handlers, which stands still at the greatest of 64 bits

pub total-end : (ms : List ListedMethod) (n sum : ℕ) → length ms ≤ n → sum ≤ 18446744073709551615
    → min (sum + handler_total (drop n ms)) 18446744073709551615 ≡ min (handler_total ms) 18446744073709551615
    → sum ≡ min (handler_total ms) 18446744073709551615
total-end ms n sum h few e = omega (arith, few, e, ap handler_total (drop_all n ms h))
