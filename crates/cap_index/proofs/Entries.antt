-- The exact indexes of methods, one after the other.
use Rattle.std.proofs.Common.{◌≡◌, ◌≤◌, ◌+◌, ◌*◌, ℕ, zero, suc, List, [], ◌∷◌, ◌++◌, length, drop, cond, Option, Some}
use Rattle.std.proofs.Common.{None, refl, sym, ap, subst, ◌∙◌, arith, append_assoc, length-append}
use Rattle.std.specs.Prelude.{count_by, is_some}
use Rattle.std.specs.List.{flat_map}
use Rattle.std.proofs.lemmas.List.{append-nil}
use Rattle.std.proofs.lemmas.List.Recursion.{is_count_by}
use Rattle.byteorder.specs.Endian.{big_bytes}
use Rattle.jc_decode.specs.declared.symbols.Laid.{Laid}
use Rattle.cap_index.specs.TargetIndex.{AreExact, AreShortCodes, HasEntries, IsListed, IsListedIf, IsShortIf, IsIndexOf, counted, entries_of}

-- so far these entries were appended, and those of the methods that are left are not
pub record IsSoFar (laid left : List (Option Laid)) (out : List ℕ) : Type 0 where
  pub each : (lists : List (List ℕ)) → AreExact left lists → HasEntries laid (out ++ entries_of lists)
  pub short : AreShortCodes left

pub entries_none : (laid left rest : List (Option Laid)) (out : List ℕ) → IsSoFar laid left out → left ≡ None ∷ rest → IsSoFar laid rest out
entries_none laid left rest out s e = grind (arith)

pub entries_more : (laid left rest : List (Option Laid)) (l : Laid) (out new : List ℕ) → IsSoFar laid left out → left ≡ Some l ∷ rest
    → IsListed l.code out new → IsSoFar laid rest new
entries_more laid left rest l out new s e listed =
    let t : IsSoFar laid (Some l ∷ rest) out = subst (λ ls. IsSoFar laid ls out) e s in
    record {
      each = λ lists exact.
          let h : HasEntries laid (out ++ (counted listed.index ++ entries_of lists)) = t.each (listed.index ∷ lists) (listed.exact, exact) in
          let same : out ++ (counted listed.index ++ entries_of lists) ≡ new ++ entries_of lists =
          sym (append_assoc out (counted listed.index) (entries_of lists)) ∙ ap (λ xs. xs ++ entries_of lists) (sym listed.appended) in
          subst (HasEntries laid) same h;
      short = t.short.1;
    }

pub entries_next : (laid left rest : List (Option Laid)) (m : Option Laid) (out new : List ℕ) → IsSoFar laid left out → left ≡ m ∷ rest
    → IsListedIf m out new → IsSoFar laid rest new
entries_next laid left rest None out new s e listed = subst (IsSoFar laid rest) (sym listed) (entries_none laid left rest out s e)
entries_next laid left rest (Some l) out new s e listed = entries_more laid left rest l out new s e listed

pub next_short : (laid left rest : List (Option Laid)) (m : Option Laid) (out : List ℕ) → IsSoFar laid left out → left ≡ m ∷ rest → IsShortIf m
next_short laid left rest x out s e = grind (arith)

pub entries_end : (laid left : List (Option Laid)) (out : List ℕ) → IsSoFar laid left out → left ≡ [] → HasEntries laid out
entries_end laid left out s e =
    let t : IsSoFar laid [] out = subst (λ ls. IsSoFar laid ls out) e s in
    subst (HasEntries laid) (append-nil out) (t.each [] tt)

pub drop_all : (n : ℕ) (ls : List (Option Laid)) → length ls ≤ n → drop n ls ≡ []
drop_all zero [] h = refl
drop_all zero (l ∷ ls) h = absurd (omega arith)
drop_all (suc n) [] h = refl
drop_all (suc n) (l ∷ ls) h = drop_all n ls (omega arith)

-- ---- the info

abbrev coded : List (Option Laid) → ℕ
coded [] = 0
coded (None ∷ ls) = coded ls
coded (Some l ∷ ls) = 1 + coded ls

coded_more : (m : Option Laid) (ls : List (Option Laid)) → coded (m ∷ ls) ≡ cond (is_some m) (1 + coded ls) (coded ls)
coded_more x ls = grind (arith)

coded_lists : (laid : List (Option Laid)) (lists : List (List ℕ)) → AreExact laid lists → coded laid ≡ length lists
coded_lists [] [] e = refl
coded_lists [] (x ∷ xs) e = absurd e
coded_lists (None ∷ ls) xs e = coded_lists ls xs e
coded_lists (Some l ∷ ls) [] e = absurd e
coded_lists (Some l ∷ ls) (x ∷ xs) e = let r = coded_lists ls xs e.1 in omega arith

pub lists_counted : (laid : List (Option Laid)) (lists : List (List ℕ)) → AreExact laid lists → count_by is_some laid ≡ length lists
lists_counted laid lists e = sym (is_count_by coded is_some refl coded_more laid) ∙ coded_lists laid lists e

pub lists_few : (lists : List (List ℕ)) → length lists ≤ length (entries_of lists)
lists_few [] = omega arith
lists_few (x ∷ xs) = let r = lists_few xs in omega (arith, length-append x (entries_of xs))

pub few_methods : (laid : List (Option Laid)) (entries : List ℕ) → HasEntries laid entries → count_by is_some laid ≤ length entries
few_methods laid entries h = omega (arith, lists_counted laid h.lists h.exact, lists_few h.lists, ap length h.are)

pub bytes_long : (ns : List ℕ) → length (flat_map (big_bytes 2) ns) ≡ 2 * length ns
bytes_long [] = refl
bytes_long (n ∷ ns) = let r = bytes_long ns in omega (arith, length-append (big_bytes 2 n) (flat_map (big_bytes 2) ns))

pub one_info : (laid : List (Option Laid)) (entries : List ℕ) (count : ℕ) (one info : List ℕ) → HasEntries laid entries → length entries ≤ 32766
    → count ≡ count_by is_some laid
    → one ≡ [] ++ big_bytes 2 count → info ≡ one ++ flat_map (big_bytes 2) entries → IsIndexOf laid (Some info)
one_info laid entries count one info h few n a b = grind (arith, length, lists_counted, suc, bytes_long)
