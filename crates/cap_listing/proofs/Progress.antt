-- How far a text is read, and what it is then.
use Rattle.std.proofs.Common.{◌≡◌, ◌≤◌, ◌+◌, ◌⊎◌, inr, ℕ, List, [], ◌∷◌, ◌++◌, length, map}
use Rattle.std.proofs.Common.{refl, sym, ap, subst, ◌∙◌, arith, rules, append_assoc, length-append}
use Rattle.std.proofs.lemmas.List.{append-nil, length-map}
use Rattle.cap_listing.specs.declared.method.ListedMethod.{ListedMethod}
use Rattle.cap_listing.specs.Words.{HasNone, IsCut, joined, text_of_lines}
use Rattle.cap_listing.specs.Text.{Lists, Begins}
use Rattle.cap_listing.specs.Reading.{State, Reads, reads_nothing, reads_more, start}
use Rattle.cap_listing.specs.Fault.{AreFree, fed, IsBadLine, IsCutShort, IsNotListing, IsReadLine, IsNoLine}
use Rattle.cap_listing.specs.Assembler.{between}
use Rattle.cap_listing.proofs.Words.{text-append}
use Rattle.cap_listing.proofs.Steps.{reads-lines, start-state}
use Rattle.cap_listing.proofs.Runs.{reads-append}
use Rattle.cap_listing.proofs.Final.{next-free, begins-read, bad-line, whole-only}

abbrev Lines : Type 0
Lines = List (List (List ℕ))

-- so many lines were read, and what is left of the text
pub record HasReadTo (text rest : List ℕ) (number : ℕ) (st : State) : Type 0 where
  pub lines : List (List (List ℕ))
  pub reads : Reads start lines st
  pub is : text ≡ text_of_lines lines ++ rest
  pub count : number ≡ length lines + 1

pub nothing-read : (text : List ℕ) (st : State) → st ≡ start → HasReadTo text text 1 st
nothing-read text st e = record { lines = []; reads = subst (Reads start []) (sym e) (reads_nothing start); is = refl; count = omega arith }

pub one-read : (text rest bytes after : List ℕ) (number : ℕ) (st next : State) → HasReadTo text rest number st → IsCut 10 rest bytes after
    → IsReadLine st bytes next → HasReadTo text after (number + 1) next
one-read text rest bytes after number st next h cut l =
    let ls = h.lines ++ l.words ∷ [] in
    record {
      lines = ls;
      reads = reads-append start h.lines st (l.words ∷ []) next h.reads
          (reads_more st l.words next [] next l.next (reads_nothing next));
      is = grind (arith, text-append, append-nil, append_assoc);
      count = omega (arith, h.count, length-append h.lines (l.words ∷ []));
    }

-- ---- lines as bytes

lines-free : (a : State) (ls : Lines) (b : State) → Reads a ls b → AreFree (map joined ls)
lines-free _ _ _ (reads_nothing st) = search rules
lines-free _ _ _ (reads_more st words between ls after next rest) = (next-free st words between next, lines-free between ls after rest)

lines-fed : (ls : Lines) → fed (map joined ls) ≡ text_of_lines ls
lines-fed [] = refl
lines-fed (l ∷ ls) = ap (λ (t : List ℕ). joined l ++ 10 ∷ t) (lines-fed ls) ∙ sym (append_assoc (joined l) (10 ∷ []) (text_of_lines ls))

few-lines : (ls : Lines) → length ls ≤ length (text_of_lines ls)
few-lines [] = omega arith
few-lines (l ∷ ls) = grind (arith, length-append, few-lines ls)

pub few-read : (text rest : List ℕ) (number : ℕ) (st : State) → HasReadTo text rest number st → number ≤ length text + 1
few-read text rest number st h = grind (arith, few-lines, length-append)

-- ---- how it ends

module _ (text rest : List ℕ) (number : ℕ) (st : State) (h : HasReadTo text rest number st) where
  not-listing : (IsBadLine (fed (map joined h.lines)) rest ⊎ IsCutShort (fed (map joined h.lines)) rest) → IsNotListing text number
  not-listing here = record {
    before = map joined h.lines;
    rest = rest;
    whole = h.is ∙ ap (λ (t : List ℕ). t ++ rest) (sym (lines-fed h.lines));
    free = lines-free start h.lines st h.reads;
    count = omega (arith, h.count, length-map h.lines joined);
    begun = subst Begins (sym (lines-fed h.lines)) (begins-read h.lines st h.reads);
    here = here;
  }

  pub line-bad : (bytes after : List ℕ) → IsCut 10 rest bytes after → IsNoLine st bytes → IsNotListing text number
  line-bad bytes after cut none = grind (arith, not-listing, bad-line, lines-fed)

  pub cut-short : HasNone 10 rest → ((ms : List ListedMethod) → rest ≡ [] → st ≡ between ms → ⊥) → IsNotListing text number
  cut-short free none =
      not-listing
      (inr (record {
        free = free;
        none = λ ms l.
            let end = whole-only h.lines st rest ms h.reads free (subst (λ (t : List ℕ). Lists ms (t ++ rest)) (lines-fed h.lines) l) in
            none ms end.0 end.1;
      }))

  pub whole-text : (ms : List ListedMethod) → rest ≡ [] → st ≡ between ms → Lists ms text
  whole-text ms empty e = grind (arith, reads-lines, start-state, append-nil)
