-- Which text is a listing, and where another goes wrong.
use Rattle.std.proofs.Common.{◌≡◌, ℕ, Some, None}
use Rattle.std.proofs.Common.{Option, List, [], ◌∷◌, ◌++◌, length, refl, sym, ap, subst, ◌∙◌, arith, append_assoc}
use Rattle.std.proofs.Common.{length-append}
use Rattle.std.specs.Prelude.{All}
use Rattle.std.proofs.lemmas.List.{append-nil}
use Rattle.std.proofs.lemmas.List.Elements.{All-append}
use Rattle.cap_listing.specs.declared.method.ListedMethod.{ListedMethod}
use Rattle.cap_listing.specs.Words.{joined, line, text_of_lines}
use Rattle.cap_listing.specs.Text.{IsMethod, Lists, Begins, begun_lines, end_words, lines_of, text_of}
use Rattle.cap_listing.specs.Reading.{Begun, State, Next, Reads, reads_nothing, reads_more, start, lines_begun, MayBegin}
use Rattle.cap_listing.specs.Fault.{HasNoFeed, IsNoLine}
use Rattle.cap_listing.specs.Laws.{OneListing}
use Rattle.cap_listing.proofs.Words.{text-append, joined-free, first-cut, none-cut}
use Rattle.cap_listing.proofs.Steps.{reads-lines, start-state}
use Rattle.cap_listing.proofs.Runs.{reads-text}
use Rattle.cap_listing.proofs.Apart.{next-plain, line-one}

abbrev Lines : Type 0
Lines = List (List (List ℕ))

-- a line that may come has no line feed but its last byte
pub next-free : (st : State) (ws : List (List ℕ)) (a : State) → Next st ws a → HasNoFeed (joined ws)
next-free st ws a n = grind (arith, next-plain st ws a n, joined-free)

-- the first line of a text, and the rest
split-text : (ws : List (List ℕ)) (ls : Lines) → text_of_lines (ws ∷ ls) ≡ joined ws ++ 10 ∷ text_of_lines ls
split-text ws ls = append_assoc (joined ws) (10 ∷ []) (text_of_lines ls)

not-empty : (xs ys : List ℕ) → [] ≡ xs ++ 10 ∷ ys → ⊥
not-empty xs ys e = omega (arith, ap length e, length-append xs (10 ∷ ys))

-- what the same first lines leave
record Ahead (st : State) (ls : Lines) (tail : List ℕ) (end : State) : Type 0 where
  lines : Lines
  reads : Reads st lines end
  is : text_of_lines lines ≡ tail

-- a text that begins with lines that were read goes on from their state
ahead : (a : State) (ls : Lines) (b : State) (ks : Lines) (c : State) (tail : List ℕ) → Reads a ls b → Reads a ks c
    → text_of_lines ks ≡ text_of_lines ls ++ tail → Ahead b ls tail c
ahead _ _ _ ks c tail (reads_nothing st) more e = record { lines = ks; reads = more; is = e }
ahead _ _ _ _ _ tail (reads_more st ws between ls after next rest) (reads_nothing _) e = grind (arith, not-empty, split-text, append_assoc)
ahead _ _ _ _ _ tail (reads_more st ws between ls after next rest) (reads_more _ vs other ks end next2 rest2) e =
    let cut = first-cut 10 (joined vs) (text_of_lines ks) (joined ws) (text_of_lines ls ++ tail) (next-free st vs other next2) (next-free st ws between next)
    (sym (split-text vs ks) ∙ e ∙ ap (λ (t : List ℕ). t ++ tail) (split-text ws ls) ∙ append_assoc (joined ws) (10 ∷ text_of_lines ls) tail) in
    let same = line-one st vs ws other between next2 next cut.0 in
    let found = ahead between ls after ks end tail rest (subst (λ (s : State). Reads s ks end) same rest2) cut.1 in
    record { lines = found.lines; reads = found.reads; is = found.is }

-- ---- one list

nothing-left : (st : State) (ls : Lines) (end : State) → Reads st ls end → text_of_lines ls ≡ [] → st ≡ end
nothing-left x y z u e = grind (arith, not-empty, split-text)

pub one-list : OneListing
one-list text ms ns h k =
    let found = ahead start (lines_of ms) (record { done = ms; begun = None }) (lines_of ns) (record { done = ns; begun = None }) []
    (reads-text ms h.methods) (reads-text ns k.methods) (sym k.is ∙ h.is ∙ sym (append-nil (text_of ms))) in
    ap (λ (s : State). s.done) (nothing-left (record { done = ms; begun = None }) found.lines (record { done = ns; begun = None }) found.reads found.is)

-- ---- what begins a listing

method-of : Option Begun → List ListedMethod
method-of None = []
method-of (Some b) = b.method ∷ []

end-of : Option Begun → List ℕ
end-of None = []
end-of (Some b) = line end_words

lines-done : (ms : List ListedMethod) (o : Option Begun) → text_of (ms ++ method-of o) ≡ text_of_lines (lines_of ms ++ lines_begun o) ++ end-of o
unfolding method-of end-of
lines-done [] None = refl
lines-done [] (Some b) = grind (arith, text-append (begun_lines b.method) (end_words ∷ []), append-nil (line end_words))
lines-done (m ∷ ms) o = grind (arith, text-append, append_assoc, lines-done ms o)

begun-method : (o : Option Begun) → MayBegin o → All IsMethod (method-of o)
unfolding method-of
begun-method x h = grind (arith)

pub begins-read : (ls : Lines) (st : State) → Reads start ls st → Begins (text_of_lines ls)
unfolding method-of end-of
begins-read ls st h =
    let read = reads-lines start ls st start-state h in
    record {
      methods = st.done ++ method-of st.begun;
      rest = end-of st.begun;
      lists = record {
        methods = All-append IsMethod st.done (method-of st.begun) read.is.done (begun-method st.begun read.is.begun);
        is = ap (λ (ks : Lines). text_of_lines ks ++ end-of st.begun) (sym read.lines_are) ∙ sym (lines-done st.done st.begun);
      };
    }

-- ---- where a text goes wrong

pub bad-line : (ls : Lines) (st : State) (bad : List ℕ) → Reads start ls st → HasNoFeed bad → IsNoLine st bad
    → Begins (text_of_lines ls ++ (bad ++ 10 ∷ [])) → ⊥
bad-line ls st bad h free none b =
    let tail = bad ++ 10 ∷ b.rest in
    let whole : text_of b.methods ≡ text_of_lines ls ++ tail =
    sym b.lists.is ∙ append_assoc (text_of_lines ls) (bad ++ 10 ∷ []) b.rest
    ∙ ap (λ (t : List ℕ). text_of_lines ls ++ t) (append_assoc bad (10 ∷ []) b.rest) in
    let found = ahead start ls st (lines_of b.methods) (record { done = b.methods; begun = None }) tail h (reads-text b.methods b.lists.methods) whole in
    refused found.lines found.reads found.is
  where
    refused : (ks : Lines) → Reads st ks (record { done = b.methods; begun = None }) → text_of_lines ks ≡ bad ++ 10 ∷ b.rest → ⊥
    refused [] r e = not-empty bad b.rest e
    refused (ws ∷ ks) r e = by r
      where
        by : Reads st (ws ∷ ks) (record { done = b.methods; begun = None }) → ⊥
        by (reads_more _ _ between _ _ next rest) =
            none ws between next
            (sym (first-cut 10 (joined ws) (text_of_lines ks) bad b.rest (next-free st ws between next) free (sym (split-text ws ks) ∙ e)).0)

-- a text of whole lines and then a rest without a line feed is a listing only where the rest is empty and no method is begun
pub whole-only : (ls : Lines) (st : State) (rest : List ℕ) (ms : List ListedMethod) → Reads start ls st → HasNoFeed rest
    → Lists ms (text_of_lines ls ++ rest) → (rest ≡ []) × (st ≡ record { done = ms; begun = None })
whole-only ls st rest ms h free l =
    let found = ahead start ls st (lines_of ms) (record { done = ms; begun = None }) rest h (reads-text ms l.methods) (sym l.is) in
    by found.lines found.reads found.is
  where
    by : (ks : Lines) → Reads st ks (record { done = ms; begun = None }) → text_of_lines ks ≡ rest → (rest ≡ [])
        × (st ≡ record { done = ms; begun = None })
    by [] r e = (sym e, nothing-left st [] (record { done = ms; begun = None }) r refl)
    by (ws ∷ ks) r e = absurd (none-cut 10 (joined ws) (text_of_lines ks) (subst HasNoFeed (sym e ∙ split-text ws ks) free))
