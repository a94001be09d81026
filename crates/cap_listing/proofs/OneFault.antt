-- A text goes wrong at one line at most, and then is no listing.
use Rattle.std.proofs.Common.{◌≡◌, ◌+◌, ◌⊎◌, inl, inr, ℕ, List, [], ◌∷◌, ◌++◌, length, refl, sym, ap, subst, ◌∙◌, arith, append_assoc}
use Rattle.std.proofs.Common.{Result, Ok, Err}
use Rattle.std.proofs.lemmas.List.{append-nil}
use Rattle.cap_listing.specs.declared.method.ListedMethod.{ListedMethod}
use Rattle.cap_listing.specs.declared.fault.AsmFault.{AsmFault}
use Rattle.cap_listing.specs.declared.fault.AsmFault.TheVariants.{NotListing, OtherMethod, Registers}
use Rattle.cap_listing.specs.declared.fault.AsmFault.TheVariants.{HandlerRange, CodeLength, TooManyHandlers}
use Rattle.cap_listing.specs.declared.fault.AsmEnd.{AsmEnd}
use Rattle.cap_listing.specs.declared.fault.AsmEnd.TheVariants.{Fault, Memory}
use Rattle.cap_listing.specs.Text.{Lists, Begins}
use Rattle.cap_listing.specs.Fault.{HasNoFeed, AreFree, fed, IsBadLine, IsCutShort, IsNotListing}
use Rattle.cap_listing.specs.Assembling.{TellsLine, Assembles, AnswersMethods, AnswersLine}
use Rattle.cap_listing.proofs.Words.{first-cut, none-cut}
use Rattle.cap_listing.proofs.Final.{one-list}

abbrev GoesWrong : List ℕ → List ℕ → Type 0
GoesWrong before rest = IsBadLine before rest ⊎ IsCutShort before rest

-- what begins a listing also does so with its end cut off
begins-less : (text more : List ℕ) → Begins (text ++ more) → Begins text
begins-less text more b = grind (arith, append_assoc)

-- with one more line it begins none
line-wrong : (before l more : List ℕ) → HasNoFeed l → GoesWrong before (l ++ 10 ∷ more) → Begins (before ++ (l ++ 10 ∷ [])) → ⊥
line-wrong before l more free v b = grind (arith, first-cut, none-cut)

-- the text before a line, and with it
longer : (before l rest : List ℕ) → before ++ (l ++ 10 ∷ rest) ≡ (before ++ (l ++ 10 ∷ [])) ++ rest
longer before l rest = grind (arith, append_assoc)

same-count : (before : List ℕ) (ks ls : List (List ℕ)) (x y : List ℕ) → AreFree ks → AreFree ls → fed ks ++ x ≡ fed ls ++ y
    → GoesWrong (before ++ fed ks) x → GoesWrong (before ++ fed ls) y → Begins (before ++ fed ks) → Begins (before ++ fed ls)
    → length ks ≡ length ls
same-count before [] [] x y f g e v w b c = refl
same-count before [] (l ∷ ls) x y f g e v w b c =
    absurd (line-wrong before l (fed ls ++ y) g.0
    (subst (λ (t : List ℕ). GoesWrong t (l ++ 10 ∷ (fed ls ++ y))) (append-nil before)
    (subst (GoesWrong (before ++ [])) (e ∙ append_assoc l (10 ∷ fed ls) y) v))
    (begins-less (before ++ (l ++ 10 ∷ [])) (fed ls) (subst Begins (longer before l (fed ls)) c)))
same-count before (k ∷ ks) [] x y f g e v w b c =
    absurd (line-wrong before k (fed ks ++ x) f.0
    (subst (λ (t : List ℕ). GoesWrong t (k ++ 10 ∷ (fed ks ++ x))) (append-nil before)
    (subst (GoesWrong (before ++ [])) (sym e ∙ append_assoc k (10 ∷ fed ks) x) w))
    (begins-less (before ++ (k ++ 10 ∷ [])) (fed ks) (subst Begins (longer before k (fed ks)) b)))
same-count before (k ∷ ks) (l ∷ ls) x y f g e v w b c =
    let same = first-cut 10 k (fed ks ++ x) l (fed ls ++ y) f.0 g.0
    (sym (append_assoc k (10 ∷ fed ks) x) ∙ e ∙ append_assoc l (10 ∷ fed ls) y) in
    let next = before ++ (k ++ 10 ∷ []) in
    let one-more : length ks ≡ length ls → length (k ∷ ks) ≡ length (l ∷ ls) = λ n. omega (arith, n) in
    let grown : before ++ (l ++ 10 ∷ fed ls) ≡ next ++ fed ls = longer before l (fed ls)
    ∙ ap (λ (t : List ℕ). (before ++ (t ++ 10 ∷ [])) ++ fed ls) (sym same.0) in
    one-more
    (same-count next ks ls x y f.1 g.1 same.1 (subst (λ (t : List ℕ). GoesWrong t x) (longer before k (fed ks)) v)
    (subst (λ (t : List ℕ). GoesWrong t y) grown w) (subst Begins (longer before k (fed ks)) b) (subst Begins grown c))

-- the line is one
pub one-line : (text : List ℕ) (m n : ℕ) → IsNotListing text m → IsNotListing text n → m ≡ n
one-line text m n h k =
    let same = same-count [] h.before k.before h.rest k.rest h.free k.free (sym h.whole ∙ k.whole) h.here k.here h.begun k.begun in
    h.count ∙ ap (λ (x : ℕ). x + 1) same ∙ sym k.count

-- and the text is no listing
pub no-listing : (text : List ℕ) (n : ℕ) (ms : List ListedMethod) → IsNotListing text n → Lists ms text → ⊥
no-listing text n ms h l = by h.here
  where
    by : GoesWrong (fed h.before) h.rest → ⊥
    by (inl w) =
        w.none (record {
          methods = ms;
          rest = w.after;
          lists = grind (arith, longer);
        })
    by (inr w) = w.none ms (subst (Lists ms) h.whole l)

-- ---- what `assemble` answers

-- a listing is assembled, or there is no memory
pub comes-back : (text : List ℕ) (ms : List ListedMethod) (answer : Result (List ListedMethod) AsmEnd) → Lists ms text → Assembles text answer
    → AnswersMethods ms answer
comes-back text ms z l a = grind (arith, one-list, no-listing)

same-line : (text : List ℕ) (n : ℕ) (fault : AsmFault) → IsNotListing text n → TellsLine text fault → fault ≡ NotListing n
same-line text n (NotListing line) h t = ap (λ (k : ℕ). NotListing k) (one-line text line n t h)
same-line text n (OtherMethod k) h t = absurd t
same-line text n (Registers k count) h t = absurd t
same-line text n (HandlerRange k number) h t = absurd t
same-line text n (CodeLength k size) h t = absurd t
same-line text n (TooManyHandlers count) h t = absurd t

-- and a text that is none is refused with its line
pub refused : (text : List ℕ) (n : ℕ) (answer : Result (List ListedMethod) AsmEnd) → IsNotListing text n → Assembles text answer → AnswersLine n answer
refused text n (Ok ms) h a = no-listing text n ms h a
refused text n (Err (Fault fault)) h a = same-line text n fault h a
refused text n (Err Memory) h a = tt {0}
