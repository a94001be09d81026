-- Items that stand one after the other in a code are its listing, read as symbols.
use Rattle.std.proofs.Common.{◌≡◌, ◌≤◌, ◌+◌, ℕ, zero, suc, Bool, true, false, cond, List, [], ◌∷◌, ◌++◌, length, refl, sym, ap, ◌<◌}
use Rattle.std.proofs.Common.{◌∙◌, subst, arith, map, All, append_assoc, length-append}
use Rattle.std.specs.Prelude.{ℤ, pos, ◌==◌, Contains}
use Rattle.std.proofs.lemmas.List.Elements.{All-head, All-tail}
use Rattle.jc_decode.specs.declared.insn.Insn.{Insn}
use Rattle.jc_decode.specs.declared.insn.Placed.{Placed}
use Rattle.jc_decode.specs.declared.insn.CodeEnd.TheVariants.{Cut}
use Rattle.jc_decode.specs.declared.symbols.Item.{Item}
use Rattle.jc_decode.specs.declared.symbols.Item.TheVariants.{Plain, Branch, Switch, Label}
use Rattle.jc_decode.specs.declared.symbols.Range.{Range}
use Rattle.jc_decode.specs.declared.symbols.LaidHandler.{LaidHandler}
use Rattle.jc_decode.specs.Cases.{cases}
use Rattle.jc_decode.specs.Listing.{listing_from}
use Rattle.jc_decode.specs.Laws.{ListingIsOne, NothingPastTheEnd}
use Rattle.jc_decode.specs.Symbols.{Step, jump, place_of, steps_in, handler, IsOnce, IsItem, IsRange}
use Rattle.jc_decode.specs.Standing.{AreSteps}
use Rattle.jc_decode.proofs.Elements.{Contains-first}
use Rattle.xf_layout.specs.declared.form.Form.{Form}
use Rattle.xf_layout.specs.declared.form.Form.TheVariants.{Fixed, Jump, Mark}
use Rattle.xf_layout.specs.Form.{AreForms, form_bytes, label_place, instruction_place}
use Rattle.xf_layout.specs.Laid.{StandsHere, ItemsStand, Adds, label_targets}

-- ---- one more item at the end of a code

pub next-stands : (source : List ℕ) (place : ℕ → ℕ) (items : List Item) (fs : List Form) (code new : List ℕ) (item : Item) (f : Form)
    (rest : List Item) (gs : List Form) → Adds source place item f code new
    → ((after : List ℕ) → ItemsStand source place (code ++ after) (length code) (item ∷ rest) (f ∷ gs)
    → ItemsStand source place (code ++ after) 0 items fs)
    → (after : List ℕ) → ItemsStand source place (new ++ after) (length new) rest gs → ItemsStand source place (new ++ after) 0 items fs
next-stands source place items fs code new item f rest gs adds reach after stands = grind (arith, append_assoc, length, length-append)

-- ---- places of instructions

pub instruction-start : (fs : List Form) → instruction_place fs 0 ≡ 0
instruction-start [] = refl
instruction-start (Fixed n ∷ fs) = refl
instruction-start (Jump l w ∷ fs) = refl
instruction-start (Mark l ∷ fs) = instruction-start fs

-- a label stands where the instruction after it begins
pub label-instruction : (items : List Item) (fs : List Form) → AreForms items fs → (l : ℕ)
    → label_place fs l ≡ instruction_place fs (place_of l items)
label-instruction [] [] h l = refl
label-instruction (Plain i ∷ is) (Fixed n ∷ fs) h l = ap (λ (k : ℕ). n + k) (label-instruction is fs h.1 l)
label-instruction (Branch op m ∷ is) (Jump n w ∷ fs) h l = ap (λ (k : ℕ). form_bytes (Jump n w) + k) (label-instruction is fs h.1 l)
label-instruction (Switch i at labels ∷ is) (Fixed n ∷ fs) h l = ap (λ (k : ℕ). n + k) (label-instruction is fs h.1 l)
label-instruction (Label m ∷ is) (Mark n ∷ fs) h l = rw h.0 (by_test (m == l) (label-instruction is fs h.1 l))
  where
    by_test : (b : Bool) → label_place fs l ≡ instruction_place fs (place_of l is) → cond b 0 (label_place fs l) ≡ instruction_place fs
        (cond b 0 (place_of l is))
    by_test true e = sym (instruction-start fs)
    by_test false e = e
label-instruction [] (f ∷ fs) h l = absurd h
label-instruction (i ∷ is) [] h l = absurd h
label-instruction (Plain i ∷ is) (Jump n w ∷ fs) h l = absurd h.0
label-instruction (Plain i ∷ is) (Mark n ∷ fs) h l = absurd h.0
label-instruction (Branch op m ∷ is) (Fixed n ∷ fs) h l = absurd h.0
label-instruction (Branch op m ∷ is) (Mark n ∷ fs) h l = absurd h.0
label-instruction (Switch i at labels ∷ is) (Jump n w ∷ fs) h l = absurd h.0
label-instruction (Switch i at labels ∷ is) (Mark n ∷ fs) h l = absurd h.0
label-instruction (Label m ∷ is) (Fixed n ∷ fs) h l = absurd h.0
label-instruction (Label m ∷ is) (Jump n w ∷ fs) h l = absurd h.0

leads-agree : (place to : ℕ → ℕ) (all : List Item) → ((l : ℕ) → IsOnce all l → place l ≡ to (place_of l all)) → (labels : List ℕ)
    → All (IsOnce all) labels
    → label_targets place labels ≡ map (λ t. pos (to t)) (map (λ l. place_of l all) labels)
leads-agree place to all agree [] h = refl
leads-agree place to all agree (l ∷ ls) h =
    ap (λ (n : ℕ). pos n ∷ label_targets place ls) (agree l (All-head (IsOnce all) l ls h))
    ∙ ap (λ (ds : List ℤ). pos (to (place_of l all)) ∷ ds) (leads-agree place to all agree ls (All-tail (IsOnce all) l ls h))

-- ---- the steps

one-step : ListingIsOne → (code : List ℕ) (to : ℕ → ℕ) (n here : ℕ) (same : Insn) (long : ℕ) (leads keys : List ℤ) (targets : List ℕ)
    (rest : List Step)
    → StandsHere code here same long leads keys → leads ≡ map (λ t. pos (to t)) targets → here ≡ to n → here + long ≡ to (suc n)
    → AreSteps code to (suc n) rest (listing_from code (here + long))
    → AreSteps code to n (record { insn = same; targets = targets; keys = keys } ∷ rest) (listing_from code here)
one-step one code to n here same long leads keys targets rest stands led begins ends later = grind (arith, suc)

pub record IsShifted (to : ℕ → ℕ) (n here : ℕ) (fs : List Form) : Type 0 where
  pub at : (m : ℕ) → to (n + m) ≡ here + instruction_place fs m

pub shifted-start : (to : ℕ → ℕ) (n here : ℕ) (fs : List Form) → IsShifted to n here fs → here ≡ to n
shifted-start to n here fs shift = grind (arith, instruction-start fs)

pub shifted-next : (to : ℕ → ℕ) (n here long : ℕ) (f : Form) (fs : List Form) → IsShifted to n here (f ∷ fs)
    → ((m : ℕ) → instruction_place (f ∷ fs) (suc m) ≡ long + instruction_place fs m) → IsShifted to (suc n) (here + long) fs
shifted-next to n here long f fs shift step = grind (arith, suc)

pub steps-stand : ListingIsOne → NothingPastTheEnd → (source : List ℕ) (place to : ℕ → ℕ) (all : List Item)
    → ((l : ℕ) → IsOnce all l → place l ≡ to (place_of l all)) → (code : List ℕ) (items : List Item) (fs : List Form) (n here : ℕ)
    → All (IsItem source all) items → AreForms items fs → IsShifted to n here fs → ItemsStand source place code here items fs
    → AreSteps code to n (steps_in source all items) (listing_from code here)
steps-stand one past source place to all agree code [] [] n here ok forms shift stands =
    rw (one.none code here Cut (past code here (omega (arith, stands)))) tt
steps-stand one past source place to all agree code (Label l ∷ is) (Mark m ∷ fs) n here ok forms shift stands =
    let same : here + form_bytes (Mark m) ≡ here = omega arith in
    steps-stand one past source place to all agree code is fs n here (All-tail (IsItem source all) (Label l) is ok) forms.1
    (record { at = λ k. shift.at k }) (subst (λ (h : ℕ). ItemsStand source place code h is fs) same stands.1)
steps-stand one past source place to all agree code (Plain i ∷ is) (Fixed b ∷ fs) n here ok forms shift stands =
    let next = shifted-next to n here b (Fixed b) fs shift (λ m. refl) in
    one-step one code to n here i b [] [] [] (steps_in source all is) stands.0 refl
    (shifted-start to n here (Fixed b ∷ fs) shift) (shifted-start to (suc n) (here + b) fs next)
    (steps-stand one past source place to all agree code is fs (suc n) (here + b) (All-tail (IsItem source all) (Plain i) is ok) forms.1 next stands.1)
steps-stand one past source place to all agree code (Branch op l ∷ is) (Jump m w ∷ fs) n here ok forms shift stands =
    let next = shifted-next to n here (form_bytes (Jump m w)) (Jump m w) fs shift (λ m. refl) in
    let item = All-head (IsItem source all) (Branch op l) is ok in
    one-step one code to n here (jump op) (form_bytes (Jump m w)) (label_targets place (l ∷ [])) [] (place_of l all ∷ []) (steps_in source all is) stands.0
    (ap (λ (k : ℕ). pos k ∷ []) (agree l item.1))
    (shifted-start to n here (Jump m w ∷ fs) shift) (shifted-start to (suc n) (here + form_bytes (Jump m w)) fs next)
    (steps-stand one past source place to all agree code is fs (suc n) (here + form_bytes (Jump m w)) (All-tail (IsItem source all) (Branch op l) is ok)
    forms.1 next stands.1)
steps-stand one past source place to all agree code (Switch i at labels ∷ is) (Fixed b ∷ fs) n here ok forms shift stands =
    let next = shifted-next to n here b (Fixed b) fs shift (λ m. refl) in
    let item = All-head (IsItem source all) (Switch i at labels) is ok in
    one-step one code to n here i b (label_targets place labels) (map (λ c. c.key) (cases source at i)) (map (λ l. place_of l all) labels)
    (steps_in source all is) stands.0
    (leads-agree place to all agree labels item.3)
    (shifted-start to n here (Fixed b ∷ fs) shift) (shifted-start to (suc n) (here + b) fs next)
    (steps-stand one past source place to all agree code is fs (suc n) (here + b) (All-tail (IsItem source all) (Switch i at labels) is ok) forms.1 next
    stands.1)
steps-stand one past source place to all agree code [] (f ∷ fs) n here ok forms shift stands = absurd forms
steps-stand one past source place to all agree code (i ∷ is) [] n here ok forms shift stands = absurd forms
steps-stand one past source place to all agree code (Plain i ∷ is) (Jump m w ∷ fs) n here ok forms shift stands = absurd forms.0
steps-stand one past source place to all agree code (Plain i ∷ is) (Mark m ∷ fs) n here ok forms shift stands = absurd forms.0
steps-stand one past source place to all agree code (Branch op l ∷ is) (Fixed b ∷ fs) n here ok forms shift stands = absurd forms.0
steps-stand one past source place to all agree code (Branch op l ∷ is) (Mark m ∷ fs) n here ok forms shift stands = absurd forms.0
steps-stand one past source place to all agree code (Switch i at labels ∷ is) (Jump m w ∷ fs) n here ok forms shift stands = absurd forms.0
steps-stand one past source place to all agree code (Switch i at labels ∷ is) (Mark m ∷ fs) n here ok forms shift stands = absurd forms.0
steps-stand one past source place to all agree code (Label l ∷ is) (Fixed b ∷ fs) n here ok forms shift stands = absurd forms.0
steps-stand one past source place to all agree code (Label l ∷ is) (Jump m w ∷ fs) n here ok forms shift stands = absurd forms.0

-- the code ends after the last item
pub end-stands : (source : List ℕ) (place : ℕ → ℕ) (all : List Item) (code : List ℕ) (items : List Item) (fs : List Form) (here : ℕ)
    → AreForms items fs → ItemsStand source place code here items fs → here + instruction_place fs (length (steps_in source all items)) ≡ length code
end-stands source place all code [] [] here forms stands = omega (arith, stands)
end-stands source place all code (Label l ∷ is) (Mark m ∷ fs) here forms stands =
    let same : here + form_bytes (Mark m) ≡ here = omega arith in
    end-stands source place all code is fs here forms.1 (subst (λ (h : ℕ). ItemsStand source place code h is fs) same stands.1)
end-stands source place all code (Plain i ∷ is) (Fixed b ∷ fs) here forms stands =
    let e = end-stands source place all code is fs (here + b) forms.1 stands.1 in omega (arith, e)
end-stands source place all code (Branch op l ∷ is) (Jump m w ∷ fs) here forms stands =
    let e = end-stands source place all code is fs (here + form_bytes (Jump m w)) forms.1 stands.1 in omega (arith, e)
end-stands source place all code (Switch i at labels ∷ is) (Fixed b ∷ fs) here forms stands =
    let e = end-stands source place all code is fs (here + b) forms.1 stands.1 in omega (arith, e)
end-stands source place all code [] (f ∷ fs) here forms stands = absurd forms
end-stands source place all code (i ∷ is) [] here forms stands = absurd forms
end-stands source place all code (Plain i ∷ is) (Jump m w ∷ fs) here forms stands = absurd forms.0
end-stands source place all code (Plain i ∷ is) (Mark m ∷ fs) here forms stands = absurd forms.0
end-stands source place all code (Branch op l ∷ is) (Fixed b ∷ fs) here forms stands = absurd forms.0
end-stands source place all code (Branch op l ∷ is) (Mark m ∷ fs) here forms stands = absurd forms.0
end-stands source place all code (Switch i at labels ∷ is) (Jump m w ∷ fs) here forms stands = absurd forms.0
end-stands source place all code (Switch i at labels ∷ is) (Mark m ∷ fs) here forms stands = absurd forms.0
end-stands source place all code (Label l ∷ is) (Fixed b ∷ fs) here forms stands = absurd forms.0
end-stands source place all code (Label l ∷ is) (Jump m w ∷ fs) here forms stands = absurd forms.0

-- ---- handlers

pub handlers-agree : (place to : ℕ → ℕ) (all : List Item) → ((l : ℕ) → IsOnce all l → place l ≡ to (place_of l all)) → (ranges : List Range)
    → All (IsRange all) ranges → map (handler place) ranges ≡ map (handler (λ l. to (place_of l all))) ranges
handlers-agree place to all agree [] h = refl
handlers-agree place to all agree (r ∷ rs) h =
    let ok = All-head (IsRange all) r rs h in
    let one : handler place r ≡ handler (λ l. to (place_of l all)) r = rw (agree r.from ok.from, agree r.to ok.to, agree r.entry ok.entry) refl in
    ap (λ (x : LaidHandler). x ∷ map (handler place) rs) one
    ∙ ap (λ (xs : List LaidHandler). handler (λ l. to (place_of l all)) r ∷ xs) (handlers-agree place to all agree rs (All-tail (IsRange all) r rs h))

-- places do not fall
pub instruction-rises : (fs : List Form) (n m : ℕ) → n ≤ m → instruction_place fs n ≤ instruction_place fs m
instruction-rises [] n m h = omega arith
instruction-rises (Mark l ∷ fs) n m h = instruction-rises fs n m h
instruction-rises (Fixed b ∷ fs) zero m h = omega arith
instruction-rises (Fixed b ∷ fs) (suc n) zero h = absurd (omega (arith, h))
instruction-rises (Fixed b ∷ fs) (suc n) (suc m) h = omega (arith, instruction-rises fs n m (omega (arith, h)))
instruction-rises (Jump l w ∷ fs) zero m h = omega arith
instruction-rises (Jump l w ∷ fs) (suc n) zero h = absurd (omega (arith, h))
instruction-rises (Jump l w ∷ fs) (suc n) (suc m) h = omega (arith, instruction-rises fs n m (omega (arith, h)))

-- where code has steps and all of its instructions stand within it, it is not empty
pub first-listed : (code : List ℕ) (place : ℕ → ℕ) (ss : List Step) (ps : List Placed) → AreSteps code place 0 ss ps → 0 < length ss
    → ((p : Placed) → Contains ps p → p.place < length code)
    → 0 < length code
first-listed code place [] ps are lt inside = absurd (omega (arith, lt))
first-listed code place (s ∷ ss) [] are lt inside = absurd are
first-listed code place (s ∷ ss) (p ∷ ps) are lt inside =
    let there = inside p (Contains-first p ps) in
    omega (arith, there)
