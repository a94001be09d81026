-- Where the places of a method come to in code that is laid for its items.
use Rattle.std.proofs.Common.{◌≡◌, ℕ, zero, suc, ◌+◌, ◌-◌, ◌<◌, ◌≤◌, inl, inr, List, length, map, option_map}
use Rattle.std.proofs.Common.{Some, slice_get, refl, sym, ap, ◌∙◌, subst, arith}
use Rattle.std.specs.Prelude.{nat_le, nat_lt}
use Rattle.std.proofs.lemmas.Bool.{cases_lt}
use Rattle.std.proofs.lemmas.Bool.Decides.{nat_tests}
use Rattle.std.proofs.lemmas.List.{length-map}
use Rattle.std.proofs.lemmas.Option.{slice_get-map, slice_get_within}
use Rattle.jc_base.proofs.Lists.{slice_get-some}
use Rattle.jc_decode.specs.declared.insn.Placed.{Placed}
use Rattle.jc_decode.specs.Listing.{listing, listing_end}
use Rattle.jc_decode.specs.Standing.{StandsForStep, AreSteps}
use Rattle.jc_decode.specs.Symbols.{Step, place_of, steps}
use Rattle.jc_decode.proofs.Elements.{Contains-slice_get, slice_get-Contains}
use Rattle.jc_decode.proofs.InstructionLists.{all-are-listed}
use Rattle.jc_control.specs.Laws.{InstructionsArePlaced}
use Rattle.jc_control.specs.Method.{Method}
use Rattle.jc_control.specs.WellFormed.{HasInstruction, IsPlace, IsBoundary, IsWellFormed}
use Rattle.law_laid.proofs.Steps.{step-at, same-count, end-is}
use Rattle.law_renumbered.specs.Symbols.{items_from}
use Rattle.law_renumbered.proofs.Items.{step_of}
use Rattle.law_renumbered.proofs.Places.{known, is-known, known-is, number-last, number-most, number-next, number-of, number-rises, of-place}
use Rattle.law_renumbered.proofs.Places.{spread, spread-known, spread-one, steps-made}

module _ (m : Method) (reg : ℕ → ℕ) (placed : InstructionsArePlaced) (formed : IsWellFormed m) (filled : 0 < length m.code)
    (place : ℕ → ℕ) (code : List ℕ) (begins : place 0 ≡ 0)
    (laid : AreSteps code place 0 (steps m.code (items_from m.code reg (listing m.code))) (listing code))
    (ends : place (length (steps m.code (items_from m.code reg (listing m.code)))) ≡ length code)
  where
    abbrev insns : List Placed
    insns = listing m.code

    abbrev count : ℕ
    count = length insns

    abbrev pub number : ℕ → ℕ
    number l = place_of l (items_from m.code reg insns)

    abbrev pub step_there : Placed → Step
    step_there i = step_of m.code reg number i

    made-laid : AreSteps code place 0 (map step_there insns) (listing code)
    made-laid = subst (λ ss. AreSteps code place 0 ss (listing code)) (steps-made m reg placed formed) laid

    end-there : place count ≡ length code
    end-there = sym (ap (λ ss. place (length ss)) (steps-made m reg placed formed) ∙ ap place (length-map insns step_there)) ∙ ends

    -- ---- instructions

    -- an instruction of the laid code, which is the one of this number of the method
    pub record IsLaidAs (k : ℕ) (i : Placed) : Type 0 where
      pub other : Placed
      pub found : slice_get (listing code) k ≡ Some other
      pub at : other.place ≡ place k
      pub after : other.place + other.insn.len ≡ place (suc k)
      pub stands : StandsForStep code place (step_there i) other

    pub laid-as : (k : ℕ) (i : Placed) → slice_get insns k ≡ Some i → IsLaidAs k i
    laid-as k i e =
        let there : slice_get (map step_there insns) k ≡ Some (step_there i) = slice_get-map step_there insns k ∙ ap (option_map step_there) e in
        let x = step-at code place 0 (map step_there insns) (listing code) made-laid k (step_there i) there in
        record {
          other = x.placed;
          found = x.listed;
          at = x.begins ∙ ap place (omega arith);
          after = x.ends ∙ ap place (omega arith);
          stands = x.is;
        }

    one-at : (ps : List Placed) (k : ℕ) (a b : Placed) → slice_get ps k ≡ Some a → slice_get ps k ≡ Some b → a ≡ b
    one-at ps k a b p q = let some : Some a ≡ Some b = sym p ∙ q in cc

    -- and each of its instructions is one
    pub record IsFromSource (j : Placed) : Type 0 where
      pub number_there : ℕ
      pub source : Placed
      pub found : slice_get insns number_there ≡ Some source
      pub laid_as : IsLaidAs number_there source
      pub same : laid_as.other ≡ j

    pub from-source : (j : Placed) → HasInstruction code j → IsFromSource j
    from-source j c =
        let at = slice_get-Contains (listing code) j c in
        let lt = slice_get_within (listing code) at.0 j at.1 in
        let many = same-count code place 0 (map step_there insns) (listing code) made-laid in
        let long = length-map insns step_there in
        let i = slice_get-some insns at.0 (omega (arith, lt, many, long)) in
        let x = laid-as at.0 i.0 i.1 in
        record { number_there = at.0; source = i.0; found = i.1; laid_as = x; same = one-at (listing code) at.0 x.other j x.found at.1 }

    -- ---- places rise

    rise : (k : ℕ) → k < count → place k < place (suc k)
    rise k lt =
        let i = slice_get-some insns k lt in
        let x = laid-as k i.0 i.1 in
        let a = all-are-listed code in
        let long : 0 < x.other.insn.len = a.long x.other.place x.other.insn (a.decodes x.other (Contains-slice_get (listing code) k x.other x.found)) in
        let at = x.at in
        let after = x.after in
        omega (arith, long, at, after)

    rise-over : (a d : ℕ) → a + suc d ≤ count → place a < place (a + suc d)
    rise-over a zero le = subst (λ n. place a < place n) (omega arith) (rise a (omega (arith, le)))
    rise-over a (suc d) le = grind (arith, rise, suc, rise-over a d (omega (arith, le)))

    rise-from : (a b : ℕ) → a < b → b ≤ count → place a < place b
    rise-from a b lt le =
        let same : a + suc (b - suc a) ≡ b = omega (arith, lt) in
        subst (λ n. place a < place n) same (rise-over a (b - suc a) (omega (arith, same, le)))

    rise-most : (a : ℕ) → a ≤ count → place a ≤ length code
    rise-most a le = elim (cases_lt a count) [
      | inl lt ↦ (let up = rise-from a count lt (omega arith) in let end = end-there in omega (arith, up, end))
      | inr ge ↦ (let same : place a ≡ place count = ap place (omega (arith, le, ge)) in let end = end-there in omega (arith, same, end))
    ]

    rise-one : (a b : ℕ) → a ≤ count → b ≤ count → place a ≡ place b → a ≡ b
    rise-one a b le most e = elim (cases_lt a b) [
      | inl lt ↦ (let up = rise-from a b lt most in absurd (omega (arith, up, e)))
      | inr ge ↦ elim (cases_lt b a) [
        | inl lt ↦ (let up = rise-from b a lt le in absurd (omega (arith, up, e)))
        | inr also ↦ omega (arith, ge, also)
      ]
    ]

    -- ---- where a place comes to

    abbrev at_number : ℕ → ℕ
    at_number p = place (number p)

    pub moved : ℕ → ℕ
    moved = spread (known m reg placed formed) at_number (length code)

    most : (p : ℕ) → IsBoundary m.code p → number p ≤ count
    most = number-most m reg placed formed

    pub moved-is : (p : ℕ) → IsBoundary m.code p → moved p ≡ place (number p)
    unfolding moved
    moved-is p b = spread-known (known m reg placed formed) at_number (length code) p (is-known m reg placed formed p b)

    known-one : (p q : ℕ) → IsBoundary m.code p → IsBoundary m.code q → place (number p) ≡ place (number q) → p ≡ q
    known-one p q a b e =
        let same : number p ≡ number q = rise-one (number p) (number q) (most p a) (most q b) e in
        elim (cases_lt p q) [
          | inl lt ↦ (let up = number-rises m reg placed formed p q a b lt in absurd (omega (arith, up, same)))
          | inr ge ↦ elim (cases_lt q p) [
            | inl lt ↦ (let up = number-rises m reg placed formed q p b a lt in absurd (omega (arith, up, same)))
            | inr also ↦ omega (arith, ge, also)
          ]
        ]

    pub moved-one : (p q : ℕ) → moved p ≡ moved q → p ≡ q
    unfolding moved
    moved-one = grind (arith, spread-one, length, rise-most, most, known-is, known-one)

    pub moved-rises : (p q : ℕ) → IsBoundary m.code p → IsBoundary m.code q → p < q → moved p < moved q
    moved-rises p q a b lt =
        let up = rise-from (number p) (number q) (number-rises m reg placed formed p q a b lt) (most q b) in
        let x = moved-is p a in
        let y = moved-is q b in
        omega (arith, up, x, y)

    pub moved-first : moved 0 ≡ 0
    moved-first = moved-is 0 (inr here) ∙ (ap place zero_there ∙ begins)
      where
        here : IsPlace m.code 0
        here = (placed m formed).first filled

        zero_there : number 0 ≡ 0
        zero_there = elim (cases_lt 0 (number 0)) [
          | inl more ↦
              let a = of-place m reg placed formed 0 here in
              let less = a.inside in
              let y = slice_get-some insns 0 (omega (arith, less)) in
              let up = (all-are-listed m.code).rising 0 (number 0) y.0 a.instruction y.1 a.at more in
              let at = a.there in
              absurd (omega (arith, up, at))
          | inr none ↦ omega (arith, none)
        ]

    pub moved-last : moved (length m.code) ≡ length code
    moved-last = moved-is (length m.code) (inl refl) ∙ (ap place (number-last m reg placed formed) ∙ end-there)

    -- an instruction stands where its place comes to, and ends where its end does
    pub laid-at : (k : ℕ) (i : Placed) → slice_get insns k ≡ Some i → (x : IsLaidAs k i) → x.other.place ≡ moved i.place
    laid-at k i e x =
        let there : IsPlace m.code i.place = (i, Contains-slice_get insns k i e, refl) in
        x.at ∙ (ap place (sym (number-of m reg placed formed k i e)) ∙ sym (moved-is i.place (inr there)))

    pub laid-after : (k : ℕ) (i : Placed) → slice_get insns k ≡ Some i → (x : IsLaidAs k i)
        → x.other.place + x.other.insn.len ≡ moved (i.place + i.insn.len)
    laid-after k i e x =
        let next : IsBoundary m.code (i.place + i.insn.len) = (placed m formed).next i (Contains-slice_get insns k i e) in
        x.after ∙ (ap place (sym (number-next m reg placed formed k i e)) ∙ sym (moved-is (i.place + i.insn.len) next))

    pub moved-place : (p : ℕ) → IsPlace m.code p → IsPlace code (moved p)
    moved-place p here =
        let a = of-place m reg placed formed p here in
        let x = laid-as (number p) a.instruction a.at in
        (x.other, Contains-slice_get (listing code) (number p) x.other x.found, x.at ∙ sym (moved-is p (inr here)))

    pub moved-boundary : (p : ℕ) → IsBoundary m.code p → IsBoundary code (moved p)
    moved-boundary p x = grind (arith, moved, moved-last, moved-place)

    -- the order of places is kept
    pub moved-le : (p q : ℕ) → IsBoundary m.code p → IsBoundary m.code q → nat_le (moved p) (moved q) ≡ nat_le p q
    moved-le p q a b = elim (cases_lt q p) [
      | inl lt ↦ (let up = moved-rises q p b a lt in grind (arith, nat_tests, up, lt))
      | inr le ↦ elim (cases_lt p q) [
        | inl lt ↦ (let up = moved-rises p q a b lt in grind (arith, nat_tests, up, lt))
        | inr also ↦ (let same : p ≡ q = omega (arith, le, also) in let at : moved p ≡ moved q = ap moved same in grind (arith, nat_tests, same, at))
      ]
    ]

    pub moved-lt : (p q : ℕ) → IsBoundary m.code p → IsBoundary m.code q → nat_lt (moved p) (moved q) ≡ nat_lt p q
    moved-lt p q a b = elim (cases_lt p q) [
      | inl lt ↦ (let up = moved-rises p q a b lt in grind (arith, nat_tests, up, lt))
      | inr le ↦ elim (cases_lt q p) [
        | inl lt ↦ (let up = moved-rises q p b a lt in grind (arith, nat_tests, up, lt))
        | inr also ↦ (let same : p ≡ q = omega (arith, le, also) in let at : moved p ≡ moved q = ap moved same in grind (arith, nat_tests, same, at))
      ]
    ]

    -- the laid code is listed to its end
    pub listed-whole : listing_end code ≡ length code
    listed-whole = grind (arith, length-map, length, map, end-is, made-laid, end-there)
