-- A method has one refusal at most: whatever state is met, the walk along the code comes to it.
use Rattle.std.proofs.Common.{◌≡◌, ◌≢◌, ◌∙◌, sym, ap, subst, ℕ, zero, suc, ◌+◌, ◌-◌, ◌<◌, Bool, true, false, Option}
use Rattle.std.proofs.Common.{Result, Ok, Err, List, [], ◌++◌, length, refl, arith, ◌==◌, eq-eqb}
use Rattle.std.proofs.lemmas.Bool.{lt-ltb}
use Rattle.std.proofs.lemmas.Bool.Decides.{nat_tests}
use Rattle.std.proofs.lemmas.List.{length-append}
use Rattle.std.specs.Prelude.{if◌then◌else◌, ◌&&◌, nat_lt, IfSome}
use Rattle.jc_decode.specs.declared.insn.Placed.{Placed}
use Rattle.jc_decode.specs.Listing.{falls, jumps}
use Rattle.jc_decode.specs.Places.{place_after}
use Rattle.cap_bare.specs.declared.format.Bare.{Bare}
use Rattle.cap_bare.specs.declared.instruction.Instruction.{Instruction}
use Rattle.cap_bare.specs.declared.fault.BareFault.{BareFault}
use Rattle.cap_bare.specs.declared.fault.BareKind.{BareKind}
use Rattle.cap_bare.specs.declared.fault.BareKind.TheVariants.{FallsOff}
use Rattle.cap_bare.specs.Format.{instruction_of}
use Rattle.cap_bare.specs.Effects.{register_of, register_written, cells_taken, cells_given}
use Rattle.cap_bare.specs.Code.{instructions, instructions_from, HasInstruction, fault}
use Rattle.cap_bare.specs.Typing.{Kind, shorts, register_count, Applies}
use Rattle.cap_bare.specs.Met.{Passes, IsMet, met_entry, met_next, met_again, RuleFails, fails_local, fails_cells, fails_room}
use Rattle.cap_bare.specs.Met.{LandsEmpty, IsWrong, wrong_target, wrong_rule, wrong_branch, wrong_end, IsRefused}
use Rattle.cap_bare.specs.Walk.{is_target, if_local, applied, left, passed, then_on, first_wrong}
use Rattle.cap_bare.proofs.Instructions.{stands-here, instructions-found}
use Rattle.cap_bare.proofs.Places.{target-true, target-from}
use Rattle.cap_bare.proofs.Rule.{applied-is, applied-from, shorts-none, shorts-length, shorts-rest}
use Rattle.cap_bare.proofs.Passing.{Passing, Leaves, not-target, passed-is}
use Rattle.cap_bare.proofs.Walks.{raised-length, declared-length}
use Rattle.cap_bare.proofs.WellFormed.{flaw-not, first-one}

-- ---- what is wrong at an instruction is what the walk finds there

locals-pass : (bare : Bare) (o : Option ℕ) (depth : ℕ) (rest : Result ℕ BareKind) → IfSome o (λ x. x < register_count bare)
    → if_local bare o depth rest ≡ rest
locals-pass bare x depth rest h = grind (arith, lt-ltb)

stack-there : (n : ℕ) → shorts n ≢ [] → nat_lt 0 n ≡ true
stack-there zero h = absurd (h refl)
stack-there (suc n) h = lt-ltb 0 (suc n) (omega arith)

module _ (bare : Bare) (i : Instruction) (depth : ℕ) (stack : List Kind) (is : stack ≡ shorts depth) where
  fails-applied : (kind : BareKind) → RuleFails bare i stack kind → applied bare i depth ≡ Err kind
  fails-applied _ (fails_local x e le) = grind (arith, nat_tests)
  fails-applied _ (fails_cells local lt) = grind (arith, lt-ltb, length, shorts-length, locals-pass)
  fails-applied _ (fails_room local rest takes lt) =
      let r = shorts-rest depth (cells_taken i) rest (sym is ∙ takes) in
      let enough : nat_lt depth (cells_taken i) ≡ false = grind (arith, nat_tests, r.0) in
      let size : length (shorts (cells_given i) ++ rest) ≡ depth - cells_taken i + cells_given i =
      length-append (shorts (cells_given i)) rest
      ∙ omega (arith, shorts-length (cells_given i), ap length r.1, shorts-length (depth - cells_taken i)) in
      let many : nat_lt bare.max_stack (depth - cells_taken i + cells_given i) ≡ true =
      lt-ltb bare.max_stack (depth - cells_taken i + cells_given i) (omega (arith, lt, size)) in
      locals-pass bare (register_of i) depth _ local ∙ rw (enough, many) refl

module _ (code : List ℕ) (bare : Bare) where
  module _ (i : Placed) (registers stack : List Kind) (depth : ℕ) (is : stack ≡ shorts depth) where
    lands : LandsEmpty code i stack → (nat_lt 0 depth && is_target code i.place) ≡ false
    lands h = not-target depth (is_target code i.place) (λ t. shorts-none depth (sym is ∙ h (target-from code i.place t)))

    rule-from : (after : List Kind) → Applies bare (instruction_of i.insn) registers stack after
        → (applied bare (instruction_of i.insn) depth ≡ Ok (depth - cells_taken (instruction_of i.insn) + cells_given (instruction_of i.insn)))
        × (after ≡ shorts (depth - cells_taken (instruction_of i.insn) + cells_given (instruction_of i.insn)))
    rule-from after a =
        let f = applied-from bare (instruction_of i.insn) registers depth after
        (subst (λ ks. Applies bare (instruction_of i.insn) registers ks after) is a) in (
          applied-is bare (instruction_of i.insn) depth
              (depth - cells_taken (instruction_of i.insn) + cells_given (instruction_of i.insn)) f.0,
          f.1,
        )

    wrong-passed : (kind : BareKind) → IsWrong code bare i registers stack kind → passed code bare i depth ≡ Err kind
    wrong-passed _ (wrong_target t ne) = grind (arith, target-true, stack-there)
    wrong-passed kind (wrong_rule k empty f) = grind (arith, lands, fails-applied)
    wrong-passed _ (wrong_branch after empty a j ne) = grind (arith, rule-from after a, lands empty, stack-there)
    wrong-passed _ (wrong_end after empty a branch f last) =
        let r = rule-from after a in
        let at_end : (place_after i == length code) ≡ true = eq-eqb (place_after i) (length code) last in
        rw (lands empty) (ap (left code i) r.0 ∙ leaving (jumps i.insn.op) refl r.1)
      where
        leaving : (b : Bool) → jumps i.insn.op ≡ b
            → after ≡ shorts (depth - cells_taken (instruction_of i.insn) + cells_given (instruction_of i.insn))
            → left code i (Ok (depth - cells_taken (instruction_of i.insn) + cells_given (instruction_of i.insn))) ≡ Err FallsOff
        leaving true j e =
            let none = shorts-none _ (sym e ∙ branch j) in
            let at_end : (place_after i == length code) ≡ true = eq-eqb (place_after i) (length code) last in
            rw (j, f, at_end, none) refl
        leaving false j e =
            let at_end : (place_after i == length code) ≡ true = eq-eqb (place_after i) (length code) last in
            rw (j, f, at_end) refl

    -- and where nothing is wrong the walk goes on
    goes-on : (after : List Kind) → Passes code bare i registers stack after
        → (next : ℕ) × Passing code bare i depth next × ((if falls i.insn.op then after else []) ≡ shorts next)
    goes-on after p =
        let f = applied-from bare (instruction_of i.insn) registers depth after
        (subst (λ ks. Applies bare (instruction_of i.insn) registers ks after) is p.applies) in
        let l = leaving (falls i.insn.op) refl f.1 in (
          l.0,
          record {
            target = λ t. shorts-none depth (sym is ∙ p.target (target-from code i.place t));
            after = depth - cells_taken (instruction_of i.insn) + cells_given (instruction_of i.insn);
            rule = f.0;
            branch = λ j. shorts-none _ (sym f.1 ∙ p.branch j);
            leaves = l.1;
          },
          l.2,
        )
      where
        leaving : (b : Bool) → falls i.insn.op ≡ b
            → after ≡ shorts (depth - cells_taken (instruction_of i.insn) + cells_given (instruction_of i.insn))
            → (next : ℕ) × Leaves code i (depth - cells_taken (instruction_of i.insn) + cells_given (instruction_of i.insn)) next b
            × ((if b then after else []) ≡ shorts next)
        leaving true f e =
            let lt = p.goes_on f in
            (depth - cells_taken (instruction_of i.insn) + cells_given (instruction_of i.insn), ((λ last. absurd (omega arith)), refl), e)
        leaving false f e = (0, refl, refl)

  -- ---- the walk comes to each state that is met

  -- the walk from here on, over so many shorts, comes to what the whole walk comes to
  abbrev Comes : ℕ → ℕ → Type 0
  Comes at depth = first_wrong code bare 0 (instructions code) ≡ first_wrong code bare depth (instructions_from code at)

  comes-here : (i : Placed) (depth : ℕ) → HasInstruction code i → Comes i.place depth
      → first_wrong code bare 0 (instructions code)
      ≡ then_on i.place (passed code bare i depth) (λ after. first_wrong code bare after (instructions_from code (place_after i)))
  comes-here i depth stands comes =
      comes ∙ ap (first_wrong code bare depth) (instructions-found code i.place i.insn (stands-here code i stands).found)

  record Known (at : ℕ) (registers stack : List Kind) : Type 0 where
    pub depth : ℕ
    pub is : stack ≡ shorts depth
    pub count : length registers ≡ register_count bare
    pub comes : Comes at depth

  known : (at : ℕ) (registers stack : List Kind) → IsMet code bare at registers stack → Known at registers stack
  known _ _ _ met_entry = record { depth = 0; is = refl; count = declared-length bare; comes = refl }
  known _ _ _ (met_next i registers stack after met p lt) =
      let k = known i.place registers stack met in
      let next = goes-on i registers stack k.depth k.is after p in
      let ok : passed code bare i k.depth ≡ Ok next.0 = passed-is code bare i k.depth next.0 next.1 in
      record {
        depth = next.0;
        is = next.2;
        count = raised-length (register_written (instruction_of i.insn)) registers ∙ k.count;
        comes = comes-here i k.depth p.stands k.comes
            ∙ ap (λ r. then_on i.place r (λ after. first_wrong code bare after (instructions_from code (place_after i)))) ok;
      }
  known _ _ _ (met_again i registers stack after met p last) = grind (arith, raised-length, known i.place registers stack met)

  state-found : (i : Placed) (registers stack : List Kind) (kind : BareKind) → HasInstruction code i → IsMet code bare i.place registers stack
      → IsWrong code bare i registers stack kind
      → first_wrong code bare 0 (instructions code) ≡ Err (fault i.place kind)
  state-found i registers stack kind stands met wrong =
      let k = known i.place registers stack met in
      comes-here i k.depth stands k.comes
      ∙ ap (λ r. then_on i.place r (λ after. first_wrong code bare after (instructions_from code (place_after i))))
      (wrong-passed i registers stack k.depth k.is kind wrong)

  same-fault : (r : Result (Unit {0}) BareFault) (f g : BareFault) → r ≡ Err f → r ≡ Err g → f ≡ g
  same-fault r f g h k = let e : Err f ≡ Err g = sym h ∙ k in cc

  pub one-refusal : (f g : BareFault) → IsRefused code bare f → IsRefused code bare g → f ≡ g
  one-refusal f g x x2 = grind (arith, first-one, flaw-not, same-fault, state-found)
