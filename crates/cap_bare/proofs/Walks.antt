-- The second walk accepts exactly what has a card typing, and refuses at a met state.
use Rattle.std.proofs.Common.{◌≡◌, ◌≢◌, ◌∙◌, sym, ap, subst, ℕ, zero, suc, ◌+◌, ◌-◌, ◌<◌, ◌≤◌, Bool, true, false, Option}
use Rattle.std.proofs.Common.{Result, Ok, Err, List, [], ◌∷◌, ⊎_elim, Contains, length, replicate, refl, arith, ◌==◌, eq-eqb}
use Rattle.std.proofs.lemmas.Bool.{eqb-true, both_ways}
use Rattle.std.proofs.lemmas.List.{length-replicate, length-append}
use Rattle.std.proofs.lemmas.List.Elements.{All-contains}
use Rattle.jc_decode.proofs.Elements.{Contains-either, nothing-in}
use Rattle.jc_decode.proofs.InstructionLists.{IsFound, found-in, err-of}
use Rattle.std.proofs.Math.ListN.{length-set}
use Rattle.std.specs.Prelude.{if◌then◌else◌, pos, IfSome, IsSomeAnd, MatchBool, slice_get}
use Rattle.cap_bare.specs.declared.format.Bare.{Bare}
use Rattle.jc_decode.specs.declared.insn.Placed.{Placed}
use Rattle.jc_decode.specs.Listing.{falls, targets}
use Rattle.jc_decode.specs.Places.{place_after}
use Rattle.cap_bare.specs.declared.fault.BareFault.{BareFault}
use Rattle.cap_bare.specs.declared.fault.BareKind.{BareKind}
use Rattle.cap_bare.specs.Format.{instruction_of}
use Rattle.cap_bare.specs.Effects.{register_written, cells_taken, cells_given}
use Rattle.cap_bare.specs.Code.{fetched, instructions, HasInstruction, IsPlace, IsTargetPlace, IsTarget, IsWellFormed, fault}
use Rattle.cap_bare.specs.Window.{IsSuffixAt}
use Rattle.cap_bare.specs.Typing.{Kind, short, IsBelow, below_itself, shorts, register_count, Applies, IsTyped, BareTyping}
use Rattle.cap_bare.specs.Met.{declared, with_raised, raised_at, Passes, IsMet, met_entry, met_next, IsRefused, refused_state}
use Rattle.cap_bare.specs.Walk.{passed, then_on, first_wrong}
use Rattle.cap_bare.proofs.Instructions.{IsInside, here-inside, IsHere, Lists, head-here, tail-lists, lists-instructions, stands-here, reached-first}
use Rattle.cap_bare.proofs.Instructions.{reached-after, stands-at, ends-at}
use Rattle.cap_bare.proofs.Places.{target-true, target-from}
use Rattle.cap_bare.proofs.Rule.{applied-from, applies, shorts-none, shorts-length, written-named}
use Rattle.cap_bare.proofs.Passing.{Passing, Leaves, passed-ok, passed-is, passed-err}

-- the register list of shorts
get-short : (n x : ℕ) → x < n → IsSomeAnd (slice_get (shorts n) x) (λ k. IsBelow short k)
get-short zero x h = absurd (omega arith)
get-short (suc n) zero h = below_itself
get-short (suc n) (suc x) h = get-short n x (omega arith)

written-short : (o : Option ℕ) (n : ℕ) → IfSome o (λ x. x < n)
    → IfSome o (λ x. IsSomeAnd (slice_get (shorts n) x) (λ k. IsBelow short k))
written-short x n h = grind (arith, get-short)

pub raised-length : (o : Option ℕ) (registers : List Kind) → length (raised_at o registers) ≡ length registers
raised-length x registers = grind (arith, length-set)

pub declared-length : (bare : Bare) → length (declared bare) ≡ register_count bare
declared-length bare = grind (arith, length-append, replicate, length-replicate)

module _ (code : List ℕ) (bare : Bare) where
  -- the number of cells before each place, read off the walk
  abbrev next_depth : Result ℕ BareKind → ℕ
  next_depth (Ok next) = next
  next_depth (Err kind) = 0

  abbrev depth_at : ℕ → List Placed → ℕ → ℕ
  depth_at depth [] place = 0
  depth_at depth (i ∷ is) place = if i.place == place then depth else depth_at (next_depth (passed code bare i depth)) is place

  depth-here : (depth : ℕ) (i : Placed) (is : List Placed) (p : ℕ) → i.place ≡ p → depth_at depth (i ∷ is) p ≡ depth
  depth-here depth i is p e = let t : (i.place == p) ≡ true = eq-eqb i.place p e in rw t refl

  depth-there : (depth : ℕ) (i : Placed) (is : List Placed) (p : ℕ) → i.place < p
      → depth_at depth (i ∷ is) p ≡ depth_at (next_depth (passed code bare i depth)) is p
  depth-there depth i is p lt = by_test (i.place == p) refl
    where
      by_test : (b : Bool) → (i.place == p) ≡ b
          → (if b then depth else depth_at (next_depth (passed code bare i depth)) is p) ≡ depth_at (next_depth (passed code bare i depth)) is p
      by_test true e = let same = eqb-true i.place p e in absurd (omega arith)
      by_test false e = refl

  -- after an instruction stands the next one, or nothing
  depth-next : (is : List Placed) (at depth : ℕ) → Lists code at is → (is ≡ [] → depth ≡ 0) → depth_at depth is at ≡ depth
  depth-next [] at depth l h = sym (h refl)
  depth-next (j ∷ js) at depth l h = depth-here depth j js at l.0

  list-past : (at : ℕ) (is : List Placed) → Lists code at is → length code ≤ at → is ≡ []
  list-past at [] l le = refl
  list-past at (i ∷ is) l le = let inside = here-inside code at i (head-here code at i is l) in absurd (omega (arith, inside.farther, inside.inside))

  module _ (w : IsWellFormed code) where
    -- the code ends at no other place than its end
    none-left : (at : ℕ) (is : List Placed) → IsSuffixAt code at → Lists code at is → is ≡ [] → at ≡ length code
    none-left at x r l e = grind (arith, err-of, ends-at)

    fits-leaves : (i : Placed) (after next : ℕ) (falls : Bool) → (place_after i) ≤ length code → Leaves code i after next falls
        → MatchBool falls ((place_after i < length code) × (next ≡ after)) (next ≡ 0)
    fits-leaves i after next x le h = grind (arith)

    nothing-left : (i : Placed) (after next : ℕ) (falls : Bool) → Leaves code i after next falls
        → place_after i ≡ length code → next ≡ 0
    nothing-left i after next x h e = grind (arith)

    -- what the walk accepts fits, instruction by instruction
    abbrev FitsIn : ℕ → List Placed → Placed → Type 0
    FitsIn depth is i = Passing code bare i (depth_at depth is i.place) (depth_at depth is (place_after i))

    fits-more : (depth next : ℕ) (i : Placed) (is : List Placed) → passed code bare i depth ≡ Ok next → i.place < place_after i
        → (j : Placed) → FitsIn next is j → IsFound (fetched code) (place_after i) j → FitsIn depth (i ∷ is) j
    fits-more depth next i is p lt j f k =
        let e : next_depth (passed code bare i depth) ≡ next = ap next_depth p in
        let inside = here-inside code j.place j (record { place = refl; found = k.is }) in
        let here : depth_at depth (i ∷ is) j.place ≡ depth_at next is j.place =
        depth-there depth i is j.place (omega (arith, k.from, lt)) ∙ ap (λ (n : ℕ). depth_at n is j.place) e in
        let ahead : depth_at depth (i ∷ is) (place_after j) ≡ depth_at next is (place_after j) =
        depth-there depth i is (place_after j) (omega (arith, k.from, inside.farther, lt)) ∙ ap (λ (n : ℕ). depth_at n is (place_after j)) e in
        subst (λ (n : ℕ). Passing code bare j n (depth_at depth (i ∷ is) (place_after j))) (sym here)
        (subst (λ (n : ℕ). Passing code bare j (depth_at next is j.place) n) (sym ahead) f)

    fits-head : (at : ℕ) (i : Placed) (is : List Placed) (depth next : ℕ) → IsSuffixAt code at → IsHere code at i
        → Lists code (place_after i) is
        → passed code bare i depth ≡ Ok next → FitsIn depth (i ∷ is) i
    fits-head at i is depth next r h l p =
        let inside = here-inside code at i h in
        let k = passed-ok code bare i depth next p in
        let e : next_depth (passed code bare i depth) ≡ next = ap next_depth p in
        let here : depth_at depth (i ∷ is) i.place ≡ depth = depth-here depth i is i.place refl in
        let none = λ (none : is ≡ []). nothing-left i k.after next (falls i.insn.op) k.leaves
        (none-left (place_after i) is (reached-after code at i r h) l none) in
        let ahead : depth_at depth (i ∷ is) (place_after i) ≡ next =
        depth-there depth i is (place_after i) (omega (arith, inside.farther, inside.place))
        ∙ ap (λ (n : ℕ). depth_at n is (place_after i)) e ∙ depth-next is (place_after i) next l none in
        subst (λ (n : ℕ). Passing code bare i n (depth_at depth (i ∷ is) (place_after i))) (sym here)
        (subst (λ (n : ℕ). Passing code bare i depth n) (sym ahead) k)

    accepted : (is : List Placed) (at depth : ℕ) → IsSuffixAt code at → Lists code at is → first_wrong code bare depth is ≡ Ok tt
        → (j : Placed) → Contains is j → FitsIn depth is j
    accepted [] at depth r l h j c = absurd (nothing-in j c)
    accepted (i ∷ is) at depth r l h j c =
        by_answer (passed code bare i depth) refl (λ next k. accepted is (place_after i) next (reached-after code at i r here) rest k j) h
      where
        here : IsHere code at i
        here = head-here code at i is l

        rest : Lists code (place_after i) is
        rest = tail-lists code at i is l

        inside : IsInside code at i
        inside = here-inside code at i here

        by_answer : (q : Result ℕ BareKind) → passed code bare i depth ≡ q
            → ((next : ℕ) → first_wrong code bare next is ≡ Ok tt → Contains is j → FitsIn next is j)
            → then_on i.place q (λ next. first_wrong code bare next is) ≡ Ok tt → FitsIn depth (i ∷ is) j
        by_answer (Err kind) e more h = absurd (cc)
        by_answer (Ok next) e more h =
            ⊎_elim (λ same. subst (FitsIn depth (i ∷ is)) same (fits-head at i is depth next r here rest e))
            (λ later. fits-more depth next i is e (omega (arith, inside.place, inside.farther)) j (more next h later)
            (found-in (fetched code) (place_after i) is j rest later))
            (Contains-either i is j c)

    -- so the stacks that are read off it make a card typing, with a register list of shorts
    abbrev depths : ℕ → ℕ
    depths place = depth_at 0 (instructions code) place

    typed-next : (i : Placed) (after : ℕ) (falls : Bool)
        → MatchBool falls ((place_after i < length code) × (depths (place_after i) ≡ after)) (depths (place_after i) ≡ 0)
        → MatchBool falls ((place_after i < length code) × (shorts (depths (place_after i)) ≡ shorts after)) (shorts (depths (place_after i)) ≡ [])
    typed-next i after x h = grind (arith)

    typed-from : (i : Placed) → HasInstruction code i → FitsIn 0 (instructions code) i
        → IsTyped code bare (shorts (register_count bare)) (λ p. shorts (depths p)) i
    typed-from i s f = record {
      after = shorts f.after;
      applies = applies bare (instruction_of i.insn) (shorts (register_count bare)) (depths i.place) f.after (shorts-length (register_count bare)) f.rule;
      stored =
          written-short (register_written (instruction_of i.insn)) (register_count bare)
          (written-named (instruction_of i.insn) (register_count bare) f.rule.local);
      branch = λ t. ap shorts (f.branch t);
      next = typed-next i f.after (falls i.insn.op)
          (fits-leaves i f.after (depths (place_after i)) (falls i.insn.op) (here-inside code i.place i (stands-here code i s)).inside f.leaves);
    }

    first-depth : (is : List Placed) → Lists code 0 is → depth_at 0 is 0 ≡ 0
    first-depth is l = depth-next is 0 0 l (λ none. refl)

    pub typing : first_wrong code bare 0 (instructions code) ≡ Ok tt → BareTyping code bare
    typing h =
        let all = accepted (instructions code) 0 0 (reached-first code) (lists-instructions code 0) h in
        let at_target : (place : ℕ) → IsTarget code place → depths place ≡ 0 =
        λ place t.
        let p : IsPlace code place = All-contains (IsTargetPlace code) (targets code t.from) (pos place) (w.leads t.from t.stands) t.leads in
        let f = all p.0 p.1 in
        subst (λ (n : ℕ). depths n ≡ 0) p.2 (f.target (target-true code p.0.place (subst (IsTarget code) (sym p.2) t))) in
        record {
          well_formed = w;
          registers = shorts (register_count bare);
          stacks = λ p. shorts (depths p);
          sized = shorts-length (register_count bare);
          arguments = λ x lt. get-short (register_count bare) x (omega arith);
          entry = ap shorts (first-depth (instructions code) (lists-instructions code 0));
          targets = λ place t. ap shorts (at_target place t);
          typed = λ i s. typed-from i s (all i s);
        }

    -- what the walk refuses, it refuses at a met state
    refused : (is : List Placed) (at depth : ℕ) (registers : List Kind) (f : BareFault) → IsSuffixAt code at → Lists code at is
        → length registers ≡ register_count bare → IsMet code bare at registers (shorts depth)
        → first_wrong code bare depth is ≡ Err f
        → IsRefused code bare f
    refused [] at depth registers f r l e m h = absurd (cc)
    refused (i ∷ is) at depth registers f r l e m h =
        by_answer (passed code bare i depth) refl
        (λ next. refused is (place_after i) next (with_raised (instruction_of i.insn) registers) f (reached-after code at i r here) rest
        (raised-length (register_written (instruction_of i.insn)) registers ∙ e)) h
      where
        here : IsHere code at i
        here = head-here code at i is l

        rest : Lists code (place_after i) is
        rest = tail-lists code at i is l

        s : HasInstruction code i
        s = stands-at code at i r here

        inside : IsInside code at i
        inside = here-inside code at i here

        met : IsMet code bare i.place registers (shorts depth)
        met = subst (λ (n : ℕ). IsMet code bare n registers (shorts depth)) (sym inside.place) m

        goes-on : (after next : ℕ) (falls : Bool) → Leaves code i after next falls → falls ≡ true → place_after i < length code
        goes-on after next x k t = grind (arith, inside)

        stack-next : (after next : ℕ) (falls : Bool) → Leaves code i after next falls
            → (if falls then shorts after else []) ≡ shorts next
        stack-next after next x k = grind (arith)

        by_end : (next : ℕ) → Passing code bare i depth next → (b : Bool) → ((place_after i) == length code) ≡ b
            → (IsMet code bare (place_after i) (with_raised (instruction_of i.insn) registers) (shorts next) → first_wrong code bare next is ≡ Err f
            → IsRefused code bare f)
            → first_wrong code bare next is ≡ Err f → IsRefused code bare f
        by_end next p true t more h = grind (arith, eqb-true, length, list-past, rest)
        by_end next p false t more h =
            let ne : (place_after i) ≢ length code = λ k. both_ways ((place_after i) == length code) t (eq-eqb (place_after i) (length code) k) in
            let le = inside.inside in
            let passes : Passes code bare i registers (shorts depth) (shorts p.after) = record {
              stands = s;
              target = λ k. ap shorts (p.target (target-true code i.place k));
              applies = applies bare (instruction_of i.insn) registers depth p.after e p.rule;
              branch = λ k. ap shorts (p.branch k);
              goes_on = goes-on p.after next (falls i.insn.op) p.leaves;
            } in
            more
            (subst (IsMet code bare (place_after i) (with_raised (instruction_of i.insn) registers)) (stack-next p.after next (falls i.insn.op) p.leaves)
            (met_next i registers (shorts depth) (shorts p.after) met passes (omega arith))) h

        by_answer : (q : Result ℕ BareKind) → passed code bare i depth ≡ q
            → ((next : ℕ) → IsMet code bare (place_after i) (with_raised (instruction_of i.insn) registers) (shorts next)
            → first_wrong code bare next is ≡ Err f → IsRefused code bare f)
            → then_on i.place q (λ next. first_wrong code bare next is) ≡ Err f → IsRefused code bare f
        by_answer (Err kind) k more h =
            let same : fault i.place kind ≡ f = cc in
            subst (IsRefused code bare) same (refused_state i registers (shorts depth) kind w s met (passed-err code bare i depth kind registers e k))
        by_answer (Ok next) k more h = by_end next (passed-ok code bare i depth next k) ((place_after i) == length code) refl (more next) h

    pub refused-at : (f : BareFault) → first_wrong code bare 0 (instructions code) ≡ Err f → IsRefused code bare f
    refused-at f h =
        refused (instructions code) 0 0 (declared bare) f (reached-first code) (lists-instructions code 0) (declared-length bare) met_entry h

  -- a method with a card typing is accepted
  module _ (t : BareTyping code bare) where
    typed-leaves : (i : Placed) (after : ℕ) (stack : List Kind) (falls : Bool) → stack ≡ shorts after
        → MatchBool falls ((place_after i < length code) × (t.stacks (place_after i) ≡ stack)) (t.stacks (place_after i) ≡ [])
        → (next : ℕ) × Leaves code i after next falls × (t.stacks (place_after i) ≡ shorts next)
    typed-leaves i after stack x e h = grind (arith)

    passing-typed : (i : Placed) (depth : ℕ) → HasInstruction code i → t.stacks i.place ≡ shorts depth
        → (next : ℕ) × Passing code bare i depth next × (t.stacks (place_after i) ≡ shorts next)
    passing-typed i depth s e =
        let k = t.typed i s in
        let a = applied-from bare (instruction_of i.insn) t.registers depth k.after
        (subst (λ ks. Applies bare (instruction_of i.insn) t.registers ks k.after) e k.applies) in
        let leaves = typed-leaves i (depth - cells_taken (instruction_of i.insn) + cells_given (instruction_of i.insn)) k.after (falls i.insn.op) a.1
        k.next in (
          leaves.0,
          (record {
            target = λ h. shorts-none depth (sym e ∙ t.targets i.place (target-from code i.place h));
            after = depth - cells_taken (instruction_of i.insn) + cells_given (instruction_of i.insn);
            rule = a.0;
            branch = λ h. shorts-none _ (sym a.1 ∙ k.branch h);
            leaves = leaves.1;
          }),
          leaves.2,
        )

    walked : (is : List Placed) (at depth : ℕ) → IsSuffixAt code at → Lists code at is → t.stacks at ≡ shorts depth
        → first_wrong code bare depth is ≡ Ok tt
    walked [] at depth r l e = refl
    walked (i ∷ is) at depth r l e =
        let here = head-here code at i is l in
        let p = passing-typed i depth (stands-at code at i r here) (ap t.stacks here.place ∙ e) in
        let ok : passed code bare i depth ≡ Ok p.0 = passed-is code bare i depth p.0 p.1 in
        rw ok (walked is (place_after i) p.0 (reached-after code at i r here) (tail-lists code at i is l) p.2)

    pub accepts : first_wrong code bare 0 (instructions code) ≡ Ok tt
    accepts = walked (instructions code) 0 0 (reached-first code) (lists-instructions code 0) t.entry
