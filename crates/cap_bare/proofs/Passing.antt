-- What it means that nothing is wrong, or something is, at an instruction over a stack of shorts.
use Rattle.std.proofs.Common.{◌≡◌, ◌≢◌, ◌∙◌, ap, subst, ℕ, Bool, true, false, Result, Ok, Err, List, [], length, refl, arith, ◌==◌}
use Rattle.std.proofs.Common.{eq-eqb}
use Rattle.std.proofs.lemmas.Bool.{eqb-true, ltb-true, and_parts, both_ways}
use Rattle.std.proofs.lemmas.Bool.Decides.{nat_tests}
use Rattle.std.specs.Prelude.{if◌then◌else◌, ◌&&◌, nat_lt}
use Rattle.cap_bare.specs.declared.format.Bare.{Bare}
use Rattle.jc_decode.specs.declared.insn.Placed.{Placed}
use Rattle.jc_decode.specs.Listing.{falls, jumps}
use Rattle.jc_decode.specs.Places.{place_after}
use Rattle.cap_bare.specs.declared.fault.BareKind.{BareKind}
use Rattle.cap_bare.specs.declared.fault.BareKind.TheVariants.{StackAtTarget, StackAtBranch, FallsOff}
use Rattle.cap_bare.specs.Format.{instruction_of}
use Rattle.cap_bare.specs.Typing.{Kind, shorts, register_count}
use Rattle.cap_bare.specs.Met.{IsWrong, wrong_target, wrong_rule, wrong_branch, wrong_end, LandsEmpty}
use Rattle.cap_bare.specs.Walk.{is_target, applied, left, passed}
use Rattle.cap_bare.proofs.Places.{target-true, target-from}
use Rattle.cap_bare.proofs.Rule.{Applied, applied-ok, applied-is, applied-err, applies, shorts-none}

-- where an instruction that falls through, or doesn't, leads from a stack of so many shorts
abbrev pub Leaves : List ℕ → Placed → ℕ → ℕ → Bool → Type 0
Leaves code i after next true = (place_after i ≢ length code) × (next ≡ after)
Leaves code i after next false = next ≡ 0

-- nothing is wrong
pub record Passing (code : List ℕ) (bare : Bare) (i : Placed) (depth next : ℕ) : Type 0 where
  pub target : is_target code i.place ≡ true → depth ≡ 0
  pub after : ℕ
  pub rule : Applied bare (instruction_of i.insn) depth after
  pub branch : jumps i.insn.op ≡ true → after ≡ 0
  pub leaves : Leaves code i after next (falls i.insn.op)

at-target : (depth : ℕ) (t : Bool) → (nat_lt 0 depth && t) ≡ false → t ≡ true → depth ≡ 0
at-target depth t e h = grind (arith, nat_tests)

pub not-target : (depth : ℕ) (t : Bool) → (t ≡ true → depth ≡ 0) → (nat_lt 0 depth && t) ≡ false
not-target depth true h = let z = h refl in rw z refl
not-target depth false h = by_test (nat_lt 0 depth)
  where
    by_test : (b : Bool) → (b && false) ≡ false
    by_test true = refl
    by_test false = refl

at-branch : (after : ℕ) (b : Bool) → (b && nat_lt 0 after) ≡ false → b ≡ true → after ≡ 0
at-branch after x e h = grind (arith, nat_tests)

not-branch : (after : ℕ) (b : Bool) → (b ≡ true → after ≡ 0) → (b && nat_lt 0 after) ≡ false
not-branch after x h = grind (arith)

module _ (code : List ℕ) (bare : Bare) (i : Placed) where
  abbrev leaving : Bool → Bool → Bool → ℕ → Result ℕ BareKind
  leaving branching falling last after =
      if branching then Err StackAtBranch else if falling then (if last then Err FallsOff else Ok after) else Ok 0

  leaves-ok : (branching falling last : Bool) (after next : ℕ) → leaving branching falling last after ≡ Ok next
      → (place_after i == length code) ≡ last
      → (branching ≡ false) × Leaves code i after next falling
  leaves-ok x f l after next h e = grind (arith, both_ways, length, eq-eqb)

  leaves-is : (falling last : Bool) (after next : ℕ) → Leaves code i after next falling → (place_after i == length code) ≡ last
      → leaving false falling last after ≡ Ok next
  leaves-is x l after next h e = grind (arith, eqb-true, length)

  abbrev passing : Bool → Result ℕ BareKind → Result ℕ BareKind
  passing met rest = if met then Err StackAtTarget else left code i rest

  pub passed-ok : (depth next : ℕ) → passed code bare i depth ≡ Ok next → Passing code bare i depth next
  passed-ok depth next h =
      by_test (nat_lt 0 depth && is_target code i.place) refl (applied bare (instruction_of i.insn) depth) refl h
    where
      by_test : (b : Bool) → (nat_lt 0 depth && is_target code i.place) ≡ b → (r : Result ℕ BareKind)
          → applied bare (instruction_of i.insn) depth ≡ r
          → passing b r ≡ Ok next → Passing code bare i depth next
      by_test true e r a h = absurd (cc)
      by_test false e (Err kind) a h = absurd (cc)
      by_test false e (Ok after) a h =
          let k = leaves-ok (jumps i.insn.op && nat_lt 0 after) (falls i.insn.op) (place_after i == length code) after next h refl in
          record {
            target = at-target depth (is_target code i.place) e;
            after = after;
            rule = applied-ok bare (instruction_of i.insn) depth after a;
            branch = at-branch after (jumps i.insn.op) k.0;
            leaves = k.1;
          }

  pub passed-is : (depth next : ℕ) → Passing code bare i depth next → passed code bare i depth ≡ Ok next
  passed-is depth next p =
      let t : (nat_lt 0 depth && is_target code i.place) ≡ false = not-target depth (is_target code i.place) p.target in
      let a : applied bare (instruction_of i.insn) depth ≡ Ok p.after = applied-is bare (instruction_of i.insn) depth p.after p.rule in
      let b : (jumps i.insn.op && nat_lt 0 p.after) ≡ false = not-branch p.after (jumps i.insn.op) p.branch in
      let l = leaves-is (falls i.insn.op) (place_after i == length code) p.after next p.leaves refl in
      rw (t, a, b) l

  pub passed-err : (depth : ℕ) (kind : BareKind) (registers : List Kind) → length registers ≡ register_count bare
      → passed code bare i depth ≡ Err kind → IsWrong code bare i registers (shorts depth) kind
  passed-err depth kind registers e h =
      by_test (nat_lt 0 depth && is_target code i.place) refl (applied bare (instruction_of i.insn) depth) refl h
    where
      stack-left : (n : ℕ) → nat_lt 0 n ≡ true → shorts n ≢ []
      stack-left n t none = let z = shorts-none n none in let lt = ltb-true 0 n t in absurd (omega arith)

      landing : (nat_lt 0 depth && is_target code i.place) ≡ false → LandsEmpty code i (shorts depth)
      landing e t = ap shorts (at-target depth (is_target code i.place) e (target-true code i.place t))

      leaving-err : (after : ℕ) → LandsEmpty code i (shorts depth) → Applied bare (instruction_of i.insn) depth after
          → (b : Bool) → (jumps i.insn.op && nat_lt 0 after) ≡ b
          → (f : Bool) → falls i.insn.op ≡ f → (l : Bool) → (place_after i == length code) ≡ l → leaving b f l after ≡ Err kind
          → IsWrong code bare i registers (shorts depth) kind
      leaving-err after empty a true b f fe l le h =
          let same : StackAtBranch ≡ kind = cc in
          let two = and_parts (jumps i.insn.op) (nat_lt 0 after) b in
          subst (IsWrong code bare i registers (shorts depth)) same
          (wrong_branch (shorts after) empty (applies bare (instruction_of i.insn) registers depth after e a) two.0 (stack-left after two.1))
      leaving-err after empty a false b true fe true le h =
          let same : FallsOff ≡ kind = cc in
          subst (IsWrong code bare i registers (shorts depth)) same
          (wrong_end (shorts after) empty (applies bare (instruction_of i.insn) registers depth after e a)
          (λ branching. ap shorts (at-branch after (jumps i.insn.op) b branching)) fe
          (eqb-true (place_after i) (length code) le))
      leaving-err after empty a false b true fe false le h = absurd (cc)
      leaving-err after empty a false b false fe l le h = absurd (cc)

      by_test : (b : Bool) → (nat_lt 0 depth && is_target code i.place) ≡ b → (r : Result ℕ BareKind)
          → applied bare (instruction_of i.insn) depth ≡ r
          → passing b r ≡ Err kind → IsWrong code bare i registers (shorts depth) kind
      by_test true t r a h =
          let same : StackAtTarget ≡ kind = cc in
          let two = and_parts (nat_lt 0 depth) (is_target code i.place) t in
          subst (IsWrong code bare i registers (shorts depth)) same (wrong_target (target-from code i.place two.1) (stack-left depth two.0))
      by_test false t (Err k) a h =
          let same : k ≡ kind = cc in
          wrong_rule kind (landing t) (applied-err bare (instruction_of i.insn) depth kind (a ∙ ap Err same))
      by_test false t (Ok after) a h =
          leaving-err after (landing t) (applied-ok bare (instruction_of i.insn) depth after a) (jumps i.insn.op && nat_lt 0 after) refl
          (falls i.insn.op) refl (place_after i == length code) refl h
