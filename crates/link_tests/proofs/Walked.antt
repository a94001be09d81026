-- One pass of the verifier on the card over a method without handlers, of which the place 0 alone is marked; and methods of
-- three passes.
use Rattle.std.proofs.Common.{◌≡◌, ◌≢◌, ℕ, zero, suc, ◌+◌, ◌*◌, ◌<◌, ◌≤◌, Bool, true, false, List, [], ◌∷◌, ◌++◌, length, Contains, IsTrue, IsSomeAnd}
use Rattle.std.proofs.Common.{Option, Some, None, inl, inr}
use Rattle.std.proofs.Common.{refl, sym, ap, subst, ◌∙◌, arith}
use Rattle.std.proofs.Math.Nat.{suc-mul}
use Rattle.jc_base.specs.declared.ty.Ty.{Ty}
use Rattle.jc_base.specs.declared.ty.Ty.TheVariants.{Bottom}
use Rattle.jc_base.specs.World.{Linked}
use Rattle.jc_base.proofs.Eaching.{IsAmong-from_Contains}
use Rattle.jc_decode.specs.declared.insn.Placed.{Placed}
use Rattle.jc_decode.specs.Listing.{falls, jumps, listing}
use Rattle.jc_control.specs.Method.{Method, IsMethodOf}
use Rattle.jc_control.specs.WellFormed.{HasInstruction}
use Rattle.jc_rules.specs.declared.effect.Mode.TheVariants.{Card}
use Rattle.jc_rules.specs.declared.rule.Outcome.{Outcome}
use Rattle.jc_rules.specs.Apply.{RuleApplies}
use Rattle.jc_rules.specs.Demand.{Frame, AreKnown}
use Rattle.jc_rules.specs.Flow.{start_frame}
use Rattle.jc_rules.specs.FlowLaws.{AreRules}
use Rattle.card_typing.specs.Met.{Arrives, GoesTo, IsMetAfter, arrives_empty, arrives_falling, goes_again, goes_there, met_next, met_start}
use Rattle.card_typing.specs.Pass.{HasAfterPasses}
use Rattle.card_typing.specs.Place.{IsEntry}
use Rattle.card_typing.proofs.OneRefusal.{met-is-one}
use Rattle.card_typing.proofs.Sound.{met-is-sound}
use Rattle.jc_rules.specs.Laws.{RuleRaises}
use Rattle.std.proofs.lemmas.List.Elements.{Contains-append_right}
use Rattle.card_verify.specs.Bound.{AreCounted}
use Rattle.card_verify.specs.Counted.{instruction_count}

nothing-among : {X : Type 0} (xs : List X) (x : X) → xs ≡ [] → Contains xs x → ⊥
nothing-among xs x none at =
    let there = subst (λ ys. Contains ys x) none at in
    absurd (omega (arith, there.1))

pub stands-there : {X : Type 0} (yielded rest : List X) (i : X) (after whole : List X) → yielded ++ rest ≡ whole → rest ≡ i ∷ after → Contains whole i
stands-there yielded rest i after whole all e =
    subst (λ xs. Contains xs i) (ap (λ r. yielded ++ r) (sym e) ∙ all) (Contains-append_right yielded (i ∷ after) i (0, omega arith, refl))

first-alone : (q : ℕ) → Contains (0 ∷ []) q → q ≡ 0
first-alone q at = elim (IsAmong-from_Contains q (0 ∷ []) at) [
  | inl here ↦ sym here
  | inr later ↦ absurd later
]

module _ (w : Linked) (m : Method) where
  -- after so many visits a walk comes to a place, or to the end of the code
  abbrev pub IsComing : ℕ → ℕ → List Ty → List Ty → Type 0
  IsComing visits at regs stack =
      (q : ℕ) → GoesTo m at q → IsMetAfter w m (Contains (0 ∷ [])) visits q (record { regs = regs; stack = stack })

  pub met-here : (visits at : ℕ) (i : Placed) (regs stack : List Ty) → IsComing visits at regs stack → i.place ≡ at → i.place < length m.code
      → IsMetAfter w m (Contains (0 ∷ [])) visits i.place (record { regs = regs; stack = stack })
  met-here visits at i regs stack coming e lt = coming i.place (subst (λ n. GoesTo m n i.place) e (goes_there lt))

  pub known-here : AreRules w → RuleRaises w → IsMethodOf w m → (visits at : ℕ) (i : Placed) (regs stack : List Ty)
      → IsComing visits at regs stack → i.place ≡ at → i.place < length m.code
      → AreKnown w.classes (record { regs = regs; stack = stack })
  known-here rules raises mo visits at i regs stack coming e lt =
      (met-is-sound w rules raises m (Contains (0 ∷ [])) mo i.place (record { regs = regs; stack = stack })
      (record { visits = visits; after = met-here visits at i regs stack coming e lt })).known

  module _ (none : m.rec.handlers ≡ []) where
    no-entry : (q : ℕ) → IsEntry m q → ⊥
    no-entry q e = nothing-among m.rec.handlers e.handler none e.listed

    pub coming-first : 0 < length m.code → IsComing 0 0 (start_frame m.rec Bottom).regs []
    coming-first filled _ (goes_there lt) = met_start [] (arrives_falling (no-entry 0) refl)
    coming-first filled _ (goes_again e) = absurd (omega (arith, filled, e))

    pub coming-begun : 0 < length m.code → (regs stack : List Ty) → regs ≡ (start_frame m.rec Bottom).regs → stack ≡ [] → IsComing 0 0 regs stack
    coming-begun filled regs stack begun empty =
        subst (λ rs. IsComing 0 0 rs stack) (sym begun) (subst (IsComing 0 0 (start_frame m.rec Bottom).regs) (sym empty) (coming-first filled))

    arrives : (b : Bool) (given : List Ty) (q : ℕ) → (b ≡ false → given ≡ []) → Arrives w m b given q given
    arrives true given q ends = arrives_falling (no-entry q) refl
    arrives false given q ends = subst (Arrives w m false given q) (sym (ends refl)) (arrives_empty (no-entry q) refl)

    pub coming-next : (visits : ℕ) (i : Placed) (before after : Frame) (o : Outcome)
        → IsMetAfter w m (Contains (0 ∷ [])) visits i.place before
        → HasInstruction m.code i
        → (i.place ≡ 0 → before.stack ≡ [])
        → RuleApplies w m.rec i.place i.insn Card before after o
        → (IsTrue (jumps i.insn.op) → after.stack ≡ [])
        → (IsTrue (falls i.insn.op) → i.place + i.insn.len < length m.code)
        → (falls i.insn.op ≡ false → after.stack ≡ [])
        → IsComing (suc visits) (i.place + i.insn.len) after.regs after.stack
    coming-next visits i before after o met there empty applies branch goes_on ends =
        λ q goes. met_next visits i q before after o after.stack met
        (record {
          stands = there;
          suits = record {
            entry = λ e. absurd (no-entry i.place e);
            caught = λ e. absurd (no-entry i.place e);
            mark = λ at fallen. empty (first-alone i.place at);
          };
          applies = applies;
          branch = branch;
          goes_on = goes_on;
        }) goes (arrives (falls i.insn.op) after.stack q ends)

  -- at the end of the code a pass is over
  pub after-one : (visits : ℕ) (regs stack : List Ty) → IsComing visits (length m.code) regs stack → visits ≡ length (listing m.code)
      → HasAfterPasses w m (Contains (0 ∷ [])) 1 regs
  after-one visits regs stack coming all =
      let one : visits ≡ 1 * length (listing m.code) = omega (arith, all) in
      record {
        stack = stack;
        met =
            subst (λ n. IsMetAfter w m (Contains (0 ∷ [])) n 0 (record { regs = regs; stack = stack })) one
            (coming 0 (goes_again refl));
      }

  -- ---- three passes

  module _ (rules : AreRules w) (mo : IsMethodOf w m) (marked : ℕ → Type 0) where
    one-list : (passes : ℕ) (regs others : List Ty) → HasAfterPasses w m marked passes regs → HasAfterPasses w m marked passes others
        → regs ≡ others
    one-list passes regs others a b =
        ap (λ (f : Frame). f.regs)
        (met-is-one w rules m marked mo (passes * length (listing m.code)) 0 0 (record { regs = regs; stack = a.stack })
        (record { regs = others; stack = b.stack }) a.met b.met).1

three-times : (passes n : ℕ) → 3 ≤ passes → 3 * n ≤ passes * n
three-times zero n le = absurd (omega (arith, le))
three-times (suc zero) n le = absurd (omega (arith, le))
three-times (suc (suc zero)) n le = absurd (omega (arith, le))
three-times (suc (suc (suc k))) n le = omega (arith, suc-mul (suc (suc k)) n, suc-mul (suc k) n, suc-mul k n)

-- registers that are others after one pass rise in a second, and a third raises none
pub takes-three : (w : Linked) (m : Method) (index : List ℕ) (regs others : List Ty) (before after : ℕ)
    → AreRules w → IsMethodOf w m → AreCounted w m index regs before after → HasAfterPasses w m (Contains index) 1 others
    → others ≢ regs
    → before + 3 * instruction_count m ≤ after
takes-three w m index regs others before after rules mo c once apart = by c.are.raising refl
  where
    by : (n : ℕ) → c.are.raising ≡ n → before + 3 * instruction_count m ≤ after
    by zero e =
        let count : c.passes ≡ 1 = let k = c.are.count in omega (arith, k, e) in
        let left : HasAfterPasses w m (Contains index) 1 regs = subst (λ n. HasAfterPasses w m (Contains index) n regs) count c.left in
        absurd (apart (one-list w m rules mo (Contains index) 1 others regs once left))
    by (suc zero) e =
        let count : c.passes ≡ 2 = let k = c.are.count in omega (arith, k, e) in
        let left : HasAfterPasses w m (Contains index) 2 regs = subst (λ n. HasAfterPasses w m (Contains index) n regs) count c.left in
        let still = c.are.last in
        let first : HasAfterPasses w m (Contains index) 1 still.regs =
        subst (λ n. HasAfterPasses w m (Contains index) n still.regs) e still.before in
        let second : HasAfterPasses w m (Contains index) 2 still.regs =
        subst (λ n. HasAfterPasses w m (Contains index) (n + 1) still.regs) e still.after in
        absurd
        (apart
        (one-list w m rules mo (Contains index) 1 others still.regs once first
        ∙ one-list w m rules mo (Contains index) 2 still.regs regs second left))
    by (suc (suc k)) e =
        let many : 3 ≤ c.passes = let count = c.are.count in omega (arith, count, e) in
        let paid = c.counted in
        omega (arith, paid, three-times c.passes (instruction_count m) many)

-- the same of the method of a number
pub three-passes : (w : Linked) (o : Option Method) (index : List ℕ) (regs others : List Ty) (before after : ℕ)
    → AreRules w → index ≡ 0 ∷ [] → others ≢ regs → IsSomeAnd o (λ m. IsMethodOf w m)
    → IsSomeAnd o (λ m. AreCounted w m index regs before after) → IsSomeAnd o (λ m. HasAfterPasses w m (Contains (0 ∷ [])) 1 others)
    → IsSomeAnd o (λ m. before + 3 * instruction_count m ≤ after)
three-passes w None index regs others before after rules alone apart known counted once = absurd known
three-passes w (Some m) index regs others before after rules alone apart known counted once =
    takes-three w m index regs others before after rules known counted
    (subst (λ xs. HasAfterPasses w m (Contains xs) 1 others) (sym alone) once) apart
