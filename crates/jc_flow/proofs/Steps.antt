-- What the instruction at the place of a frame does.
use Rattle.std.proofs.Common.{arith}
use Rattle.std.proofs.Common.{◌≡◌, ℕ, ◌+◌, ◌≤◌, List, length, reverse, All, IsTrue, Result, Ok, Err, refl, sym, ◌∙◌, ap, subst}
use Rattle.jc_base.specs.declared.ty.Ty.{Ty}
use Rattle.jc_base.specs.World.{Linked}
use Rattle.jc_decode.specs.declared.insn.Insn.{Insn}
use Rattle.jc_decode.specs.declared.insn.CodeEnd.{CodeEnd}
use Rattle.jc_decode.specs.Decoding.{decoded}
use Rattle.jc_decode.specs.Listing.{falls, jumps}
use Rattle.jc_ops.specs.declared.fault.RuleFault.{RuleFault}
use Rattle.jc_ops.specs.declared.fault.RuleFault.TheVariants.{FreshKept}
use Rattle.jc_rules.specs.Demand.{Frame}
use Rattle.jc_rules.specs.Apply.{RuleRefuses}
use Rattle.jc_control.specs.Method.{Method}
use Rattle.jc_control.specs.WellFormed.{HasInstruction, IsPlace}
use Rattle.jc_rules.specs.Flow.{IsNotFresh, FlowSteps}
use Rattle.jc_base.proofs.Lists.{All-turned, All-reverse}
use Rattle.jc_decode.specs.Laws.{AreListed}
use Rattle.jc_flow.specs.Progress.{IsHeld}
use Rattle.jc_flow.specs.Fails.{FailsAt, FallsPast, fails_rule, fails_jump}

ok-same : {i j : Insn} → ◌≡◌ {A = Result Insn CodeEnd} (Ok i) (Ok j) → i ≡ j
ok-same e = cc

-- the stack, with its top last, that is read of a frame
pub all-of_slice : (P : Ty → Type 0) (slice stack : List Ty) → reverse slice ≡ stack → All P slice → All P stack
all-of_slice P slice stack e all = subst (All P) e (All-reverse P slice all)

pub all-to_slice : (P : Ty → Type 0) (slice stack : List Ty) → reverse slice ≡ stack → All P stack → All P slice
all-to_slice P slice stack e all = All-turned P slice (subst (All P) (sym e) all)

-- ---- the rule at the site of a method of the world

module _ (code : List ℕ) (listed : AreListed code) (p : ℕ) (here : IsPlace code p) where
  pub decoded-here : decoded code p ≡ Ok here.0.insn
  decoded-here = ap (decoded code) (sym here.2) ∙ listed.decodes here.0 here.1

  pub decodes-always : {end : CodeEnd} → decoded code p ≡ Err end → ⊥
  decodes-always e = let same = decoded-here in absurd (cc)

  pub stands-here : (insn : Insn) → decoded code p ≡ Ok insn → HasInstruction code (record { place = p; insn = insn })
  stands-here insn e = grind (arith, ok-same, decoded-here)

module _ (w : Linked) (m : Method) (listed : AreListed m.code) (p : ℕ) (f : Frame) (h : IsHeld w m p f) (insn : Insn) (d : decoded m.code p ≡ Ok insn) where
  pub fail-rule : (fault : RuleFault) → RuleRefuses w m.rec p insn f fault → FailsAt w m p fault
  fail-rule fault r =
      record { frame = f; derived = h.derived; fails = fails_rule (record { place = p; insn = insn }) (stands-here m.code listed p h.place insn d) refl r }

  pub fail-jump : (g : Frame) → FlowSteps w m (record { place = p; insn = insn }) f g → IsTrue (jumps insn.op) → ¬ (All IsNotFresh g.stack)
      → FailsAt w m p FreshKept
  fail-jump g s j n =
      record {
        frame = f;
        derived = h.derived;
        fails = fails_jump (record { place = p; insn = insn }) g (stands-here m.code listed p h.place insn d) refl s
            j n;
      }

  pub fall-past : (g : Frame) → FlowSteps w m (record { place = p; insn = insn }) f g → (IsTrue (jumps insn.op) → All IsNotFresh g.stack)
      → IsTrue (falls insn.op) → length m.code ≤ p + insn.len → FallsPast w m p
  fall-past g s ready on past = grind (arith, stands-here)
