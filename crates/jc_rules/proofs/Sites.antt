-- The rule of a method of the world, by the record of the method and by the site of the instruction.
use Rattle.std.proofs.Common.{ℕ, subst, sym, ◌∙◌}
use Rattle.std.proofs.lemmas.Option.{same_Some}
use Rattle.jc_base.specs.World.{Linked}
use Rattle.jc_decode.specs.declared.insn.Insn.{Insn}
use Rattle.jc_ops.specs.declared.fault.RuleFault.{RuleFault}
use Rattle.jc_ops.specs.declared.operation.Site.{Site}
use Rattle.jc_control.specs.Method.{Method, IsMethodOf}
use Rattle.jc_rules.specs.declared.effect.Mode.{Mode}
use Rattle.jc_rules.specs.declared.rule.Outcome.{Outcome}
use Rattle.jc_rules.specs.Demand.{Frame}
use Rattle.jc_rules.specs.Apply.{Applies, Refuses, RuleApplies, RuleRefuses}

abbrev pub site_of : Method → ℕ → Site
site_of m place = record { method = m.number; place = place }

module _ (w : Linked) (m : Method) (mo : IsMethodOf w m) where
  pub at-site :
      {p : ℕ} {i : Insn} {mode : Mode} {f g : Frame} {o : Outcome}
      → RuleApplies w m.rec p i mode f g o
      → Applies w (site_of m p) i mode f g o
  at-site a = record { method = m.rec; is_method = mo.rec; rule = a }

  pub of-site :
      {p : ℕ} {i : Insn} {mode : Mode} {f g : Frame} {o : Outcome}
      → Applies w (site_of m p) i mode f g o
      → RuleApplies w m.rec p i mode f g o
  of-site {p} {i} {mode} {f} {g} {o} a = subst (λ r. RuleApplies w r p i mode f g o) (same_Some _ _ (sym a.is_method ∙ mo.rec)) a.rule

  pub refuses-at-site :
      {p : ℕ} {i : Insn} {f : Frame} {fault : RuleFault}
      → RuleRefuses w m.rec p i f fault
      → Refuses w (site_of m p) i f fault
  refuses-at-site r = record { method = m.rec; is_method = mo.rec; rule = r }

  pub refuses-of-site :
      {p : ℕ} {i : Insn} {f : Frame} {fault : RuleFault}
      → Refuses w (site_of m p) i f fault
      → RuleRefuses w m.rec p i f fault
  refuses-of-site {p} {i} {f} {fault} r = subst (λ rec. RuleRefuses w rec p i f fault) (same_Some _ _ (sym r.is_method ∙ mo.rec)) r.rule
