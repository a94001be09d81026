-- The rule of an instruction has one outcome: it applies with one result, or it refuses with one fault.
use Rattle.std.proofs.Common.{◌≡◌, ℕ, List, Some, Result, Ok, Err, slice_get, slice_set, refl, sym, ◌∙◌, subst, arith, rules}
use Rattle.std.proofs.lemmas.Option.{same_Some}
use Rattle.jc_base.specs.declared.record.MethodRec.{MethodRec}
use Rattle.jc_base.specs.declared.ty.Ty.{Ty}
use Rattle.jc_base.specs.Class.{ClassTable}
use Rattle.jc_base.specs.Laws.{IsOrderOfTypes}
use Rattle.jc_base.specs.World.{Linked}
use Rattle.jc_decode.specs.declared.insn.Insn.{Insn}
use Rattle.jc_ops.specs.declared.fault.RuleFault.{RuleFault}
use Rattle.jc_ops.specs.declared.operation.Operation.{Operation}
use Rattle.jc_ops.specs.declared.operation.Site.{Site}
use Rattle.jc_ops.specs.Sound.{OperationsAreDecided}
use Rattle.jc_rules.specs.declared.demand.Demand.{Demand}
use Rattle.jc_rules.specs.declared.rule.Outcome.{Outcome}
use Rattle.jc_rules.specs.declared.effect.Mode.{Mode}
use Rattle.jc_rules.specs.declared.effect.Cells.{Cells}
use Rattle.jc_rules.specs.Effect.{IsStoredOver, WritesRegister, WritesCells}
use Rattle.jc_rules.specs.Demand.{Frame, SatisfiesAll, IsFirstUnmet, here, later}
use Rattle.jc_rules.specs.Apply.{OperationApplies, OperationRefuses, unmet, full, RuleApplies}
use Rattle.jc_rules.specs.Apply.{RuleRefuses, unresolved, refused_by, Applies, Refuses}
use Rattle.jc_rules.specs.Laws.{OperationDecides, RuleDecides}

breaks-not : (t : ClassTable) (f : Frame) {ds : List Demand} {fault : RuleFault} → IsFirstUnmet t f ds fault → SatisfiesAll t f ds → ⊥
breaks-not t f (here n e) all = n all.0
breaks-not t f (later h b) all = breaks-not t f b all.1

breaks-unique : (t : ClassTable) (f : Frame) {ds : List Demand} {fault other : RuleFault} → IsFirstUnmet t f ds fault → IsFirstUnmet t f ds other
    → fault ≡ other
breaks-unique t f (here n e) (here m d) = e ∙ sym d
breaks-unique t f (here n e) (later h b) = absurd (n h)
breaks-unique t f (later h b) (here n e) = absurd (n h)
breaks-unique t f (later h b) (later g c) = breaks-unique t f b c

pub ok-same : {op other : Operation} → ◌≡◌ {A = Result Operation RuleFault} (Ok op) (Ok other) → op ≡ other
ok-same e = cc

err-same : {fault other : RuleFault} → ◌≡◌ {A = Result Operation RuleFault} (Err fault) (Err other) → fault ≡ other
err-same e = cc

-- ---- what is stored

module _ (t : ClassTable) (are : IsOrderOfTypes t) (mode : Mode) where
  stored-unique : (mode : Mode) (held ty a b : Ty) → IsStoredOver t mode held ty a → IsStoredOver t mode held ty b → a ≡ b
  stored-unique x held ty a b e f = grind (arith)

  writes-unique : {x : ℕ} {ty : Ty} {regs others f g : List Ty} → regs ≡ others → WritesRegister t mode x ty regs f
      → WritesRegister t mode x ty others g → f ≡ g
  writes-unique {x} {ty} {regs} {others} {f} {g} e u v = grind (arith, stored-unique, slice_set)

  cells-unique : (x : ℕ) (cells : Cells) (regs f g : List Ty) → WritesCells t mode x cells regs f → WritesCells t mode x cells regs g → f ≡ g
  cells-unique x y regs f g u v = grind (arith, writes-unique)

-- ---- an operation

module _ (w : Linked) (are : IsOrderOfTypes w.classes) (limit : ℕ) (op : Operation) (mode : Mode) (before : Frame) where
  frames-agree : {f g : Frame} {o p : Outcome} → OperationApplies w limit op mode before f o → OperationApplies w limit op mode before g p → f ≡ g
  frames-agree {f} {g} a b = grind (arith, cells-unique)

  outcomes-agree : {f g : Frame} {o p : Outcome} → OperationApplies w limit op mode before f o → OperationApplies w limit op mode before g p → o ≡ p
  outcomes-agree {f} {g} {o} {p} a b = grind (arith, frames-agree)

  faults-agree : {fault other : RuleFault} → OperationRefuses w limit op before fault → OperationRefuses w limit op before other → fault ≡ other
  faults-agree (unmet b) (unmet c) = breaks-unique w.classes before b c
  faults-agree (unmet b) (full all lt) = absurd (breaks-not w.classes before b all)
  faults-agree (full all lt) (unmet b) = absurd (breaks-not w.classes before b all)
  faults-agree (full all lt) (full others gt) = refl

  not-both : {f : Frame} {o : Outcome} {fault : RuleFault} → OperationApplies w limit op mode before f o → OperationRefuses w limit op before fault → ⊥
  not-both a (unmet b) = breaks-not w.classes before b a.asked
  not-both {f} a (full all lt) = grind (arith)

pub operation-decides : (w : Linked) → IsOrderOfTypes w.classes → OperationDecides w
operation-decides w are limit op mode before = search (rules, frames-agree, outcomes-agree, faults-agree, not-both)

-- ---- an instruction at a site

module _ (w : Linked) (are : IsOrderOfTypes w.classes) (decided : OperationsAreDecided w) (site : Site) (i : Insn) (mode : Mode) (before : Frame) where
  -- the rule by the other's method and operation
  same-rule : {f g : Frame} {o p : Outcome} → (a : Applies w site i mode before f o) → (b : Applies w site i mode before g p)
      → OperationApplies w a.method.max_stack a.rule.operation mode before g p
  same-rule {g = g} {p = p} a b = grind (arith, same_Some, ok-same)

  -- the refusal by the other's method
  same-refusal : {m : MethodRec} {fault : RuleFault} → slice_get w.methods site.method ≡ Some m → (r : Refuses w site i before fault)
      → RuleRefuses w m site.place i before fault
  same-refusal {m = m} {fault = fault} e r = grind (arith, same_Some)

  rules-refuse : (m : MethodRec) {fault other : RuleFault} → RuleRefuses w m site.place i before fault → RuleRefuses w m site.place i before other
      → fault ≡ other
  rules-refuse m {fault = fault} {other = other} (unresolved h) (unresolved g) = err-same (decided m site.place i (Err fault) (Err other) h g)
  rules-refuse m {fault = fault} (unresolved h) (refused_by {op} g b) = grind (arith)
  rules-refuse m {other = other} (refused_by {op} h b) (unresolved g) = grind (arith)
  rules-refuse m {other = other} (refused_by {op} h b) (refused_by {op = another} g c) = grind (arith, faults-agree, ok-same)

  rules-not-both : (m : MethodRec) {f : Frame} {o : Outcome} {fault : RuleFault} → RuleApplies w m site.place i mode before f o
      → RuleRefuses w m site.place i before fault → ⊥
  rules-not-both m {fault = fault} a (unresolved h) = grind (arith)
  rules-not-both m {fault = fault} a (refused_by {op} h b) =
      not-both w are m.max_stack a.operation mode before a.does
      (subst (λ x. OperationRefuses w m.max_stack x before fault) (ok-same (decided m site.place i (Ok op) (Ok a.operation) h a.resolves)) b)

pub rule-decides : (w : Linked) → IsOrderOfTypes w.classes → OperationsAreDecided w → RuleDecides w
rule-decides w are decided site i mode before = record {
  one = λ {f} {g} {o} {p} a b. frames-agree w are a.method.max_stack a.rule.operation mode before a.rule.does (same-rule w are decided site i mode before a b);
  one_outcome = grind (arith, outcomes-agree, same-rule);
  one_fault = grind (arith, rules-refuse, same-refusal);
  never_both =
      λ {f} {o} {fault} a r. rules-not-both w are decided site i mode before a.method a.rule (same-refusal w are decided site i mode before a.is_method r);
}
