-- Derived states have whole stacks, and no register without a value.
use Rattle.std.proofs.Common.{◌≡◌, ℕ, suc, Bool, true, if◌then◌else◌, List, [], ◌∷◌, ◌++◌, replicate, All, sym, subst}
use Rattle.std.proofs.Common.{arith}
use Rattle.std.proofs.lemmas.List.Elements.{All-append, All-replicate}
use Rattle.jc_base.proofs.Lists.{All-reverse}
use Rattle.jc_base.specs.declared.ty.Ty.{Ty}
use Rattle.jc_base.specs.declared.ty.Ty.TheVariants.{IntHigh, IntLow, Class, Top}
use Rattle.jc_base.specs.Cell.{AreWhole, no_cells, whole_int, one_cell, IsNoHalf, IsDeclared}
use Rattle.jc_base.specs.Class.{ClassTable}
use Rattle.jc_base.specs.Order.{Below, is_below}
use Rattle.jc_base.specs.Laws.{IsOrderOfTypes}
use Rattle.jc_base.specs.World.{Linked}
use Rattle.jc_decode.specs.declared.insn.Placed.{Placed}
use Rattle.jc_ops.specs.Sound.{IsSound, OperationsAreSound}
use Rattle.jc_control.specs.Method.{Method, IsMethodOf}
use Rattle.jc_rules.specs.Demand.{Frame}
use Rattle.jc_rules.specs.Flow.{CellsBelow, no_cells as no_below, more_cells}
use Rattle.jc_rules.specs.Flow.{FlowSteps, start_frame, receiver_of}
use Rattle.jc_rules.specs.Flow.{IsNotTop, IsDerived, derived_start, derived_caught, derived_next, derived_joined}
use Rattle.jc_rules.specs.FlowLaws.{AreRules}
use Rattle.jc_rules.specs.Laws.{IsNotBottom}
use Rattle.jc_rules.specs.Whole.{IsWholeStack, OperationKeepsWhole}
use Rattle.jc_flow.proofs.Derived.{of_world, derived-fine, step-keeps}
use Rattle.jc_flow.proofs.Frames.{join-all, full-join, join-left}
use Rattle.law_rewritten_typing.specs.Whole.{DerivedAreWhole}

-- ---- types above a half of an int, and above what is none

module _ (t : ClassTable) (types : IsOrderOfTypes t) where
  pub high-only : (b : Ty) → is_below t IntHigh b ≡ true → IsNotTop b → b ≡ IntHigh
  unfolding is_below
  high-only b e n = grind (arith)

  pub low-only : (b : Ty) → is_below t IntLow b ≡ true → IsNotTop b → b ≡ IntLow
  unfolding is_below
  low-only b e n = grind (arith)

  under-high : (a : Ty) → is_below t a IntHigh ≡ true → IsNotBottom a → IsNoHalf a → ⊥
  unfolding is_below
  under-high a e n h = grind (arith)

  under-low : (a : Ty) → is_below t a IntLow ≡ true → IsNotBottom a → IsNoHalf a → ⊥
  unfolding is_below
  under-low a e n h = grind (arith)

  pub no-half-above : (a b : Ty) → Below t a b → IsNotBottom a → IsNoHalf a → IsNoHalf b
  no-half-above a b le n h = grind (arith, under-high, under-low)

  all-first : (P : Ty → Type 0) (x : Ty) (xs : List Ty) → All P (x ∷ xs) → P x
  all-first P x xs all = all 0 x (omega arith)

  all-rest : (P : Ty → Type 0) (x : Ty) (xs : List Ty) → All P (x ∷ xs) → All P xs
  all-rest P x xs all = λ k d lt. all (suc k) d (omega (arith, lt))

  -- cells above whole ones
  pub whole-above : {xs ys : List Ty} → AreWhole xs → CellsBelow t xs ys → All IsNotBottom xs → All IsNotTop ys → AreWhole ys
  whole-above no_cells no_below nb nt = no_cells
  whole-above (whole_int {types = rest} is) (more_cells {a = a} {b = b} {xs = xs} {ys = ys} le (more_cells {a = c} {b = d} {xs = us} {ys = vs} ge more)) nb nt =
      let above = all-rest IsNotTop b (d ∷ vs) nt in
      let high : b ≡ IntHigh = high-only b ((types.decided IntHigh b).1 le) (all-first IsNotTop b (d ∷ vs) nt) in
      let low : d ≡ IntLow = low-only d ((types.decided IntLow d).1 ge) (all-first IsNotTop d vs above) in
      let tail : AreWhole vs = whole-above is more (all-rest IsNotBottom IntLow rest (all-rest IsNotBottom IntHigh (IntLow ∷ rest) nb))
      (all-rest IsNotTop d vs above) in
      subst (λ x. AreWhole (x ∷ d ∷ vs)) (sym high) (subst (λ x. AreWhole (IntHigh ∷ x ∷ vs)) (sym low) (whole_int tail))
  whole-above (one_cell {a = u} {types = rest} h is) (more_cells {a = a} {b = b} {xs = xs} {ys = ys} le more) nb nt =
      one_cell (no-half-above u b le (all-first IsNotBottom u rest nb) h) (whole-above is more (all-rest IsNotBottom u rest nb) (all-rest IsNotTop b ys nt))

-- ---- frames

declared-full : (t : ClassTable) (ty : Ty) → IsDeclared t ty → IsNotBottom ty
declared-full t ty h = grind (arith)

module _ (w : Linked) (is : AreRules w) (keeps : OperationKeepsWhole w) (m : Method) (mo : IsMethodOf w m) where
  record IsGood (f : Frame) : Type 0 where
    regs : All IsNotBottom f.regs
    whole : IsWholeStack f.stack

  receiver-full : (b : Bool) → All IsNotBottom (if b then [] else Class m.rec.class ∷ [])
  receiver-full x = grind (arith)

  start-good : IsGood (start_frame m.rec Top)
  start-good = record {
    regs =
        All-append IsNotBottom (receiver_of m.rec ++ m.rec.sig.args) (replicate m.rec.max_locals Top)
        (All-append IsNotBottom (receiver_of m.rec) m.rec.sig.args (receiver-full m.rec.is_static)
        (λ k d lt. declared-full w.classes _ ((of_world w is m mo).arguments k d lt)))
        (All-replicate IsNotBottom m.rec.max_locals Top tt);
    whole = no_cells;
  }

  sound : OperationsAreSound w → (i : Placed) (f g : Frame) (s : FlowSteps w m i f g) → IsSound w m.rec i.place s.1.operation
  sound law i f g s = law m.rec i.place i.insn s.1.operation (of_world w is m mo).result s.1.resolves

  good : OperationsAreSound w → {p : ℕ} {f : Frame} → IsDerived w m Top p f → IsGood f
  good law derived_start = start-good
  good law (derived_caught {h} {p} {f} d c cov) = record { regs = (good law d).regs; whole = one_cell tt no_cells }
  good law (derived_next {i} {q} {f} {g} d st s to) =
      let before = good law d in
      record {
        regs = (step-keeps w is m mo i f g (derived-fine w is m mo d) s).full_regs before.regs (derived-fine w is m mo d).no_bottom;
        whole = keeps m.rec.max_stack m.rec i.place s.1.operation _ f g s.0 (sound law i f g s) before.whole s.1.does;
      }
  good law (derived_joined {p} {f} {g} {j} d e merges) =
      let a = good law d in
      let b = good law e in
      let below = join-left w.classes merges.stack in
      record {
        regs = join-all w.classes IsNotBottom (full-join w.classes is.types) merges.regs a.regs b.regs;
        whole =
            whole-above w.classes is.types a.whole (is.order.turned below) (All-reverse IsNotBottom f.stack (derived-fine w is m mo d).no_bottom)
            (All-reverse IsNotTop j.stack merges.no_top);
      }

pub derived-are-whole : (w : Linked) → AreRules w → OperationsAreSound w → OperationKeepsWhole w → DerivedAreWhole w
derived-are-whole w is law keeps m p f mo d = grind (arith, derived-fine w is m mo d, good w is keeps m mo law d)
