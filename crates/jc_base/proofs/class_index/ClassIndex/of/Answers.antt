use Rattle.std.proofs.Common.{◌≡◌, ℕ, ◌<◌, ◌≤◌, List, Option, Some, None, length, arith, refl, subst, ◌∙◌}
use Rattle.std.proofs.lemmas.Option.{slice_get_within}
use Rattle.std.specs.Prelude.{IfSome, slice_get}
use Rattle.jc_base.specs.declared.method_bounds.MethodBounds.{MethodBounds}
use Rattle.jc_base.specs.declared.record.MethodRec.{MethodRec}
use Rattle.jc_base.specs.ByClass.{AreBounds, AreConcrete, HoldUpTo}
use Rattle.jc_base.proofs.Lists.{IfSome-is}
use Rattle.jc_base.proofs.class_index.ClassIndex.of.Goals as goal

module _ (methods : List MethodRec) (k : ℕ) where
  between-of : (b : MethodBounds) → HoldUpTo methods (length methods) k b → (n : ℕ) (o : Option MethodRec) → slice_get methods n ≡ o
      → IfSome o (λ (m : MethodRec). m.class ≡ k → (b.first ≤ n) × (n < b.end))
  between-of b held n None e = tt
  between-of b held n (Some m) e =
      IfSome-is (λ (m : MethodRec). m.class ≡ k → (b.first ≤ n) × (n < b.end)) (slice_get methods n) m
      (held.between n (slice_get_within methods n m e)) e

  bounds-of : (o : Option MethodBounds) → IfSome o (HoldUpTo methods (length methods) k) → IfSome o (AreBounds methods k)
  bounds-of None held = tt
  bounds-of (Some b) held =
      record { rise = held.rise; inside = held.inside; between = λ n. between-of b held n (slice_get methods n) refl }

pub returns : goal.returns
returns c =
    let all : c.classes.c ≡ length c.args.classes.now.records = omega (arith, c.classes-test.false, c.len-c-end.ensures, c.classes.auto.c-end) in
    let told = subst (λ n. AreConcrete c.args.classes.now c.args.methods.now n c.classes.concrete.items) all c.classes.invariant in
    record {
      bounds_count = c.in_ok-bounds.ensures.one_each ∙ c.len.ensures;
      bounds = λ k. bounds-of c.args.methods.now k _ (c.in_ok-bounds.ensures.hold k);
      concrete_count = told.one_each;
      concrete = told.told;
    }
