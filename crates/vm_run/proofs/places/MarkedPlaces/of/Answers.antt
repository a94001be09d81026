use Rattle.std.proofs.Common.{◌≡◌, List, ℕ, Bool, length, sym, ap, ◌∙◌, subst, arith, length-append, [], ◌∷◌}
use Rattle.std.specs.Prelude.{IfSome, slice_get}
use Rattle.std.proofs.lemmas.Grind.{common_steps}
use Rattle.jc_control.specs.WellFormed.{IsPlace}
use Rattle.jc_control.specs.Flags.{Marks}
use Rattle.vm_step.specs.Methods.{code_at}
use Rattle.vm_run.proofs.Found.{flags-more}
use Rattle.vm_run.proofs.places.MarkedPlaces.of.Goals as goal

pub methods-preserved : goal.methods-preserved
methods-preserved c =
    let w = c.args.world.now in
    let P : ℕ → List Bool → Type 0 = λ n flags. Marks (IsPlace (code_at w n)) flags in
    let items = c.methods.methods.items in
    let count : c.methods.n ≡ length items = sym c.methods.invariant.size in
    let here : P c.methods.n c.in_ok-flags.flags = subst (λ (bs : List ℕ). Marks (IsPlace bs) c.in_ok-flags.flags) c.code.ensures.is c.in_ok-flags.ensures in
    let last : P (length items) c.in_ok-flags.flags = subst (λ (n : ℕ). P n c.in_ok-flags.flags) count here in
    record {
      size = ap length c.push_reserved.ensures.items ∙ (length-append items (c.in_ok-flags.flags ∷ []) ∙ omega (arith, c.methods.invariant.size));
      count = grind (arith, common_steps);
      room = grind (arith, common_steps);
      marks = λ n. subst (λ (xs : List (List Bool)). IfSome (slice_get xs n) (P n)) (sym c.push_reserved.ensures.items)
          (flags-more P items c.in_ok-flags.flags c.methods.invariant.marks last n);
    }
