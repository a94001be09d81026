-- The nearest class whose own entry serves an interface.
use Rattle.std.proofs.Common.{◌≡◌, ℕ, inl, inr, ⊎_elim, true, false, List, [], ◌∷◌, ◌++◌, length, sym, ap, ◌∙◌, subst, arith}
use Rattle.std.specs.Prelude.{Result, IfOk, Option, Some, None, is_some, find, slice_get}
use Rattle.std.proofs.lemmas.Bool.{cases_lt, false≢true}
use Rattle.std.proofs.lemmas.Option.{same_Some, none-some, slice_get_within}
use Rattle.std.proofs.lemmas.List.{length-append, get_or_push, get_or_append_left}
use Rattle.jc_base.specs.declared.record.ClassRec.{ClassRec}
use Rattle.jc_base.specs.Class.{ClassTable, IsNextOnChain, IsEndOfChain}
use Rattle.vm_act.proofs.Climbing.{Is, own-entries, serving-here, serving-next, serving-end}
use Rattle.vm_step.specs.Calls.{serving}
use Rattle.vm_bound.specs.declared.spread.Block.{Block}
use Rattle.vm_bound.specs.Blocks.{named, IsNearest, AreBlocks, AreBlocksOf, AreAllBlocks}
use Rattle.vm_bound.specs.Runs.{AreRuns}

some-there : {A : Type 0} (o : Option A) → is_some o ≡ true → (x : A) × (o ≡ Some x)
some-there x e = grind (arith, false≢true)

pub none-there : {A : Type 0} (o : Option A) → is_some o ≡ false → o ≡ None
none-there x e = grind (arith, false≢true)

-- what follows for a value that is there
pub ok-on : {A B : Type 0} (P Q : A → Type 0) → ((x : A) → P x → Q x) → (r : Result A B) → IfOk r P → IfOk r Q
ok-on x y f u h = grind (arith)

module _ (t : ClassTable) (interface : ℕ) where
  pub named-is : (c : ℕ) (r : ClassRec) → slice_get t.records c ≡ Some r → named t interface c ≡ find (Is interface) r.implements
  named-is c r e = ap (find (Is interface)) (own-entries t c r e)

  -- a class that names the interface is its own nearest
  pub nearest-itself : (c : ℕ) → is_some (named t interface c) ≡ true → IsNearest t interface c (Some c)
  nearest-itself c e = let has = some-there (named t interface c) e in serving-here t interface c has.0 has.1 ∙ sym has.1

  -- another has that of its superclass
  pub nearest-above : (c p : ℕ) (by : Option ℕ) → IsNextOnChain t c p → is_some (named t interface c) ≡ false → IsNearest t interface p by
      → IsNearest t interface c by
  nearest-above c p z next e near = grind (arith, serving-next, none-there)

  pub serving-above : (c p : ℕ) → IsNextOnChain t c p → is_some (named t interface c) ≡ false → serving t interface c ≡ serving t interface p
  serving-above c p next e = serving-next t interface c p next (none-there (named t interface c) e)

  pub nearest-nowhere : (c : ℕ) → IsEndOfChain t c → is_some (named t interface c) ≡ false → IsNearest t interface c None
  nearest-nowhere c end e = serving-end t interface c end (none-there (named t interface c) e)

  -- what serves a class serves another for which the same entry does
  pub nearest-same : (c d : ℕ) (by : Option ℕ) → serving t interface c ≡ serving t interface d → IsNearest t interface c by → IsNearest t interface d by
  nearest-same c d z e near = grind (arith)

  -- ---- by position

  -- the nearest class is the one
  abbrev pub IsByNearest : List ℕ → ℕ → Option ℕ → Type 0
  IsByNearest order p by = (c : ℕ) → slice_get order p ≡ Some c → IsNearest t interface c by

  pub nearest-at : (order : List ℕ) (at p c : ℕ) (by : Option ℕ) → slice_get order at ≡ Some c → p ≡ at → IsNearest t interface c by
      → IsByNearest order p by
  nearest-at order at p c by here same near d there = grind (arith, same_Some)

  pub runs-blocks : (order : List ℕ) (blocks : List Block) → AreRuns (length order) (IsByNearest order) (length order) blocks
      → AreBlocks t order interface blocks
  runs-blocks order blocks runs = record {
    only = λ b among. let run = runs.only b among in record { node = run.node; serves = λ p c under at. run.same p under c at };
    all = grind (arith, ⊎_elim, none-some, slice_get_within);
  }

pub blocks-more : (t : ClassTable) (order : List ℕ) (all : List (List Block)) (blocks : List Block) (interface : ℕ) → length all ≡ interface
    → AreAllBlocks t order all → AreBlocksOf t order interface blocks → AreAllBlocks t order (all ++ blocks ∷ [])
blocks-more t order all blocks interface e before here k l = elim (cases_lt k (length all)) [
  | inl lower ↦ subst (AreBlocksOf t order k) (sym (get_or_append_left all (blocks ∷ []) [] k lower)) (before k lower)
  | inr past ↦
      let long = length-append all (blocks ∷ []) in
      let last : length all ≡ k = omega (arith, long, l, past) in
      subst (AreBlocksOf t order k) (sym (get_or_push all blocks [] k last))
      (subst (λ (x : ℕ). AreBlocksOf t order x blocks) (sym e ∙ last) here)
]
