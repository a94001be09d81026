-- The nearest class that names an interface is the one at the last naming position that a position is within.
use Rattle.std.proofs.Common.{◌≡◌, ℕ, suc, zero, ◌<◌, Bool, true, false, List, length, refl, sym, ◌∙◌, subst, arith}
use Rattle.std.specs.Prelude.{Option, Some, None, is_some, Contains, slice_get}
use Rattle.std.proofs.lemmas.Bool.{false≢true}
use Rattle.std.proofs.lemmas.Option.{same_Some, slice_get_within}
use Rattle.jc_base.specs.Class.{ClassTable, AreClasses, parent_of}
use Rattle.jc_base.proofs.Chains.{next_on_chain, end_of_chain}
use Rattle.vm_bound.specs.declared.spread.Block.{Block}
use Rattle.vm_bound.specs.Blocks.{named, IsNearest, IsOrder, AreBlocks}
use Rattle.vm_bound.specs.Runs.{IsWithin, IsUnder, IsUnderParent, AreEnds, AreNaming, AreRuns, IsByInnermost}
use Rattle.vm_bound.proofs.Covering.{runs-carried}
use Rattle.vm_bound.proofs.Serving.{nearest-itself, nearest-above, nearest-nowhere, IsByNearest, runs-blocks}

module _ (t : ClassTable) (classes : AreClasses t) (interface : ℕ) (order ends naming : List ℕ) (ordered : IsOrder t order)
    (ended : AreEnds t order ends) (naming-are : AreNaming t order interface naming) where
  itself : (p c : ℕ) (o : Option ℕ) → slice_get order p ≡ Some c → is_some (named t interface c) ≡ true → IsByInnermost order ends naming p o
      → IsNearest t interface c o
  itself p c o here names by = go o by
    where
      among : Contains naming p
      among = naming-are.all p (record { class = c; at = here; names = names })

      within : IsWithin ends p p
      within = (omega arith, ended.own p (slice_get_within order p c here))

      go : (o : Option ℕ) → IsByInnermost order ends naming p o → IsNearest t interface c o
      go x none = grind (arith, within, same_Some, nearest-itself)

  -- a class that does not name it is at no naming position
  elsewhere : (p c k : ℕ) → slice_get order p ≡ Some c → is_some (named t interface c) ≡ false → Contains naming k → ¬ (k ≡ p)
  elsewhere p c k here not among same =
      let one = naming-are.only k among in
      let class : one.class ≡ c = same_Some one.class c (sym one.at ∙ subst (λ (x : ℕ). slice_get order x ≡ Some c) (sym same) here) in
      false≢true (sym not ∙ subst (λ (x : ℕ). is_some (named t interface x) ≡ true) class one.names)

  above : (p c parent : ℕ) (o : Option ℕ) → slice_get order p ≡ Some c → is_some (named t interface c) ≡ false → (under : IsUnder order ends p parent)
      → IsByInnermost order ends naming p o → IsByInnermost order ends naming under.up o
  above p c parent None here not under none = λ k among within. none k among (under.down k (elsewhere p c k here not among) within)
  above p c parent (Some by) here not under has =
      let inner = has.1 in (
        has.0,
        record {
          among = inner.among;
          within = under.back has.0 (elsewhere p c has.0 here not inner.among) inner.within;
          last = λ k among within. inner.last k among (under.down k (elsewhere p c k here not among) within);
        },
        has.2,
      )

  alone : (p c : ℕ) (o : Option ℕ) → slice_get order p ≡ Some c → is_some (named t interface c) ≡ false → parent_of t c ≡ None
      → ((k : ℕ) → IsWithin ends k p → k ≡ p) → IsByInnermost order ends naming p o → IsNearest t interface c o
  alone p c None here not end only none = nearest-nowhere t interface c (end_of_chain t c classes (ordered.only p c here) end) not
  alone p c (Some by) here not end only has = absurd (elsewhere p c has.0 here not has.1.among (only has.0 has.1.within))

  innermost-below : (n p c : ℕ) (o : Option ℕ) → p < n → slice_get order p ≡ Some c → IsByInnermost order ends naming p o → IsNearest t interface c o
  innermost-below zero p c o l here by = absurd (omega (arith, l))
  innermost-below (suc n) p c o l here by =
      by-name (λ up parent less at by. innermost-below n up parent o less at by) (is_some (named t interface c)) refl
    where
      Lower : Type 0
      Lower = (up parent : ℕ) → up < n → slice_get order up ≡ Some parent → IsByInnermost order ends naming up o → IsNearest t interface parent o

      by-parent : Lower → (q : Option ℕ) → parent_of t c ≡ q → is_some (named t interface c) ≡ false → IsUnderParent order ends p q
          → IsNearest t interface c o
      by-parent lower None end not only = alone p c o here not end only by
      by-parent lower (Some parent) link not under =
          let before = under.before in
          let near = lower under.up parent (omega (arith, before, l)) under.class (above p c parent o here not under by) in
          nearest-above t interface c parent o (next_on_chain t c parent classes (ordered.only p c here) link) not near

      by-name : Lower → (b : Bool) → is_some (named t interface c) ≡ b → IsNearest t interface c o
      by-name lower true names = itself p c o here names by
      by-name lower false not = by-parent lower (parent_of t c) refl not (ended.under p c here)

  pub innermost-blocks : (blocks : List Block) → AreRuns (length order) (IsByInnermost order ends naming) (length order) blocks
      → AreBlocks t order interface blocks
  innermost-blocks blocks runs =
      runs-blocks t interface order blocks
      (runs-carried (length order) (IsByInnermost order ends naming) (IsByNearest t interface order) (length order) blocks
      (λ p o by c here. innermost-below (suc p) p c o (omega arith) here by) runs)
