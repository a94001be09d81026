-- Laws of frames and of dataflow typings.
use Rattle.std.proofs.Common.{◌≡◌, ℕ, zero, suc, List, [], ◌∷◌, ◌++◌, reverse}
use Rattle.std.proofs.Common.{replicate, Option, Some, None, IsSomeAnd, refl, arith, sym, subst}
use Rattle.std.proofs.lemmas.List.{reverse-append}
use Rattle.jc_base.specs.declared.ty.Ty.{Ty}
use Rattle.jc_base.specs.declared.ty.Ty.TheVariants.{Bottom, Top}
use Rattle.jc_base.specs.declared.record.MethodRec.{MethodRec}
use Rattle.jc_base.specs.Class.{ClassTable}
use Rattle.jc_base.specs.Laws.{IsOrderOfTypes}
use Rattle.jc_base.specs.Order.{nothing}
use Rattle.jc_base.specs.World.{Linked}
use Rattle.jc_rules.specs.Demand.{Frame}
use Rattle.jc_rules.specs.Flow.{CellsBelow, no_cells, more_cells, FrameBelow, start_frame}
use Rattle.jc_rules.specs.FlowLaws.{IsOrderOfCells, JoinsStayReady, LeastIsOne, TopIsBottom}
use Rattle.jc_rules.proofs.CellLists.{cells-same, cells-trans, cells-length, cells-append}
use Rattle.jc_rules.proofs.Keeps.{join-not_fresh}

module _ (t : ClassTable) where
  cells-turned : {xs ys : List Ty} → CellsBelow t xs ys → CellsBelow t (reverse xs) (reverse ys)
  cells-turned no_cells = no_cells
  cells-turned (more_cells {a = a} {b = b} {xs = xs} {ys = ys} p ps) =
      subst (λ us. CellsBelow t us (reverse (b ∷ ys))) (sym (reverse-append (a ∷ []) xs))
      (subst (CellsBelow t (reverse xs ++ (a ∷ []))) (sym (reverse-append (b ∷ []) ys))
      (cells-append t (cells-turned ps) (more_cells p no_cells)))

  cells-apart : IsOrderOfTypes t → {xs ys : List Ty} → CellsBelow t xs ys → CellsBelow t ys xs → xs ≡ ys
  cells-apart are no_cells no_cells = refl
  cells-apart are (more_cells {a = a} {b = b} {xs = xs} {ys = ys} p ps) (more_cells q qs) = grind (arith, cells-apart are ps qs)

  pub is-order-of-cells : IsOrderOfTypes t → IsOrderOfCells t
  is-order-of-cells are = grind (arith, cells-same, cells-trans, cells-apart, cells-length, cells-turned)

  cells-unset : (n : ℕ) → CellsBelow t (replicate n Bottom) (replicate n Top)
  cells-unset zero = no_cells
  cells-unset (suc n) = more_cells nothing (cells-unset n)

  -- the start with no value in unset registers is below the one with any
  start-below : (r : MethodRec) → FrameBelow t (start_frame r Bottom) (start_frame r Top)
  start-below r = grind (arith, cells-append, cells-same, cells-unset)

pub joins-stay-ready : (t : ClassTable) → IsOrderOfTypes t → JoinsStayReady t
joins-stay-ready t are = join-not_fresh t are

pub top-is-bottom : (w : Linked) → TopIsBottom w
top-is-bottom w m frames ty = record {
  formed = ty.formed;
  start = lower (frames 0) ty.start;
  fit = ty.fit;
  rules = ty.rules;
  stays = ty.stays;
  handlers = ty.handlers;
  leaders = ty.leaders;
}
  where
    lower : (o : Option Frame) → IsSomeAnd o (FrameBelow w.classes (start_frame m.rec Top)) → IsSomeAnd o (FrameBelow w.classes (start_frame m.rec Bottom))
    lower None h = h
    lower (Some f) h =
        let le = start-below w.classes m.rec in
        record { regs = cells-trans w.classes le.regs h.regs; stack = cells-trans w.classes le.stack h.stack }

below-both : (t : ClassTable) → IsOrderOfTypes t → (o p : Option Frame) → IsSomeAnd o (λ f. IsSomeAnd p (FrameBelow t f))
    → IsSomeAnd p (λ g. IsSomeAnd o (FrameBelow t g)) → o ≡ p
below-both t are z p h k = grind (arith, cells-apart)

pub least-is-one : (w : Linked) → IsOrderOfTypes w.classes → LeastIsOne w
least-is-one w are m unset frames others one other p reached =
    below-both w.classes are (frames p) (others p) (one.least others other.typing p reached) (other.least frames one.typing p reached)
