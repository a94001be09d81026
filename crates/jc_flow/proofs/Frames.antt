-- Frames are ordered cell by cell, and joined cell by cell.
use Rattle.std.proofs.Common.{arith}
use Rattle.std.proofs.Common.{◌≡◌, ℕ, true, List, length, All, sym}
use Rattle.std.proofs.lemmas.List.Elements.{All-nil, All-cons, All-head, All-tail}
use Rattle.jc_base.specs.declared.ty.Ty.{Ty}
use Rattle.jc_base.specs.declared.ty.Ty.TheVariants.{Fresh, Top}
use Rattle.jc_base.specs.Class.{ClassTable}
use Rattle.jc_base.specs.Laws.{IsOrderOfTypes}
use Rattle.jc_base.specs.Order.{Below, IsJoin, is_below}
use Rattle.jc_rules.specs.Demand.{Frame}
use Rattle.jc_rules.specs.Flow.{CellsBelow, no_cells, more_cells, FrameBelow, CellsJoin, none_joined, more_joined, IsNotFresh, IsNotTop}
use Rattle.jc_rules.specs.Laws.{IsNotBottom}
use Rattle.jc_rules.specs.FlowLaws.{IsOrderOfCells}
use Rattle.jc_rules.proofs.Keeps.{full-below}

-- neither an uninitialised object nor Top
abbrev pub IsReady : Ty → Type 0
IsReady ty = IsNotFresh ty × IsNotTop ty

-- ---- the order

module _ (t : ClassTable) where
  pub frame-same : IsOrderOfCells t → (f : Frame) → FrameBelow t f f
  frame-same order f = record { regs = order.self f.regs; stack = order.self f.stack }

  pub frame-trans : IsOrderOfCells t → {f g h : Frame} → FrameBelow t f g → FrameBelow t g h → FrameBelow t f h
  frame-trans order p q = record { regs = order.through p.regs q.regs; stack = order.through p.stack q.stack }

  -- what holds of what is below something of which it holds
  module _ (P Q : Ty → Type 0) (falls : (a b : Ty) → Below t a b → Q b → P a) where
    pub cells-fall : {xs ys : List Ty} → CellsBelow t xs ys → All Q ys → All P xs
    cells-fall no_cells all = All-nil P
    cells-fall (more_cells {a} {b} {xs} {ys} h p) all = All-cons P a xs (falls a b h (All-head Q b ys all)) (cells-fall p (All-tail Q b ys all))

  -- ---- the join

  pub join-left : {xs ys js : List Ty} → CellsJoin t xs ys js → CellsBelow t xs js
  join-left none_joined = no_cells
  join-left (more_joined h p) = more_cells h.left (join-left p)

  pub join-right : {xs ys js : List Ty} → CellsJoin t xs ys js → CellsBelow t ys js
  join-right none_joined = no_cells
  join-right (more_joined h p) = more_cells h.right (join-right p)

  pub join-least : {xs ys js us : List Ty} → CellsJoin t xs ys js → CellsBelow t xs us → CellsBelow t ys us → CellsBelow t js us
  join-least none_joined p q = p
  join-least (more_joined h j) (more_cells p ps) (more_cells q qs) = more_cells (h.least _ p q) (join-least j ps qs)

  pub join-length : IsOrderOfCells t → {xs ys js : List Ty} → CellsJoin t xs ys js → length js ≡ length xs
  join-length order j = sym (order.lengths (join-left j))

  -- what holds of a join of types of which it holds
  module _ (P : Ty → Type 0) (joins : (a b j : Ty) → P a → P b → IsJoin t a b j → P j) where
    pub join-all : {xs ys js : List Ty} → CellsJoin t xs ys js → All P xs → All P ys → All P js
    join-all none_joined p q = p
    join-all (more_joined {a} {b} {j} {xs} {ys} {js} h rest) p q =
        All-cons P j js (joins a b j (All-head P a xs p) (All-head P b ys q) h) (join-all rest (All-tail P a xs p) (All-tail P b ys q))

  module _ (are : IsOrderOfTypes t) where
    -- ---- Bottom, Top and uninitialised objects

    pub full-join : (a b j : Ty) → IsNotBottom a → IsNotBottom b → IsJoin t a b j → IsNotBottom j
    full-join a b j p q is = full-below t are a j is.left p

    over_top : (b : Ty) → is_below t Top b ≡ true → IsNotTop b → ⊥
    unfolding is_below
    over_top x e n = grind (arith)

    -- what is below a type that is not Top is not Top
    pub topless-falls : (a b : Ty) → Below t a b → IsNotTop b → IsNotTop a
    topless-falls x b h n = grind (arith, over_top)

    over_fresh : (p c : ℕ) (b : Ty) → is_below t (Fresh p c) b ≡ true → IsNotFresh b → IsNotTop b → ⊥
    unfolding is_below
    over_fresh p c x e f n = grind (arith)

    -- what is below a type that is neither is no uninitialised object
    pub ready-falls : (a b : Ty) → Below t a b → IsReady b → IsNotFresh a
    ready-falls x b h n = grind (arith, over_fresh)
