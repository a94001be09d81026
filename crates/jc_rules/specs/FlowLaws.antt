-- Laws of frames and of dataflow typings (Leroy 2002, section 2.3).
use Rattle.std.specs.Prelude.{◌≡◌, ℕ, List, length, reverse, Option}
use Rattle.jc_base.specs.declared.ty.Ty.{Ty}
use Rattle.jc_base.specs.declared.ty.Ty.TheVariants.{Bottom, Top}
use Rattle.jc_base.specs.Class.{ClassTable}
use Rattle.jc_base.specs.Order.{IsJoin}
use Rattle.jc_base.specs.Laws.{IsOrderOfTypes, DeclaredAreKnown}
use Rattle.jc_base.specs.World.{Linked, IsWorld}
use Rattle.jc_decode.specs.Laws.{InstructionsAreListed}
use Rattle.jc_control.specs.Laws.{InstructionsArePlaced}
use Rattle.jc_control.specs.Method.{Method}
use Rattle.jc_control.specs.Control.{IsReached}
use Rattle.jc_rules.specs.Demand.{Frame}
use Rattle.jc_rules.specs.Laws.{RuleDecides, RuleKeeps, RuleFalls}
use Rattle.jc_rules.specs.Flow.{CellsBelow, FlowTyping, IsLeastTyping, IsNotFresh}

-- the order of lists of cells: reflexive, transitive and antisymmetric, of lists of one length, and the same bottom first
pub record IsOrderOfCells (t : ClassTable) : Type 0 where
  pub self : (xs : List Ty) → CellsBelow t xs xs
  pub through : {xs ys zs : List Ty} → CellsBelow t xs ys → CellsBelow t ys zs → CellsBelow t xs zs
  pub apart : {xs ys : List Ty} → CellsBelow t xs ys → CellsBelow t ys xs → xs ≡ ys
  pub lengths : {xs ys : List Ty} → CellsBelow t xs ys → length xs ≡ length ys
  pub turned : {xs ys : List Ty} → CellsBelow t xs ys → CellsBelow t (reverse xs) (reverse ys)

-- the join of two types is an uninitialised object only where one of them is
abbrev pub JoinsStayReady : ClassTable → Type 0
JoinsStayReady t = (a b j : Ty) → IsNotFresh a → IsNotFresh b → IsJoin t a b j → IsNotFresh j

-- two least typings of one method are equal where control comes
abbrev pub LeastIsOne : Linked → Type 0
LeastIsOne w =
    (m : Method) (unset : Ty) (frames others : ℕ → Option Frame)
    → IsLeastTyping w m unset frames
    → IsLeastTyping w m unset others
    → (p : ℕ)
    → IsReached m p
    → frames p ≡ others p

-- a typing whose unset registers hold anything is one whose unset registers hold no value
abbrev pub TopIsBottom : Linked → Type 0
TopIsBottom w =
    (m : Method) (frames : ℕ → Option Frame)
    → FlowTyping w m Top frames
    → FlowTyping w m Bottom frames

-- what dataflow analyses rest on: a world, where instructions stand, the order of types, and the laws of rules
pub record AreRules (w : Linked) : Type 0 where
  pub world : IsWorld w
  pub placed : InstructionsArePlaced
  pub listed : InstructionsAreListed
  pub types : IsOrderOfTypes w.classes
  pub declared : DeclaredAreKnown w.classes
  pub decides : RuleDecides w
  pub keeps : RuleKeeps w
  pub falls : RuleFalls w
  pub order : IsOrderOfCells w.classes
  pub ready : JoinsStayReady w.classes
