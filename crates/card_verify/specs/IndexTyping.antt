-- Card typings over a target index: the places that the index lists stand for the targets (Leroy 2002, section 3; JCVM 2.2,
-- section 7.5).
use Rattle.std.specs.Prelude.{ℕ, List, All, Contains}
use Rattle.jc_base.specs.Index.{IsAscending}
use Rattle.jc_base.specs.declared.ty.Ty.{Ty}
use Rattle.jc_base.specs.World.{Linked}
use Rattle.jc_control.specs.Method.{Method}
use Rattle.jc_control.specs.WellFormed.{IsPlace}
use Rattle.card_typing.specs.Place.{IsTarget}
use Rattle.card_typing.specs.Typing.{CardTypingOver}

-- places of instructions alone, in ascending order, and every target among them
pub record IsIndex (m : Method) (index : List ℕ) : Type 0 where
  pub ascending : IsAscending index
  pub places : All (IsPlace m.code) index
  pub complete : (q : ℕ) → IsTarget m q → Contains index q

-- a card typing in which the places of the index stand for the targets
pub record IndexTyping (w : Linked) (m : Method) (index : List ℕ) (regs : List Ty) (stacks : ℕ → List Ty) : Type 0 where
  pub typing : CardTypingOver w m (Contains index) regs stacks
  pub indexed : IsIndex m index

-- a card typing over the index exists
pub record HasIndexTyping (w : Linked) (m : Method) (index : List ℕ) : Type 0 where
  pub regs : List Ty
  pub stacks : ℕ → List Ty
  pub typing : IndexTyping w m index regs stacks
