-- Live registers of a flow graph (Aho, Lam, Sethi and Ullman, section 9.2.5).
use Rattle.std.specs.Prelude.{◌≡◌, ◌↔◌, ℕ, List, Some, Contains, slice_get, slice_index_or}
use Rattle.xf_live.specs.declared.live.Node.{Node}
use Rattle.xf_live.specs.declared.set.RegisterSet.{RegisterSet}
use Rattle.xf_live.specs.Set.{Has, no_registers}

-- a walk from the node comes to one that reads the register, before any that writes it
pub data IsLive (nodes : List Node) (x : ℕ) : ℕ → Type 0 where
  live_read : (n : ℕ) (node : Node) → slice_get nodes n ≡ Some node → Has node.reads x → IsLive nodes x n
  live_on :
      (n q : ℕ) (node after : Node)
      → slice_get nodes n ≡ Some node
      → slice_get nodes q ≡ Some after
      → Contains after.from.items n
      → ¬ (Has node.writes x)
      → IsLive nodes x q
      → IsLive nodes x n

abbrev pub set_at : List RegisterSet → ℕ → RegisterSet
set_at sets n = slice_index_or sets n no_registers

-- each set has what is live at its node
abbrev pub AreLive : List Node → List RegisterSet → Type 0
AreLive nodes sets = (n x : ℕ) → Has (set_at sets n) x ↔ IsLive nodes x n
