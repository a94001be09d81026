-- Where the instructions of a code have their indices into the constant pool.
use Rattle.std.specs.Prelude.{◌+◌, ℕ, List, [], ◌∷◌, Option, Some, None, IfSome, ◌≤◌, ◌<◌, ◌==◌}
use Rattle.std.specs.Prelude.{if◌then◌else◌}
use Rattle.std.specs.List.{flat_map}
use Rattle.jc_decode.specs.declared.insn.Insn.{Insn}
use Rattle.jc_decode.specs.declared.insn.Placed.{Placed}
use Rattle.jc_decode.specs.declared.pool_index.PoolIndex.{PoolIndex}
use Rattle.jc_decode.specs.PoolIndex.{pool_index, bytes_of_index}

-- the place of an index of so many bytes, of an instruction at a place
abbrev pub index_by : ℕ → ℕ → Option PoolIndex → List ℕ
index_by width place None = []
index_by width place (Some i) = if bytes_of_index i.width == width then (place + i.at) ∷ [] else []

abbrev pub index_places : ℕ → ℕ → Placed → List ℕ
index_places width start p = index_by width (start + p.place) (pool_index p.insn)

-- the places of the indices of so many bytes, of the instructions of a code that begins at a place
abbrev pub indices : ℕ → ℕ → List Placed → List ℕ
indices width start instructions = flat_map (index_places width start) instructions

-- the first byte of an instruction's index is one of its bytes after the opcode
pub record HasIndexInside (i : Insn) : Type 0 where
  pub room : IfSome (pool_index i) (λ n. (1 ≤ n.at) × (n.at < i.len))
