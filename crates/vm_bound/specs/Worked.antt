-- Worked cases of vertices, their numbers, positions under nodes, and entries.
use Rattle.std.specs.Prelude.{◌≡◌, [], ◌∷◌, Some}
use Rattle.std.proofs.Common.{refl, inl, inr, arith}
use Rattle.jc_base.specs.World.{Linked}
use Rattle.jc_ops.specs.declared.operation.Choice.TheVariants as choices
use Rattle.vm_step.specs.declared.ending.StartFault.TheVariants.{NoEntry}
use Rattle.vm_bound.specs.declared.graph.Meaning.TheVariants.{Described, Entries}
use Rattle.vm_bound.specs.declared.graph.Vertex.TheVariants.{Method, Means}
use Rattle.vm_bound.specs.Vertices.{Stands}
use Rattle.vm_bound.specs.Blocks.{Under, under_one, under_half}
use Rattle.vm_bound.specs.Edges.{target_of}
use Rattle.vm_bound.specs.Answer.{entry_refused}

abbrev nothing : Linked
nothing = record {
  infos = [];
  pools = [];
  classes = record { records = []; roles = [] };
  methods = [];
  statics = [];
  arrays = [];
  indexes = [];
}

-- of six methods, and of two meanings behind them, the second has number 7
meaning_number : Stands 6 (Described 2 ∷ Entries 3 7 ∷ []) (Means (Entries 3 7)) 7
meaning_number = (omega arith, refl)

-- over three positions node 1 has the halves 2 and 3; under node 3, which is one position, is the first
first_position : Under 3 1 0
first_position = under_half (omega arith) (inr refl) (under_one refl)

-- under node 2 the second, and so it is under node 1
second_position : Under 3 1 1
second_position = under_half (omega arith) (inl refl) (under_half (omega arith) (inl refl) (under_one refl))

-- a call leads to the method itself, to the entries of the named class at the token, or to what serves the described method
static_target : target_of 5 choices.Static ≡ Method 5
static_target = refl

virtual_target : target_of 5 (choices.Virtual 3 7) ≡ Means (Entries 3 7)
virtual_target = refl

interface_target : target_of 5 (choices.Interface 3 7 1) ≡ Means (Described 5)
interface_target = refl

-- a world without methods has no entry
no_entry : entry_refused nothing 0 ≡ Some NoEntry
no_entry = refl
