-- What a store of bare words holds.
use Rattle.std.specs.Prelude.{ℕ, [], ◌∷◌, Some}
use Rattle.vm_offend.specs.declared.words.WordStore.{WordStore}
use Rattle.vm_store.specs.State.{State}
use Rattle.vm_store.specs.Store.{Fixed}
use Rattle.vm_offend.specs.Words.{AreLaid, words_state}

abbrev pub state_in_words : WordStore → State ℕ
state_in_words s = words_state s.world.now.methods s.ram.now s.heap.now s.statics.now s.counts

abbrev pub IsLaidOut : WordStore → Type 0
IsLaidOut s = AreLaid s.world.now s.ram.now s.heap.now s.counts

-- its world, and the three slices by the names of their loans
abbrev pub fixed_of : WordStore → Fixed
fixed_of s = record { world = Some s.world.now; loans = s.ram.ghost_name ∷ s.heap.ghost_name ∷ s.statics.ghost_name ∷ [] }
