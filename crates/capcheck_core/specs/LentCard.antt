-- The memory of a card as it is lent: the words of its three memories, which stay the same slices.
use Rattle.std.specs.Prelude.{◌≡◌}
use Rattle.capcheck_core.specs.declared.carding.Card.{Card}
use Rattle.capcheck_core.specs.Outside.{CardWords, card_words}

abbrev pub words_of : Card → CardWords
words_of c = card_words c.ram.now c.heap.now c.statics.now

-- the slices are those that were lent, whatever words they hold now
pub record IsSameCard (old new : Card) : Type 0 where
  pub ram : new.ram.ghost_name ≡ old.ram.ghost_name
  pub heap : new.heap.ghost_name ≡ old.heap.ghost_name
  pub statics : new.statics.ghost_name ≡ old.statics.ghost_name
