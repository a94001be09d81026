-- Numbers and references in cells (JCVM 2.2, section 3.1): a short and a reference take one cell, an int two, its high half first in
-- registers and below on a stack.
use Rattle.std.specs.Prelude.{ℕ, ◌+◌, ℤ, List, [], ◌∷◌, drop}
use Rattle.jc_ops.specs.declared.operation.Width.{Width}
use Rattle.jc_ops.specs.declared.operation.Width.TheVariants as widths
use Rattle.vm_arithmetic.specs.Arithmetic.{short_of_word, int_of_words, high_word, low_word}
use Rattle.vm_store.specs.Cells.{Cells}
use Rattle.vm_store.specs.State.{State, top, nth, with_stack}
use Rattle.vm_store.specs.Value.{with_value}

-- the handle in a cell, which is 0 for null
abbrev pub handle_at : {A : Type 0} → Cells A → List A → ℕ → ℕ
handle_at k cells n = k.word (nth k cells n)

abbrev pub short_at : {A : Type 0} → Cells A → List A → ℕ → ℤ
short_at k cells n = short_of_word (k.word (nth k cells n))

-- the int whose low half lies under so many cells of a stack
abbrev pub int_on : {A : Type 0} → Cells A → List A → ℕ → ℤ
int_on k stack n = int_of_words (k.word (nth k stack (n + 1))) (k.word (nth k stack n))

-- the int in a register and the next
abbrev pub int_in : {A : Type 0} → Cells A → List A → ℕ → ℤ
int_in k registers x = int_of_words (k.word (nth k registers x)) (k.word (nth k registers (x + 1)))

-- the number on top of a stack, and the one under it
abbrev pub number_on : {A : Type 0} → Cells A → Width → List A → ℤ
number_on k widths.Short stack = short_at k stack 0
number_on k widths.Int stack = int_on k stack 0

abbrev pub number_under : {A : Type 0} → Cells A → Width → List A → ℤ
number_under k widths.Short stack = short_at k stack 1
number_under k widths.Int stack = int_on k stack 2

-- the cells of a number, in the order in which they are pushed
abbrev pub number_cells : {A : Type 0} → Cells A → Width → ℤ → List A
number_cells k widths.Short n = k.short n ∷ []
number_cells k widths.Int n = k.high (high_word n) ∷ k.low (low_word n) ∷ []

abbrev pub number_width : Width → ℕ
number_width widths.Short = 1
number_width widths.Int = 2

-- so many cells of the stack are gone
abbrev pub dropped : {A : Type 0} → State A → ℕ → State A
dropped s count = with_stack s (drop count (top s).stack)

-- a value comes on the stack
abbrev pub pushed : {A : Type 0} → State A → List A → State A
pushed s value = with_stack s (with_value value (top s).stack)

-- so many cells of the stack give place to a value
abbrev pub replaced : {A : Type 0} → State A → ℕ → List A → State A
replaced s count value = pushed (dropped s count) value
