-- The two forms in which a machine keeps a cell: with the kind of what it holds, or as a bare word
-- of 16 bits (JCVM 2.2, section 3.1). Frames, objects and steps are defined once, over the
-- operations in which the two differ.
use Rattle.std.specs.Prelude.{◌≡◌, ℕ, ℤ, pos, Bool, true, false, ◌==◌, if◌then◌else◌, List}
use Rattle.std.specs.Int.{w16, cast_unsigned}
use Rattle.jc_base.specs.declared.ty.Ty.{Ty}
use Rattle.jc_base.specs.declared.ty.Ty.TheVariants.{Bottom, Top}
use Rattle.jc_base.specs.Class.{ClassTable}
use Rattle.vm_store.specs.declared.cell.Cell.{Cell}
use Rattle.vm_store.specs.declared.cell.Cell.TheVariants.{Empty, Short, High, Low, Ref, Fresh}
use Rattle.vm_store.specs.declared.cell.CellKind.{CellKind}
use Rattle.vm_store.specs.declared.cell.CellKind.TheVariants as made
use Rattle.vm_store.specs.declared.cell.ObjectKind.{ObjectKind}
use Rattle.vm_store.specs.Typing.{least_type}

pub record Cells (A : Type 0) : Type 0 where
  -- whether a machine of such cells tests what it does
  pub checks : Bool
  -- the least type that the cell is known to have
  pub type_of : ClassTable → List ObjectKind → A → Ty
  -- the 16 bits of the cell
  pub word : A → ℕ
  -- a register that no argument fills
  pub empty : A
  pub short : ℤ → A
  pub high : ℕ → A
  pub low : ℕ → A
  -- by a handle
  pub reference : ℕ → A
  -- by a handle and the place of the `new`
  pub fresh : ℕ → ℕ → A
  -- as a load for this kind pushes it: an empty register is read as zero or null
  pub loaded : CellKind → A → A
  -- once a constructor was called on the object that the `new` at the place made
  pub ready : ℕ → A → A

-- the cell of a new object: zero or null
abbrev pub zero_cell : {A : Type 0} → Cells A → CellKind → A
zero_cell k made.Reference = k.reference 0
zero_cell k made.Short = k.short (pos 0)
zero_cell k made.High = k.high 0
zero_cell k made.Low = k.low 0

-- ---- cells with their kinds

abbrev pub loaded_as : CellKind → Cell → Cell
loaded_as made.Reference Empty = Ref 0
loaded_as made.Short Empty = Short (pos 0)
loaded_as made.High Empty = High 0
loaded_as made.Low Empty = Low 0
loaded_as kind c = c

abbrev pub made_ready : ℕ → Cell → Cell
made_ready place (Fresh h p) = if p == place then Ref h else Fresh h p
made_ready place c = c

-- the word of a cell: empty and null are 0, a reference is its handle
abbrev pub word_of : Cell → ℕ
word_of Empty = 0
word_of (Short n) = cast_unsigned w16 n
word_of (High n) = n
word_of (Low n) = n
word_of (Ref h) = h
word_of (Fresh h p) = h

abbrev pub tagged : Cells Cell
tagged =
    record {
      checks = true;
      type_of = λ t kinds c. least_type t Bottom kinds c;
      word = word_of;
      empty = Empty;
      short = Short;
      high = High;
      low = Low;
      reference = Ref;
      fresh = Fresh;
      loaded = loaded_as;
      ready = made_ready;
    }

-- ---- bare words: nothing is known of what a word holds, and nothing is tested

abbrev pub words : Cells ℕ
words =
    record {
      checks = false;
      type_of = λ t kinds w. Top;
      word = λ w. w;
      empty = 0;
      short = cast_unsigned w16;
      high = λ n. n;
      low = λ n. n;
      reference = λ h. h;
      fresh = λ h p. h;
      loaded = λ kind w. w;
      ready = λ place w. w;
    }

-- a map of cells that keeps their words and carries each operation of the one form to the other:
-- all but the types and the tests, which the second form lacks
pub record IsErasure {A B : Type 0} (e : A → B) (a : Cells A) (b : Cells B) : Type 0 where
  pub untested : b.checks ≡ false
  pub word : (x : A) → b.word (e x) ≡ a.word x
  pub empty : e a.empty ≡ b.empty
  pub short : (n : ℤ) → e (a.short n) ≡ b.short n
  pub high : (n : ℕ) → e (a.high n) ≡ b.high n
  pub low : (n : ℕ) → e (a.low n) ≡ b.low n
  pub reference : (h : ℕ) → e (a.reference h) ≡ b.reference h
  pub fresh : (h p : ℕ) → e (a.fresh h p) ≡ b.fresh h p
  pub loaded : (kind : CellKind) (x : A) → e (a.loaded kind x) ≡ b.loaded kind (e x)
  pub ready : (place : ℕ) (x : A) → e (a.ready place x) ≡ b.ready place (e x)
