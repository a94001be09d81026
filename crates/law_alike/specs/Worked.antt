-- Worked cases of states that are alike.
use Rattle.std.specs.Prelude.{◌≡◌, ℕ, ◌+◌, pos, [], ◌∷◌, map}
use Rattle.std.proofs.Common.{refl}
use Rattle.jc_ops.specs.declared.operation.Operation.TheVariants as ops
use Rattle.vm_store.specs.declared.cell.Cell.{Cell}
use Rattle.vm_store.specs.declared.cell.Cell.TheVariants as cells
use Rattle.vm_store.specs.declared.cell.ObjectKind.TheVariants.{Instance, Shorts}
use Rattle.vm_store.specs.State.{State}
use Rattle.law_alike.specs.Alike.{renamed_cell, renamed_new, AreAlike, StaysInFrame}

-- in the other code every place is twice as far
abbrev twice : ℕ → ℕ
twice p = p + p

cells_renamed :
    map (renamed_cell twice) (cells.Fresh 1 4 ∷ cells.Ref 1 ∷ cells.Short (pos 9) ∷ cells.Empty ∷ [])
    ≡ cells.Fresh 1 8 ∷ cells.Ref 1 ∷ cells.Short (pos 9) ∷ cells.Empty ∷ []
cells_renamed = refl

new_renamed : renamed_new twice (ops.New 4 7) ≡ ops.New 8 7
new_renamed = refl

others_stay : renamed_new twice ops.ArrayLength ≡ ops.ArrayLength
others_stay = refl

-- a method at place 5, which made an object at place 4
abbrev before : State Cell
before =
    record {
      frames =
          record { method = 2; place = 5; registers = cells.Short (pos 3) ∷ []; stack = cells.Fresh 1 4 ∷ cells.Ref 2 ∷ [] } ∷ [];
      heap =
          record { kind = Instance 7; cells = cells.Ref 0 ∷ [] }
          ∷ record { kind = Shorts; cells = cells.Short (pos 1) ∷ [] }
          ∷ [];
      statics = cells.Ref 2 ∷ [];
    }

-- the same in the other code, which keeps its short in another register
abbrev elsewhere : State Cell
elsewhere =
    record before {
      frames =
          record {
            method = 2;
            place = 10;
            registers = cells.Empty ∷ cells.Short (pos 3) ∷ [];
            stack = cells.Fresh 1 8 ∷ cells.Ref 2
                ∷ [];
          }
          ∷ [];
    }

states_alike : AreAlike (renamed_cell twice) before elsewhere
states_alike = record { frames = refl; stack = refl; heap = refl; statics = refl; objects_stay = refl; statics_stay = refl }

-- without a write of registers, the frame stays though the stack and the place are others
stays_without_write :
    StaysInFrame (record { taken = 1; given = 0; register = 0; written = 0 }) before
    (record before {
      frames = record { method = 2; place = 6; registers = cells.Short (pos 3) ∷ []; stack = cells.Ref 2 ∷ [] } ∷ [];
    })
stays_without_write = record { frames = refl; method = refl; count = refl; others = λ x out. refl }
