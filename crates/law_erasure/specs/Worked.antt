-- Worked cases of the words of an outcome.
use Rattle.std.specs.Prelude.{◌≡◌, pos, negsuc, [], ◌∷◌}
use Rattle.std.proofs.Common.{refl}
use Rattle.vm_store.specs.declared.cell.Cell.TheVariants as cells
use Rattle.vm_store.specs.declared.cell.ObjectKind.TheVariants.{Bytes}
use Rattle.vm_step.specs.Raising.{running}
use Rattle.law_erasure.specs.Erasure.{erased_outcome}

-- nothing and null are 0, a reference is its handle whether it is ready or not, and a short is its 16 bits
outcome_erased :
    erased_outcome (running (record {
      frames =
          record {
            method = 3;
            place = 7;
            registers = cells.Empty ∷ cells.Ref 0 ∷ cells.Fresh 1 5 ∷ [];
            stack = cells.Low 2 ∷ cells.High 1 ∷ [];
          } ∷ [];
      heap = record { kind = Bytes; cells = cells.Short (negsuc 0) ∷ [] } ∷ [];
      statics = cells.Short (pos 9) ∷ [];
    }))
    ≡ running (record {
      frames = record { method = 3; place = 7; registers = 0 ∷ 0 ∷ 1 ∷ []; stack = 2 ∷ 1 ∷ [] } ∷ [];
      heap = record { kind = Bytes; cells = 65535 ∷ [] } ∷ [];
      statics = 9 ∷ [];
    })
outcome_erased = refl
