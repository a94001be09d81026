-- The answer that is due, and the answer out of memory.
use Rattle.std.specs.Prelude.{◌≡◌, Result, Ok, Err, ⊤}
use Rattle.jc_resolve.specs.declared.fault.LinkFault.{LinkFault}
use Rattle.jc_resolve.specs.declared.fault.LinkEnd.{LinkEnd}
use Rattle.jc_resolve.specs.declared.fault.LinkEnd.TheVariants.{Fault, Memory}

-- an answer is the one that is due, or says that memory is out
abbrev pub IsDue : {A : Type 0} → Result A LinkFault → Result A LinkEnd → Type 0
IsDue due (Ok x) = due ≡ Ok x
IsDue due (Err (Fault fault)) = due ≡ Err fault
IsDue due (Err Memory) = ⊤
