-- What holds of named classes is what is asked of them here.
use Rattle.std.proofs.Common.{ℕ, List, arith}
use Rattle.std.specs.Prelude.{All}
use Rattle.jc_resolve.specs.declared.naming.NamedClass.{NamedClass}
use Rattle.jc_resolve.specs.Named.{IsNamedClass}
use Rattle.jc_classes.specs.KnownClasses.{HasKnownLine}

pub named-known : (packages methods object : ℕ) (cs : List NamedClass) → All (IsNamedClass packages methods cs object) cs → All (HasKnownLine cs) cs
named-known packages methods object cs named = grind (arith)
