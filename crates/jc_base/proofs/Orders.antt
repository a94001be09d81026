-- The order of types and its joins, and types that are declared.
use Rattle.std.proofs.Common.{arith}
use Rattle.jc_base.specs.Class.{ClassTable, AreClasses}
use Rattle.jc_base.specs.Laws.{IsOrderOfTypes, DeclaredAreKnown}
use Rattle.jc_base.proofs.Subtypes.{below_decided}
use Rattle.jc_base.proofs.Joins.{join_of-is, rises-bound, Below-antisym, IsJoin-unique, IsJoin-known, IsJoin-rises}

pub order-of-types : (t : ClassTable) → AreClasses t → IsOrderOfTypes t
order-of-types t are = record {
  decided = below_decided t are;
  apart = λ a b p q. Below-antisym t are p q;
  seldom = rises-bound t;
  joins = join_of-is t are;
  one_join = λ {a} {b} {j} {k} p q. IsJoin-unique t are p q;
  known = λ {a} {b} {j} p q is. IsJoin-known t are p q is;
  rises = λ {a} {b} {j} is n. IsJoin-rises t are is n;
}

pub declared-known : (t : ClassTable) → DeclaredAreKnown t
declared-known t ty h = grind (arith)
