-- Edges on which a local is copied only where its value changes.
use Rattle.std.specs.Prelude.{◌≡◌, ◌⊎◌, ℕ, false, All, Some}
use Rattle.jc_base.specs.declared.record.Handler.{Handler}
use Rattle.jc_ops.specs.declared.operation.Operation.{Operation}
use Rattle.xf_homes.specs.Asked.{is_new, AreSameLocals}
use Rattle.xf_homes.specs.Source.{Source}
use Rattle.xf_emission.specs.declared.origin.Origin.{Origin}
use Rattle.xf_emission.specs.declared.origin.Origin.TheVariants.{After}

-- a handler asks nothing anew on an edge from p to q: it covers q only where it covers p, or its entry has the locals of q
abbrev pub AsksNothing : Source → ℕ → ℕ → Handler → Type 0
AsksNothing s q p h = (is_new h q (Some p) ≡ false) ⊎ AreSameLocals (s.frames h.entry) (s.frames q)

-- the edge leads on from the instruction at this place, and no handler asks anything anew
pub record IsQuiet (s : Source) (o : Origin) (q p : ℕ) : Type 0 where
  pub operation : Operation
  pub begins : o ≡ After p operation
  pub none : All (AsksNothing s q p) s.method.rec.handlers
