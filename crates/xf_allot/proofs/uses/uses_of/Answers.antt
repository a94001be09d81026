use Rattle.std.proofs.Common.{◌↔◌, ℕ, subst}
use Rattle.xf_allot.specs.declared.uses.Span.{Span}
use Rattle.xf_allot.specs.Uses.{IsIn}
use Rattle.xf_allot.proofs.Using.{both-uses}
use Rattle.xf_live.specs.Set.{Has}
use Rattle.xf_allot.proofs.uses.uses_of.Goals as goal

pub returns : goal.returns
returns c =
    both-uses c.args.world.now c.args.operation c.set_of.result c.set_of-2.result
    (subst (λ (s : Span). (x : ℕ) → Has c.set_of.result x ↔ IsIn s x) c.read_by.ensures c.set_of.ensures)
    (subst (λ (s : Span). (x : ℕ) → Has c.set_of-2.result x ↔ IsIn s x) c.written_by.ensures c.set_of-2.ensures)
