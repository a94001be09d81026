-- What leads where: steps joined.
use Rattle.std.proofs.Common.{ℕ}
use Rattle.digraph.specs.Way.{Leads, by_step, by_more}

pub leads-more : {R : ℕ → ℕ → Type 0} {a b c : ℕ} → Leads R a b → R b c → Leads R a c
leads-more (by_step r) s = by_more r (by_step s)
leads-more (by_more r more) s = by_more r (leads-more more s)

pub leads-join : {R : ℕ → ℕ → Type 0} {a b c : ℕ} → Leads R a b → Leads R b c → Leads R a c
leads-join (by_step r) s = by_more r s
leads-join (by_more r more) s = by_more r (leads-join more s)
