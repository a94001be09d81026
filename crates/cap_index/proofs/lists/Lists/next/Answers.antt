use Rattle.std.proofs.Common.{sym, ap, slice_get, arith}
use Rattle.cap_bytes.proofs.Loops.{gives_first}
use Rattle.cap_index.specs.IndexFormat.{list_info}
use Rattle.cap_index.proofs.lists.Lists.next.Goals as goal

pub returns-in-Ok-clause-first : goal.returns-in-Ok-clause-first
returns-in-Ok-clause-first c =
    rw (← c.self.view_is)
    (sym
    (ap (λ xs. slice_get xs 0) (gives_first list_info c.self.inside.left c.self.inside.items c.in-Ok.places c.list.new.items c.self.invariant
    (omega (arith, c.if-self-eq0.false)) c.in-Ok.ensures)))
