use Rattle.std.proofs.Common.{All, take}
use Rattle.jc_flow.specs.Visit.{analysed, world_of, Goes, CaughtIsBelow}
use Rattle.jc_flow.proofs.analysis.Analysis.raise_handlers.Given as goal

abbrev pub invariant-handlers : goal.invariant-handlers
invariant-handlers l = record {
  goes : Goes (world_of l.self) (analysed l.self) l.initial.table l.table;
  caught : All (CaughtIsBelow (world_of l.self) l.step.place l.step.before.now.frame l.table) (take l.handler-index l.handler-items);
}
