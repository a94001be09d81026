use Rattle.law_groups.proofs.laws.moves_run.Goals as goal

pub returns : goal.returns
returns c = record {
  needs = c.edges_carry.ensures.needed;
  fill = c.edges_carry.ensures.cells;
  loading = c.stacks_move.ensures.loads;
  spills = c.stacks_move.ensures.stores;
  stay = c.moves_are_few.ensures.stacks;
  edges = c.edges_run.ensures.locals;
  cells_run = c.edges_run.ensures.cells;
  few_copies = c.moves_are_few.ensures.copies;
  few_cells = c.moves_are_few.ensures.cells;
}
