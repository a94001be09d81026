use Rattle.std.proofs.Common.{◌≡◌, ◌++◌, All}
use Rattle.jc_decode.specs.Listing.{targets}
use Rattle.jc_control.specs.Targets.{rest_of}
use Rattle.jc_flow.specs.Visit.{analysed, world_of, Goes, IsAtTarget}
use Rattle.jc_flow.proofs.analysis.Analysis.raise_targets.Given as goal

abbrev pub invariant-targets : goal.invariant-targets
invariant-targets l = record {
  goes : Goes (world_of l.self) (analysed l.self) l.initial.table l.table;
  reached : All (IsAtTarget (world_of l.self) l.step.after.now.frame l.table) l.yielded;
  whole : l.yielded ++ rest_of l.target-iterator ≡ targets l.self.subject.code.bytes.now (record { place = l.step.place; insn = l.step.insn });
}
