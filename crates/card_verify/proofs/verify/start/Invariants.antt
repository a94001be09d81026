use Rattle.std.proofs.Common.{◌≡◌, ◌<◌, ℕ, length, get_or}
use Rattle.jc_base.specs.declared.ty.Ty.TheVariants.{Bottom}
use Rattle.jc_rules.specs.Flow.{start_frame}
use Rattle.card_verify.proofs.verify.start.Given as goal

abbrev pub invariant-registers : goal.invariant-registers
invariant-registers l = record {
  count : length l.regs ≡ length l.initial.regs;
  same : (k : ℕ) → k < l.x → get_or l.regs k Bottom ≡ get_or (start_frame l.rec Bottom).regs k Bottom;
}
