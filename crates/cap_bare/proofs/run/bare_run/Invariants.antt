use Rattle.std.proofs.Common.{◌≡◌, ◌-◌, length}
use Rattle.cap_bare.specs.Typing.{register_count}
use Rattle.cap_bare.specs.Machine.{after, entered, IsSafe}
use Rattle.cap_bare.specs.Leading.{state_in_frame}
use Rattle.cap_bare.proofs.run.bare_run.Given as goal

abbrev pub invariant-steps : goal.invariant-steps
invariant-steps l = record {
  same : after (l.budget - l._taken) l.code.bytes.now l.bare (state_in_frame l.place l.frame)
      ≡ after l.budget l.code.bytes.now l.bare (entered l.bare l.args);
  safe : IsSafe l.code.bytes.now l.bare (state_in_frame l.place l.frame);
  registers : length l.frame.registers ≡ register_count l.bare;
}
