-- The method whose registers are shared.
use Rattle.std.specs.Prelude.{◌≤◌}
use Rattle.jc_base.specs.World.{Linked}
use Rattle.jc_decode.specs.declared.insn.Placed.{Placed}
use Rattle.jc_control.specs.Method.{Method}
use Rattle.jc_control.specs.WellFormed.{IsWellFormed}
use Rattle.jc_control.specs.Subject.{method, world_of}
use Rattle.jc_control.specs.declared.subject.Subject.{Subject}
use Rattle.jc_ops.specs.declared.operation.Operation.{Operation}
use Rattle.jc_rules.specs.Footprint.{registers_asked}
use Rattle.jc_rules.specs.Rule.{demands}
use Rattle.law_share.specs.Live.{Operates}

-- no operation of the method asks for more registers than a method may have
abbrev pub AsksFew : Linked → Method → Type 0
AsksFew w m = (i : Placed) (op : Operation) → Operates w m i op → registers_asked (demands w op) ≤ 255

-- it is well formed
pub record IsSubject (s : Subject) : Type 0 where
  pub formed : IsWellFormed (method s)
  pub few : AsksFew (world_of s) (method s)
