-- The typing that is inferred for a method.
use Rattle.std.proofs.Common.{List, Option, Some, None, IsSomeAnd}
use Rattle.jc_base.specs.declared.ty.Ty.TheVariants.{Top}
use Rattle.jc_base.specs.World.{Linked}
use Rattle.jc_control.specs.Method.{Method}
use Rattle.jc_rules.specs.Demand.{Frame}
use Rattle.jc_rules.specs.Flow.{IsLeastTyping}
use Rattle.jc_rules.specs.Typing.{state_at}
use Rattle.jc_flow.specs.Infer.{AreReached, HaveRegisters}
use Rattle.xf_homes.specs.Answer.{IsTypingOf}

pub typing-of : (w : Linked) (o : Option Method) (t : List (Option Frame)) → IsSomeAnd o (λ m. IsLeastTyping w m Top (state_at t))
    → IsSomeAnd o (λ m. AreReached m t) → IsSomeAnd o (λ m. HaveRegisters m t) → IsSomeAnd o (λ m. IsTypingOf w m t)
typing-of w None t least reached registers = least
typing-of w (Some m) t least reached registers = record { least = least; reached = reached; registers = registers }
