-- Which operations rewritten code keeps as they are.
use Rattle.std.proofs.Common.{◌≡◌, false, [], ◌∷◌, arith}
use Rattle.std.specs.Prelude.{None, Ok}
use Rattle.jc_base.specs.World.{Linked}
use Rattle.jc_decode.specs.declared.insn.Placed.{Placed}
use Rattle.jc_decode.specs.declared.symbols.Item.TheVariants.{Plain}
use Rattle.jc_ops.specs.declared.operation.Operation.{Operation}
use Rattle.jc_ops.specs.Next.{jumps_from}
use Rattle.jc_rules.specs.Footprint.{registers_asked}
use Rattle.jc_rules.specs.Rule.{demands}
use Rattle.xf_homes.specs.Walk.{operands_of}
use Rattle.xf_homes.specs.Source.{Source}
use Rattle.xf_emission.specs.Group.{body}
use Rattle.law_rewritten_typing.proofs.Turns.{NamesNone}

pub kept-body : (s : Source) (i : Placed) (op : Operation) → NamesNone op → jumps_from op ≡ false → body s i op ≡ Plain i.insn ∷ []
unfolding body
kept-body s i z k still = grind (arith)

-- an operation that asks for no register
pub names-none : (w : Linked) (op : Operation) → registers_asked (demands w op) ≡ 0 → NamesNone op
names-none w y e = grind (arith)

pub kept-operands : (w : Linked) (op : Operation) → jumps_from op ≡ false → operands_of w (Ok op) ≡ None
kept-operands w y k = grind (arith)
