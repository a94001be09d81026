-- The methods of an accepted world have dataflow typings.
use Rattle.jc_base.specs.declared.ty.Ty.TheVariants.{Bottom}
use Rattle.jc_base.specs.World.{Linked}
use Rattle.card_verify.specs.Answers.{AreAccepted}
use Rattle.card_verify.proofs.Accepting.{accepted-typed}
use Rattle.law_sound.specs.Soundness.{HasTypings, TypedMethodsHaveTypings}

pub accepted-has : (w : Linked) → TypedMethodsHaveTypings w → AreAccepted w → HasTypings w Bottom
accepted-has w law accepted = law Bottom (accepted-typed w accepted)
