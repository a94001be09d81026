-- What the words of verified code keep through a run, though nothing tests them: they are those of a state of tagged cells that is
-- typed (Leroy 2002, section 2; JCVM 2.2, section 7.5).
use Rattle.std.specs.Prelude.{◌≡◌, ℕ}
use Rattle.jc_base.specs.declared.ty.Ty.TheVariants.{Bottom}
use Rattle.jc_base.specs.World.{Linked}
use Rattle.vm_store.specs.declared.cell.Cell.{Cell}
use Rattle.vm_store.specs.State.{State, erased}
use Rattle.law_sound.specs.Frames.{Typings}
use Rattle.law_sound.specs.State.{IsTypedState}
use Rattle.law_sound.specs.Soundness.{AreTypings}
use Rattle.vm_check.specs.Shaped.{IsShaped}

-- each method with code of the world has a dataflow typing in which unset registers hold no value; and there is a state whose words
-- these are, and which is typed
pub record AreTypedWords (w : Linked) (s : State ℕ) : Type 0 where
  pub typings : Typings
  pub unset : (n : ℕ) → typings.unset n ≡ Bottom
  pub methods : AreTypings w typings
  pub state : State Cell
  pub words : s ≡ erased state
  pub typed : IsTypedState w typings state
  pub shaped : IsShaped w state
