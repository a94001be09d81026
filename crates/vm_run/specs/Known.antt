-- How a machine knows at which places of the code of a world's methods instructions begin.
use Rattle.std.specs.Prelude.{◌≡◌, ◌+◌, ◌<◌, ◌≤◌, ℕ, ℤ, Bool, true, false, length, IsSome}
use Rattle.jc_base.specs.World.{Linked}
use Rattle.vm_store.specs.State.{State, top}
use Rattle.vm_step.specs.Settled.{is_target_place}
use Rattle.vm_step.specs.Methods.{code_at, max_stack_of, instruction_at}
use Rattle.vm_run.specs.Marked.{AreMarked}
use Rattle.vm_run.specs.declared.known.Known.{Known}
use Rattle.vm_run.specs.declared.known.Known.TheVariants.{Marked, Verified}

-- a machine that tests goes by flags, and one that does not runs verified code
abbrev pub KnowPlaces : Bool → Linked → Known → Type 0
KnowPlaces checks w (Marked places) = (checks ≡ true) × AreMarked w places.now
KnowPlaces checks w Verified = checks ≡ false

-- at this place of a method flags tell what stands; in verified code an instruction does
abbrev pub KnowsAt : Linked → Known → ℕ → ℕ → Type 0
KnowsAt w (Marked places) method place = AreMarked w places.now
KnowsAt w Verified method place = IsSome (instruction_at (code_at w method) place)

-- in verified code a jump leads to an instruction
abbrev pub LandsAt : Linked → Known → ℕ → ℤ → Type 0
LandsAt w (Marked places) method to = Unit {0}
LandsAt w Verified method to = is_target_place (code_at w method) to ≡ true

-- a caller can take a result of so many cells, where its frame is on top: its call is found, and its operand stack has room, since
-- a method declares at most 255 cells
pub record CanResume {A : Type 0} (room : ℕ) (w : Linked) (known : Known) (cells : ℕ) (s : State A) : Type 0 where
  pub method : (top s).method < length w.methods
  pub call : KnowsAt w known (top s).method (top s).place
  pub room_is : max_stack_of w (top s).method ≤ 255 → length (top s).stack + cells ≤ room
