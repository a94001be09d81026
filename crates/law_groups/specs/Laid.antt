-- A method of a world whose code is rewritten, and the world in which it is laid (Leroy 2002, section 4).
use Rattle.std.specs.Prelude.{◌≡◌, ℕ, ◌+◌, ◌<◌, ◌≤◌, if◌then◌else◌, List, [], length, Contains, is_some}
use Rattle.std.specs.List.{filter}
use Rattle.jc_base.specs.declared.record.Handler.{Handler}
use Rattle.jc_base.specs.World.{Linked}
use Rattle.jc_decode.specs.declared.insn.Placed.{Placed}
use Rattle.jc_decode.specs.declared.symbols.Item.{Item}
use Rattle.jc_decode.specs.declared.symbols.Laid.{Laid}
use Rattle.jc_decode.specs.declared.symbols.Symbols.{Symbols}
use Rattle.jc_decode.specs.Standing.{StandsAt}
use Rattle.jc_decode.specs.Symbols.{Step, is_instruction, place_of, steps}
use Rattle.jc_control.specs.Method.{Method, IsMethodOf}
use Rattle.xf_homes.specs.declared.home.Home.{Home}
use Rattle.law_laid.specs.Apart.{IsSameBut}
use Rattle.law_laid.specs.Laid.{HasLaid, class_by}
use Rattle.xf_homes.specs.Source.{Source}
use Rattle.xf_homes.specs.Plan.{stack_homes, is_leader}
use Rattle.xf_emission.specs.Emission.{items, rewritten}
use Rattle.xf_emission.specs.Group.{group}
use Rattle.law_rewritten_typing.specs.Planned.{IsPlanned}
use Rattle.law_homes.specs.Moves.{IsExecutable}

-- ---- places

-- how many instructions are among items
abbrev pub count_of : List Item → ℕ
count_of is = length (filter is_instruction is)

-- the rewritten code, instruction by instruction
abbrev pub steps_of : Source → List Step
steps_of s = steps s.method.code (items s)

-- the number of the first step of the group of a place
abbrev pub group_at : Source → ℕ → ℕ
group_at s p = place_of p (items s)

-- the homes that are loaded there, before the instruction
abbrev pub loaded_at : Source → ℕ → List Home
loaded_at s p = if is_leader s p then stack_homes s p else []

-- the number of the first step after these loads
abbrev pub body_at : Source → ℕ → ℕ
body_at s p = group_at s p + length (loaded_at s p)

-- one of the steps of the group of an instruction
pub record IsInGroup (s : Source) (i : Placed) (n : ℕ) : Type 0 where
  pub «from» : group_at s i.place ≤ n
  pub before : n < group_at s i.place + count_of (group s i)

-- where the `new` of a place is laid, of which its objects carry the place; other places follow after the end of the code, so that no
-- two become one
abbrev pub rename : Source → (ℕ → ℕ) → ℕ → ℕ
rename s place p = if is_some (s.frames p) then place (body_at s p) else place (length (steps_of s)) + p

-- ---- the method

-- the world w differs from v in code alone, and there the method of the same number has what is laid for these symbols, whose steps stand
-- at these places
pub record AreLaidIn (v w : Linked) (m : Method) (symbols : Symbols) (place : ℕ → ℕ) : Type 0 where
  pub same : IsSameBut v w
  pub target : Method
  pub is_target : IsMethodOf w target
  pub number : target.number ≡ m.number
  pub laid : Laid
  pub has : HasLaid m.rec laid target
  pub stands : StandsAt place m.code symbols laid

-- the source is a method of the world v that can be rewritten, no limit is passed, and its rewritten code is laid in the world w
pub record IsLaidIn (v w : Linked) (s : Source) (place : ℕ → ℕ) : Type 0 where
  pub world : s.world ≡ v
  pub new : IsExecutable w
  pub planned : IsPlanned s
  pub room : s.method.rec.max_stack < 255
  -- what a handler catches is told by its pool number
  pub catches : (h : Handler) → Contains s.method.rec.handlers h → class_by s.method.rec.handlers h.index ≡ h.class
  pub code : AreLaidIn v w s.method (rewritten s) place
