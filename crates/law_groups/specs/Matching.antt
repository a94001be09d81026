-- What symbols do beside the method whose code they replace, wherever they are laid (Leroy 2002, section 4.1).
use Rattle.std.specs.Prelude.{◌≡◌, ◌<◌, ℕ, Bool, List, Option}
use Rattle.jc_base.specs.World.{Linked}
use Rattle.jc_control.specs.Control.{IsLeader}
use Rattle.jc_control.specs.Flags.{Marks}
use Rattle.jc_control.specs.Method.{Method}
use Rattle.jc_decode.specs.declared.symbols.Symbols.{Symbols}
use Rattle.jc_rules.specs.Demand.{Frame}
use Rattle.law_alike.specs.Alike.{IsOneToOne}
use Rattle.xf_homes.specs.declared.home.Home.{Home}
use Rattle.xf_homes.specs.Source.{Source}
use Rattle.xf_emission.specs.Emission.{rewritten}
use Rattle.law_rewritten_typing.specs.Planned.{IsPlanned}
use Rattle.law_groups.specs.Laid.{AreLaidIn, rename}
use Rattle.law_groups.specs.Laws.{CatchInGroups, EndCalls, EnterFromStart, EnterFromStubs, HasMoreRoom, ReturnToGroups, RunFromGroups}

-- the method of the world w runs beside the source, a method of the world v
pub record RunsBeside (v w : Linked) (s : Source) (place : ℕ → ℕ) : Type 0 where
  -- from the method's start at most 1,000 steps lead to the group of its first place
  pub starts : EnterFromStart v w s place
  -- from the group of a typed frame's place at least one step leads to what the step of the source comes to: at most 2,000 to the group of
  -- the next place, or at most 1,000 to the same call, result, exception, object or ending
  pub groups : RunFromGroups v w s place
  -- a frame under a call goes on at the step after it
  pub ends : EndCalls w s place
  -- from which at most 1,000 steps lead to the group of the next place
  pub returns : ReturnToGroups v w s place
  -- from a step of a group the same handlers catch as from its place, in the target at their stubs
  pub catches : CatchInGroups v w s place
  -- from which at least one step and at most 1,000 lead to the group of the entry
  pub handlers : EnterFromStubs v w s place
  -- the stack has room for one cell more
  pub room : HasMoreRoom v w s
  -- no two places of uninitialised objects become one
  pub one_to_one : IsOneToOne (rename s place)

-- so it is in every world, and at all places, in which these symbols are laid for the method
abbrev pub MatchesFrames : Source → Symbols → Type 0
MatchesFrames s symbols = (w : Linked) (place : ℕ → ℕ) → AreLaidIn s.world w s.method symbols place → RunsBeside s.world w s place

-- the symbols match the frames of a method, whose leaders are what control comes together at
pub record MatchesMethod (w : Linked) (m : Method) (frames : ℕ → Option Frame) (homes : List Home) (symbols : Symbols) : Type 0 where
  pub leaders : List Bool
  pub marked : Marks (IsLeader m) leaders
  pub matches : MatchesFrames (record { world = w; method = m; frames = frames; leaders = leaders; homes = homes }) symbols

-- so do those of each method that can be rewritten, where no limit is passed
abbrev pub RewrittenMatches : Linked → Type 0
RewrittenMatches v = (s : Source) → s.world ≡ v → IsPlanned s → s.method.rec.max_stack < 255 → MatchesFrames s (rewritten s)
