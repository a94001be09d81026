-- How much of the stack the runs of an entry take at most.
use Rattle.std.specs.Prelude.{◌≡◌, ℕ, ◌<◌, ◌≤◌, Option, Some, None, if◌then◌else◌, slice_get, ⊤}
use Rattle.jc_base.specs.declared.record.MethodRec.{MethodRec}
use Rattle.jc_base.specs.World.{Linked}
use Rattle.digraph.specs.Way.{StandsTwiceInWay}
use Rattle.vm_store.specs.State.{frame_limit}
use Rattle.vm_step.specs.declared.ending.StartFault.{StartFault}
use Rattle.vm_step.specs.declared.ending.StartFault.TheVariants.{NoEntry, NotStatic}
use Rattle.vm_step.specs.Start.{can_begin}
use Rattle.law_chains.specs.Calls.{Calls}
use Rattle.law_chains.specs.Bounds.{IsMostWords, IsMostFrames, RunsStayWithin, NoneIsTooDeep}
use Rattle.vm_bound.specs.declared.bounds.BoundEnd.{BoundEnd}
use Rattle.vm_bound.specs.declared.bounds.BoundEnd.TheVariants.{Fault, Memory}
use Rattle.vm_bound.specs.declared.bounds.Bound.{Bound}
use Rattle.vm_bound.specs.declared.bounds.Bound.TheVariants.{Words, Cycle}

-- why no run of an entry begins, whatever its arguments
abbrev pub refused_method : Linked → Option MethodRec → Option StartFault
refused_method w None = Some NoEntry
refused_method w (Some m) = if can_begin w m then None else Some NotStatic

abbrev pub entry_refused : Linked → ℕ → Option StartFault
entry_refused w entry = refused_method w (slice_get w.methods entry)

-- the entry is refused so; where memory is wanting it is not
abbrev pub EndsWith : Linked → ℕ → BoundEnd → Type 0
EndsWith w entry (Fault fault) = entry_refused w entry ≡ Some fault
EndsWith w entry Memory = entry_refused w entry ≡ None

-- some chain of calls from the entry has the method twice, and of no lesser method one does
pub record IsLeastTwice (w : Linked) (entry m : ℕ) : Type 0 where
  pub twice : StandsTwiceInWay (Calls w) entry m
  pub least : (n : ℕ) → n < m → ¬ (StandsTwiceInWay (Calls w) entry n)

-- no chain of calls from the entry has a method twice; so many words and so many methods are the most of one
pub record AreMost (w : Linked) (entry words frames : ℕ) : Type 0 where
  pub never_twice : (n : ℕ) → ¬ (StandsTwiceInWay (Calls w) entry n)
  pub words_are : IsMostWords w entry words
  pub frames_are : IsMostFrames w entry frames

-- the bound of an entry
abbrev pub IsBound : Linked → ℕ → Bound → Type 0
IsBound w entry (Words words frames) = AreMost w entry words frames
IsBound w entry (Cycle m) = IsLeastTwice w entry m

-- in every state of every run of the entry the live frames keep to it; and where the frames of the bound are no more than there may be, no
-- run is too deep
pub record RunsKeepTo (w : Linked) (entry words frames : ℕ) : Type 0 where
  pub within : RunsStayWithin w entry words frames
  pub no_deeper : frames ≤ frame_limit → NoneIsTooDeep w entry

abbrev pub BoundsRuns : Linked → ℕ → Bound → Type 0
BoundsRuns w entry (Words words frames) = RunsKeepTo w entry words frames
BoundsRuns w entry (Cycle m) = ⊤
