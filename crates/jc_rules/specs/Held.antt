-- How frames are held: the cells of many in one list, of each the registers and then the stack with its top last.
use Rattle.std.specs.Prelude.{◌≡◌, ℕ, ◌+◌, ◌≤◌, ◌⊎◌, List, length, map, take, drop, reverse, Option, Some}
use Rattle.std.specs.Prelude.{option_map, slice_get}
use Rattle.jc_base.specs.declared.ty.Ty.{Ty}
use Rattle.jc_rules.specs.Demand.{Frame}
use Rattle.jc_rules.specs.Typing.{flat}
use Rattle.jc_rules.specs.declared.demand.HeldFrame.{HeldFrame}
use Rattle.jc_rules.specs.declared.typing.Span.{Span}

-- the frame of so many registers
abbrev pub parted : ℕ → List Ty → Frame
parted registers cells = record { regs = take registers cells; stack = reverse (drop registers cells) }

-- the registers are there, and the stack has at most 255 cells
pub record IsParted (registers : ℕ) (cells : List Ty) : Type 0 where
  pub room : registers ≤ length cells
  pub depth : length cells ≤ registers + 255

-- the frame that is lent
abbrev pub lent : HeldFrame → Frame
lent s = record { regs = s.regs.now; stack = reverse s.stack.now }

-- where the cells of a span end
abbrev pub span_end : Span → ℕ
span_end s = s.at + (s.registers + s.depth)

-- the frame of a span
abbrev pub frame_of_span : List Ty → Span → Frame
frame_of_span cells s = parted s.registers (take (s.registers + s.depth) (drop s.at cells))

-- the span of a place, where it has one
abbrev pub span_at : List (Option Span) → ℕ → Option Span
span_at spans place = flat (slice_get spans place)

-- the frame of each place that has one
abbrev pub frames_at : List Ty → List (Option Span) → List (Option Frame)
frames_at cells spans = map (option_map (frame_of_span cells)) spans

-- two spans have no cell in common
abbrev pub AreApart : Span → Span → Type 0
AreApart s u = (span_end s ≤ u.at) ⊎ (span_end u ≤ s.at)

-- the spans lie within the cells, and those of two places are apart
pub record AreSpans (cells : List Ty) (spans : List (Option Span)) : Type 0 where
  pub within : (p : ℕ) (s : Span) → span_at spans p ≡ Some s → span_end s ≤ length cells
  pub few : (p : ℕ) (s : Span) → span_at spans p ≡ Some s → s.depth ≤ 255
  pub apart : (p q : ℕ) (s u : Span) → ¬ (p ≡ q) → span_at spans p ≡ Some s → span_at spans q ≡ Some u → AreApart s u

-- two places with one number have the same registers
abbrev pub TellRegisters : List Ty → List (Option Span) → List ℕ → Type 0
TellRegisters cells spans groups =
    (p q n : ℕ) (s u : Span)
    → span_at spans p ≡ Some s
    → span_at spans q ≡ Some u
    → slice_get groups p ≡ Some n
    → slice_get groups q ≡ Some n
    → (frame_of_span cells s).regs ≡ (frame_of_span cells u).regs

-- two places have one number
abbrev pub AreOfOneGroup : List ℕ → ℕ → ℕ → Type 0
AreOfOneGroup groups p q = (n : ℕ) × (slice_get groups p ≡ Some n) × (slice_get groups q ≡ Some n)

-- a number for the place after those that have one: its own, or that of one of them with the same registers
abbrev pub IsGroupAt : List Ty → List (Option Span) → List ℕ → ℕ → ℕ → Type 0
IsGroupAt cells spans groups place n =
    (n ≡ place)
    ⊎ ((q : ℕ) × (s : Span) × (u : Span) × (span_at spans place ≡ Some s) × (span_at spans q ≡ Some u) × (slice_get groups q ≡ Some n)
    × ((frame_of_span cells s).regs ≡ (frame_of_span cells u).regs))

-- no number is above its place
abbrev pub AreLow : List ℕ → Type 0
AreLow groups = (p n : ℕ) → slice_get groups p ≡ Some n → n ≤ p

-- what holds of a typing's cells, spans and groups
pub record AreHeld (cells : List Ty) (spans : List (Option Span)) (groups : List ℕ) : Type 0 where
  pub apart : AreSpans cells spans
  pub told : TellRegisters cells spans groups
