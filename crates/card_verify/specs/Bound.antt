-- How many steps the verifier on the card takes over a target index.
use Rattle.std.specs.Prelude.{◌⊎◌, ℕ, zero, suc, ◌+◌, ◌*◌, ◌^◌, ◌<◌, ◌≤◌, List, length, sum_by, Contains}
use Rattle.std.specs.Prelude.{Option, Some, None, IfSome}
use Rattle.jc_base.specs.declared.ty.Ty.{Ty}
use Rattle.jc_base.specs.World.{Linked, index_of}
use Rattle.jc_decode.specs.Listing.{listing, targets}
use Rattle.jc_control.specs.Method.{Method, method_in}
use Rattle.jc_rules.specs.Demand.{Frame}
use Rattle.card_typing.specs.declared.fault.CardFault.{CardFault}
use Rattle.card_typing.specs.declared.fault.CardKind.{CardKind}
use Rattle.card_typing.specs.declared.fault.CardKind.TheVariants.{BadIndex, NotIndexed}
use Rattle.card_verify.specs.Counted.{instruction_count, most_passes, AreCountedBeside, AreCountedUpTo}
use Rattle.card_verify.specs.Refusal.{IsFormKind}

-- the targets of a method, each of each instruction
abbrev pub target_count : Method → ℕ
target_count m = sum_by (λ i. length (targets m.code i)) (listing m.code)

-- what is counted of a method that is accepted over an index, with these registers: each of its entries is read once at
-- the least, and in each pass each instruction is visited
abbrev pub AreCounted : Linked → Method → List ℕ → List Ty → ℕ → ℕ → Type 0
AreCounted w m index regs before after = AreCountedBeside w m (Contains index) regs (length index) before after

-- the entries, of so many, that are read before what is wrong with the index is told: those up to a bad one, or all where a
-- target is lacking; a flaw of the method may be told before any
abbrev pub entries_read : ℕ → CardKind → ℕ
entries_read entries (BadIndex number) = number + 1
entries_read entries (NotIndexed target) = entries
entries_read entries _ = 0

-- of a refusal: the form of the method or the index is at fault; or a state is, and then each entry is read and each visit
-- before it is counted
abbrev pub AreCountedBy : Linked → Method → List ℕ → ℕ → ℕ → CardFault → Frame → Type 0
AreCountedBy w m index before after fault kept =
    IsFormKind fault.kind × (before + entries_read (length index) fault.kind ≤ after)
    ⊎ AreCountedUpTo w m (Contains index) fault kept (length index) before after

-- over an index of so many entries, whose number has so many binary digits
abbrev pub step_bound : Linked → Method → ℕ → ℕ → ℕ
step_bound w m entries digits =
    most_passes w m * instruction_count m
    + (most_passes w m * instruction_count m + target_count m) * digits
    + entries

-- ---- all methods of a world

-- the entries of the index of a method, if it has one, are fewer than so many binary digits can tell
abbrev pub IsShortAt : Linked → ℕ → ℕ → Type 0
IsShortAt w digits number = IfSome (index_of w number) (λ index. length index < 2 ^ digits)

-- the bound of a method that has an index; without one nothing is counted
abbrev pub bound_over : Linked → ℕ → Option Method → Option (List ℕ) → ℕ
bound_over w digits (Some m) (Some index) = step_bound w m (length index) digits
bound_over w digits (Some m) None = 0
bound_over w digits None index = 0

abbrev pub bound_at : Linked → ℕ → ℕ → ℕ
bound_at w digits number = bound_over w digits (method_in w number) (index_of w number)

-- the sum of the bounds of the methods before a number
abbrev pub bounds_before : Linked → ℕ → ℕ → ℕ
bounds_before w digits zero = 0
bounds_before w digits (suc n) = bounds_before w digits n + bound_at w digits n
