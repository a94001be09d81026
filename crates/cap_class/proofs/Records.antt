-- Records up to the end of the component: each takes a byte or more, and is one that may stand anywhere.
use Rattle.std.proofs.Common.{◌≡◌, ℕ, ◌≤◌, ◌<◌, Bool, false, List, [], ◌∷◌, length, Some, None, refl, arith, cond}
use Rattle.std.specs.Prelude.{◌&&◌}
use Rattle.cap_bytes.specs.declared.fault.FormKind.TheVariants.{BadValue, Remote}
use Rattle.cap_bytes.specs.declared.fault.FormFault.{FormFault}
use Rattle.cap_bytes.specs.declared.cursor.Cursor.{Cursor}
use Rattle.cap_bytes.specs.Grammar.{repeat, table, until_end}
use Rattle.cap_bytes.specs.Taking.{Taken, TakingFails}
use Rattle.cap_bytes.specs.Spelling.{Spells}
use Rattle.cap_bytes.proofs.Laws.{read-spells, spelled-read}
use Rattle.cap_bytes.proofs.EachLoops.{ReadsAll}
use Rattle.cap_bytes.proofs.UntilLoops.{HasPassedUntil, moves, until_taken}
use Rattle.cap_class.specs.ClassFormat.{Class, wrong_record, beyond_first, is_interface, class_flags, record_info, any_record, is_after}

-- so many records from `start` on are passed up to `now`, and no more than the bytes before it
pub record HavePassed (start : Cursor) (count : ℕ) (now : Cursor) (after_class : Bool) : Type 0 where
  pub passed : HasPassedUntil record_info is_after start false count now after_class
  pub few : count ≤ now.at

-- a record takes a byte or more
pub advances : (after_class : Bool) (now : Cursor) (x : Class) (after : Cursor) → Taken (record_info after_class) now x after → now.at < after.at
unfolding record_info
advances after_class now x after t =
    let m = moves 1 (wrong_record after_class) (λ first. beyond_first (is_interface (class_flags first)) now.at first) now x after
    (record { value = t.value; info = t.info; part = t.part }) in
    omega arith

pub ruleset advancing = (advances)

relaxed : (b c d : Bool) → cond (b && c) (Some BadValue) (cond d (Some Remote) None) ≡ None
    → cond (false && c) (Some BadValue) (cond d (Some Remote) None) ≡ None
relaxed x c d h = grind (arith)

-- a record that may stand where it stands may stand anywhere
reads_all : ReadsAll record_info any_record
unfolding record_info Spells
reads_all s from bytes at x after h = grind (arith, read-spells, relaxed, spelled-read)

-- so many records up to the end are so many that may stand anywhere
pub counted : (n : ℕ) (now : Cursor) (xs : List Class) (after : Cursor) → Taken (until_end record_info is_after false) now xs after → length xs ≡ n
    → Taken (repeat n any_record) now xs after
counted n now xs after t e = grind (arith, until_taken record_info is_after any_record reads_all false now xs after t)

-- a table of no entries is always there
pub never_fails : (now : Cursor) (fault : FormFault) → TakingFails (table 0) now fault → ⊥
unfolding table
never_fails now fault h = let e = h.answer in absurd cc

pub no_entries : (xs : List ℕ) → length xs ≡ 0 → xs ≡ []
no_entries [] h = refl
no_entries (x ∷ xs) h = absurd (omega arith)

-- what a table of no entries needs
pub ruleset empty = (never_fails, no_entries)
