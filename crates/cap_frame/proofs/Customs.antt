-- Custom components that were read one by one, each with a new tag.
use Rattle.std.proofs.Common.{◌≡◌, ℕ, ◌+◌, ◌<◌, ◌≤◌, Bool, true, false, cond, List, length, Some, None, sym, subst, ◌∙◌, inl}
use Rattle.std.proofs.Common.{inr, arith}
use mathlib.Core.Path.{fun_ext}
use Rattle.std.specs.Prelude.{replicate, slice_set, ◌&&◌, not, nat_le}
use Rattle.std.proofs.lemmas.List.{get_or-set_other, get_or-set_same, get_or-replicate, get_or_past, length-replicate, length-set}
use Rattle.std.proofs.lemmas.Bool.{cases_lt}
use Rattle.cap_bytes.specs.declared.fault.FormFault.{FormFault}
use Rattle.cap_bytes.specs.declared.fault.FormKind.{FormKind}
use Rattle.cap_bytes.specs.declared.cursor.Cursor.{Cursor}
use Rattle.cap_bytes.specs.Grammar.{that, each, repeat}
use Rattle.cap_bytes.specs.Taking.{Taken, TakingFails}
use Rattle.cap_bytes.proofs.EachLoops.{ReadsAll, each_taken, loose_first, HasPassedEach, each_none, each_more, each_fault, each_all}
use Rattle.cap_frame.specs.DirectoryFormat.{Custom, custom_info, after_tag, is_new_tag, and_that_of, none}
use Rattle.cap_frame.specs.Tags.{named_in}

-- ---- the iterator asks less of a tag

both : (a b : Bool) (kind : FormKind) → cond (a && b) None (Some kind) ≡ None → cond (a && true) None (Some kind) ≡ None
both x b kind e = grind (arith)

less_strict : (named : ℕ → Bool) (tag : ℕ) → that (is_new_tag named) tag ≡ None → that (is_new_tag none) tag ≡ None
less_strict named tag e = both (nat_le 128 tag) (not (named tag)) _ e

all_loose : ReadsAll custom_info (custom_info none)
all_loose = loose_first 1 (λ named. that (is_new_tag named)) (that (is_new_tag none)) after_tag less_strict

pub customs_known : (n : ℕ) (now : Cursor) (xs : List Custom) (after : Cursor) → Taken (each n custom_info and_that_of none) now xs after
    → Taken (repeat n (custom_info none)) now xs after
customs_known n now xs after t = each_taken custom_info and_that_of (custom_info none) all_loose n none now xs after t

-- ---- flags by tag are the set of tags

none_named : named_in (replicate 256 false) ≡ none
none_named =
    fun_ext
    (λ tag. elim (cases_lt tag 256) [ inl lt ↦ get_or-replicate 256 tag false false lt | inr le ↦ get_or_past (replicate 256 false) tag false le ])

one_more_named : (named : List Bool) (custom : Custom) → custom.tag < length named → named_in (slice_set named custom.tag true)
    ≡ and_that_of (named_in named) custom
one_more_named named custom lt = fun_ext (λ tag. grind (arith, get_or-set_other, get_or-set_same))

-- i of so many custom components are passed, and their tags are the flags that are set
pub record HasNamed (count : ℕ) (start : Cursor) (i : ℕ) (now : Cursor) (named : List Bool) : Type 0 where
  pub passed : HasPassedEach custom_info and_that_of count start none i now (named_in named)
  pub flags : length named ≡ 256

pub named_none : (count : ℕ) (start : Cursor) → HasNamed count start 0 start (replicate 256 false)
named_none count start = grind (arith, none_named, each_none, length-replicate)

pub named_more : (count : ℕ) (start : Cursor) (i : ℕ) (now : Cursor) (named : List Bool) (custom : Custom) (after : Cursor)
    → HasNamed count start i now named → i < count → Taken (custom_info (named_in named)) now custom after → custom.tag < 256
    → HasNamed count start (i + 1) after (slice_set named custom.tag true)
named_more count start i now named custom after so_far lt t within =
    let inside : custom.tag < length named = omega (arith, so_far.flags) in
    record {
      passed =
          subst (λ s. HasPassedEach custom_info and_that_of count start none (i + 1) after s) (sym (one_more_named named custom inside))
          (each_more custom_info and_that_of count start none i now (named_in named) custom after so_far.passed lt t);
      flags = length-set named custom.tag true ∙ so_far.flags;
    }

pub named_fault : (count : ℕ) (start : Cursor) (i : ℕ) (now : Cursor) (named : List Bool) (fault : FormFault) → HasNamed count start i now named
    → i < count → TakingFails (custom_info (named_in named)) now fault → TakingFails (each count custom_info and_that_of none) start fault
named_fault count start i now named fault so_far lt f = each_fault custom_info and_that_of count start none i now (named_in named) fault so_far.passed lt f

pub named_all : (count : ℕ) (start : Cursor) (i : ℕ) (now : Cursor) (named : List Bool) → HasNamed count start i now named → count ≤ i
    → (xs : List Custom) × Taken (each count custom_info and_that_of none) start xs now
named_all count start i now named so_far le = each_all custom_info and_that_of count start none i now (named_in named) so_far.passed le

-- what the loop over the custom components needs
pub ruleset naming = (named_none, named_more, named_fault, named_all)
