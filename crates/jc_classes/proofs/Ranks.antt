-- A class has more ancestors than its superclass, where no class is an ancestor of itself.
use Rattle.std.proofs.Common.{◌≡◌, ℕ, ◌<◌, ◌≤◌, false, List, length}
use Rattle.std.specs.Prelude.{Contains, count_by}
use Rattle.std.specs.List.{range_with_len}
use Rattle.jc_base.proofs.Counting.{count-less, count-most, number-among}
use Rattle.jc_resolve.specs.declared.naming.NamedClass.{NamedClass}
use Rattle.jc_base.specs.Leads.{at_once, further}
use Rattle.jc_classes.specs.Ancestor.{superclass, is_above}
use Rattle.jc_classes.proofs.Above.{is_above-sound, is_above-complete}

-- ---- ranks

-- how many ancestors a class has
abbrev pub rank : List NamedClass → ℕ → ℕ
rank cs c = count_by (λ a. is_above cs false a c) (range_with_len 0 (length cs))

pub rank-most : (cs : List NamedClass) (c : ℕ) → rank cs c ≤ length cs
rank-most cs c = count-most (λ a. is_above cs false a c) (length cs)

pub rank-falls : (cs : List NamedClass) (c p : ℕ) → Contains (superclass cs c) p → p < length cs → is_above cs false p p ≡ false
    → rank cs p < rank cs c
rank-falls cs c p up there acyclic =
    count-less (λ a. is_above cs false a p) (λ a. is_above cs false a c) (range_with_len 0 (length cs)) p
    (λ a h. is_above-complete cs false a c (further up (is_above-sound cs false a p h)))
    (number-among (length cs) p there) acyclic (is_above-complete cs false p c (at_once up))
