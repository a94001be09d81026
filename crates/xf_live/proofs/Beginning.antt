-- A search for live registers at its start.
use Rattle.std.proofs.Common.{◌≡◌, ◌<◌, ◌≤◌, inl, inr, ⊎_elim, ℕ, zero, suc, ◌+◌, List, length, replicate, refl, sym, ap, ◌∙◌}
use Rattle.std.proofs.Common.{subst, arith}
use Rattle.std.specs.Prelude.{Option, Some, slice_get}
use Rattle.std.proofs.lemmas.Bool.{cases_lt}
use Rattle.std.proofs.lemmas.Option.{slice_get_within}
use Rattle.xf_live.specs.declared.live.Liveness.{Liveness}
use Rattle.xf_live.specs.declared.live.Node.{Node}
use Rattle.xf_live.specs.Set.{Has, IsSmall, no_registers}
use Rattle.xf_live.specs.Live.{IsLive, live_read, set_at}
use Rattle.xf_live.specs.Liveness.{Raises, Begins, BegunTo}
use Rattle.xf_live.proofs.Sets.{empty-is}
use Rattle.xf_live.proofs.Carrying.{raised-only, raised-has, raised-grows, closed-on}

set-none : (count n : ℕ) → set_at (replicate count no_registers) n ≡ no_registers
set-none zero n = refl
set-none (suc count) zero = refl
set-none (suc count) (suc n) = set-none count n

none-small : IsSmall no_registers
none-small = record { first = omega arith; second = omega arith; third = omega arith; fourth = omega arith }

module _ (nodes : List Node) where
  pub begun-none : (s : Liveness) → s.sets.items ≡ replicate (length nodes) no_registers → length s.sets.items ≡ length nodes → BegunTo nodes 0 s
  begun-none s sets size = grind (arith, set-none, length, empty-is, none-small)

  pub begun-more :
      (k : ℕ) (node : Node) (old new : Liveness) → slice_get nodes k ≡ Some node → BegunTo nodes k old → Raises k node.reads old new
      → BegunTo nodes (k + 1) new
  begun-more k node old new there b raises =
      let lt = slice_get_within nodes k node there in
      let inside : k < length old.sets.items = (let size = b.size in omega (arith, size, lt)) in
      let grows = raised-grows k node.reads old new inside raises in
      record {
        size = grows.size ∙ b.size;
        small = grows.small b.small;
        sound = λ n x h. ⊎_elim (λ before. b.sound n x before)
            (λ both. subst (IsLive nodes x) (sym both.0) (live_read k node there both.1)) (raised-only k node.reads old new inside raises n x h);
        closed = λ q. closed-on nodes q old new grows (b.closed q);
        reads = λ n x other less at h. elim (cases_lt n k) [
          | inl before ↦ grows.has n x (b.reads n x other before at h)
          | inr ge ↦
              let same : n ≡ k = omega (arith, less, ge) in
              let its : other ≡ node = one other node (sym at ∙ (ap (slice_get nodes) same ∙ there)) in
              subst (λ j. Has (set_at new.sets.items j) x) (sym same)
              (raised-has k node.reads old new inside raises x (subst (λ (m : Node). Has m.reads x) its h))
        ];
      }
    where
      one : (a b : Node) → ◌≡◌ {A = Option Node} (Some a) (Some b) → a ≡ b
      one a b e = cc

  pub begun-all : (k : ℕ) (s : Liveness) → length nodes ≤ k → BegunTo nodes k s → Begins nodes s
  begun-all k s all b = grind (arith, slice_get_within)
