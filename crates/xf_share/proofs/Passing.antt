-- The passes over the methods of the last package, one method after the other.
use Rattle.std.proofs.Common.{◌≡◌, ℕ, ◌+◌, ◌<◌, ◌≤◌, List, Option, Some, None, option_map, IsSomeAnd, slice_get, refl, arith}
use Rattle.cap_package.specs.PackageRecord.{PackageRecord}
use Rattle.jc_base.specs.declared.record.MethodRec.{MethodRec}
use Rattle.jc_base.specs.World.{Linked}
use Rattle.jc_control.specs.Asked.{AllHaveBelow, IsOfLast}
use Rattle.jc_control.specs.Method.{method_in, method_with}
use Rattle.jc_decode.specs.declared.symbols.Laid.{Laid}
use Rattle.law_shared_world.specs.SharedCode.{HasSharedCode, IsSharedElement}
use Rattle.xf_last.specs.Last.{BeginsLast}
use Rattle.xf_last.proofs.Passing.{below-more}
use Rattle.xf_layout.specs.declared.laying.LayEnd.{LayEnd}
use Rattle.xf_share.specs.Ends.{HaveCardTypings, IsSharedTooLong, TellsOf}
use Rattle.xf_share.specs.Passes.{IsSharedAt}
use Rattle.xf_share.specs.Unlaid.{IsSharedLong, TellsUnlaid, unlaid}

module _ (w : Linked) (first : ℕ) (is : BeginsLast w first) where
  has-laid : (n : ℕ) (laid : Option Laid) (r : MethodRec) → 0 < r.code_len → IsSharedElement w n r laid → HasSharedCode w (method_with w n r)
  has-laid n x r some none = grind (arith)

  pub laid-more : (n : ℕ) (laid : Option Laid) → AllHaveBelow (IsOfLast w) (HasSharedCode w) n → IsSharedAt w n laid
      → AllHaveBelow (IsOfLast w) (HasSharedCode w) (n + 1)
  laid-more n laid below h = grind (arith, below-more, has-laid)

  too-long : (n k : ℕ) → first ≤ n → HaveCardTypings w → AllHaveBelow (IsOfLast w) (HasSharedCode w) n
      → IsSomeAnd (method_in w n) (IsSharedLong w k) → IsSharedTooLong w n k
  too-long n k le accepted below h = by (slice_get w.methods n) refl h
    where
      by : (o : Option MethodRec) → slice_get w.methods n ≡ o → IsSomeAnd (option_map (method_with w n) o) (IsSharedLong w k) → IsSharedTooLong w n k
      by None at h = absurd h
      by (Some r) at h = record {
        accepted = accepted;
        method = method_with w n r;
        numbered = refl;
        of_last = record { method = h.method; last = is.last n r at le };
        earlier = below;
        reg = h.reg;
        locals = h.locals;
        numbers = h.numbers;
        long = h.long;
        size = h.size;
      }

  pub unlaid-tells : (n : ℕ) (end : LayEnd) → first ≤ n → HaveCardTypings w → AllHaveBelow (IsOfLast w) (HasSharedCode w) n → TellsUnlaid w n end
      → (ps : List PackageRecord) → TellsOf ps w (unlaid n end)
  unlaid-tells n x le accepted below h ps = grind (arith, too-long)
