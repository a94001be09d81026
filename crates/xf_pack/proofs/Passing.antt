-- The passes over the methods of the last package, one method after the other.
use Rattle.std.proofs.Common.{◌≡◌, ℕ, ◌+◌, ◌<◌, ◌≤◌, List, Option, Some, None, option_map, IsSomeAnd, slice_get, refl, arith}
use Rattle.cap_package.specs.PackageRecord.{PackageRecord}
use Rattle.jc_base.specs.declared.record.MethodRec.{MethodRec}
use Rattle.jc_base.specs.declared.ty.Ty.TheVariants.{Top}
use Rattle.jc_base.specs.World.{Linked}
use Rattle.jc_control.specs.Asked.{AllHaveBelow, IsOfLast}
use Rattle.jc_control.specs.Method.{Method, method_in, method_with}
use Rattle.jc_decode.specs.declared.symbols.Laid.{Laid}
use Rattle.jc_flow.specs.declared.inference.FlowEnd.{FlowEnd}
use Rattle.jc_flow.specs.declared.inference.FlowEnd.TheVariants as flow
use Rattle.jc_flow.specs.Infer.{LacksTyping}
use Rattle.jc_rules.specs.Demand.{Frame}
use Rattle.jc_rules.specs.Flow.{HasFlowTyping}
use Rattle.law_transform.specs.Laid.{HasLaidCode, IsLaidElement}
use Rattle.xf_last.specs.Last.{BeginsLast}
use Rattle.xf_last.proofs.Passing.{below-more}
use Rattle.xf_pack.specs.declared.transforming.MethodLimit.{MethodLimit}
use Rattle.xf_pack.specs.declared.unlaid.LayingEnd.{LayingEnd}
use Rattle.xf_pack.specs.Ends.{AreAcceptedLibraries, IsLimited, IsTypedLast, IsUntypedLast, TellsOf}
use Rattle.xf_pack.specs.Passes.{IsKeptTyping, IsLaidAt, IsTypingAt}
use Rattle.xf_pack.specs.Unlaid.{IsUnlaid, TellsUnlaid, unlaid}
use Rattle.xf_pack.specs.Untyped.{HasNoTyping, IsUntyped, untyped}

module _ (w : Linked) (first : ℕ) (is : BeginsLast w first) where
  -- ---- typings

  has-typing : (n : ℕ) (kept : Option (List (Option Frame))) (r : MethodRec) → 0 < r.code_len → IsKeptTyping w n r kept
      → HasFlowTyping w (method_with w n r) Top
  has-typing n x r some none = grind (arith)

  pub typed-more : (n : ℕ) (kept : Option (List (Option Frame))) → AllHaveBelow (IsOfLast w) (λ m. HasFlowTyping w m Top) n → IsTypingAt w n kept
      → AllHaveBelow (IsOfLast w) (λ m. HasFlowTyping w m Top) (n + 1)
  typed-more n kept below h = grind (arith, below-more, has-typing)

  no-typing : (m : Method) (end : FlowEnd) → (end ≡ flow.Memory → ⊥) → LacksTyping w m end → HasFlowTyping w m Top → ⊥
  no-typing m x known none = grind (arith)

  untyped-last : (n : ℕ) (end : FlowEnd) → first ≤ n → AreAcceptedLibraries w → AllHaveBelow (IsOfLast w) (λ m. HasFlowTyping w m Top) n
      → HasNoTyping w n end → (end ≡ flow.Memory → ⊥) → IsUntypedLast w n end
  untyped-last n end le accepted below h known = by (slice_get w.methods n) refl h
    where
      by : (o : Option MethodRec) → slice_get w.methods n ≡ o → IsSomeAnd (option_map (method_with w n) o) (IsUntyped w end) → IsUntypedLast w n end
      by None at h = absurd h
      by (Some r) at h = record {
        libraries = accepted;
        method = method_with w n r;
        numbered = refl;
        first = record {
          asked = record { method = h.method; last = is.last n r at le };
          earlier = below;
          lacks = no-typing (method_with w n r) end known h.none;
        };
        known = known;
        tells = h.tells;
      }

  pub untyped-tells : (n : ℕ) (end : FlowEnd) → first ≤ n → AreAcceptedLibraries w → AllHaveBelow (IsOfLast w) (λ m. HasFlowTyping w m Top) n
      → HasNoTyping w n end → (ps : List PackageRecord) → TellsOf ps w (untyped n end)
  untyped-tells n x le accepted below h ps = grind (arith, untyped-last)

  -- ---- laid code

  has-laid : (n : ℕ) (laid : Option Laid) (r : MethodRec) → 0 < r.code_len → IsLaidElement w n r laid → HasLaidCode w (method_with w n r)
  has-laid n x r some none = grind (arith)

  pub laid-more : (n : ℕ) (laid : Option Laid) → AllHaveBelow (IsOfLast w) (HasLaidCode w) n → IsLaidAt w n laid
      → AllHaveBelow (IsOfLast w) (HasLaidCode w) (n + 1)
  laid-more n laid below h = grind (arith, below-more, has-laid)

  limited : (n : ℕ) (limit : MethodLimit) → first ≤ n → AreAcceptedLibraries w → IsTypedLast w → AllHaveBelow (IsOfLast w) (HasLaidCode w) n
      → IsSomeAnd (method_in w n) (IsUnlaid w limit) → IsLimited w n limit
  limited n limit le accepted typed below h = by (slice_get w.methods n) refl h
    where
      by : (o : Option MethodRec) → slice_get w.methods n ≡ o → IsSomeAnd (option_map (method_with w n) o) (IsUnlaid w limit) → IsLimited w n limit
      by None at h = absurd h
      by (Some r) at h = record {
        libraries = accepted;
        typed = typed;
        method = method_with w n r;
        numbered = refl;
        of_last = record { method = h.method; last = is.last n r at le };
        earlier = below;
        passes = h.passes;
      }

  pub unlaid-tells : (n : ℕ) (end : LayingEnd) → first ≤ n → AreAcceptedLibraries w → IsTypedLast w
      → AllHaveBelow (IsOfLast w) (HasLaidCode w) n → TellsUnlaid w n end → (ps : List PackageRecord) → TellsOf ps w (unlaid n end)
  unlaid-tells n x le accepted typed below h ps = grind (arith, limited)
