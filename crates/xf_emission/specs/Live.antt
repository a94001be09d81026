-- Which handlers a rewritten method has.
use Rattle.std.specs.Prelude.{◌≡◌, List, [], ◌∷◌}
use Rattle.jc_base.specs.declared.record.Handler.{Handler}
use Rattle.jc_decode.specs.declared.symbols.Range.{Range}
use Rattle.jc_control.specs.Method.{Method}
use Rattle.jc_control.specs.Control.{IsLive}

-- each live handler has a range, in the order of the table, which catches what the handler catches; a dead one has none
pub data KeepsLive (m : Method) : List Handler → List Range → Type 0 where
  none_left : KeepsLive m [] []
  live_kept :
      {h : Handler} {hs : List Handler} {r : Range} {rs : List Range}
      → IsLive m h
      → r.pool ≡ h.index
      → KeepsLive m hs rs
      → KeepsLive m (h ∷ hs) (r ∷ rs)
  dead_left : {h : Handler} {hs : List Handler} {rs : List Range} → ¬ (IsLive m h) → KeepsLive m hs rs → KeepsLive m (h ∷ hs) rs
