-- The code of method after method is made of bytes.
use Rattle.std.proofs.Common.{◌≡◌, ℕ, ◌+◌, List, length, take, All, Option, Some, None, option_map, slice_get, refl, sym, ◌∙◌, ap, subst}
use Rattle.std.proofs.lemmas.List.Elements.{All-more}
use Rattle.std.proofs.lemmas.Option.{slice_get_within, get_or_from_slice_get}
use Rattle.std.proofs.Math.Seq.{take-length}
use Rattle.jc_base.specs.declared.record.MethodRec.{MethodRec}
use Rattle.jc_base.specs.World.{Linked, code_of}
use Rattle.cap_bytes.specs.Bytes.{AreBytes}
use Rattle.law_transform.specs.Bytes.{CodesAreBytes}

abbrev pub HasBytes : Linked → MethodRec → Type 0
HasBytes w r = AreBytes (code_of w.infos r)

-- of one more
pub bytes-more :
    (w : Linked) (n : ℕ) (code : List ℕ)
    → option_map (code_of w.infos) (slice_get w.methods n) ≡ Some code
    → AreBytes code
    → All (HasBytes w) (take n w.methods)
    → All (HasBytes w) (take (n + 1) w.methods)
bytes-more w n code at bytes all = by (slice_get w.methods n) refl at
  where
    by :
        (o : Option MethodRec)
        → slice_get w.methods n ≡ o
        → option_map (code_of w.infos) o ≡ Some code
        → All (HasBytes w) (take (n + 1) w.methods)
    by None here at = absurd (cc)
    by (Some rec) here at =
        let its : code_of w.infos rec ≡ code = cc in
        let same = ap (code_of w.infos) (get_or_from_slice_get w.methods n rec rec here) ∙ its in
        All-more (HasBytes w) w.methods n rec (slice_get_within w.methods n rec here) all (subst AreBytes (sym same) bytes)

-- of all
pub bytes-all : (w : Linked) (n : ℕ) → n ≡ length w.methods → All (HasBytes w) (take n w.methods) → CodesAreBytes w
bytes-all w n e all = subst (All (HasBytes w)) (ap (λ k. take k w.methods) e ∙ take-length w.methods) all
