-- Bytes that are one instruction are that instruction wherever they stand.
use Rattle.std.proofs.Common.{◌≡◌, ◌∙◌, ℕ, List, take, ap, subst}
use Rattle.std.proofs.Math.Seq.{take-length}
use Rattle.cap_bytes.specs.Bytes.{AreBytes}
use Rattle.jc_decode.specs.Cases.{with_default}
use Rattle.jc_decode.specs.Encoding.{encoding, ReadsBack}
use Rattle.jc_decode.specs.Laws.{BytesReadBack}
use Rattle.jc_decode.proofs.Ranges.{IsAllowed-decoded}
use Rattle.jc_decode.proofs.ReadBack.{ReadsBack-encoding}
use Rattle.jc_decode.proofs.OwnBytes.{encoding-own}

pub BytesReadBack-all : (bytes : List ℕ) → AreBytes bytes → BytesReadBack bytes
BytesReadBack-all bytes are i h whole =
    let own : encoding bytes 0 i ≡ bytes = encoding-own bytes 0 i are h ∙ ap (λ (n : ℕ). take n bytes) whole ∙ take-length bytes in
    subst (ReadsBack bytes 0 i) own (ReadsBack-encoding bytes 0 i (IsAllowed-decoded bytes 0 i are h) (λ _. ap (with_default i.x) h))
