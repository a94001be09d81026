-- A list of words asks for one thing, so the verdict for it is the verdict for whatever they ask.
use Rattle.std.proofs.Common.{arith}
use Rattle.std.proofs.Common.{◌≡◌, List, ℕ, subst}
use Rattle.std.specs.Prelude.{Result, IfOk, IsAscii, IsUtf8, MatchResult}
use Rattle.std.proofs.lemmas.Str.{IsUtf8-from_ascii}
use Rattle.cap_text.specs.Request.{Request}
use Rattle.cap_text.specs.Request.{IsRequest, OneRequest}
use Rattle.capcheck_core.specs.declared.verdict.Verdict.{Verdict}
use Rattle.capcheck_core.specs.declared.verdict.Verdict.TheVariants.{Memory}
use Rattle.capcheck_core.specs.Outside.{Outside, Untouched}
use Rattle.capcheck_core.specs.Answers.{Answers, IsVerdict}

pub asked : (words : List (List ℕ)) (r : Request) (before after : Outside) (verdict : Verdict) → OneRequest words → IsRequest words r
    → Answers r before after verdict → IsVerdict words before after verdict
asked words r before after verdict one is answers = record {
  command = λ s is_s. subst (λ t. Answers t before after verdict) (one r s is is_s) answers;
  usage = λ none. absurd (none r is);
}

-- without memory to read the words nothing was done, whatever they ask for
no_memory : (r : Request) (before after : Outside) → Untouched before after → Answers r before after Memory
no_memory x before after same = grind (arith)

pub without_memory : (words : List (List ℕ)) (outside : Outside) → IsVerdict words outside outside Memory
without_memory words outside = grind (arith, no_memory)

-- a text that is made is the verdict's, and without memory for it there is none
pub said : {T E : Type 0} (bytes : T → List ℕ) (as_verdict : T → Verdict) (P : Verdict → Type 0) (text : Result T E) (line : List ℕ)
    (verdict : Verdict)
    → P Memory → ((t : T) → bytes t ≡ line → P (as_verdict t))
    → IfOk text (λ t. bytes t ≡ line) → MatchResult text (λ t. verdict ≡ as_verdict t) (λ _. verdict ≡ Memory) → P verdict
said bytes as_verdict x x2 line verdict memory all says is = grind (arith)

-- bytes of ASCII are a text
pub ascii_is_utf8 : (bytes : List ℕ) → IsAscii bytes → IsUtf8 bytes
ascii_is_utf8 bytes ascii = IsUtf8-from_ascii bytes ascii
