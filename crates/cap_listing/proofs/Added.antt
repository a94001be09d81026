-- A line that may come is read, and no other may come.
use Rattle.std.proofs.Common.{◌≡◌, ◌≢◌, ◌≤◌, ◌+◌, ℕ, Bool, true, false, Some, None, Option, List, [], ◌∷◌, ◌++◌, length}
use Rattle.std.proofs.Common.{refl, ap, subst, arith, length-append}
use Rattle.std.specs.Prelude.{codes, MatchBool, IfSome, IfNone}
use Rattle.std.proofs.lemmas.Bool.{false≢true}
use Rattle.jc_decode.specs.declared.symbols.LaidHandler.{LaidHandler}
use Rattle.cap_listing.specs.declared.method.ListedMethod.{ListedMethod}
use Rattle.cap_listing.specs.declared.method.Heading.{Heading}
use Rattle.cap_listing.specs.Words.{joined}
use Rattle.cap_listing.specs.Text.{IsHeading, IsMethod, IsHandler, heading_words, bytes_words, handler_words, end_words}
use Rattle.cap_listing.specs.Reading.{Begun, block_words}
use Rattle.cap_listing.specs.Reading.{next_end}
use Rattle.cap_listing.specs.Fault.{IsReadLine, IsNoLine}
use Rattle.cap_listing.specs.Lines.{IsInstructionLine, IsBytesLine}
use Rattle.cap_listing.specs.declared.open_method.OpenMethod.{OpenMethod}
use Rattle.cap_listing.specs.Assembler.{method_with, opened, fresh, between, inside, state_by}

abbrev is-begun : Option Begun → Bool
is-begun None = false
is-begun (Some b) = true

abbrev begun : Heading → List ℕ → List LaidHandler → Bool → Begun
begun h code hs closed = record { method = method_with h code hs; closed = closed }

-- ---- what is read

bare-method : (h : Heading) → IsHeading h → IsMethod (method_with h [] [])
bare-method h is = grind (arith)

pub head-read : (done : List ListedMethod) (h : Heading) (line : List ℕ) → IsHeading h → line ≡ joined (heading_words h)
    → IsReadLine (between done) line (fresh done h)
head-read done h line is e = record {
  words = heading_words h;
  next = grind (arith, bare-method);
  is = e;
}

module _ (done : List ListedMethod) (h : Heading) (code : List ℕ) (hs : List LaidHandler) where
  pub instruction-read : (bytes more line : List ℕ) → IsInstructionLine (length code) bytes line → length code + length bytes ≤ 65535
      → more ≡ code ++ bytes → IsReadLine (opened done h code hs false) line (opened done h more hs false)
  instruction-read bytes more line l few e = record {
    words = block_words (length code) bytes l.insn;
    next = grind (arith, length-append);
    is = l.is;
  }

  pub bytes-read : (bytes more line : List ℕ) → IsBytesLine (length code) bytes line → length code + length bytes ≤ 65535
      → more ≡ code ++ bytes → IsReadLine (opened done h code hs false) line (opened done h more hs true)
  bytes-read bytes more line l few e = record {
    words = bytes_words (length code) bytes;
    next = grind (arith, length-append);
    is = l.is;
  }

  pub handler-read : (closed : Bool) (x : LaidHandler) (more : List LaidHandler) (line : List ℕ) → IsHandler x → line ≡ joined (handler_words x)
      → more ≡ hs ++ x ∷ [] → IsReadLine (opened done h code hs closed) line (opened done h code more true)
  handler-read closed x more line fits is e = record {
    words = handler_words x;
    next = grind (arith);
    is = is;
  }

  pub end-read : (closed : Bool) (more : List ListedMethod) (line : List ℕ) → line ≡ codes "end" → more ≡ done ++ method_with h code hs ∷ []
      → IsReadLine (opened done h code hs closed) line (between more)
  end-read closed more line is e = record {
    words = end_words;
    next = next_end (record { begun = begun h code hs closed; from = refl; are = refl; to = ap between e });
    is = is;
  }

-- ---- what is not

module _ (done : List ListedMethod) (h : Heading) (code : List ℕ) (hs : List LaidHandler) (line : List ℕ) (other : line ≢ codes "end")
    (no_handler : (x : LaidHandler) → IsHandler x → line ≢ joined (handler_words x)) where
  pub none-closed : IsNoLine (opened done h code hs true) line
  none-closed words after z e = grind (arith, false≢true)

  pub none-open : ((bytes : List ℕ) → IsInstructionLine (length code) bytes line → length code + length bytes ≤ 65535 → ⊥)
      → ((bytes : List ℕ) → IsBytesLine (length code) bytes line → length code + length bytes ≤ 65535 → ⊥)
      → IsNoLine (opened done h code hs false) line
  none-open no_insn no_bytes words after v e = grind (arith, false≢true, length-append)

-- ---- states of the assembler

pub state-none : (done : List ListedMethod) (o : Option OpenMethod) → o ≡ None → state_by done o ≡ between done
state-none done o e = ap (state_by done) e

pub state-some : (done : List ListedMethod) (o : Option OpenMethod) (m : OpenMethod) → o ≡ Some m → state_by done o ≡ inside done m
state-some done o m e = ap (state_by done) e

pub match-at : {X : Type 0} (P Q : X → Type 0) (b : Bool) → MatchBool b ((x : X) → P x) ((x : X) → Q x) → (x : X) → MatchBool b (P x) (Q x)
match-at x y z h x2 = grind (arith)

-- ---- options and tests

pub some-of : {X : Type 0} (o : Option X) (x : X) → o ≡ Some x → (P : X → Type 0) → IfSome o P → P x
some-of o x e P h = subst (λ p. IfSome p P) e h

pub none-of : {X : Type 0} (o : Option X) → o ≡ None → (Q : Type 0) → IfNone o Q → Q
none-of o e Q h = subst (λ p. IfNone p Q) e h

pub if-some : {X : Type 0} (o : Option X) (P Q : X → Type 0) → ((x : X) → P x → Q x) → IfSome o P → IfSome o Q
if-some x y z f h = grind (arith)

pub if-none : {X : Type 0} (o : Option X) (P Q : Type 0) → (P → Q) → IfNone o P → IfNone o Q
if-none x y z f h = grind (arith)

pub match-yes : (b : Bool) (P Q : Type 0) → MatchBool b P Q → b ≡ true → P
match-yes b P Q h e = subst (λ c. MatchBool c P Q) e h

pub match-no : (b : Bool) (P Q : Type 0) → MatchBool b P Q → b ≡ false → Q
match-no b P Q h e = subst (λ c. MatchBool c P Q) e h

pub none-begun : (done ms : List ListedMethod) (o : Option OpenMethod) → state_by done o ≡ between ms → o ≡ None
none-begun done ms z e = grind (arith, false≢true)

-- ---- by whether the method is closed

pub instruction-added : (done : List ListedMethod) (h : Heading) (code : List ℕ) (hs : List LaidHandler) (closed : Bool) (bytes more line : List ℕ)
    → closed ≡ false → IsInstructionLine (length code) bytes line → length code + length bytes ≤ 65535 → more ≡ code ++ bytes
    → IsReadLine (opened done h code hs closed) line (opened done h more hs closed)
instruction-added done h code hs closed bytes more line e l few is = grind (arith, instruction-read done h code hs bytes more line l few is)

pub bytes-added : (done : List ListedMethod) (h : Heading) (code : List ℕ) (hs : List LaidHandler) (closed : Bool) (bytes more line : List ℕ)
    → closed ≡ false → IsBytesLine (length code) bytes line → length code + length bytes ≤ 65535 → more ≡ code ++ bytes
    → IsReadLine (opened done h code hs closed) line (opened done h more hs true)
bytes-added done h code hs closed bytes more line e l few is = grind (arith, bytes-read)
