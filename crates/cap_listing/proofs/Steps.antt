-- What is read is what the lines list: each line is that of the state which it leads to.
use Rattle.std.proofs.Common.{◌≡◌, ◌<◌, ◌≤◌, ℕ, zero, suc, true, false, Some, None, Option, arith}
use Rattle.std.proofs.Common.{List, [], ◌∷◌, ◌++◌, length, refl, sym, ap, subst, ◌∙◌, append_assoc}
use Rattle.std.specs.Prelude.{All}
use Rattle.std.proofs.lemmas.List.{append-nil, map-append}
use Rattle.std.proofs.lemmas.List.Elements.{All-append, All-cons, All-nil}
use Rattle.std.proofs.lemmas.Bool.{false≢true}
use Rattle.jc_decode.specs.declared.symbols.LaidHandler.{LaidHandler}
use Rattle.cap_bytes.specs.Bytes.{AreBytes}
use Rattle.cap_listing.specs.declared.method.ListedMethod.{ListedMethod}
use Rattle.cap_listing.specs.Text.{IsMethod, IsHandler, handler_words, end_words, code_lines, begun_lines, lines_of}
use Rattle.cap_listing.specs.Reading.{Begun, State, with_bytes, with_handler}
use Rattle.cap_listing.specs.Reading.{Next, next_head, next_instruction, next_bytes, next_handler, next_end, Reads, reads_nothing}
use Rattle.cap_listing.specs.Reading.{reads_more}
use Rattle.cap_listing.specs.Reading.{start, lines_begun, read_lines, IsBegun, MayBegin, IsState}
use Rattle.cap_listing.proofs.Grow.{lines-snoc, whole-snoc, lines-stuck, lines-none, end-none}

abbrev Lines : Type 0
Lines = List (List (List ℕ))

-- a line after those of a state
pub record Grows (before : State) (words : List (List ℕ)) (after : State) : Type 0 where
  pub is : IsState after
  pub lines : read_lines after ≡ read_lines before ++ words ∷ []

lines-append : (ms : List ListedMethod) (m : ListedMethod) → lines_of (ms ++ m ∷ []) ≡ lines_of ms ++ (begun_lines m ++ end_words ∷ [])
lines-append [] m = refl
lines-append (n ∷ ms) m = grind (arith, append_assoc, lines-append ms m)

bytes-cons : (x : ℕ) (xs : List ℕ) → x < 256 → AreBytes xs → AreBytes (x ∷ xs)
bytes-cons x xs h k zero = h
bytes-cons x xs h k (suc n) = k n

bytes-append : (xs ys : List ℕ) → AreBytes xs → AreBytes ys → AreBytes (xs ++ ys)
bytes-append [] ys h k = k
bytes-append (x ∷ xs) ys h k = bytes-cons x (xs ++ ys) (h zero) (bytes-append xs ys (λ n. h (suc n)) k)

-- what holds of a state with a method that has begun
open-state : (done : List ListedMethod) (b : Begun) → All IsMethod done → IsBegun b → IsState (record { done = done; begun = Some b })
open-state done b h k = record { done = h; begun = k }

begun-of : (st : State) (b : Begun) → IsState st → st.begun ≡ Some b → IsBegun b
begun-of st b h e = subst MayBegin e h.begun

lines-at : (st : State) (o : Option Begun) → st.begun ≡ o → read_lines st ≡ lines_of st.done ++ lines_begun o
lines-at st o e = ap (λ (x : Option Begun). lines_of st.done ++ lines_begun x) e

-- a line that is added to those of the method
added : (st : State) (b c : Begun) (words : List (List ℕ)) → st.begun ≡ Some b → begun_lines c.method ≡ begun_lines b.method ++ words ∷ []
    → lines_of st.done ++ begun_lines c.method ≡ read_lines st ++ words ∷ []
added st b c words e more = grind (arith, append_assoc, lines-at)

grows : (before after : State) (words : List (List ℕ)) (st : State) → after ≡ st → IsState st
    → read_lines st ≡ read_lines before ++ words ∷ [] → Grows before words after
grows before after words st e is lines = record { is = subst IsState (sym e) is; lines = ap read_lines e ∙ lines }

-- a method before its handlers, and with one more
code-grows : (m : ListedMethod) (bytes : List ℕ) (w : List (List ℕ)) → m.laid.handlers ≡ []
    → code_lines (m.laid.code ++ bytes) ≡ code_lines m.laid.code ++ w ∷ []
    → begun_lines (with_bytes m bytes) ≡ begun_lines m ++ w ∷ []
code-grows m bytes w none more = grind (arith, append-nil)

handlers-grow : (m : ListedMethod) (h : LaidHandler) → begun_lines (with_handler m h) ≡ begun_lines m ++ handler_words h ∷ []
handlers-grow m h = grind (arith, map-append, append_assoc)

method-with-bytes : (m : ListedMethod) (bytes : List ℕ) → IsMethod m → AreBytes bytes → length (m.laid.code ++ bytes) ≤ 65535
    → IsMethod (with_bytes m bytes)
method-with-bytes m bytes h are few = grind (arith, bytes-append)

method-with-handler : (m : ListedMethod) (x : LaidHandler) → IsMethod m → IsHandler x → IsMethod (with_handler m x)
method-with-handler m x h fits = record {
  class_no = h.class_no;
  method_no = h.method_no;
  max_stack = h.max_stack;
  nargs = h.nargs;
  max_locals = h.max_locals;
  bytes = h.bytes;
  few = h.few;
  handlers = All-append IsHandler m.laid.handlers (x ∷ []) h.handlers (All-cons IsHandler x [] fits (All-nil IsHandler));
}

pub next-grows : (before : State) (words : List (List ℕ)) (after : State) → IsState before → Next before words after → Grows before words after
next-grows before words after is (next_head n) = grind (arith, end-none, grows, open-state, lines-at, append-nil, lines-none)
next-grows before words after is (next_instruction n) =
    let m = n.method in
    let b : Begun = record { method = m; closed = false } in
    let c : Begun = record { method = with_bytes m n.bytes; closed = false } in
    let known = begun-of before b is n.from in
    let whole = known.whole refl in
    let both = bytes-append m.laid.code n.bytes known.method.bytes n.one.are in
    let lines = lines-snoc m.laid.code known.method.bytes whole.1 n.bytes n.insn n.one both
    ∙ ap (λ (w : List (List ℕ)). code_lines m.laid.code ++ w ∷ []) (sym n.are) in
    grows before after words (record { done = before.done; begun = Some c }) n.to
    (open-state before.done c is.done
    (record {
      method = method-with-bytes m n.bytes known.method n.one.are n.few;
      whole = λ _. (whole.0, whole-snoc m.laid.code known.method.bytes whole.1 n.bytes n.insn n.one);
    }))
    (added before b c words n.from (code-grows m n.bytes words whole.0 lines))
next-grows before words after is (next_bytes n) =
    let m = n.method in
    let b : Begun = record { method = m; closed = false } in
    let c : Begun = record { method = with_bytes m n.bytes; closed = true } in
    let known = begun-of before b is n.from in
    let whole = known.whole refl in
    let both = bytes-append m.laid.code n.bytes known.method.bytes n.bare in
    let lines = lines-stuck m.laid.code known.method.bytes whole.1 n.bytes both n.bare n.none n.some
    ∙ ap (λ (w : List (List ℕ)). code_lines m.laid.code ++ w ∷ []) (sym n.are) in
    grows before after words (record { done = before.done; begun = Some c }) n.to
    (open-state before.done c is.done
    (record { method = method-with-bytes m n.bytes known.method n.bare n.few; whole = λ e. absurd (false≢true (sym e)) }))
    (added before b c words n.from (code-grows m n.bytes words whole.0 lines))
next-grows before words after is (next_handler n) =
    let b = n.begun in
    let c : Begun = record { method = with_handler b.method n.handler; closed = true } in
    let known = begun-of before b is n.from in
    grows before after words (record { done = before.done; begun = Some c }) n.to
    (open-state before.done c is.done
    (record { method = method-with-handler b.method n.handler known.method n.fits; whole = λ e. absurd (false≢true (sym e)) }))
    (added before b c words n.from (handlers-grow b.method n.handler ∙ ap (λ (w : List (List ℕ)). begun_lines b.method ++ w ∷ []) (sym n.are)))
next-grows before words after is (next_end n) =
    let b = n.begun in
    let known = begun-of before b is n.from in
    grows before after words (record { done = before.done ++ b.method ∷ []; begun = None }) n.to
    (record { done = All-append IsMethod before.done (b.method ∷ []) is.done (All-cons IsMethod b.method [] known.method (All-nil IsMethod)); begun = tt })
    (append-nil (lines_of (before.done ++ b.method ∷ [])) ∙ lines-append before.done b.method
    ∙ sym (append_assoc (lines_of before.done) (begun_lines b.method) (end_words ∷ []))
    ∙ ap (λ (ls : Lines). ls ++ end_words ∷ []) (sym (lines-at before (Some b) n.from))
    ∙ ap (λ (w : List (List ℕ)). read_lines before ++ w ∷ []) (sym n.are))

-- the lines that lead from a state to another are those of the second after those of the first
pub record HasRead (before : State) (lines : List (List (List ℕ))) (after : State) : Type 0 where
  pub is : IsState after
  pub lines_are : read_lines after ≡ read_lines before ++ lines

pub reads-lines : (before : State) (lines : List (List (List ℕ))) (after : State) → IsState before → Reads before lines after
    → HasRead before lines after
reads-lines _ _ _ is (reads_nothing st) = record { is = is; lines_are = sym (append-nil (read_lines st)) }
reads-lines _ _ _ is (reads_more st words between lines after next more) =
    let one = next-grows st words between is next in
    let rest = reads-lines between lines after one.is more in
    record {
      is = rest.is;
      lines_are = rest.lines_are ∙ ap (λ (ls : Lines). ls ++ lines) one.lines ∙ append_assoc (read_lines st) (words ∷ []) lines;
    }

pub start-state : IsState start
start-state = record { done = All-nil IsMethod; begun = tt }
