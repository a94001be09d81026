-- The lines of any methods are read, one after the other.
use Rattle.std.proofs.Common.{◌≡◌, ◌≤◌, ◌+◌, ℕ, suc, Bool, true, false, Some, None, Result, Ok}
use Rattle.std.proofs.Common.{Err, List, [], ◌∷◌, ◌++◌, length, take, drop, map, refl, sym, ap, subst, ◌∙◌, arith, rules, append_assoc}
use Rattle.std.specs.Prelude.{IsErr, All, decimal}
use Rattle.std.specs.Fmt.{signed_decimal}
use Rattle.std.proofs.lemmas.List.{append-nil, take-append-drop, length-take-le}
use Rattle.std.proofs.Math.Seq.{take-add}
use Rattle.jc_decode.specs.declared.insn.Insn.{Insn}
use Rattle.jc_decode.specs.declared.insn.Case.{Case}
use Rattle.jc_decode.specs.declared.insn.Placed.{Placed}
use Rattle.jc_decode.specs.declared.insn.CodeEnd.{CodeEnd}
use Rattle.jc_decode.specs.declared.symbols.LaidHandler.{LaidHandler}
use Rattle.jc_decode.specs.Names.{name}
use Rattle.cap_bytes.specs.Bytes.{AreBytes}
use Rattle.jc_decode.specs.Decoding.{decoded}
use Rattle.jc_decode.specs.Cases.{cases}
use Rattle.jc_decode.specs.Listing.{listing, listing_end, ListsFound, end_from}
use Rattle.jc_decode.proofs.Decoded.{IsWithin-decoded}
use Rattle.jc_decode.proofs.OwnBytes.{AreBytes-drop}
use Rattle.cap_listing.specs.declared.method.ListedMethod.{ListedMethod}
use Rattle.cap_listing.specs.Numbers.{numbers_of}
use Rattle.cap_listing.specs.Text.{IsMethod, IsHandler, head_words, instruction_words, bytes_words}
use Rattle.cap_listing.specs.Text.{handler_words, end_words, rest_lines, code_lines}
use Rattle.cap_listing.specs.Text.{begun_lines, lines_of}
use Rattle.cap_listing.specs.Reading.{State, block_words, next_head, next_instruction, next_bytes, next_handler, next_end, Reads}
use Rattle.cap_listing.specs.Reading.{reads_nothing, reads_more, start}
use Rattle.cap_listing.proofs.Blocks.{own, own-one, cases-alone, shifted}
use Rattle.cap_listing.proofs.Grow.{lists-all, no-ok}

abbrev Lines : Type 0
Lines = List (List (List ℕ))

pub reads-append : (a : State) (ls : Lines) (b : State) (ks : Lines) (c : State) → Reads a ls b → Reads b ks c → Reads a (ls ++ ks) c
reads-append _ _ _ ks c (reads_nothing st) more = more
reads-append _ _ _ ks c (reads_more st words between lines after next rest) more =
    reads_more st words between (lines ++ ks) c next (reads-append between lines after ks c rest more)

-- a method with a part of its code and of its handlers
abbrev part : ListedMethod → List ℕ → List LaidHandler → ListedMethod
part m code hs = record m { laid = record (m.laid) { code = code; handlers = hs } }

abbrev at_part : List ListedMethod → ListedMethod → List ℕ → List LaidHandler → Bool → State
at_part done m code hs closed = record { done = done; begun = Some (record { method = part m code hs; closed = closed }) }

-- where instructions end none is decoded
none-there : (code : List ℕ) (at : ℕ) (ps : List Placed) → ListsFound (decoded code) at ps → IsErr (decoded code (end_from at ps))
none-there code at [] l = l
none-there code at (p ∷ ps) l = none-there code (at + p.insn.len) ps l.2

pub ends-inside : (code : List ℕ) (at : ℕ) (ps : List Placed) → at ≤ length code → ListsFound (decoded code) at ps → end_from at ps ≤ length code
ends-inside code at [] h l = h
ends-inside code at (p ∷ ps) h l = ends-inside code (at + p.insn.len) ps ((IsWithin-decoded code at p.insn l.1).reaches) l.2

module _ (done : List ListedMethod) (m : ListedMethod) (ok : IsMethod m) where
  -- the instructions from a place on
  reads-code : (at : ℕ) (ps : List Placed) → at ≤ length m.laid.code → ListsFound (decoded m.laid.code) at ps
      → Reads (at_part done m (take at m.laid.code) [] false) (map (instruction_words m.laid.code) ps)
      (at_part done m (take (end_from at ps) m.laid.code) [] false)
  reads-code at [] h l = reads_nothing (at_part done m (take at m.laid.code) [] false)
  reads-code at (p ∷ ps) h l =
      let code = m.laid.code in
      let bytes = own code at p.insn in
      let within = IsWithin-decoded code at p.insn l.1 in
      let front : length (take at code) ≡ at = length-take-le at code h in
      let grown : take at code ++ bytes ≡ take (at + p.insn.len) code = sym (take-add at p.insn.len code) in
      let long : length (take (at + p.insn.len) code) ≡ at + p.insn.len = length-take-le (at + p.insn.len) code within.reaches in
      let same : cases code p.place p.insn ≡ cases bytes 0 p.insn = ap (λ (n : ℕ). cases code n p.insn) l.0
      ∙ sym (cases-alone code at p.insn ok.bytes l.1) in
      let place : p.place ≡ length (take at code) = l.0 ∙ sym front in
      let words : instruction_words code p ≡ block_words (length (take at code)) bytes p.insn =
      ap (λ (cs : List Case). decimal p.place ∷ name p.insn.op ∷ map signed_decimal (numbers_of p.place p.insn cs)) same
      ∙ ap (λ (n : ℕ). block_words n bytes p.insn) place in
      reads_more (at_part done m (take at code) [] false) (instruction_words code p) (at_part done m (take (at + p.insn.len) code) [] false)
      (map (instruction_words code) ps) (at_part done m (take (end_from (at + p.insn.len) ps) code) [] false)
      (next_instruction (record {
        method = part m (take at code) [];
        bytes = bytes;
        insn = p.insn;
        one = own-one code at p.insn ok.bytes l.1;
        few = omega (arith, ap length grown, long, within.reaches, ok.few);
        from = refl;
        are = words;
        to = ap (λ (c : List ℕ). at_part done m c [] false) (sym grown);
      }))
      (reads-code (at + p.insn.len) ps within.reaches l.2)

  -- the bytes after them
  reads-rest : (front bytes : List ℕ) → front ++ bytes ≡ m.laid.code → AreBytes bytes → IsErr (decoded bytes 0)
      → (closed : Bool) × Reads (at_part done m front [] false) (rest_lines (length front) bytes) (at_part done m m.laid.code [] closed)
  reads-rest front [] is are none = (
    false,
    subst (λ (c : List ℕ). Reads (at_part done m front [] false) [] (at_part done m c [] false)) (sym (append-nil front) ∙ is)
        (reads_nothing (at_part done m front [] false)),
  )
  reads-rest front (b ∷ bs) is are none = (
    true,
    reads_more (at_part done m front [] false) (bytes_words (length front) (b ∷ bs)) (at_part done m m.laid.code [] true) []
        (at_part done m m.laid.code [] true)
        (next_bytes (record {
          method = part m front [];
          bytes = b ∷ bs;
          some = λ e. absurd (omega (arith, ap length e));
          bare = are;
          none = none;
          few = omega (arith, ap length is, ok.few);
          from = refl;
          are = refl;
          to = ap (λ (c : List ℕ). at_part done m c [] true) (sym is);
        }))
        (reads_nothing (at_part done m m.laid.code [] true)),
  )

  -- the handlers
  reads-handlers : (closed : Bool) (before hs : List LaidHandler) → All IsHandler hs
      → (c : Bool) × Reads (at_part done m m.laid.code before closed) (map handler_words hs) (at_part done m m.laid.code (before ++ hs) c)
  reads-handlers closed before [] fit = (
    closed,
    subst (λ (xs : List LaidHandler). Reads (at_part done m m.laid.code before closed) [] (at_part done m m.laid.code xs closed))
        (sym (append-nil before)) (reads_nothing (at_part done m m.laid.code before closed)),
  )
  reads-handlers closed before (h ∷ hs) fit =
      let rest = reads-handlers true (before ++ h ∷ []) hs (λ k d l. fit (suc k) d (omega (arith, l))) in (
        rest.0,
        reads_more (at_part done m m.laid.code before closed) (handler_words h) (at_part done m m.laid.code (before ++ h ∷ []) true)
            (map handler_words hs) (at_part done m m.laid.code (before ++ h ∷ hs) rest.0)
            (next_handler (record {
              begun = record { method = part m m.laid.code before; closed = closed };
              handler = h;
              fits = fit 0 h (omega arith);
              from = refl;
              are = refl;
              to = refl;
            }))
            (subst (λ (xs : List LaidHandler). Reads (at_part done m m.laid.code (before ++ h ∷ []) true) (map handler_words hs)
            (at_part done m m.laid.code xs rest.0))
            (append_assoc before (h ∷ []) hs) rest.1),
      )

  bare-method : IsMethod (part m [] [])
  bare-method = grind (arith)

  -- a whole method
  reads-method : Reads (record { done = done; begun = None }) (begun_lines m ++ end_words ∷ []) (record { done = done ++ m ∷ []; begun = None })
  reads-method =
      let code = m.laid.code in
      let end = listing_end code in
      let inside = ends-inside code 0 (listing code) (omega arith) (lists-all code) in
      let front : length (take end code) ≡ end = length-take-le end code inside in
      let instructions = reads-code 0 (listing code) (omega arith) (lists-all code) in
      let rest = reads-rest (take end code) (drop end code) (take-append-drop end code) (AreBytes-drop end code ok.bytes) stuck in
      let handlers = reads-handlers rest.0 [] m.laid.handlers ok.handlers in
      let lines : Reads (at_part done m [] [] false) (code_lines code) (at_part done m code [] rest.0) =
      reads-append (at_part done m [] [] false) (map (instruction_words code) (listing code)) (at_part done m (take end code) [] false)
      (rest_lines end (drop end code)) (at_part done m code [] rest.0) instructions
      (subst (λ (n : ℕ). Reads (at_part done m (take end code) [] false) (rest_lines n (drop end code)) (at_part done m code [] rest.0)) front rest.1) in
      reads_more (record { done = done; begun = None }) (head_words m) (at_part done m [] [] false)
      ((code_lines code ++ map handler_words m.laid.handlers) ++ end_words ∷ []) (record { done = done ++ m ∷ []; begun = None })
      (next_head (record {
        method = part m [] [];
        bare = record { is = bare-method; code = refl; handlers = refl };
        from = refl;
        are = refl;
        to = refl;
      }))
      (reads-append (at_part done m [] [] false) (code_lines code ++ map handler_words m.laid.handlers) (at_part done m code m.laid.handlers handlers.0)
      (end_words ∷ []) (record { done = done ++ m ∷ []; begun = None })
      (reads-append (at_part done m [] [] false) (code_lines code) (at_part done m code [] rest.0) (map handler_words m.laid.handlers)
      (at_part done m code m.laid.handlers handlers.0) lines handlers.1)
      (reads_more (at_part done m code m.laid.handlers handlers.0) end_words (record { done = done ++ m ∷ []; begun = None }) []
      (record { done = done ++ m ∷ []; begun = None })
      (next_end (record {
        begun = record { method = part m code m.laid.handlers; closed = handlers.0 };
        from = refl;
        are = refl;
        to = refl;
      }))
      (reads_nothing (record { done = done ++ m ∷ []; begun = None }))))
    where
      stuck : IsErr (decoded (drop (listing_end m.laid.code) m.laid.code) 0)
      stuck = by (decoded (drop (listing_end m.laid.code) m.laid.code) 0) refl
        where
          by : (r : Result Insn CodeEnd) → decoded (drop (listing_end m.laid.code) m.laid.code) 0 ≡ r → IsErr r
          by (Err e) is = search rules
          by (Ok i) is =
              let code = m.laid.code in
              let end = listing_end code in
              let front = length-take-le end code (ends-inside code 0 (listing code) (omega arith) (lists-all code)) in
              let there = shifted (take end code) (drop end code) i (AreBytes-drop end code ok.bytes) is in
              absurd (no-ok (decoded code end) i
              (ap (λ (n : ℕ). decoded code n) (sym front) ∙ ap (λ (xs : List ℕ). decoded xs (length (take end code)))
              (sym (take-append-drop end code)) ∙ there)
              (none-there code 0 (listing code) (lists-all code)))

pub reads-methods : (done ms : List ListedMethod) → All IsMethod ms → Reads (record { done = done; begun = None }) (lines_of ms)
    (record { done = done ++ ms; begun = None })
reads-methods done [] h =
    subst (λ (ns : List ListedMethod). Reads (record { done = done; begun = None }) [] (record { done = ns; begun = None })) (sym (append-nil done))
    (reads_nothing (record { done = done; begun = None }))
reads-methods done (m ∷ ms) h =
    let one = reads-method done m (h 0 m (omega arith)) in
    let rest = reads-methods (done ++ m ∷ []) ms (λ k d l. h (suc k) d (omega (arith, l))) in
    let all = reads-append (record { done = done; begun = None }) (begun_lines m ++ end_words ∷ []) (record { done = done ++ m ∷ []; begun = None })
    (lines_of ms) (record { done = (done ++ m ∷ []) ++ ms; begun = None }) one rest in
    subst (λ (ls : Lines). Reads (record { done = done; begun = None }) ls (record { done = done ++ (m ∷ ms); begun = None }))
    (append_assoc (begun_lines m) (end_words ∷ []) (lines_of ms))
    (subst (λ (ns : List ListedMethod). Reads (record { done = done; begun = None }) ((begun_lines m ++ end_words ∷ []) ++ lines_of ms)
    (record { done = ns; begun = None }))
    (append_assoc done (m ∷ []) ms) all)

-- from nothing
pub reads-text : (ms : List ListedMethod) → All IsMethod ms → Reads start (lines_of ms) (record { done = ms; begun = None })
reads-text ms h = reads-methods [] ms h
