-- Where the stubs of a rewritten method stand.
use Rattle.std.proofs.Common.{◌≡◌, ◌≢◌, ℕ, zero, suc, ◌+◌, ◌≤◌, true, false, if◌then◌else◌, List, [], ◌∷◌, ◌++◌}
use Rattle.std.proofs.Common.{flat_map, length, All, Option, Some, None, Ok, refl, sym, ◌∙◌, ap, subst, arith, append_assoc}
use Rattle.std.specs.Prelude.{ℤ, is_some, slice_get}
use Rattle.std.specs.List.{filter}
use Rattle.std.proofs.lemmas.List.Concat.{flat_map-append, flat_map-cons}
use Rattle.jc_base.specs.declared.record.Handler.{Handler}
use Rattle.jc_base.proofs.Eaching.{All-from_Each}
use Rattle.jc_decode.specs.declared.insn.Placed.{Placed}
use Rattle.jc_decode.specs.declared.symbols.Item.{Item}
use Rattle.jc_decode.specs.declared.symbols.Item.TheVariants.{Label}
use Rattle.jc_decode.specs.Listing.{listing, targets}
use Rattle.jc_decode.specs.Symbols.{place_of, is_label, is_instruction}
use Rattle.jc_decode.proofs.Labels.{label-between}
use Rattle.jc_control.specs.WellFormed.{HasInstruction}
use Rattle.jc_ops.specs.declared.operation.Operation.{Operation}
use Rattle.jc_rules.specs.Demand.{Frame}
use Rattle.xf_homes.specs.Walk.{operands_of}
use Rattle.xf_homes.specs.Source.{Source}
use Rattle.xf_homes.specs.Plan.{stack_homes, operation}
use Rattle.xf_emission.specs.declared.origin.Origin.TheVariants.{Start, Entry}
use Rattle.xf_emission.specs.Move.{spill}
use Rattle.xf_emission.specs.Edge.{copies}
use Rattle.xf_emission.specs.Jump.{each_once, place, stub_label, handler_label, stub, stub_of, stubs_of, branch_copies, goto}
use Rattle.xf_emission.specs.Group.{group}
use Rattle.xf_emission.specs.Emission.{stubs, stubs_by, stubs_done, stubs_at, is_live, catching_stub, catching_stubs, items}
use Rattle.xf_emission.specs.Laws.{IsCode, StubStands, StubsStand, HandlersStand}
use Rattle.xf_emission.proofs.Labels.{labels, labels-append}
use Rattle.xf_emission.proofs.Rises.{Rises}
use Rattle.xf_emission.proofs.GroupPlaces.{split, none-named}
use Rattle.xf_emission.proofs.Stubs.{all-rise}

-- ---- a label that stands in the whole

rises-low : (low high l : ℕ) (xs ys : List ℕ) → Rises low high (xs ++ l ∷ ys) → low ≤ l
rises-low low high l [] ys r = r.0
rises-low low high l (x ∷ xs) ys r = omega (arith, r.0, rises-low (suc x) high l xs ys r.2)

rises-before : (low high l : ℕ) (xs ys : List ℕ) → Rises low high (xs ++ l ∷ ys) → Rises low l xs
rises-before low high l [] ys r = r.0
rises-before low high l (x ∷ xs) ys r = (r.0, omega (arith, rises-low (suc x) high l xs ys r.2), rises-before (suc x) high l xs ys r.2)

at-label : (s : Source) → IsCode s → (before after : List Item) (l : ℕ) → items s ≡ before ++ Label l ∷ after
    → place_of l (items s) ≡ length (filter is_instruction before)
at-label s code before after l e =
    let whole : Rises 0 (handler_label 256) (labels (items s)) = all-rise s code.bytes code.lists code.short code.few in
    let split_so : Rises 0 (handler_label 256) (labels before ++ l ∷ labels after) = subst (Rises 0 (handler_label 256))
    (ap labels e ∙ labels-append before (Label l ∷ after)) whole in
    let rise : Rises 0 l (labels before) = rises-before 0 (handler_label 256) l (labels before) (labels after) split_so in
    let none : All (λ x. is_label l x ≡ false) before = All-from_Each (λ x. is_label l x ≡ false) before (none-named 0 l l before (omega arith) rise) in
    ap (place_of l) e ∙ label-between before after l none

-- ---- the stub of a target

record StubParts (s : Source) (p : ℕ) (op : Operation) (n at : ℕ) (t : ℤ) (whole : List Item) : Type 0 where
  before : List Item
  after : List Item
  parts : whole ≡ before ++ (stub s p op n at t ++ after)

stub-parts : (s : Source) (p : ℕ) (op : Operation) (n from k : ℕ) (ts : List ℤ) (t : ℤ) → slice_get ts k ≡ Some t
    → StubParts s p op n (from + k) t (stubs_of s p op n from ts)
stub-parts s p op n from k [] t at = absurd (cc)
stub-parts s p op n from zero (u ∷ us) t at =
    let same : u ≡ t = cc in
    let here : from ≡ from + 0 = omega arith in
    record {
      before = [];
      after = stubs_of s p op n (suc from) us;
      parts = grind (arith, suc);
    }
stub-parts s p op n from (suc k) (u ∷ us) t at =
    let rest = stub-parts s p op n (suc from) k us t at in
    let next : suc from + k ≡ from + suc k = omega arith in
    let whole : stubs_of s p op n (suc from) us ≡ rest.before ++ (stub s p op n (from + suc k) t ++ rest.after) =
    rest.parts ∙ ap (λ (j : ℕ). rest.before ++ (stub s p op n j t ++ rest.after)) next in
    record {
      before = stub s p op n from u ++ rest.before;
      after = rest.after;
      parts = grind (arith, append_assoc, suc);
    }

module _ (s : Source) (i : Placed) (op : Operation) (n : ℕ) (is : operation s i ≡ Ok op) (asks : operands_of s.world (Ok op) ≡ Some n) where
  stubs-are : is_some (s.frames i.place) ≡ true → stubs s i ≡ stubs_of s i.place op n 0 (each_once (targets s.method.code i))
  unfolding stubs
  stubs-are reached = by (s.frames i.place) reached
    where
      by : (f : Option Frame) → is_some f ≡ true → stubs_at s i f ≡ stubs_of s i.place op n 0 (each_once (targets s.method.code i))
      by None e = absurd (cc)
      by (Some f) e = ap (stubs_done s i) is ∙ ap (stubs_by s i op) asks

  stub-stands : IsCode s → HasInstruction s.method.code i → is_some (s.frames i.place) ≡ true → (k : ℕ) (t : ℤ)
      → slice_get (each_once (targets s.method.code i)) k ≡ Some t
      → branch_copies s i.place op n (place t) ≢ [] → StubStands s i op n k t
  unfolding items stub
  stub-stands code st reached k t at copied =
      let p = split (listing s.method.code) i st in
      let q = stub-parts s i.place op n 0 k (each_once (targets s.method.code i)) t at in
      let first : 0 + k ≡ k = omega arith in
      let own : stubs s i ≡ q.before ++ (stub s i.place op n k t ++ q.after) = stubs-are reached ∙ q.parts
      ∙ ap (λ (j : ℕ). q.before ++ (stub s i.place op n j t ++ q.after)) first in
      let groups = flat_map (group s) (listing s.method.code) in
      let caughts = catching_stubs s 0 s.method.rec.handlers in
      let all : flat_map (stubs s) (listing s.method.code) ≡ flat_map (stubs s)
      p.before ++ ((q.before ++ (stub s i.place op n k t ++ q.after)) ++ flat_map (stubs s) p.after) =
      ap (flat_map (stubs s)) p.parts ∙ flat_map-append (stubs s) p.before (i ∷ p.after)
      ∙ ap (λ xs. flat_map (stubs s) p.before ++ xs) (flat_map-cons (stubs s) i p.after ∙ ap (λ xs. xs ++ flat_map (stubs s) p.after) own) in
      let before = copies s Start 0 ++ (groups ++ (Label (length s.method.code) ∷ (flat_map (stubs s) p.before ++ q.before))) in
      let after = q.after ++ (flat_map (stubs s) p.after ++ caughts) in
      let whole : items s ≡ before ++ (stub s i.place op n k t ++ after) =
      ap (λ xs. copies s Start 0 ++ (groups ++ (Label (length s.method.code) ∷ xs ++ caughts))) all ∙ simp append_assoc in
      record {
        before = before;
        after = after;
        parts = whole;
        at = by (branch_copies s i.place op n (place t)) refl before after whole code;
      }
    where
      by : (copied_items : List Item) → branch_copies s i.place op n (place t) ≡ copied_items → (before after : List Item)
          → items s ≡ before ++ (stub s i.place op n k t ++ after) → IsCode s
          → place_of (stub_label i.place k) (items s) ≡ length (filter is_instruction before)
      by [] e before after whole code = absurd (copied e)
      by (x ∷ xs) e before after whole code =
          let head : stub s i.place op n k t ≡ Label (stub_label i.place k) ∷ ((x ∷ xs) ++ goto (place t) ∷ []) = ap
          (stub_of (stub_label i.place k) (place t)) e in
          at-label s code before (((x ∷ xs) ++ goto (place t) ∷ []) ++ after) (stub_label i.place k) (whole ∙ ap (λ ys. before ++ (ys ++ after)) head)

pub stubs-stand : StubsStand
stubs-stand s code i op n k t st reached is asks at copied = stub-stands s i op n is asks code st reached k t at copied

-- ---- the stub of a handler

record CaughtParts (s : Source) (at : ℕ) (h : Handler) (whole : List Item) : Type 0 where
  before : List Item
  after : List Item
  parts : whole ≡ before ++ (catching_stub s at h ++ after)

caught-parts : (s : Source) (from n : ℕ) (hs : List Handler) (h : Handler) → slice_get hs n ≡ Some h → is_live s h ≡ true
    → CaughtParts s (from + n) h (catching_stubs s from hs)
caught-parts s from n [] h at live = absurd (cc)
caught-parts s from zero (g ∷ gs) h at live =
    let same : g ≡ h = cc in
    let here : from ≡ from + 0 = omega arith in
    let alive : is_live s g ≡ true = ap (is_live s) same ∙ live in
    record {
      before = [];
      after = catching_stubs s (suc from) gs;
      parts = grind (arith, suc);
    }
caught-parts s from (suc n) (g ∷ gs) h at live =
    let rest = caught-parts s (suc from) n gs h at live in
    let next : suc from + n ≡ from + suc n = omega arith in
    let whole : catching_stubs s (suc from) gs ≡ rest.before ++ (catching_stub s (from + suc n) h ++ rest.after) = rest.parts
    ∙ ap (λ (j : ℕ). rest.before ++ (catching_stub s j h ++ rest.after)) next in
    let first = if is_live s g then catching_stub s from g else [] in
    record {
      before = first ++ rest.before;
      after = rest.after;
      parts = ap (λ xs. first ++ xs) whole ∙ sym (append_assoc first rest.before (catching_stub s (from + suc n) h ++ rest.after));
    }

pub handlers-stand : HandlersStand
unfolding items
handlers-stand s code n h at live =
    let q = caught-parts s 0 n s.method.rec.handlers h at live in
    let first : 0 + n ≡ n = omega arith in
    let own : catching_stubs s 0 s.method.rec.handlers ≡ q.before ++ (catching_stub s n h ++ q.after) = q.parts
    ∙ ap (λ (j : ℕ). q.before ++ (catching_stub s j h ++ q.after)) first in
    let groups = flat_map (group s) (listing s.method.code) in
    let branches = flat_map (stubs s) (listing s.method.code) in
    let before = copies s Start 0 ++ (groups ++ (Label (length s.method.code) ∷ (branches ++ q.before))) in
    let rest = spill s (stack_homes s h.entry) ++ (copies s (Entry h.entry) h.entry ++ goto h.entry ∷ []) in
    let whole : items s ≡ before ++ (catching_stub s n h ++ q.after) = ap
    (λ xs. copies s Start 0 ++ (groups ++ (Label (length s.method.code) ∷ branches ++ xs))) own ∙ simp append_assoc in
    record { before = before; after = q.after; parts = whole; at = at-label s code before (rest ++ q.after) (handler_label n) whole }
