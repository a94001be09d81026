-- The labels of a rewritten method are asked for as they are named, so that it has a card typing.
use Rattle.std.proofs.Common.{◌≡◌, ℕ, suc, ◌+◌, ◌<◌, Bool, true, if◌then◌else◌, List, [], ◌∷◌, length, slice_get, Contains}
use Rattle.std.proofs.Common.{Some, Ok, IfSome, refl, sym, ◌∙◌, ap, subst, arith}
use Rattle.std.specs.Prelude.{ℤ, pos, negsuc, is_some}
use Rattle.std.proofs.lemmas.List.{length-map}
use Rattle.std.proofs.lemmas.List.Elements.{All-contains}
use Rattle.jc_base.specs.Cell.{IsDeclared}
use Rattle.jc_base.specs.Class.{IsClass}
use Rattle.jc_base.specs.Each.{Each, IsAmong}
use Rattle.jc_base.specs.declared.record.Handler.{Handler}
use Rattle.jc_base.specs.declared.record.MethodRec.{MethodRec}
use Rattle.jc_base.proofs.Eaching.{All-from_Each, Each-weaker}
use Rattle.jc_decode.specs.Cases.{cases}
use Rattle.jc_decode.specs.declared.insn.Placed.{Placed}
use Rattle.jc_decode.specs.declared.symbols.Item.{Item}
use Rattle.jc_decode.specs.declared.symbols.Range.{Range}
use Rattle.jc_decode.specs.Listing.{listing, jumps, targets}
use Rattle.jc_decode.proofs.Ranges.{op-fits}
use Rattle.jc_decode.proofs.Elements.{Contains-slice_get}
use Rattle.jc_ops.specs.declared.operation.Operation.{Operation}
use Rattle.jc_control.specs.Control.{IsReached, IsLeader, IsLive, follows, jumped, caught, led_to, entered}
use Rattle.jc_control.specs.Method.{IsMethodOf}
use Rattle.jc_control.specs.WellFormed.{IsPlace, IsTargetPlace, IsHandlerOf, HasInstruction as IsListed}
use Rattle.jc_flow.proofs.Derived.{of_world}
use Rattle.xf_homes.specs.Walk.{operands_of}
use Rattle.xf_homes.specs.Source.{Source}
use Rattle.xf_homes.specs.Plan.{is_leader, operation}
use Rattle.xf_emission.specs.Group.{entrance, group}
use Rattle.xf_emission.specs.Jump.{each_once, way_of, place, branch_copies, lead, label_by, stub_label, handler_label}
use Rattle.xf_emission.specs.Emission.{is_live, items, ranges_from, ranges, rewritten}
use Rattle.xf_emission.specs.Laws.{IsCode, IsLabelOf, of_place, of_stub}
use Rattle.xf_emission.proofs.Labels.{labels}
use Rattle.xf_emission.proofs.Live.{live-is}
use Rattle.xf_emission.proofs.Once.{named-among}
use Rattle.xf_emission.proofs.Stubs.{all-rise}
use Rattle.law_laid.specs.Laid.{class_by}
use Rattle.law_rewritten_typing.specs.Typed.{registers_of}
use Rattle.law_rewritten_typing.proofs.Walks.{nothing_asked, emptied, catching, count}
use Rattle.law_rewritten_typing.proofs.Ready.{IsReady}
use Rattle.law_rewritten_typing.specs.Premises.{AreTypingLaws}
use Rattle.law_rewritten_typing.proofs.Running.{IsRecordFor}
use Rattle.law_rewritten_typing.proofs.Listings.{filled}
use Rattle.xf_emission.proofs.Ways.{way-found}
use Rattle.law_rewritten_typing.proofs.Rewriting.{AreWanted}
use Rattle.law_rewritten_typing.proofs.LabelDemands.{asks_of, are-wanted}
use Rattle.law_rewritten_typing.proofs.Typings.{AreAsked}
use Rattle.law_rewritten_typing.proofs.Ranges.{IsCaught, ranges-caught}
use Rattle.law_rewritten_typing.proofs.Ordered.{ranges-filled, handlers-are}
use Rattle.law_rewritten_typing.proofs.Others.{no-others}
use Rattle.law_rewritten_typing.proofs.Named.{Names, items-name}

module _ (s : Source) (l : AreTypingLaws s.world) (ready : IsReady s) (code : IsCode s) (mo : IsMethodOf s.world s.method)
    (r : MethodRec) (own_rec : IsRecordFor s.method.rec r) where
  res : IfSome s.method.rec.sig.result (IsDeclared s.world.classes)
  res = (of_world s.world l.rules s.method mo).result

  wanted : AreWanted (λ n. n) (λ a b e. e) s l ready r own_rec (asks_of s) res code
  wanted = are-wanted (λ n. n) (λ a b e. e) s l ready r own_rec res code

  abbrev IsEmptied : ℕ → Type 0
  IsEmptied m = IsAmong m (labels (items s)) × (asks_of s m ≡ emptied)

  label-of : (q : ℕ) → IsReached s.method q → IsLabelOf s q
  label-of q there = by (ready.has.placed q there)
    where
      by : IsPlace s.method.code q → IsLabelOf s q
      by (i, st, at) = subst (IsLabelOf s) at (of_place {i = i} st (ap (λ (p : ℕ). is_some (s.frames p)) at ∙ (ready.has.reached q).1 there))

  leader-named : (q : ℕ) → IsReached s.method q → IsLeader s.method q → IsEmptied q
  leader-named q there leads =
      let flagged : is_leader s q ≡ true = (ready.marks q).1 leads in
      (named-among s q (label-of q there), wanted.places q ((ready.has.reached q).1 there) ∙ ap (λ (b : Bool). if b then emptied else nothing_asked) flagged)

  target-named : (i : Placed) → IsListed s.method.code i → IsReached s.method i.place → (t : ℤ) → Contains (targets s.method.code i) t
      → IsTargetPlace s.method.code t → IsEmptied (place t)
  target-named i st there (pos q) c is = leader-named q (follows {i = i} st there (jumped c)) (led_to {i = i} st there c)
  target-named i st there (negsuc n) c is = absurd is

  target-count : (i : Placed) → jumps i.insn.op ≡ true → length (targets s.method.code i) ≡ length (cases s.method.code i.place i.insn) + 1
  unfolding targets
  target-count i j = grind (arith, length-map)

  emitted : (i : Placed) (op : Operation) → IsListed s.method.code i → is_some (s.frames i.place) ≡ true → operation s i ≡ Ok op
      → Names IsEmptied s i op
  unfolding lead
  emitted i op st some is =
      let d = (l.rules.listed s.method.code).decodes i st in
      let there = (ready.has.reached i.place).0 some in
      let small = op-fits s.method.code i.place i.insn code.bytes d in
      let go = l.alike s.method.rec i.place i.insn op small (sym is) in
      let at : (k : ℕ) (t : ℤ) → slice_get (targets s.method.code i) k ≡ Some t → IsEmptied (place t) = λ k t e.
      let c = Contains-slice_get (targets s.method.code i) k t e in
      target-named i st there t c (All-contains (IsTargetPlace s.method.code) (targets s.method.code i) t (ready.has.formed.targets i st) c) in
      record {
        ways =
            λ n k t asks e. by n (way_of (targets s.method.code i) t) t asks (way-found (targets s.method.code i) k t e) (at k t e)
            (branch_copies s i.place op n (place t)) refl;
        places = at;
        some = λ j. omega (arith, target-count i (sym go.jumps_alike ∙ j));
      }
    where
      by : (n k : ℕ) (t : ℤ) → operands_of s.world (Ok op) ≡ Some n → slice_get (each_once (targets s.method.code i)) k ≡ Some t
          → IsEmptied (place t) → (copied : List Item) → branch_copies s i.place op n (place t) ≡ copied
          → IsEmptied (label_by (place t) (stub_label i.place k) copied)
      by n k t asks e here [] none = here
      by n k t asks e here (x ∷ xs) more = (
        named-among s (stub_label i.place k)
            (of_stub {i = i} {op = op} {n = n} {t = t} k st some is asks e (λ none. absurd (filled_not (sym more ∙ none)))),
        wanted.stubs i k t st e,
      )
        where
          filled_not : x ∷ xs ≡ [] → ⊥
          filled_not e = absurd (cc)

  entries : (hs : List Handler) → ((h : Handler) → Contains hs h → Contains s.method.rec.handlers h)
      → Each (λ h. is_live s h ≡ true → IsEmptied h.entry) hs
  entries [] inside = tt
  entries (h ∷ hs) inside = (
    (λ live. here
        (live-is s (l.rules.listed s.method.code) ready.has h
        (All-contains (IsHandlerOf s.method.code) s.method.rec.handlers h ready.has.formed.handlers there) there live)),
    entries hs (λ k c. inside k (suc c.0, omega (arith, c.1), c.2)),
  )
    where
      there : Contains s.method.rec.handlers h
      there = inside h (0, omega arith, refl)

      here : IsLive s.method h → IsEmptied h.entry
      here v = leader-named h.entry (caught v.reached v.listed v.covers) (entered v.reached v.listed v.covers)

  full : (i : Placed) → IsListed s.method.code i → is_some (s.frames i.place) ≡ true → 0 < count (group s i)
  full i st some =
      let each = filled (λ n. n) (λ a b e. e) s l ready r own_rec (asks_of s) res code (listing s.method.code) (λ j c. c) in
      let less = All-contains (λ (j : Placed). is_some (s.frames j.place) ≡ true → count (entrance s j.place) < count (group s j))
      (listing s.method.code) i
      (All-from_Each (λ (j : Placed). is_some (s.frames j.place) ≡ true → count (entrance s j.place) < count (group s j)) (listing s.method.code) each)
      st some in
      omega (arith, less)

  pub are-asked : AreAsked s.world s.method.rec s.method.code (rewritten s) (registers_of s.homes) (asks_of s)
  unfolding rewritten ranges
  are-asked =
      let listed = l.rules.listed s.method.code in
      let hs = s.method.rec.handlers in
      let all = ranges-caught s l.rules mo 0 hs (λ j h e. let same_j : 0 + j ≡ j = omega arith in ap (slice_get s.method.rec.handlers) same_j
      ∙ e) in
      record {
        low = 0;
        high = handler_label 256;
        rise = all-rise s code.bytes code.lists code.short code.few;
        named = items-name IsEmptied s emitted (entries s.method.rec.handlers (λ h c. c));
        caught =
            Each-weaker (IsCaught s l.rules mo)
            (λ (q : Range). IsAmong q.entry (labels (items s)) × (asks_of s q.entry ≡ catching (class_by s.method.rec.handlers q.pool)))
            (λ q t. (t.0, t.1)) (ranges_from s 0 hs) all;
        classes =
            Each-weaker (IsCaught s l.rules mo) (λ (q : Range). IsClass s.world.classes (class_by s.method.rec.handlers q.pool)) (λ q t. t.2)
            (ranges_from s 0 hs) all;
        order = ranges-filled s code listed ready.has full 0 hs (handlers-are s code listed ready.has full);
        no_others = λ m c a asks. no-others s listed code m c a asks;
      }
