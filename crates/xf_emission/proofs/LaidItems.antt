-- The items of a rewritten method are such as are laid.
use Rattle.std.proofs.Common.{◌≡◌, ℕ, suc, ◌+◌, ◌<◌, ◌≤◌, Bool, true, false, if◌then◌else◌, List, [], ◌∷◌, All, Contains}
use Rattle.std.proofs.Common.{Option, Some, None, Ok, refl, sym, ◌∙◌, ap, subst, arith}
use Rattle.std.specs.Prelude.{ℤ, pos, negsuc, is_some, slice_get, sum_by}
use Rattle.std.proofs.lemmas.List.Elements.{All-contains}
use Rattle.std.proofs.lemmas.List.Sums.{sum_by-cons}
use Rattle.jc_base.specs.Each.{Each}
use Rattle.jc_base.specs.declared.record.Handler.{Handler}
use Rattle.jc_base.specs.World.{Linked}
use Rattle.jc_base.proofs.Eaching.{All-from_Each}
use Rattle.jc_decode.specs.declared.insn.Placed.{Placed}
use Rattle.jc_decode.specs.declared.symbols.Item.{Item}
use Rattle.jc_decode.specs.Laws.{AreListed, InstructionsAreListed}
use Rattle.jc_decode.specs.Listing.{targets}
use Rattle.jc_decode.specs.Symbols.{IsItem, IsOnce}
use Rattle.jc_decode.proofs.Ranges.{IsAllowed-decoded, op-fits}
use Rattle.jc_decode.proofs.Elements.{Contains-slice_get}
use Rattle.jc_ops.specs.declared.operation.Operation.{Operation}
use Rattle.jc_ops.specs.Next.{OperationsGoAlike}
use Rattle.jc_control.specs.Control.{IsReached, follows, jumped, caught, IsLive}
use Rattle.jc_control.specs.WellFormed.{HasInstruction, IsPlace, IsTargetPlace, IsHandlerOf}
use Rattle.xf_homes.specs.declared.home.Home.{Home}
use Rattle.xf_homes.specs.Order.{register_sum}
use Rattle.xf_homes.specs.Value.{type_width}
use Rattle.xf_homes.specs.Walk.{operands_of, register_from, same_home}
use Rattle.xf_homes.specs.Source.{Source}
use Rattle.xf_homes.specs.Plan.{operation, or_first}
use Rattle.xf_emission.specs.Emission.{is_live, items}
use Rattle.xf_emission.specs.Jump.{each_once, way_of, label_by, lead, place, stub_label, branch_copies}
use Rattle.xf_emission.specs.Laws.{IsCode, HasFrames, IsLabelOf, of_place, of_stub, ItemsSuit}
use Rattle.xf_emission.proofs.Forms.{suits-op}
use Rattle.xf_emission.proofs.Live.{live-is}
use Rattle.xf_emission.proofs.Once.{labels-stand-once}
use Rattle.xf_emission.proofs.Suited.{IsEmitted, items-suit}
use Rattle.xf_emission.proofs.Ways.{way-found}

-- ---- registers

register-below : (n : ℕ) (hs : List Home) (h : Home) (r : ℕ) → register_from n hs h ≡ Some r → r ≤ n + sum_by (λ (k : Home). type_width k.ty) hs
register-below n [] h r e = absurd (cc)
register-below n (k ∷ ks) h r e = by (same_home k h) e (λ later. register-below (n + type_width k.ty) ks h r later)
  where
    by : (b : Bool) → (if b then Some n else register_from (n + type_width k.ty) ks h) ≡ Some r
        → (register_from (n + type_width k.ty) ks h ≡ Some r → r ≤ n + type_width k.ty + sum_by (λ (j : Home). type_width j.ty) ks)
        → r ≤ n + sum_by (λ (j : Home). type_width j.ty) (k ∷ ks)
    by true e rest = let same : n ≡ r = cc in omega (arith, same)
    by false e rest = omega (arith, rest e, sum_by-cons (λ (j : Home). type_width j.ty) k ks)

small-register : (homes : List Home) (h : Home) → register_sum homes ≤ 255 → or_first (register_from 0 homes h) < 256
unfolding register_sum
small-register homes h few = by (register_from 0 homes h) refl
  where
    by : (o : Option ℕ) → register_from 0 homes h ≡ o → or_first o < 256
    by None e = omega arith
    by (Some r) e = omega (arith, register-below 0 homes h r e, few)

-- ---- elements

-- ---- the whole

module _ (w : Linked) (alike : OperationsGoAlike w) (listing_is : InstructionsAreListed) (s : Source) (own : s.world ≡ w) (code : IsCode s)
    (has : HasFrames s) (few : register_sum s.homes ≤ 255) where
  listed : AreListed s.method.code
  listed = listing_is s.method.code

  once : (l : ℕ) → IsLabelOf s l → IsOnce (items s) l
  once l named = labels-stand-once s code l named

  reached-once : (p : ℕ) → IsReached s.method p → IsOnce (items s) p
  reached-once p r = by (has.placed p r)
    where
      by : IsPlace s.method.code p → IsOnce (items s) p
      by (i, st, at) = once p (subst (IsLabelOf s) at (of_place {i = i} st (ap (λ (q : ℕ). is_some (s.frames q)) at ∙ (has.reached p).1 r)))

  target-once : (i : Placed) → HasInstruction s.method.code i → IsReached s.method i.place → (t : ℤ) → Contains (targets s.method.code i) t
      → IsTargetPlace s.method.code t → IsOnce (items s) (place t)
  target-once i st r (pos q) c is = reached-once q (follows {i = i} st r (jumped c))
  target-once i st r (negsuc n) c is = absurd is

  emitted : (i : Placed) (op : Operation) → HasInstruction s.method.code i → is_some (s.frames i.place) ≡ true → operation s i ≡ Ok op
      → IsEmitted (items s) s i op
  unfolding lead
  emitted i op st some is =
      let d = listed.decodes i st in
      let r = (has.reached i.place).0 some in
      let small = op-fits s.method.code i.place i.insn code.bytes d in
      let go = subst OperationsGoAlike (sym own) alike s.method.rec i.place i.insn op small (sym is) in
      let at : (k : ℕ) (t : ℤ) → slice_get (targets s.method.code i) k ≡ Some t → IsOnce (items s) (place t) = λ k t e.
      let c = Contains-slice_get (targets s.method.code i) k t e in
      target-once i st r t c (All-contains (IsTargetPlace s.method.code) (targets s.method.code i) t (has.formed.targets i st) c) in
      record {
        allowed = IsAllowed-decoded s.method.code i.place i.insn code.bytes d;
        decodes = d;
        alike = go.jumps_alike;
        suits = suits-op s.world s.method.rec i.place i.insn op small is;
        ways =
            λ n k t asks e. by n (way_of (targets s.method.code i) t) t asks (way-found (targets s.method.code i) k t e) (at k t e)
            (branch_copies s i.place op n (place t)) refl;
        places = at;
      }
    where
      by : (n k : ℕ) (t : ℤ) → operands_of s.world (Ok op) ≡ Some n → slice_get (each_once (targets s.method.code i)) k ≡ Some t
          → IsOnce (items s) (place t) → (copied : List Item) → branch_copies s i.place op n (place t) ≡ copied
          → IsOnce (items s) (label_by (place t) (stub_label i.place k) copied)
      by n k t asks e here [] none = here
      by n k t asks e here (x ∷ xs) more =
          once (stub_label i.place k) (of_stub {i = i} {op = op} {n = n} {t = t} k st some is asks e (λ none. absurd (filled (sym more ∙ none))))
        where
          filled : x ∷ xs ≡ [] → ⊥
          filled e = absurd (cc)

  entries-once : (hs : List Handler) → ((h : Handler) → Contains hs h → Contains s.method.rec.handlers h)
      → Each (λ h. is_live s h ≡ true → IsOnce (items s) h.entry) hs
  entries-once [] inside = tt
  entries-once (h ∷ hs) inside = (
    λ live. here (live-is s listed has h (All-contains (IsHandlerOf s.method.code) s.method.rec.handlers h has.formed.handlers there) there live),
    entries-once hs (λ k c. inside k (suc c.0, omega (arith, c.1), c.2)),
  )
    where
      there : Contains s.method.rec.handlers h
      there = inside h (0, omega arith, refl)

      here : IsLive s.method h → IsOnce (items s) h.entry
      here l = reached-once h.entry (caught l.reached l.listed l.covers)

  items-are-such : All (IsItem s.method.code (items s)) (items s)
  items-are-such =
      All-from_Each (IsItem s.method.code (items s)) (items s)
      (items-suit (items s) s (λ h. small-register s.homes h few) emitted (entries-once s.method.rec.handlers (λ h c. c)))

pub items-are-laid : (w : Linked) → OperationsGoAlike w → InstructionsAreListed → ItemsSuit w
items-are-laid w alike listed s own code has few = items-are-such w alike listed s own code has few
