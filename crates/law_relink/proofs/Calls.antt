-- A StaticMethodref of the last package names the method of the same number.
use Rattle.std.proofs.Common.{◌≡◌, ◌≤◌, ◌<◌, ◌+◌, ◌*◌, ℕ, List, [], ◌∷◌, ◌++◌, length, Bool, true, false, not, Option, Some}
use Rattle.std.proofs.Common.{None, option_map, slice_index, ◌⊎◌, inl, inr, refl, sym, ap, subst, ◌∙◌, arith}
use Rattle.std.specs.Prelude.{if◌then◌else◌, ◌==◌}
use Rattle.std.proofs.lemmas.Bool.{false≢true, and_parts, eqb-true}
use Rattle.byteorder.specs.Endian.{big_bytes}
use Rattle.cap_desc.specs.DescriptorFormat.{ClassDescriptor, MethodDescriptor}
use Rattle.cap_desc.specs.Members.{methods_but}
use Rattle.cap_pool.specs.PoolFormat.{Entry}
use Rattle.cap_pool.specs.declared.pool_record.PoolReference.{PoolReference}
use Rattle.cap_pool.specs.declared.pool_record.StaticReference.TheVariants.{Internal}
use Rattle.cap_pool.specs.PoolReference.{referred}
use Rattle.cap_package.specs.PackageRecord.{PackageRecord, names_interface}
use Rattle.cap_package.specs.Parts.{Lent}
use Rattle.cap_package.specs.StandsFor.{StandsFor}
use Rattle.cap_renewal.specs.PoolEdits.{own_offset, entry_by, renewed_entry}
use Rattle.cap_renewal.proofs.RenewedEntries.{none-or-own}
use Rattle.jc_base.specs.declared.record.Member.{Member}
use Rattle.jc_base.specs.declared.record.Member.TheVariants.{StaticCall}
use Rattle.jc_base.specs.declared.record.StaticRec.{StaticRec}
use Rattle.jc_base.specs.Class.{ClassTable}
use Rattle.jc_base.proofs.Eaching.{Each-append}
use Rattle.jc_decode.specs.declared.symbols.Laid.{Laid}
use Rattle.jc_link.specs.Entries.{place_in, method_place}
use Rattle.jc_link.specs.Members.{call_member, member_of}
use Rattle.jc_resolve.specs.declared.fault.RecordPlace.{RecordPlace}
use Rattle.jc_resolve.specs.Numbering.{NumberedMethod, methods_of_class, methods_of_classes, methods_after, numbered_methods, place_of_method, method_places}
use Rattle.jc_resolve.specs.Numbering.{is_at, is_placed, method_at}
use Rattle.law_package.specs.Changes.{Change, changes, now_at}
use Rattle.law_package.specs.Rewritten.{IsRewritten}
use Rattle.law_package.proofs.Lists.{Each, Has, each_at}
use Rattle.cap_package.proofs.Agreed.{agrees}
use Rattle.law_package.proofs.Zipped.{old_of}
use Rattle.law_package.proofs.Facts.{olds, all_written}
use Rattle.law_package.proofs.Standing.{offset_of, ends_inside, sizes_end, apart}
use Rattle.law_package.proofs.Anew.{has_source}
use Rattle.law_relink.specs.Last.{and_last}
use Rattle.law_relink.proofs.Lists.{position_has, has_append}
use Rattle.law_relink.proofs.Places.{last_method, now_has}
use Rattle.law_relink.proofs.Members.{IsSameCall, members_same, other_call, call_is}
use Rattle.law_relink.proofs.Apart.{own_methods, after_split}

-- ---- packages of methods

homes_class : (k : ℕ) (p : PackageRecord) (i : ℕ) (c : ClassDescriptor) (j : ℕ) (ms : List MethodDescriptor)
    → Each (λ (m : NumberedMethod). m.home ≡ k) (methods_of_class k p i c j ms)
homes_class k p i c j [] = tt
homes_class k p i c j (m ∷ ms) = (refl, homes_class k p i c (j + 1) ms)

pub homes_classes : (k : ℕ) (p : PackageRecord) (i : ℕ) (cs : List ClassDescriptor)
    → Each (λ (m : NumberedMethod). m.home ≡ k) (methods_of_classes k p i cs)
homes_classes k p i [] = tt
homes_classes k p i (c ∷ cs) = Each-append (λ (m : NumberedMethod). m.home ≡ k) (methods_of_class k p i c 0 c.methods)
    (methods_of_classes k p (i + 1) cs) (homes_class k p i c 0 c.methods) (homes_classes k p (i + 1) cs)

below_all : (k n : ℕ) (ms : List NumberedMethod) → k < n → Each (λ (m : NumberedMethod). m.home ≡ k) ms
    → Each (λ (m : NumberedMethod). m.home < n) ms
below_all k n [] lt h = tt
below_all k n (m ∷ ms) lt h = let e = h.0 in (omega (arith, e, lt), below_all k n ms lt h.1)

pub homes_after : (k n : ℕ) (ps : List PackageRecord) → k + length ps ≤ n
    → Each (λ (m : NumberedMethod). m.home < n) (methods_after k ps)
homes_after k n [] le = tt
homes_after k n (p ∷ ps) le =
    Each-append (λ (m : NumberedMethod). m.home < n) (methods_of_classes k p 0 p.description.items.classes)
    (methods_after (k + 1) ps)
    (below_all k n (methods_of_classes k p 0 p.description.items.classes) (omega arith)
    (homes_classes k p 0 p.description.items.classes)) (homes_after (k + 1) n ps (omega arith))

-- ---- a method that stands at a place is described there

record StandsIn (k o : ℕ) (m : NumberedMethod) : Type 0 where
  pub placed : m.placed ≡ true
  pub home : m.home ≡ k
  pub offset : m.record_of.method_offset ≡ o

stands_in : (k o : ℕ) (m : NumberedMethod) → is_at (record { «package» = k; offset = o }) (place_of_method m) ≡ true
    → StandsIn k o m
stands_in k o m e = by m.placed refl e
  where
    by : (b : Bool) → m.placed ≡ b → is_at (record { «package» = k; offset = o })
        (if b then Some (record { «package» = m.home; offset = m.record_of.method_offset }) else None) ≡ true → StandsIn k o m
    by true h f =
        let both = and_parts (k == m.home) (o == m.record_of.method_offset) f in
        record { placed = h; home = sym (eqb-true k m.home both.0); offset = sym (eqb-true o m.record_of.method_offset both.1) }
    by false h f = absurd (false≢true f)

has_front : {X : Type 0} (xs ys : List X) (x : X) → Has xs x → Has (xs ++ ys) x
has_front [] ys x h = absurd h
has_front (y ∷ xs) ys x (inl s) = inl s
has_front (y ∷ xs) ys x (inr h) = inr (has_front xs ys x h)

has_end : {X : Type 0} (xs ys : List X) (x : X) → Has ys x → Has (xs ++ ys) x
has_end [] ys x h = h
has_end (y ∷ xs) ys x h = inr (has_end xs ys x h)

record_has : (k : ℕ) (p : PackageRecord) (i : ℕ) (c : ClassDescriptor) (j : ℕ) (ms : List MethodDescriptor) (m : NumberedMethod)
    → Has (methods_of_class k p i c j ms) m → Has ms m.record_of × (m.placed ≡ is_placed p c)
record_has k p i c j [] m h = absurd h
record_has k p i c j (x ∷ ms) m (inl s) = grind (arith)
record_has k p i c j (x ∷ ms) m (inr h) = let t = record_has k p i c (j + 1) ms m h in (inr t.0, t.1)

described_has : (k : ℕ) (p : PackageRecord) (i : ℕ) (cs : List ClassDescriptor) (m : NumberedMethod) → Has (methods_of_classes k p i cs) m
    → m.placed ≡ true → Has (methods_but (names_interface p.classes) cs) m.record_of
described_has k p i [] m h e = absurd h
described_has k p i (c ∷ cs) m h e =
    by (names_interface p.classes c.class_ref) refl (has_append (methods_of_class k p i c 0 c.methods)
    (methods_of_classes k p (i + 1) cs) m h) (λ g. described_has k p (i + 1) cs m g e)
  where
    not_placed : names_interface p.classes c.class_ref ≡ true → m.placed ≡ is_placed p c → ⊥
    not_placed f g = false≢true (ap not (sym f) ∙ sym g ∙ e)

    by : (b : Bool) → names_interface p.classes c.class_ref ≡ b → Has (methods_of_class k p i c 0 c.methods) m
        ⊎ Has (methods_of_classes k p (i + 1) cs) m
        → (Has (methods_of_classes k p (i + 1) cs) m → Has (methods_but (names_interface p.classes) cs) m.record_of)
        → Has (if b then methods_but (names_interface p.classes) cs else c.methods ++ methods_but (names_interface p.classes) cs)
        m.record_of
    by x f x2 more = grind (arith, record_has, has_front, has_end)

-- a change of the method that stands at an offset of the last package
pub record ChangesAt (cs : List Change) (o : ℕ) : Type 0 where
  pub change : Change
  pub has : Has cs change
  pub at : offset_of change ≡ o

pub changes_at : (ps : List PackageRecord) (p q : PackageRecord) (laid : List (Option Laid)) (o n : ℕ) → IsRewritten p laid q
    → method_at (and_last ps p) (record { «package» = length ps; offset = o }) ≡ Some n → ChangesAt (changes p laid q) o
unfolding method_at
changes_at ps p q laid o n r e =
    let k = length ps in
    let place : RecordPlace = record { «package» = k; offset = o } in
    let f = position_has (is_at place) (method_places (and_last ps p)) n e in
    let g = has_source place_of_method (numbered_methods (and_last ps p)) f.0 f.1 in
    let s = stands_in k o g.0 (ap (is_at place) (sym g.2) ∙ f.2) in
    let h = has_append (numbered_methods ps) (own_methods ps p) g.0
    (subst (λ ms. Has ms g.0) (after_split 0 k ps p (omega arith)) g.1) in
    by g.0 s h
  where
    by : (m : NumberedMethod) → StandsIn (length ps) o m → Has (numbered_methods ps) m ⊎ Has (own_methods ps p) m
        → ChangesAt (changes p laid q) o
    by m s (inl h) =
        let lt = each_at (λ (x : NumberedMethod). x.home < length ps) (numbered_methods ps) m
        (homes_after 0 (length ps) ps (omega arith)) h in
        let same = s.home in
        absurd (omega (arith, lt, same))
    by m s (inr h) =
        let d = described_has (length ps) p 0 p.description.items.classes m h s.placed in
        let c = has_source old_of (changes p laid q) m.record_of (subst (λ ms. Has ms m.record_of) (sym (olds p q laid r)) d) in
        record { change = c.0; has = c.1; at = ap (λ (x : MethodDescriptor). x.method_offset) (sym c.2) ∙ s.offset }

-- ---- an entry with a renewed offset

two_bytes : (x : ℕ) → x < 65536 → slice_index (big_bytes 2 x) 0 * 256 + slice_index (big_bytes 2 x) 1 ≡ x
two_bytes x lt = grind (arith)

module _ (parts : List Lent) (ps : List PackageRecord) (p q : PackageRecord) (laid : List (Option Laid)) (s : StandsFor parts p)
    (r : IsRewritten p laid q) (short : length q.methods.info ≤ 65535) where
  abbrev now : List PackageRecord
  now = and_last ps q

  abbrev old : List PackageRecord
  old = and_last ps p

  abbrev to : ℕ → ℕ
  to = now_at (changes p laid q)

  -- a change's new offset is that of a method in the info
  low_offset : (c : Change) → Has (changes p laid q) c → c.now.method_offset < 65536
  low_offset c h = grind (arith, all_written p q laid r, sizes_end q.methods.info c.now, ends_inside, each_at)

  own_call : (o n : ℕ) → method_at old (record { «package» = length ps; offset = o }) ≡ Some n
      → method_at now (record {
        «package» = length ps;
        offset =
            slice_index (big_bytes 2 (to o)) 0 * 256 + slice_index (big_bytes 2 (to o)) 1;
      })
      ≡ method_at old (record { «package» = length ps; offset = o })
  own_call o n e =
      let cs = changes p laid q in
      let c = changes_at ps p q laid o n r e in
      let is : to o ≡ c.change.now.method_offset = ap to (sym c.at)
      ∙ now_has cs c.change c.has (apart parts p q laid (agrees parts p s.agree) r) in
      let low = low_offset c.change c.has in
      let two = two_bytes (to o) (omega (arith, is, low)) in
      ap (λ x. method_at now (record { «package» = length ps; offset = x })) two
      ∙ subst (λ x. method_at now (record { «package» = length ps; offset = to x })
      ≡ method_at old (record { «package» = length ps; offset = x })) c.at (last_method parts ps p q laid c.change s r c.has)

  call_told : (o : ℕ) (m : Member) → option_map StaticCall (method_at old (place_in (length ps) o)) ≡ Some m
      → (n : ℕ) × (method_at old (place_in (length ps) o) ≡ Some n)
  call_told o m c = by (method_at old (place_in (length ps) o)) refl c
    where
      by : (found : Option ℕ) → method_at old (place_in (length ps) o) ≡ found → option_map StaticCall found ≡ Some m
          → (n : ℕ) × (method_at old (place_in (length ps) o) ≡ Some n)
      by None f g = absurd cc
      by (Some n) f g = (n, f)

  renewed_call : (o : ℕ) (m : Member) → call_member old (length ps) (Internal o) ≡ Some m
      → call_member now (length ps) (Internal (slice_index (big_bytes 2 (to o)) 0 * 256 + slice_index (big_bytes 2 (to o)) 1))
      ≡ call_member old (length ps) (Internal o)
  unfolding call_member method_place
  renewed_call o m c = let there = call_told o m c in ap (option_map StaticCall) (own_call o there.0 there.1)

  not_own : (x : PoolReference) → own_offset x ≡ None → IsSameCall ps p q laid r (length ps) x
  not_own other none = grind (arith, other_call, length)

  -- an entry that names a member names it still when its offset is renewed
  pub renewed_member : (t : ClassTable) (statics : List StaticRec) (e : Entry) (m : Member) → member_of old t statics (length ps) e ≡ Some m
      → member_of now t statics (length ps) (renewed_entry to e) ≡ member_of old t statics (length ps) e
  renewed_member t statics e m there = elim (none-or-own to e) [
    | inl none ↦
        ap (λ o. member_of now t statics (length ps) (entry_by to e o)) none
        ∙ members_same ps p q laid r t statics (length ps) e (omega arith) (not_own (referred e) none)
    | inr own ↦
        call_is now t statics (length ps) (renewed_entry to e) _ own.renewed
        ∙ renewed_call own.offset m (sym (call_is old t statics (length ps) e (Internal own.offset) own.named) ∙ there)
        ∙ sym (call_is old t statics (length ps) e (Internal own.offset) own.named)
  ]
