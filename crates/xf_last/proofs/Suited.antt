-- What is laid for the methods of the last package is what its writer takes.
use Rattle.std.proofs.Common.{◌≡◌, ℕ, ◌+◌, ◌-◌, ◌≤◌, Bool, true, false, MatchBool, cond, min, List, [], ◌∷◌}
use Rattle.std.proofs.Common.{◌++◌, length, map, drop, Option, Some, None, refl, sym, ap, subst, ◌∙◌, inl, inr, arith, length-take}
use Rattle.std.specs.Prelude.{slice_get, slice_index}
use Rattle.std.proofs.lemmas.List.{length-map, length-drop}
use Rattle.cap_desc.specs.DescriptorFormat.{ClassDescriptor, MethodDescriptor}
use Rattle.cap_desc.specs.Members.{methods_but}
use Rattle.cap_method.specs.MethodFormat.{Header}
use Rattle.cap_package.specs.HeaderChecks.{header_in, is_abstract}
use Rattle.cap_package.specs.PackageRecord.{PackageRecord, names_interface, handlers_of}
use Rattle.cap_package.specs.StandsFor.{StandsFor}
use Rattle.law_package.specs.Laying.{IsCodeFor}
use Rattle.cap_write.specs.Condition.{AreElements, IsElement, MayBeLaid, handler_sum, methods_for, no_method}
use Rattle.first_fault.specs.First.{AllEmpty}
use Rattle.jc_base.specs.declared.record.MethodRec.{MethodRec}
use Rattle.jc_base.specs.declared.record.Sig.{Sig}
use Rattle.jc_base.specs.Linked.{IsCodeLength}
use Rattle.jc_base.specs.World.{Linked}
use Rattle.jc_decode.specs.declared.symbols.Laid.{Laid}
use Rattle.jc_base.proofs.Lists.{slice_get-farther}
use Rattle.jc_link.specs.World.{IsLinked}
use Rattle.jc_resolve.specs.declared.method_records.Body.{Body}
use Rattle.jc_resolve.specs.Conditions.{conditions}
use Rattle.jc_resolve.specs.NamedMethods.{body_after, body_of, handler_named, have_headers, named_method, no_body, offset_in_info}
use Rattle.jc_resolve.specs.Numbering.{NumberedMethod, numbered_method, methods_of_class, methods_of_classes}
use Rattle.jc_resolve.specs.WorldTypes.{declared_signature}
use Rattle.jc_resolve.proofs.Faultless.{IsOneOf}
use Rattle.jc_resolve.proofs.MethodFacts.{IsPlaced, is-placed}
use Rattle.jc_resolve.proofs.NumberedLaws.{from-any, from-class}
use Rattle.jc_resolve.proofs.OwnClasses.{own-reference}
use Rattle.law_relink.specs.Last.{and_last}
use Rattle.xf_last.specs.Fits.{AreFit, FitsElement, FitsMethod}
use Rattle.xf_last.proofs.Handlers.{entry_count, entry_sum, entries-within}
use Rattle.xf_last.proofs.Headers.{headers, no-headers}
use Rattle.xf_last.proofs.OwnMethods.{own_of}

-- ---- an element and the handlers that it may have

abbrev room_of : ℕ → Option MethodDescriptor → ℕ
room_of many None = 0
room_of many (Some m) = entry_count many m

abbrev handlers_in : Option Laid → ℕ
handlers_in None = 0
handlers_in (Some l) = length l.handlers

record Suits (info : List ℕ) (many : ℕ) (m : Option MethodDescriptor) (l : Option Laid) : Type 0 where
  pub element : IsElement info m l
  pub few : handlers_in l ≤ room_of many m

abbrev AreSuited : List ℕ → ℕ → List (Option MethodDescriptor) → List (Option Laid) → Type 0
AreSuited info many [] [] = Unit {0}
AreSuited info many [] (l ∷ ls) = ⊥
AreSuited info many (m ∷ ms) [] = ⊥
AreSuited info many (m ∷ ms) (l ∷ ls) = Suits info many m l × AreSuited info many ms ls

elements-of : (info : List ℕ) (many : ℕ) (ms : List (Option MethodDescriptor)) (ls : List (Option Laid)) → AreSuited info many ms ls
    → AreElements info ms ls
elements-of info many [] [] h = tt {0}
elements-of info many [] (l ∷ ls) h = absurd h
elements-of info many (m ∷ ms) [] h = absurd h
elements-of info many (m ∷ ms) (l ∷ ls) h = (h.0.element, elements-of info many ms ls h.1)

abbrev room_sum : ℕ → List (Option MethodDescriptor) → ℕ
room_sum many [] = 0
room_sum many (m ∷ ms) = room_of many m + room_sum many ms

sum-of : (info : List ℕ) (many : ℕ) (ms : List (Option MethodDescriptor)) (ls : List (Option Laid)) → AreSuited info many ms ls
    → handler_sum ls ≤ room_sum many ms
sum-of info many [] [] h = omega arith
sum-of info many [] (l ∷ ls) h = absurd h
sum-of info many (m ∷ ms) [] h = absurd h
sum-of info many (m ∷ ms) (None ∷ ls) h = let others = sum-of info many ms ls h.1 in omega (arith, others)
sum-of info many (m ∷ ms) (Some l ∷ ls) h = let others = sum-of info many ms ls h.1 in let here = h.0.few in omega (arith, others, here)

room-append : (many : ℕ) (ms ns : List (Option MethodDescriptor)) → room_sum many (ms ++ ns) ≡ room_sum many ms + room_sum many ns
room-append many [] ns = omega arith
room-append many (m ∷ ms) ns = let others = room-append many ms ns in omega (arith, others)

room-none : (many : ℕ) (ms : List MethodDescriptor) → room_sum many (map no_method ms) ≡ 0
room-none many [] = refl
room-none many (m ∷ ms) = let others = room-none many ms in omega (arith, others)

entry-append : (many : ℕ) (ms ns : List MethodDescriptor) → entry_sum many (ms ++ ns) ≡ entry_sum many ms + entry_sum many ns
entry-append many [] ns = omega arith
entry-append many (m ∷ ms) ns = let others = entry-append many ms ns in omega (arith, others)

room-some : (many : ℕ) (ms : List MethodDescriptor) → room_sum many (map (λ m. Some m) ms) ≡ entry_sum many ms
room-some many [] = refl
room-some many (m ∷ ms) = let others = room-some many ms in omega (arith, others)

room-all : (many : ℕ) (set : ℕ → Bool) (cs : List ClassDescriptor) → room_sum many (methods_for set cs) ≡ entry_sum many (methods_but set cs)
room-all many set [] = refl
room-all many set (c ∷ cs) = by (set c.class_ref) (room-all many set cs)
  where
    by : (b : Bool) → room_sum many (methods_for set cs) ≡ entry_sum many (methods_but set cs)
        → room_sum many ((cond b (map no_method c.methods) (map (λ m. Some m) c.methods)) ++ methods_for set cs)
        ≡ entry_sum many (cond b (methods_but set cs) (c.methods ++ methods_but set cs))
    by true others =
        let first = room-append many (map no_method c.methods) (methods_for set cs) in
        let here = room-none many c.methods in
        omega (arith, first, here, others)
    by false others =
        let first = room-append many (map (λ m. Some m) c.methods) (methods_for set cs) in
        let here = room-some many c.methods in
        let last = entry-append many c.methods (methods_but set cs) in
        omega (arith, first, here, last, others)

-- ---- a method of the world and its record in the Descriptor

module _ (ps : List PackageRecord) (p : PackageRecord) (roles : List ℕ) (w : Linked) (linked : IsLinked (and_last ps p) roles w)
    (agreed : StandsFor p.parts p) where
  none : AllEmpty (conditions (and_last ps p))
  none = grind (arith)

  at : slice_get (and_last ps p) (length ps) ≡ Some p
  at = slice_get-farther ps (p ∷ []) 0 (length ps) (omega arith)

  abbrev method_of : ℕ → ClassDescriptor → ℕ → MethodDescriptor → MethodRec
  method_of i c j m = named_method (and_last ps p) roles (numbered_method (length ps) p i c j m)

  abbrev sig_of : MethodDescriptor → Sig
  sig_of m = declared_signature (and_last ps p) (slice_index roles 0) (length ps) p.description m.type_offset

  abbrev body : ClassDescriptor → MethodDescriptor → Body
  body c m = body_of (and_last ps p) (slice_index roles 1) (length ps) p m (sig_of m) (have_headers (and_last ps p) (length ps) p c)

  code-len : (i j : ℕ) (c : ClassDescriptor) (m : MethodDescriptor) → (method_of i c j m).code_len ≡ (body c m).code_len
  unfolding named_method
  code-len i j c m = refl

  nargs-of : (i j : ℕ) (c : ClassDescriptor) (m : MethodDescriptor) → (method_of i c j m).nargs ≡ (body c m).nargs
  unfolding named_method
  nargs-of i j c m = refl

  handlers-are : (i j : ℕ) (c : ClassDescriptor) (m : MethodDescriptor) → (method_of i c j m).handlers ≡ (body c m).handlers
  unfolding named_method
  handlers-are i j c m = refl

  -- a method of an interface has no code
  bodiless : (c : ClassDescriptor) (m : MethodDescriptor) → names_interface p.classes c.class_ref ≡ true → body c m ≡ no_body m.flags (sig_of m)
  unfolding body_of
  bodiless c m e = rw (no-headers (and_last ps p) (length ps) p at c e) refl

  interface-suits : (many i j : ℕ) (c : ClassDescriptor) (m : MethodDescriptor) (l : Option Laid)
      → names_interface p.classes c.class_ref ≡ true → FitsElement (method_of i c j m) l → Suits p.methods.info many None l
  interface-suits many i j c m x e h = grind (arith, code-len, bodiless)

  -- the body of a method of a class
  with-body : (c : ClassDescriptor) (m : MethodDescriptor) (x : IsPlaced p m) → IsOneOf p.description.items.classes c
      → names_interface p.classes c.class_ref ≡ false
      → body c m ≡ body_after (and_last ps p) (slice_index roles 1) (length ps) p m x.header (offset_in_info (m.method_offset + x.header.size))
  unfolding body_of
  with-body c m x one e = rw (headers (and_last ps p) (length ps) p at c none one (own-reference p agreed c one) e, x.there) refl

  same-header : (h k : Header) (o : Option Header) → o ≡ Some h → o ≡ Some k → h ≡ k
  same-header h k o e f = let both : Some h ≡ Some k = sym e ∙ f in cc

  abstract-by : (b : Bool) (n : ℕ) → MatchBool b (n ≡ 0) (IsCodeLength n) → n ≡ 0 → b ≡ true
  abstract-by x n h e = grind (arith)

  class-suits : (i j : ℕ) (c : ClassDescriptor) (m : MethodDescriptor) (l : Option Laid) → IsOneOf p.description.items.classes c
      → IsOneOf c.methods m
      → names_interface p.classes c.class_ref ≡ false → FitsElement (method_of i c j m) l
      → Suits p.methods.info (length p.methods.handlers) (Some m) l
  class-suits i j c m l one own e h =
      let x = is-placed p agreed m (from-class (names_interface p.classes) p.description.items.classes c m one e own)
      (from-any p.description.items.classes c m one own) in
      by l x h
    where
      by : (l : Option Laid) (x : IsPlaced p m) → FitsElement (method_of i c j m) l → Suits p.methods.info (length p.methods.handlers) (Some m) l
      by None x h =
          let count : (method_of i c j m).code_len ≡ m.bytecode_count = code-len i j c m ∙ ap (λ (b : Body). b.code_len) (with-body c m x one e) in
          let empty : m.bytecode_count ≡ 0 = sym count ∙ h in
          record {
            element =
                λ header there. subst (λ (g : Header). is_abstract g ≡ true)
                (same-header x.header header (header_in p.methods.info m.method_offset) x.there there)
                (abstract-by (is_abstract x.header) m.bytecode_count x.length empty);
            few = omega arith;
          }
      by (Some laid) x h =
          let s : FitsMethod (method_of i c j m) laid = h.1 in
          let nargs : (method_of i c j m).nargs ≡ x.header.nargs = nargs-of i j c m ∙ ap (λ (b : Body). b.nargs) (with-body c m x one e) in
          let code_at = offset_in_info (m.method_offset + x.header.size) in
          let held : length (method_of i c j m).handlers ≡ min m.handler_count (length p.methods.handlers - m.handler_index) =
          ap length (handlers-are i j c m ∙ ap (λ (b : Body). b.handlers) (with-body c m x one e))
          ∙ length-map (handlers_of p m) (handler_named (and_last ps p) (slice_index roles 1) (length ps) p.pool code_at)
          ∙ length-take m.handler_count (drop m.handler_index p.methods.handlers)
          ∙ ap (λ k. min m.handler_count k) (length-drop m.handler_index p.methods.handlers) in
          let few = s.few in
          record {
            element =
                λ header there. subst (λ (g : Header). IsCodeFor g laid)
                (same-header x.header header (header_in p.methods.info m.method_offset) x.there there)
                (record { some = s.some; short = s.short; arguments = s.arguments ∙ nargs; registers = s.registers; inside = s.inside });
            few = omega (arith, few, held);
          }

  -- ---- all methods

  in-interface : (i : ℕ) (c : ClassDescriptor) → names_interface p.classes c.class_ref ≡ true
      → (j : ℕ) (ms : List MethodDescriptor) (others : List NumberedMethod) (tail : List (Option MethodDescriptor)) (ls : List (Option Laid))
      → ((ls' : List (Option Laid)) → AreFit (map (named_method (and_last ps p) roles) others) ls'
      → AreSuited p.methods.info (length p.methods.handlers) tail ls')
      → AreFit (map (named_method (and_last ps p) roles) (methods_of_class (length ps) p i c j ms ++ others)) ls
      → AreSuited p.methods.info (length p.methods.handlers) (map no_method ms ++ tail) ls
  in-interface i c e j [] others tail ls go fit = go ls fit
  in-interface i c e j (m ∷ ms) others tail [] go fit = absurd fit
  in-interface i c e j (m ∷ ms) others tail (l ∷ ls) go fit =
      (interface-suits (length p.methods.handlers) i j c m l e fit.0, in-interface i c e (j + 1) ms others tail ls go fit.1)

  in-class : (i : ℕ) (c : ClassDescriptor) → IsOneOf p.description.items.classes c → names_interface p.classes c.class_ref ≡ false
      → (j : ℕ) (ms : List MethodDescriptor) → ((m : MethodDescriptor) → IsOneOf ms m → IsOneOf c.methods m)
      → (others : List NumberedMethod) (tail : List (Option MethodDescriptor)) (ls : List (Option Laid))
      → ((ls' : List (Option Laid)) → AreFit (map (named_method (and_last ps p) roles) others) ls'
      → AreSuited p.methods.info (length p.methods.handlers) tail ls')
      → AreFit (map (named_method (and_last ps p) roles) (methods_of_class (length ps) p i c j ms ++ others)) ls
      → AreSuited p.methods.info (length p.methods.handlers) (map (λ m. Some m) ms ++ tail) ls
  in-class i c one e j [] among others tail ls go fit = go ls fit
  in-class i c one e j (m ∷ ms) among others tail [] go fit = absurd fit
  in-class i c one e j (m ∷ ms) among others tail (l ∷ ls) go fit =
      (class-suits i j c m l one (among m (inl refl)) e fit.0, in-class i c one e (j + 1) ms (λ k h. among k (inr h)) others tail ls go fit.1)

  in-classes : (i : ℕ) (cs : List ClassDescriptor) → ((c : ClassDescriptor) → IsOneOf cs c → IsOneOf p.description.items.classes c)
      → (ls : List (Option Laid))
      → AreFit (map (named_method (and_last ps p) roles) (methods_of_classes (length ps) p i cs)) ls
      → AreSuited p.methods.info (length p.methods.handlers) (methods_for (names_interface p.classes) cs) ls
  in-classes i [] among [] fit = tt {0}
  in-classes i [] among (l ∷ ls) fit = absurd fit
  in-classes i (c ∷ cs) among ls fit =
      by (names_interface p.classes c.class_ref) refl (λ others h. in-classes (i + 1) cs (λ d one. among d (inr one)) others h)
    where
      by : (b : Bool) → names_interface p.classes c.class_ref ≡ b
          → ((others : List (Option Laid))
          → AreFit (map (named_method (and_last ps p) roles) (methods_of_classes (length ps) p (i + 1) cs)) others
          → AreSuited p.methods.info (length p.methods.handlers) (methods_for (names_interface p.classes) cs) others)
          → AreSuited p.methods.info (length p.methods.handlers)
          ((cond b (map no_method c.methods) (map (λ m. Some m) c.methods)) ++ methods_for (names_interface p.classes) cs) ls
      by true e go = in-interface i c e 0 c.methods (methods_of_classes (length ps) p (i + 1) cs) (methods_for (names_interface p.classes) cs) ls go fit
      by false e go =
          in-class i c (among c (inl refl)) e 0 c.methods (λ m h. h) (methods_of_classes (length ps) p (i + 1) cs)
          (methods_for (names_interface p.classes) cs) ls go fit

  pub may-be-laid : (laid : List (Option Laid)) → AreFit (own_of ps p roles) laid → length p.methods.handlers ≤ 255 → MayBeLaid p laid
  may-be-laid laid fit few = grind (arith, in-classes, sum-of, length, room-all, entries-within, elements-of)
