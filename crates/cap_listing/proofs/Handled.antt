-- The methods of a package may be listed: their handlers end in their code, so the numbers of each fit its line.
use Rattle.std.proofs.Common.{◌≡◌, ◌<◌, ◌≤◌, ◌+◌, ◌^◌, ℕ, Bool, false, cond, List, [], ◌∷◌, map}
use Rattle.std.proofs.Common.{Option, refl, inl, inr, arith}
use Rattle.std.specs.Prelude.{All}
use Rattle.std.proofs.lemmas.List.Elements.{All-nil, All-append, All-map, All-weaker}
use Rattle.cap_method.specs.MethodFormat.{Header}
use Rattle.cap_method.specs.declared.read_methods.HandlerInfo.{HandlerInfo}
use Rattle.cap_desc.specs.DescriptorFormat.{MethodDescriptor, ClassDescriptor}
use Rattle.cap_components.specs.MethodPlaces.{code_start, code_end}
use Rattle.cap_components.specs.PackageRecord.{PackageRecord, names_interface, handlers_of}
use Rattle.cap_package.specs.HeaderChecks.{header_in}
use Rattle.cap_package.specs.StandsFor.{StandsFor}
use Rattle.jc_decode.specs.declared.symbols.LaidHandler.{LaidHandler}
use Rattle.jc_resolve.proofs.Faultless.{IsOneOf}
use Rattle.jc_resolve.proofs.NumberedLaws.{from-any, from-class}
use Rattle.jc_resolve.proofs.OwnedHandlers.{LiesIn}
use Rattle.jc_resolve.proofs.MethodFacts.{IsPlaced, is-placed}
use Rattle.cap_listing.specs.declared.method.ListedMethod.{ListedMethod}
use Rattle.cap_listing.specs.Text.{IsMethod, IsHandler}
use Rattle.cap_listing.specs.Methods.{HasPlaces, IsCounted, laid_handler, laid_of, listed_by}
use Rattle.cap_listing.specs.Methods.{listed_from, listed_unless, listed_in, methods_of}

Ends : LaidHandler → Type 0
Ends h = h.start + h.length < 2 ^ 16

HaveEnds : ListedMethod → Type 0
HaveEnds m = All Ends m.laid.handlers

-- a handler in the code of a method, counted from its start
handler-ends : (info : List ℕ) (m : MethodDescriptor) (h : HandlerInfo) → code_end info m ≤ 65535 → LiesIn info m h → Ends (laid_handler (code_start info m) h)
unfolding Ends
handler-ends info m h few lies = omega (arith, few, lies.start, lies.stop)

module _ (p : PackageRecord) where
  handlers-end : (m : MethodDescriptor) (x : IsPlaced p m) → All Ends (map (laid_handler (code_start p.methods.info m)) (handlers_of p m))
  handlers-end m x =
      All-map Ends (laid_handler (code_start p.methods.info m)) (handlers_of p m)
      (All-weaker (LiesIn p.methods.info m) (λ h. Ends (laid_handler (code_start p.methods.info m) h))
      (λ h lies. handler-ends p.methods.info m h (omega (arith, x.ends, x.short)) lies) (handlers_of p m) x.handlers)

  one-ends : (class_no n : ℕ) (m : MethodDescriptor) (x : IsPlaced p m) (h : Header) (b : Bool)
      → All HaveEnds (cond b [] (record { class_no = class_no; method_no = n; laid = laid_of p.methods m h } ∷ []))
  unfolding HaveEnds
  one-ends class_no n m x h w = grind (arith, handlers-end)

  by-end : (class_no n : ℕ) (m : MethodDescriptor) (x : IsPlaced p m) (o : Option Header) → All HaveEnds (listed_by p.methods class_no n m o)
  by-end class_no n m x v = grind (arith, one-ends)

  class-ends : (class_no n : ℕ) (ms : List MethodDescriptor) → ((m : MethodDescriptor) → IsOneOf ms m → IsPlaced p m)
      → All HaveEnds (listed_from p.methods class_no n ms)
  class-ends class_no n [] each = All-nil HaveEnds
  class-ends class_no n (m ∷ ms) each =
      All-append HaveEnds (listed_by p.methods class_no n m (header_in p.methods.info m.method_offset)) (listed_from p.methods class_no (n + 1) ms)
      (by-end class_no n m (each m (inl refl)) (header_in p.methods.info m.method_offset)) (class-ends class_no (n + 1) ms (λ k one. each k (inr one)))

  unless-ends : (class_no : ℕ) (c : ClassDescriptor) (b : Bool) → (b ≡ false → (m : MethodDescriptor) → IsOneOf c.methods m → IsPlaced p m)
      → All HaveEnds (cond b [] (listed_from p.methods class_no 0 c.methods))
  unless-ends class_no c z each = grind (arith, class-ends)

  classes-end : (class_no : ℕ) (cs : List ClassDescriptor)
      → ((c : ClassDescriptor) → IsOneOf cs c → names_interface p.classes c.class_ref ≡ false → (m : MethodDescriptor) → IsOneOf c.methods m → IsPlaced p m)
      → All HaveEnds (listed_in (names_interface p.classes) p.methods class_no cs)
  classes-end class_no [] each = All-nil HaveEnds
  classes-end class_no (c ∷ cs) each =
      All-append HaveEnds (listed_unless (names_interface p.classes) p.methods class_no c) (listed_in (names_interface p.classes) p.methods (class_no + 1) cs)
      (unless-ends class_no c (names_interface p.classes c.class_ref) (each c (inl refl))) (classes-end (class_no + 1) cs (λ d one. each d (inr one)))

  all-end : StandsFor p.parts p → All HaveEnds (methods_of p)
  all-end agreed = grind (arith, classes-end, is-placed, from-class, from-any)

-- ---- with what is known of each number

handler-known : (h : LaidHandler) → HasPlaces h → Ends h → IsHandler h
unfolding Ends
handler-known h x e = record { start = x.start; end = e; entry = x.entry; pool = x.pool }

method-known : (m : ListedMethod) → IsCounted m → HaveEnds m → IsMethod m
unfolding HaveEnds
method-known m x ends = grind (arith, handler-known)

pub methods-known : (p : PackageRecord) → StandsFor p.parts p → All IsCounted (methods_of p) → All IsMethod (methods_of p)
methods-known p agreed counted k m at = method-known _ (counted k m at) (all-end p agreed k m at)
