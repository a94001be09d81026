-- What running code asks of a world that differs from another in the code of its methods alone: classes, declared results, and
-- operations that speak of what is there.
use Rattle.std.proofs.Common.{◌≡◌, ℕ, Bool, false, List, [], ◌∷◌, length, map, refl, sym, ap, arith}
use Rattle.std.proofs.Common.{◌∙◌, subst}
use Rattle.std.specs.Prelude.{Option, Some, None, Ok, IsSomeAnd, IfSome, option_map, slice_get}
use Rattle.std.specs.List.{filter}
use Rattle.std.proofs.lemmas.List.{length-map}
use Rattle.jc_base.specs.declared.record.MethodRec.{MethodRec}
use Rattle.jc_base.specs.Cell.{IsDeclared}
use Rattle.jc_base.specs.Class.{ClassTable, AreClasses}
use Rattle.jc_base.specs.Each.{Each}
use Rattle.jc_base.specs.Linked.{IsMethod}
use Rattle.jc_base.specs.Dispatch.{HasBody, IsConcrete}
use Rattle.jc_base.specs.World.{Linked, IsWorld}
use Rattle.jc_base.proofs.Eaching.{All-from_Each, Each-from_All}
use Rattle.jc_ops.specs.declared.operation.Want.{Want}
use Rattle.jc_ops.specs.declared.operation.Callee.{Callee}
use Rattle.jc_ops.specs.declared.operation.Choice.{Choice}
use Rattle.jc_ops.specs.declared.operation.Operation.{Operation}
use Rattle.jc_ops.specs.Resolve.{described, is_described, passes_test}
use Rattle.jc_ops.specs.Sound.{IsSound, IsChosen, IsCalleeOf, OperationsAreSound}
use Rattle.law_laid.specs.Apart.{apart_from_code, IsSameBut}
use Rattle.law_laid.specs.Laws.{MethodsAreKept, OperationsAreKept}
use Rattle.law_homes.specs.Moves.{IsExecutable}

module _ (v w : Linked) (same : IsSameBut v w) (methods_kept : MethodsAreKept) (operations_kept : OperationsAreKept) where
  abbrev Alike : Option MethodRec → Option MethodRec → Type 0
  Alike o p = option_map apart_from_code o ≡ option_map apart_from_code p

  some-same : (a b : MethodRec) → Alike (Some a) (Some b) → apart_from_code a ≡ apart_from_code b
  some-same a b e = cc

  -- the record of b, which is that of a with other code
  recoded : (a b : MethodRec) → apart_from_code a ≡ apart_from_code b
      → record a {
        nargs = b.nargs;
        max_locals = b.max_locals;
        max_stack = b.max_stack;
        code_at = b.code_at;
        code_len = b.code_len;
        handlers = b.handlers;
      } ≡ b
  recoded a b e = grind (arith)

  -- w, but for lists that are those of v
  abbrev other : Linked
  other = record w { pools = v.pools; classes = v.classes; statics = v.statics; arrays = v.arrays }

  whole : other ≡ w
  whole =
      ap (λ x. record w { pools = x; classes = v.classes; statics = v.statics; arrays = v.arrays }) same.pools
      ∙ (ap (λ x. record w { classes = x; statics = v.statics; arrays = v.arrays }) same.classes
      ∙ (ap (λ x. record w { statics = x; arrays = v.arrays }) same.statics
      ∙ ap (λ x. record w { arrays = x }) same.arrays))

  body-too : (n : ℕ) → HasBody v.methods n → HasBody w.methods n
  body-too n h = go (slice_get v.methods n) (slice_get w.methods n) (methods_kept v w n same) h
    where
      go : (o p : Option MethodRec) → Alike o p → IsSomeAnd o (λ m. m.is_abstract ≡ false) → IsSomeAnd p (λ m. m.is_abstract ≡ false)
      go None p e h = absurd h
      go (Some a) None e h = absurd (cc)
      go (Some a) (Some b) e h = sym (ap (λ (m : MethodRec). m.is_abstract) (some-same a b e)) ∙ h

  concrete-too : (c : ℕ) → IsConcrete v.classes v.methods c → IsConcrete v.classes w.methods c
  concrete-too c h = grind (arith, body-too)

  method-too : (n : ℕ) (a : MethodRec) → slice_get v.methods n ≡ Some a → (b : MethodRec) × (slice_get w.methods n ≡ Some b)
      × (apart_from_code a ≡ apart_from_code b)
  method-too n a e = go (slice_get w.methods n) refl (ap (option_map apart_from_code) (sym e) ∙ methods_kept v w n same)
    where
      go : (o : Option MethodRec) → slice_get w.methods n ≡ o → Alike (Some a) o → (b : MethodRec) × (slice_get w.methods n ≡ Some b)
          × (apart_from_code a ≡ apart_from_code b)
      go None is e = absurd (cc)
      go (Some b) is e = (b, is, some-same a b e)

  -- ---- the only method that an interface describes

  filter-same : (p q : ℕ → Bool) → ((n : ℕ) → p n ≡ q n) → (ns : List ℕ) → filter p ns ≡ filter q ns
  filter-same p q same [] = refl
  filter-same p q same (n ∷ ns) = grind (arith, filter-same p q same ns)

  passes-same : (c token : ℕ) (o p : Option MethodRec) → Alike o p → passes_test (is_described c token) o ≡ passes_test (is_described c token) p
  passes-same c token z u e = grind (arith, some-same)

  count-same : length v.methods ≡ length w.methods
  count-same = sym (length-map v.methods apart_from_code) ∙ ap length same.methods ∙ length-map w.methods apart_from_code

  described-same : (c token : ℕ) → described v.methods c token ≡ described w.methods c token
  unfolding described
  described-same c token = grind (arith, filter-same, passes-same, count-same)

  -- ---- calls

  chosen-too :
      (n : ℕ) (a b : MethodRec) (receiver : Option Want) (choice : Choice) → apart_from_code a ≡ apart_from_code b
      → IsChosen v n a receiver choice → IsChosen other n b receiver choice
  chosen-too n a b receiver v e h = grind (arith, described-same)

  callee-too : (c : Callee) → IsCalleeOf v c → IsCalleeOf other c
  callee-too c h = grind (arith, method-too, chosen-too)

  -- ---- every operation

  sound-at : (m : MethodRec) (place : ℕ) (op : Operation) → IsSound v m place op → IsSound other m place op
  sound-at m place z h = grind (arith, callee-too, concrete-too)

  turned : IsSameBut w v
  turned = record { pools = sym same.pools; classes = sym same.classes; methods = sym same.methods; statics = sym same.statics; arrays = sym same.arrays }

  sound-too : OperationsAreSound v → OperationsAreSound w
  sound-too sound m place i op declared resolves =
      let was = operations_kept w v m m place i (Ok op) turned refl resolves in
      let known = subst (λ (t : ClassTable). IfSome m.sig.result (IsDeclared t)) (sym same.classes) declared in
      subst (λ (x : Linked). IsSound x m place op) whole (sound-at m place op (sound m place i op known was))

  -- ---- all that running code asks

  each-declared : (ms : List MethodRec) → Each (λ (m : MethodRec). IfSome m.sig.result (IsDeclared w.classes)) (map apart_from_code ms)
      → Each (λ (m : MethodRec). IfSome m.sig.result (IsDeclared w.classes)) ms
  each-declared [] all = all
  each-declared (m ∷ ms) all = (all.0, each-declared ms all.1)

  apart-declared : (ms : List MethodRec) → Each (IsMethod v.infos v.pools v.classes) ms
      → Each (λ (m : MethodRec). IfSome m.sig.result (IsDeclared v.classes)) (map apart_from_code ms)
  apart-declared [] all = all
  apart-declared (m ∷ ms) all = (all.0.result, apart-declared ms all.1)

  pub can-run : IsWorld v → OperationsAreSound v → IsExecutable w
  can-run world sound =
      let declared : Each (λ (m : MethodRec). IfSome m.sig.result (IsDeclared v.classes)) (map apart_from_code v.methods) =
      apart-declared v.methods (Each-from_All (IsMethod v.infos v.pools v.classes) v.methods world.methods) in
      let moved : Each (λ (m : MethodRec). IfSome m.sig.result (IsDeclared w.classes)) (map apart_from_code w.methods) =
      subst (λ ms. Each (λ (m : MethodRec). IfSome m.sig.result (IsDeclared w.classes)) ms) same.methods
      (subst (λ (t : ClassTable). Each (λ (m : MethodRec). IfSome m.sig.result (IsDeclared t)) (map apart_from_code v.methods)) same.classes declared) in
      record {
        chains = subst AreClasses same.classes world.chains;
        results = All-from_Each (λ (m : MethodRec). IfSome m.sig.result (IsDeclared w.classes)) w.methods (each-declared w.methods moved);
        sound = sound-too sound;
      }
