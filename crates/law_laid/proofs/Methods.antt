-- The method of a number, in a world.
use Rattle.std.proofs.Common.{arith}
use Rattle.std.proofs.Common.{◌≡◌, ◌<◌, ℕ, length, Option, Some, None, option_map, IsSomeAnd, slice_get, refl, sym, ◌∙◌, ap, subst}
use Rattle.std.proofs.lemmas.Option.{same_Some}
use Rattle.jc_base.specs.declared.record.MethodRec.{MethodRec}
use Rattle.jc_base.specs.World.{Linked}
use Rattle.jc_control.specs.Method.{Method, IsMethodOf, method_in, method_with}

pub in-world : (w : Linked) (m : Method) → IsMethodOf w m → method_in w m.number ≡ Some m
in-world w m mo = grind (arith, option_map)

pub of-world : (w : Linked) (m : Method) → method_in w m.number ≡ Some m → 0 < length m.code → IsMethodOf w m
of-world w m e filled = by (slice_get w.methods m.number) refl e
  where
    by : (o : Option MethodRec) → slice_get w.methods m.number ≡ o → option_map (method_with w m.number) o ≡ Some m → IsMethodOf w m
    by None here e = absurd (cc)
    by (Some r) here e =
        let same : method_with w m.number r ≡ m = same_Some _ _ e in
        let code = subst (λ (k : Method). 0 < length k.code) (sym same) filled in
        subst (IsMethodOf w) same (record { rec = here; code = refl; filled = code })

-- where something is known of the method of a number, there is one, with its record
pub method-there : (w : Linked) (n : ℕ) (P : Method → Type 0) → IsSomeAnd (method_in w n) P → (r : MethodRec) × (slice_get w.methods n ≡ Some r)
    × P (method_with w n r)
method-there w n P h = by (slice_get w.methods n) refl h
  where
    by : (o : Option MethodRec) → slice_get w.methods n ≡ o → IsSomeAnd (option_map (method_with w n) o) P → (r : MethodRec)
        × (slice_get w.methods n ≡ Some r) × P (method_with w n r)
    by None e h = absurd h
    by (Some r) e h = (r, e, h)

pub method-is : (w : Linked) (m : Method) (n : ℕ) (r : MethodRec) → IsMethodOf w m → m.number ≡ n → slice_get w.methods n ≡ Some r
    → method_with w n r ≡ m
method-is w m n r mo number here = grind (arith, option_map, same_Some, in-world)

-- what the method of a number is known to be
pub known : (w : Linked) (n : ℕ) (P : Method → Type 0) → IsSomeAnd (method_in w n) P → (m : Method) → IsMethodOf w m → m.number ≡ n → P m
known w n P h m mo e = subst (λ o. IsSomeAnd o P) (ap (method_in w) (sym e) ∙ in-world w m mo) h
