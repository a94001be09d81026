-- The method of a number, by its record and its code.
use Rattle.std.proofs.Common.{◌≡◌, ℕ, ◌<◌, List, length, Option, Some, option_map, slice_get, sym, ap, subst, ◌∙◌, arith}
use Rattle.std.specs.Prelude.{IfSome, IsSomeAnd}
use Rattle.std.proofs.lemmas.Option.{same_Some}
use Rattle.jc_base.specs.declared.record.MethodRec.{MethodRec}
use Rattle.jc_base.specs.World.{Linked, code_of}
use Rattle.jc_control.specs.Method.{Method, IsMethodOf, method_in, method_with}

module _ (w : Linked) (n : ℕ) (rec : MethodRec) (code : List ℕ) (here : slice_get w.methods n ≡ Some rec)
    (bytes : option_map (code_of w.infos) (slice_get w.methods n) ≡ Some code) where
  abbrev own : Method
  own = record { number = n; rec = rec; code = code }

  own-code : code_of w.infos rec ≡ code
  own-code = same_Some _ _ (ap (option_map (code_of w.infos)) (sym here) ∙ bytes)

  pub method-is : method_in w n ≡ Some own
  method-is = ap (option_map (method_with w n)) here ∙ ap (λ (c : List ℕ). Some (record { number = n; rec = rec; code = c })) own-code

  pub of-method : (P : Method → Type 0) → IsSomeAnd (method_in w n) P → P own
  of-method P h = subst (λ (o : Option Method). IsSomeAnd o P) method-is h

  pub to-method : (P : Method → Type 0) → P own → IsSomeAnd (method_in w n) P
  to-method P h = subst (λ (o : Option Method). IsSomeAnd o P) (sym method-is) h

  pub record-fact : (P : MethodRec → Type 0) → IsSomeAnd (slice_get w.methods n) P → P rec
  record-fact P h = subst (λ (o : Option MethodRec). IsSomeAnd o P) here h

  pub is-own : 0 < length code → IsMethodOf w own
  is-own filled = record { rec = here; code = sym own-code; filled = filled }

  pub is-method : length code ≡ rec.code_len → IsSomeAnd (slice_get w.methods n) (λ m. 0 < m.code_len) → IsMethodOf w own
  is-method len has = let filled = record-fact (λ m. 0 < m.code_len) has in is-own (omega (arith, len, filled))

pub own-length : (w : Linked) (n : ℕ) (rec : MethodRec) (code bytes : List ℕ) → slice_get w.methods n ≡ Some rec → code ≡ bytes
    → IfSome (slice_get w.methods n) (λ m. length bytes ≡ m.code_len) → length code ≡ rec.code_len
own-length w n rec code bytes here same h = ap length same ∙ subst (λ (o : Option MethodRec). IfSome o (λ m. length bytes ≡ m.code_len)) here h
