-- The argument words of a method's type descriptor are the cells of its signature's arguments.
use Rattle.std.proofs.Common.{◌≡◌, ℕ, ◌+◌, Bool, true, false, eqb, cond, List, []}
use Rattle.std.proofs.Common.{◌∷◌, length, length-append, Option, Some, None, refl, sym, arith}
use Rattle.std.proofs.Common.{ap₂, ◌∙◌}
use Rattle.std.specs.Prelude.{option_map, option_and_then}
use Rattle.cap_desc.specs.declared.type_list.TypeItem.{TypeItem}
use Rattle.cap_desc.specs.TypeFormat.{types_at}
use Rattle.cap_package.specs.Agreement.{or_none}
use Rattle.cap_package.specs.Descriptions.{Description, words_of, words_before, words_in, argument_words}
use Rattle.cap_package.specs.PackageRecord.{PackageRecord}
use Rattle.jc_base.specs.declared.ty.Ty.TheVariants.{IntHigh, IntLow}
use Rattle.jc_resolve.specs.WorldTypes.{type_of, cells_of_type, arguments_before, signature_in, declared_signature}

module _ (ps : List PackageRecord) (object k : ℕ) where
  cells_by : (t : TypeItem) (b : Bool) → length (cond b (IntHigh ∷ IntLow ∷ []) (type_of ps object k t ∷ [])) ≡ cond b 2 1
  cells_by t true = refl
  cells_by t false = refl

  cells_counted : (t : TypeItem) → length (cells_of_type ps object k t) ≡ words_of t
  cells_counted t = cells_by t (eqb t.nibble 5)

  mapped : (w n : ℕ) (o : Option ℕ) → option_map (λ m. w + m) o ≡ Some n → (m : ℕ) × (o ≡ Some m) × (n ≡ w + m)
  mapped w n z e = grind (arith)

  words_next : (w n : ℕ) (o : Option ℕ) (b : Bool) → cond b None (option_map (λ m. w + m) o) ≡ Some n → (m : ℕ) × (o ≡ Some m) × (n ≡ w + m)
  words_next w n o u e = grind (arith, mapped)

  arguments_counted : (t : TypeItem) (ts : List TypeItem) (n : ℕ) → words_before t ts ≡ Some n → length (arguments_before ps object k t ts) ≡ n
  arguments_counted t [] n e = cc
  arguments_counted t (u ∷ us) n e =
      let next = words_next (words_of t) n (words_before u us) (eqb t.nibble 1) e in
      length-append (cells_of_type ps object k t) (arguments_before ps object k u us)
      ∙ ap₂ ◌+◌ (cells_counted t) (arguments_counted u us next.0 next.1)
      ∙ sym next.2

  types_counted : (ts : List TypeItem) (n : ℕ) → words_in ts ≡ Some n → length (signature_in ps object k ts).args ≡ n
  types_counted x n e = grind (arith, arguments_counted)

  found_counted : (o : Option (List TypeItem)) (n : ℕ) → option_and_then words_in o ≡ Some n → length (signature_in ps object k (or_none o)).args ≡ n
  found_counted x n e = grind (arith, types_counted)

  pub words-counted : (d : Description) (offset n : ℕ) → argument_words d offset ≡ Some n → length (declared_signature ps object k d offset).args ≡ n
  unfolding argument_words declared_signature
  words-counted d offset n e = found_counted (types_at d.info (d.items.types_start + offset)) n e
