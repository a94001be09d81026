-- After the greatest token of fields no field comes.
use Rattle.std.proofs.Common.{◌≡◌, ℕ, zero, suc, ◌+◌, ◌≤◌, Bool, false, eqb, List, [], ◌∷◌, ◌++◌, filter, flat_map, fold}
use Rattle.std.proofs.Common.{refl, arith}
use Rattle.std.specs.Prelude.{max}
use Rattle.std.specs.List.{range_with_len}
use Rattle.std.proofs.lemmas.Bool.{eqb-true}
use Rattle.std.proofs.lemmas.List.{append-nil}
use Rattle.std.proofs.Math.Nat.{le-max_left, le-max_right}
use Rattle.jc_resolve.specs.declared.field_records.OwnField.{OwnField}
use Rattle.jc_resolve.proofs.FieldSteps.{token_step}
use Rattle.jc_resolve.specs.OwnFields.{bears_token, own_with_token, tokens_end}

abbrev end_after : ℕ → List OwnField → ℕ
end_after end fields = fold (λ end (f : OwnField). max end (f.token + 1)) end fields

end_grows : (end : ℕ) (fs : List OwnField) → end ≤ end_after end fs
end_grows end [] = omega arith
end_grows end (f ∷ fs) = omega (arith, end_grows (max end (f.token + 1)) fs, le-max_left end (f.token + 1))

apart : (a b : ℕ) (same : Bool) → eqb a b ≡ same → a + 1 ≤ b → eqb a b ≡ false
apart a b z e h = grind (arith, eqb-true)

none_left : (end token : ℕ) (fs : List OwnField) → end_after end fs ≤ token → filter (bears_token token) fs ≡ []
none_left end token [] h = refl
none_left end token (f ∷ fs) h = grind (arith, end_grows, le-max_right, apart, eqb, none_left (max end (f.token + 1)) token fs h)

none_after : (fs : List OwnField) (a n : ℕ) → tokens_end fs ≤ a → flat_map (own_with_token fs) (range_with_len a n) ≡ []
unfolding tokens_end
none_after fs a zero h = refl
none_after fs a (suc n) h = rw (none_left 0 a fs h) (none_after fs (a + 1) n (omega (arith, h)))

-- fields up to their end are all
pub all_placed : {Y : Type 0} (f : OwnField → List Y) (fs : List OwnField) (ys : List Y) (a n : ℕ) → tokens_end fs ≤ a
    → ys ++ flat_map f (flat_map (own_with_token fs) (range_with_len a n)) ≡ ys
all_placed f fs ys a n h = rw (none_after fs a n h) (append-nil ys)

-- what the loop over tokens needs
pub ruleset placing = (token_step, all_placed)
