-- Homes as keys of tables: where each begins, and that no argument stands twice.
use Rattle.std.proofs.Common.{◌≡◌, ℕ, suc, ◌+◌, ◌<◌, ◌≤◌, ◌||◌, Bool, true, false, if◌then◌else◌, cond, not, List, []}
use Rattle.std.proofs.Common.{◌∷◌, ◌++◌, length, fold, Some, None, slice_get, position, refl, sym, ◌∙◌, ap, arith, append_assoc}
use Rattle.std.specs.Prelude.{nat_lt}
use Rattle.std.proofs.lemmas.Bool.Decides.{nat_tests}
use Rattle.std.specs.List.{list_any, position_or_len}
use Rattle.std.proofs.lemmas.List.{append-nil}
use Rattle.std.proofs.lemmas.Option.{slice_get_past}
use Rattle.indexmap.specs.IndexSet.{insert_key, insert_all}
use Rattle.jc_base.specs.declared.ty.Ty.{Ty}
use Rattle.jc_base.specs.declared.ty.Ty.TheVariants.{IntLow, Class}
use Rattle.jc_base.specs.declared.record.MethodRec.{MethodRec}
use Rattle.xf_homes.specs.declared.home.Home.{Home}
use Rattle.xf_homes.specs.Equal.{home-equal}
use Rattle.xf_homes.specs.Value.{type_width}
use Rattle.xf_homes.specs.Order.{begins_from}
use Rattle.xf_homes.specs.Walk.{same_home, register_from, values_from, receiver_home, argument_homes}

-- ---- where they begin

begins-at : (n : ℕ) (hs : List Home) (h : Home) → register_from n hs h ≡ slice_get (begins_from n hs) (position_or_len (λ k. same_home k h) hs)
begins-at n [] h = refl
begins-at n (k ∷ ks) h = by (same_home k h) (begins-at (n + type_width k.ty) ks h)
  where
    by : (b : Bool) → register_from (n + type_width k.ty) ks h ≡ slice_get (begins_from (n + type_width k.ty) ks) (position_or_len (λ k. same_home k h) ks)
        → (if b then Some n else register_from (n + type_width k.ty) ks h) ≡ slice_get (n ∷ begins_from (n + type_width k.ty) ks)
        (cond (not b) (1 + position_or_len (λ k. same_home k h) ks) 0)
    by true e = refl
    by false e =
        let next : 1 + position_or_len (λ k. same_home k h) ks ≡ suc (position_or_len (λ k. same_home k h) ks) = omega arith in
        e ∙ ap (slice_get (n ∷ begins_from (n + type_width k.ty) ks)) (sym next)

begins-length : (n : ℕ) (hs : List Home) → length (begins_from n hs) ≡ length hs
begins-length n [] = refl
begins-length n (h ∷ hs) = ap suc (begins-length (n + type_width h.ty) hs)

-- the first register of a home, by its number
pub register-at : (hs : List Home) (h : Home) (n : ℕ) → Some n ≡ position (λ k. same_home k h) hs
    → slice_get (begins_from 0 hs) n ≡ register_from 0 hs h
register-at hs h n at = by (nat_lt (position_or_len (λ k. same_home k h) hs) (length hs)) at
  where
    by : (b : Bool) → Some n ≡ cond b (Some (position_or_len (λ k. same_home k h) hs)) None → slice_get (begins_from 0 hs) n ≡ register_from 0 hs h
    by true e = let same : n ≡ position_or_len (λ k. same_home k h) hs = cc in ap (slice_get (begins_from 0 hs)) same ∙ sym (begins-at 0 hs h)
    by false e = absurd (cc)

pub register-none : (hs : List Home) (h : Home) → None ≡ position (λ k. same_home k h) hs → None ≡ register_from 0 hs h
register-none hs h at = by (nat_lt (position_or_len (λ k. same_home k h) hs) (length hs)) refl at
  where
    by : (b : Bool) → nat_lt (position_or_len (λ k. same_home k h) hs) (length hs) ≡ b
        → None ≡ cond b (Some (position_or_len (λ k. same_home k h) hs)) None → None ≡ register_from 0 hs h
    by true past e = absurd (cc)
    by false past e =
        sym (begins-at 0 hs h ∙ slice_get_past (begins_from 0 hs) (position_or_len (λ k. same_home k h) hs)
        (grind (arith, nat_tests, past, begins-length 0 hs)))

-- ---- arguments

-- slots that rise from a number on
data Rise : ℕ → List Home → Type 0 where
  rise_end : {n : ℕ} → Rise n []
  rise_next : {n : ℕ} (h : Home) (hs : List Home) → n ≤ h.slot → Rise (suc h.slot) hs → Rise n (h ∷ hs)

data Below : ℕ → List Home → Type 0 where
  below_end : {n : ℕ} → Below n []
  below_next : {n : ℕ} (h : Home) (hs : List Home) → h.slot < n → Below n hs → Below n (h ∷ hs)

values-rise : (slot : ℕ) (types : List Ty) → Rise slot (values_from slot types)
values-rise slot [] = rise_end
values-rise slot (IntLow ∷ types) = lower (values-rise (suc slot) types)
  where
    lower : {hs : List Home} → Rise (suc slot) hs → Rise slot hs
    lower rise_end = rise_end
    lower (rise_next h hs le rest) = rise_next h hs (omega arith) rest
values-rise slot (ty ∷ types) = rise_next (record { slot = slot; ty = ty }) (values_from (suc slot) types) (omega arith) (values-rise (suc slot) types)

absent : (n : ℕ) (before : List Home) (h : Home) → Below n before → n ≤ h.slot → list_any (λ k. same_home k h) before ≡ false
absent n [] h b le = refl
absent n (k ∷ ks) h (below_next _ _ lt rest) le = by (same_home k h) refl (absent n ks h rest le)
  where
    by : (b : Bool) → same_home k h ≡ b → list_any (λ k. same_home k h) ks ≡ false → (b || list_any (λ k. same_home k h) ks) ≡ false
    by true e none = absurd (let same : k.slot ≡ h.slot = ap (λ (x : Home). x.slot) (home-equal k h e) in omega arith)
    by false e none = none

below-more : (n m : ℕ) (before : List Home) → Below n before → n ≤ m → Below m before
below-more n m [] b le = below_end
below-more n m (h ∷ hs) (below_next _ _ lt rest) le = below_next h hs (omega arith) (below-more n m hs rest le)

below-last : (n : ℕ) (before : List Home) (h : Home) → Below n before → h.slot < n → Below n (before ++ h ∷ [])
below-last n [] h b lt = below_next h [] lt below_end
below-last n (k ∷ ks) h (below_next _ _ low rest) lt = below_next k (ks ++ h ∷ []) low (below-last n ks h rest lt)

all-kept : (n : ℕ) (before hs : List Home) → Below n before → Rise n hs → insert_all (λ (a b : Home). same_home b a) before hs ≡ before ++ hs
all-kept n before [] b rise_end = sym (append-nil before)
all-kept n before (h ∷ hs) b (rise_next _ _ le rest) =
    ap (λ c. fold (insert_key (λ (a b : Home). same_home b a)) (if c then before else before ++ h ∷ []) hs) (absent n before h b le)
    ∙ all-kept (suc h.slot) (before ++ h ∷ []) hs (below-last (suc h.slot) before h (below-more n (suc h.slot) before b (omega arith)) (omega arith)) rest
    ∙ append_assoc before (h ∷ []) hs

-- each argument stands once
pub arguments_once : (r : MethodRec)
    → insert_all (λ (a b : Home). same_home b a) (receiver_home r) (values_from (length (receiver_home r)) r.sig.args) ≡ argument_homes r
arguments_once r = by r.is_static
  where
    by : (b : Bool)
        → insert_all (λ (x y : Home). same_home y x) (if b then [] else record { slot = 0; ty = Class r.class } ∷ [])
        (values_from (length {A = Home} (if b then [] else record { slot = 0; ty = Class r.class } ∷ [])) r.sig.args)
        ≡ (if b then [] else record { slot = 0; ty = Class r.class } ∷ []) ++ values_from
        (length {A = Home} (if b then [] else record { slot = 0; ty = Class r.class } ∷ [])) r.sig.args
    by true = all-kept 0 [] (values_from 0 r.sig.args) below_end (values-rise 0 r.sig.args)
    by false =
        all-kept 1 (record { slot = 0; ty = Class r.class } ∷ []) (values_from 1 r.sig.args) (below_next _ [] (omega arith) below_end)
        (values-rise 1 r.sig.args)
