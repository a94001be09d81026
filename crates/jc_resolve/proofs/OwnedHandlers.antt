-- The handlers that a described method names lie in its code, since each entry of the table has one owner.
use Rattle.std.proofs.Common.{◌≡◌, ℕ, zero, suc, ◌+◌, ◌<◌, ◌≤◌, Bool, true, ltb, leb, cond, List, [], ◌∷◌, filter}
use Rattle.std.proofs.Common.{take, drop, Some, None, refl, inl, inr, arith}
use Rattle.std.specs.Prelude.{All, slice_get}
use Rattle.std.specs.List.{enumerate_from, filter_map}
use Rattle.std.proofs.lemmas.Bool.{false≢true, ltb-true, leb-true, lt-ltb, le-leb, and_parts, and_from}
use Rattle.std.proofs.lemmas.List.Elements.{All-nil, All-cons}
use Rattle.cap_method.specs.declared.read_methods.HandlerInfo.{HandlerInfo}
use Rattle.cap_desc.specs.DescriptorFormat.{MethodDescriptor}
use Rattle.cap_components.specs.declared.fault.PackFault.{PackFault}
use Rattle.cap_components.specs.declared.fault.PackFault.TheVariants.{HandlerOutside}
use Rattle.cap_package.specs.MethodChecks.{code_start, code_end}
use Rattle.cap_package.specs.HandlerChecks.{claims, owners, is_within, has_home, handler_fault, numbered_fault}
use Rattle.jc_resolve.proofs.Faultless.{IsOneOf, faultless}

-- a handler in the code of a method
pub record LiesIn (info : List ℕ) (m : MethodDescriptor) (h : HandlerInfo) : Type 0 where
  pub start : code_start info m ≤ h.start
  pub stop : h.start + h.length ≤ code_end info m
  pub entry : code_start info m ≤ h.entry
  pub before : h.entry < code_end info m

lies : (info : List ℕ) (m : MethodDescriptor) (h : HandlerInfo) → is_within info h m ≡ true → LiesIn info m h
lies info m h e = grind (arith, leb, ltb, and_parts, leb-true, ltb-true)

-- ---- one owner

kept_by : {X : Type 0} (t : X → Bool) (y : X) (ys : List X) (b : Bool) (x : X) → t y ≡ b → (x ≡ y) → t x ≡ true
    → IsOneOf (cond b (y ∷ ys) ys) x
kept_by t y ys u x e same h = grind (arith, false≢true)

kept_after : {X : Type 0} (y : X) (ys : List X) (b : Bool) (x : X) → IsOneOf ys x → IsOneOf (cond b (y ∷ ys) ys) x
kept_after y ys z x h = grind (arith)

one_kept : {X : Type 0} (t : X → Bool) (xs : List X) (x : X) → IsOneOf xs x → t x ≡ true → IsOneOf (filter t xs) x
one_kept t [] x h e = absurd h
one_kept t (y ∷ ys) x (inl same) e = kept_by t y (filter t ys) (t y) x refl same e
one_kept t (y ∷ ys) x (inr h) e = kept_after y (filter t ys) (t y) x (one_kept t ys x h e)

only_home : (info : List ℕ) (h : HandlerInfo) (ms : List MethodDescriptor) (m : MethodDescriptor) → IsOneOf ms m → has_home info h ms ≡ true
    → is_within info h m ≡ true
only_home info h z m one e = grind (arith, false≢true)

home_by : (fault : PackFault) (b : Bool) → cond b None (Some fault) ≡ None → b ≡ true
home_by fault y e = grind (arith)

claimed : (number : ℕ) (m : MethodDescriptor) → m.handler_index ≤ number → number < m.handler_index + m.handler_count → claims number m ≡ true
claimed number m low high = and_from _ _ (le-leb m.handler_index number low) (lt-ltb number (m.handler_index + m.handler_count) high)

claimed_lies : (info : List ℕ) (ms : List MethodDescriptor) (m : MethodDescriptor) (number : ℕ) (h : HandlerInfo)
    → handler_fault info ms number h ≡ None → IsOneOf ms m → claims number m ≡ true → LiesIn info m h
unfolding handler_fault owners
claimed_lies info ms m number h e one claim =
    lies info m h
    (only_home info h (filter (claims number) ms) m (one_kept (claims number) ms m one claim)
    (home_by (HandlerOutside number) (has_home info h (filter (claims number) ms)) e))

-- ---- the entries that a method names

pub entry_numbered : (hs : List HandlerInfo) (n i : ℕ) (h : HandlerInfo) → slice_get hs i ≡ Some h
    → IsOneOf {F = ℕ × HandlerInfo} (enumerate_from n hs) (n + i, h)
entry_numbered [] n i h e = absurd cc
entry_numbered (g ∷ gs) n zero h e = grind (arith)
entry_numbered (g ∷ gs) n (suc i) h e = grind (arith, suc, entry_numbered gs (n + 1) i h e)

-- the first elements, so many, after so many others
all_taken : {X : Type 0} (P : X → Type 0) (xs : List X) (index count : ℕ)
    → ((j : ℕ) (x : X) → j < count → slice_get xs (index + j) ≡ Some x → P x) → All P (take count (drop index xs))
all_taken P [] zero zero h = All-nil P
all_taken P [] zero (suc n) h = All-nil P
all_taken P [] (suc i) zero h = All-nil P
all_taken P [] (suc i) (suc n) h = All-nil P
all_taken P (x ∷ xs) zero zero h = All-nil P
all_taken P (x ∷ xs) zero (suc n) h =
    All-cons P x (take n xs) (h 0 x (omega arith) refl)
    (all_taken P xs zero n (λ j y lt e. h (suc j) y (omega arith) (let same : 0 + suc j ≡ suc (0 + j) = omega arith in rw same e)))
all_taken P (x ∷ xs) (suc i) n h =
    all_taken P xs i n (λ j y lt e. h j y lt (let same : suc i + j ≡ suc (i + j) = omega arith in rw same e))

pub handlers-lie : (info : List ℕ) (ms : List MethodDescriptor) (hs : List HandlerInfo) (m : MethodDescriptor)
    → filter_map (numbered_fault info ms) (enumerate_from 0 hs) ≡ [] → IsOneOf ms m
    → All (LiesIn info m) (take m.handler_count (drop m.handler_index hs))
handlers-lie info ms hs m none one =
    all_taken (LiesIn info m) hs m.handler_index m.handler_count (λ j h lt e.
    let number = m.handler_index + j in
    let place : 0 + number ≡ number = omega arith in
    let entry = faultless (numbered_fault info ms) (enumerate_from 0 hs) (0 + number, h) none (entry_numbered hs 0 number h e) in
    claimed_lies info ms m number h (rw place at entry) one (claimed number m (omega arith) (omega arith)))
