-- What homes serve for.
use Rattle.std.proofs.Common.{◌≡◌, ℕ, ◌+◌, ◌≤◌, ◌⊎◌, inl, inr, Bool, true, false, if◌then◌else◌, List, [], ◌∷◌, ◌++◌}
use Rattle.std.proofs.Common.{Option, Some, refl, sym, ◌∙◌, ap, subst, arith}
use Rattle.std.proofs.lemmas.Bool.{false≢true}
use Rattle.std.proofs.lemmas.List.Sums.{sum_by-cons}
use Rattle.std.proofs.lemmas.Option.{same_Some}
use Rattle.jc_base.specs.Each.{IsAmong}
use Rattle.jc_base.specs.World.{Linked}
use Rattle.jc_base.specs.Laws.{SameTypeDecides}
use Rattle.jc_base.proofs.Eaching.{IsAmong-append_cases}
use Rattle.jc_control.specs.Method.{Method}
use Rattle.jc_rules.specs.Demand.{Frame}
use Rattle.xf_homes.specs.declared.home.Home.{Home}
use Rattle.xf_homes.specs.Value.{type_width}
use Rattle.xf_homes.specs.Home.{PairSpot, IsMetAt, met_local, met_cell, IsHome}
use Rattle.xf_homes.specs.Order.{SlotsFollow, register_sum, AreHomes}
use Rattle.xf_homes.specs.Walk.{same_home, has, register_from}
use Rattle.xf_homes.specs.Laws.{HasRegister, Serve, HomesServe}
use Rattle.xf_homes.proofs.Events.{among-left, among-right, homes-equal, home-itself, has-among, among-has}

-- the sum of one more
sum-more : (k : Home) (ks : List Home) → register_sum (k ∷ ks) ≡ type_width k.ty + register_sum ks
unfolding register_sum
sum-more k ks = sum_by-cons (λ h. type_width h.ty) k ks

module _ (same : SameTypeDecides) where
  -- ---- registers

  among-register : (ks : List Home) (h : Home) (n : ℕ) → IsAmong h ks → (r : ℕ) × (register_from n ks h ≡ Some r)
  among-register [] h n a = absurd a
  among-register (k ∷ ks) h n a = by (same_home k h) refl a (λ b. among-register ks h (n + type_width k.ty) b)
    where
      by : (b : Bool) → same_home k h ≡ b → (k ≡ h) ⊎ IsAmong h ks
          → (IsAmong h ks → (r : ℕ) × (register_from (n + type_width k.ty) ks h ≡ Some r))
          → (r : ℕ) × ((if b then Some n else register_from (n + type_width k.ty) ks h) ≡ Some r)
      by true q a rest = (n, refl)
      by false q (inl e) rest = absurd (false≢true (sym q ∙ subst (λ j. same_home k j ≡ true) e (home-itself same k)))
      by false q (inr later) rest = rest later

  record IsRegister (n : ℕ) (ks : List Home) (h : Home) (r : ℕ) : Type 0 where
    among : IsAmong h ks
    from : n ≤ r
    to : r + type_width h.ty ≤ n + register_sum ks

  register-is : (ks : List Home) (h : Home) (n r : ℕ) → register_from n ks h ≡ Some r → IsRegister n ks h r
  register-is [] h n r e = absurd (cc)
  register-is (k ∷ ks) h n r e = by (same_home k h) refl e (λ f. register-is ks h (n + type_width k.ty) r f)
    where
      by : (b : Bool) → same_home k h ≡ b → (if b then Some n else register_from (n + type_width k.ty) ks h) ≡ Some r
          → (register_from (n + type_width k.ty) ks h ≡ Some r → IsRegister (n + type_width k.ty) ks h r) → IsRegister n (k ∷ ks) h r
      by true q f rest =
          let home : k ≡ h = homes-equal same k h q in
          let at : n ≡ r = same_Some _ _ f in
          let wide : type_width k.ty ≡ type_width h.ty = ap (λ (j : Home). type_width j.ty) home in
          record { among = inl home; from = omega arith; to = omega (arith, sum-more k ks, wide, at) }
      by false q f rest = let i = rest f in record { among = inr i.among; from = omega (arith, i.from); to = omega (arith, i.to, sum-more k ks) }

  abbrev AreApart : Home → Home → ℕ → ℕ → Type 0
  AreApart h k r s = (h ≡ k) ⊎ (r + type_width h.ty ≤ s) ⊎ (s + type_width k.ty ≤ r)

  registers-apart : (js : List Home) (h k : Home) (n r s : ℕ) → register_from n js h ≡ Some r → register_from n js k ≡ Some s → AreApart h k r s
  registers-apart [] h k n r s e f = absurd (cc)
  registers-apart (j ∷ js) h k n r s e f = by (same_home j h) (same_home j k) refl refl e f (λ p q. registers-apart js h k (n + type_width j.ty) r s p q)
    where
      first : same_home j h ≡ true → n ≡ r → register_from (n + type_width j.ty) js k ≡ Some s → r + type_width h.ty ≤ s
      first q at f =
          let i = register-is js k (n + type_width j.ty) s f in
          let wide : type_width j.ty ≡ type_width h.ty = ap (λ (x : Home). type_width x.ty) (homes-equal same j h q) in
          omega (arith, i.from, wide, at)

      second : same_home j k ≡ true → n ≡ s → register_from (n + type_width j.ty) js h ≡ Some r → s + type_width k.ty ≤ r
      second q at f = grind (arith, register-is js h (n + type_width j.ty) r f, homes-equal same j k q)

      by : (b c : Bool) → same_home j h ≡ b → same_home j k ≡ c → (if b then Some n else register_from (n + type_width j.ty) js h) ≡ Some r
          → (if c then Some n else register_from (n + type_width j.ty) js k) ≡ Some s
          → (register_from (n + type_width j.ty) js h ≡ Some r → register_from (n + type_width j.ty) js k ≡ Some s → AreApart h k r s)
          → AreApart h k r s
      by true true p q e f rest = inl (sym (homes-equal same j h p) ∙ homes-equal same j k q)
      by true false p q e f rest = inr (inl (first p (same_Some _ _ e) f))
      by false true p q e f rest = inr (inr (second q (same_Some _ _ f) e))
      by false false p q e f rest = rest e f

  -- homes that stand where their registers are
  stands-at : (ks others : List Home) (h : Home) (n : ℕ) → SlotsFollow n ks → IsAmong h ks → register_from n (ks ++ others) h ≡ Some h.slot
  stands-at [] others h n st a = absurd a
  stands-at (k ∷ ks) others h n st a = by (same_home k h) refl a (λ b. stands-at ks others h (n + type_width k.ty) st.1 b)
    where
      by : (b : Bool) → same_home k h ≡ b → (k ≡ h) ⊎ IsAmong h ks
          → (IsAmong h ks → register_from (n + type_width k.ty) (ks ++ others) h ≡ Some h.slot)
          → (if b then Some n else register_from (n + type_width k.ty) (ks ++ others) h) ≡ Some h.slot
      by true q a rest = ap Some (sym st.0 ∙ ap (λ (j : Home). j.slot) (homes-equal same k h q))
      by false q (inl e) rest = absurd (false≢true (sym q ∙ subst (λ j. same_home k j ≡ true) e (home-itself same k)))
      by false q (inr later) rest = rest later

  -- ---- the homes of a method

  module _ (w : Linked) (m : Method) (frames : ℕ → Option Frame) (homes : List Home) (are : AreHomes w m frames homes) where
    met-among : (h : Home) → (s : PairSpot) × IsMetAt w m frames s h → (b : Bool) → has are.arguments h ≡ b → IsAmong h (are.arguments ++ are.others)
    met-among h met true q = among-left h are.arguments are.others (has-among same are.arguments h q)
    met-among h met false q = among-right h are.arguments are.others
        ((are.met h).1 (met, λ argument. false≢true (sym q ∙ among-has same are.arguments h ((are.declared h).1 argument))))

    home-among : (h : Home) → IsHome w m frames h → IsAmong h homes
    home-among h is = subst (IsAmong h) (sym are.parts) (by is)
      where
        by : IsHome w m frames h → IsAmong h (are.arguments ++ are.others)
        by (inl argument) = among-left h are.arguments are.others ((are.declared h).1 argument)
        by (inr met) = met-among h met (has are.arguments h) refl

    among-home : (h : Home) → IsAmong h homes → IsHome w m frames h
    among-home h a = by (IsAmong-append_cases h are.arguments are.others (subst (IsAmong h) are.parts a))
      where
        by : IsAmong h are.arguments ⊎ IsAmong h are.others → IsHome w m frames h
        by (inl argument) = inl ((are.declared h).0 argument)
        by (inr other) = inr ((are.met h).0 other).0

    has-register : (h : Home) → IsHome w m frames h → HasRegister homes h
    has-register h is = among-register homes h 0 (home-among h is)

    serve : Serve w m frames homes
    serve = record {
      all = λ h. (λ r. among-home h (register-is homes h 0 r.0 r.1).among, has-register h);
      arguments =
          λ h argument. subst (λ ks. register_from 0 ks h ≡ Some h.slot) (sym are.parts)
          (stands-at are.arguments are.others h 0 are.stand ((are.declared h).1 argument));
      needed = λ p x ty reached n. has-register (record { slot = x; ty = ty }) (inr (record { place = p; slot = x; time = n.0 }, met_local reached n.1));
      cells = λ p i ty reached keeps at. has-register _ (inr (_, met_cell i reached keeps at));
      apart = λ h k r s e f. registers-apart homes h k 0 r s e f;
      within = λ h r e. let i = register-is homes h 0 r e in omega (arith, i.to);
    }

pub homes-serve : SameTypeDecides → (w : Linked) → HomesServe w
homes-serve same w m frames homes are = serve same w m frames homes are
