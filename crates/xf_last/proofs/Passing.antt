-- Methods of a world, one number after the other.
use Rattle.std.proofs.Common.{◌≡◌, ◌⊎◌, ℕ, ◌+◌, ◌<◌, ◌≤◌, length, drop, Some, slice_get, sym, subst, inl, inr, arith}
use Rattle.std.proofs.Common.{length-take}
use Rattle.std.proofs.Math.Nat.{eq-or-lt_of_le}
use Rattle.std.proofs.lemmas.Bool.{cases_lt}
use Rattle.std.proofs.lemmas.List.{length-drop}
use Rattle.std.proofs.lemmas.Option.{slice_get_within}
use Rattle.card_typing.specs.declared.fault.CardFault.{CardFault}
use Rattle.card_typing.specs.Typing.{HasCardTyping}
use Rattle.card_verify.specs.Answers.{AreAccepted, AreAcceptedBefore, IsRefusedAt}
use Rattle.jc_base.specs.declared.record.MethodRec.{MethodRec}
use Rattle.jc_base.specs.Linked.{IsMethod}
use Rattle.jc_base.specs.World.{Linked, IsWorld}
use Rattle.jc_base.proofs.Lists.{All-slice_get}
use Rattle.jc_control.specs.Asked.{AllHave, AllHaveBelow, IsOfLibrary}
use Rattle.jc_control.specs.Method.{Method, IsMethodOf, method_with}
use Rattle.xf_last.specs.Last.{BeginsLast}

-- ---- a method of the world

pub method-is : (w : Linked) (m : Method) → IsMethodOf w m → method_with w m.number m.rec ≡ m
method-is w m is = let code = sym is.code in λ i. record { number = m.number; rec = m.rec; code = code i }

pub has-code : (w : Linked) (m : Method) → IsMethodOf w m → 0 < m.rec.code_len
has-code w m is = grind (arith, length-take, drop, length)

pub method-of : (w : Linked) (n : ℕ) (r : MethodRec) → slice_get w.methods n ≡ Some r → IsMethod w.infos w.pools w.classes r → 0 < r.code_len
    → IsMethodOf w (method_with w n r)
method-of w n r at is some = grind (arith, length-take, drop, length-drop)

-- ---- what is asked of methods with code, one number after the other

module _ (w : Linked) (Asks Has : Method → Type 0) (of : (m : Method) → Asks m → IsMethodOf w m) where
  pub below-more : (n : ℕ) → AllHaveBelow Asks Has n
      → ((r : MethodRec) → slice_get w.methods n ≡ Some r → 0 < r.code_len → Has (method_with w n r))
      → AllHaveBelow Asks Has (n + 1)
  below-more n below here = λ m asked lt. by m asked (eq-or-lt_of_le (omega (arith, lt)))
    where
      by : (m : Method) → Asks m → (m.number ≡ n) ⊎ (m.number < n) → Has m
      by m asked (inr less) = below m asked less
      by m asked (inl e) =
          let at : slice_get w.methods n ≡ Some m.rec = subst (λ k. slice_get w.methods k ≡ Some m.rec) e (of m asked).rec in
          subst Has (method-is w m (of m asked))
          (subst (λ k. Has (method_with w k m.rec)) (sym e) (here m.rec at (has-code w m (of m asked))))

  pub below-all : (n : ℕ) → length w.methods ≤ n → AllHaveBelow Asks Has n → AllHave Asks Has
  below-all n le below = λ m asked. below m asked (let lt = slice_get_within w.methods m.number m.rec (of m asked).rec in omega (arith, lt, le))

-- ---- those that a card's verifier accepts, and the first that it refuses

pub below-carded : (w : Linked) (n : ℕ) → AreAcceptedBefore w n → AllHaveBelow (IsMethodOf w) (HasCardTyping w) n
below-carded w n all m is lt = subst (HasCardTyping w) (method-is w m is) (all m.number lt m.rec is.rec (has-code w m is)).card

pub all-carded : (w : Linked) → AreAccepted w → AllHave (IsMethodOf w) (HasCardTyping w)
all-carded w all m is = below-carded w (length w.methods) all m is (slice_get_within w.methods m.number m.rec is.rec)

pub refused-method : (w : Linked) → IsWorld w → (n : ℕ) (fault : CardFault) (r : IsRefusedAt w n fault) → IsMethodOf w (method_with w n r.rec)
refused-method w world n fault r =
    method-of w n r.rec r.is (All-slice_get (IsMethod w.infos w.pools w.classes) w.methods n r.rec world.methods r.is) r.has_code

-- ---- the methods of libraries

pub library-below : (w : Linked) (first : ℕ) → BeginsLast w first → (m : Method) → IsOfLibrary w m → m.number < first
library-below w first is m of = by (cases_lt m.number first)
  where
    by : (m.number < first) ⊎ (first ≤ m.number) → m.number < first
    by (inl lt) = lt
    by (inr le) = let last = is.last m.number m.rec of.method.rec le in let before = of.before in absurd (omega (arith, last, before))
