-- Methods of a world are methods of the one with more packages, with their code.
use Rattle.std.proofs.Common.{◌≡◌, ◌<◌, ℕ, zero, suc, List, [], ◌∷◌, ◌++◌, length, take, drop, refl}
use Rattle.std.proofs.Common.{arith}
use Rattle.std.proofs.lemmas.List.{length-take, length-drop}
use Rattle.jc_base.specs.Linked.{list_at}
use Rattle.jc_base.specs.World.{Linked}
use Rattle.jc_control.specs.Method.{Method, IsMethodOf}
use Rattle.card_typing.specs.Typing.{code_in_bytes}
use Rattle.card_typing.specs.Place.{IsTarget}
use Rattle.law_added.specs.Added.{Begins}
use Rattle.law_added.specs.Typings.{TypingsStay}
use Rattle.law_added.proofs.Begun.{IsBegun, method_there}
use Rattle.law_added.proofs.Worlds.{begun_list, linked-begun, worlds-begin}
use Rattle.law_added.proofs.Typings.{flow_up, card_up}

none_taken : (n len : ℕ) (xs : List ℕ) → length xs ≡ 0 → length (take len (drop n xs)) ≡ 0
none_taken n len xs e = omega (arith, length-take len (drop n xs), length-drop n xs, e)

-- what is there of a list of lists is there of a longer one
there_too : (xs ys : List (List ℕ)) (k n len : ℕ) → 0 < length (take len (drop n (list_at xs k))) → list_at (xs ++ ys) k ≡ list_at xs k
there_too [] ys k n len some = absurd (omega (arith, some, none_taken n len [] refl))
there_too (x ∷ xs) ys zero n len some = refl
there_too (x ∷ xs) ys (suc k) n len some = there_too xs ys k n len some

pub method_up : (v w : Linked) → IsBegun v w → Begins v.infos w.infos → (m : Method) → IsMethodOf v m → IsMethodOf w m
method_up v w b infos m is =
    let split = begun_list v.infos w.infos infos in
    grind (arith, split, length, there_too, drop, method_there, take)

pub typings-stay : TypingsStay
typings-stay ps qs roles v w some agreed small large =
    let b = linked-begun ps qs roles v w some agreed small large in
    let more = worlds-begin ps qs roles v w some agreed small large in
    record {
      methods = method_up v w b more.infos;
      flow = flow_up v w b;
      card = λ m regs stacks t. card_up v w b (code_in_bytes m) (IsTarget m) regs stacks t;
    }
