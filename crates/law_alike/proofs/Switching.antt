-- Switches in two states that are alike: equal keys choose targets of the same number.
use Rattle.std.proofs.Common.{◌≡◌, ℕ, suc, Bool, true, false, cond, List, [], ◌∷◌, map, refl, sym, ap, ◌∙◌, subst, arith}
use Rattle.std.specs.Prelude.{ℤ, Option, Some, None, find, slice_get}
use Rattle.jc_decode.specs.declared.insn.Insn.{Insn}
use Rattle.jc_decode.specs.declared.insn.Case.{Case}
use Rattle.jc_decode.specs.Cases.{cases}
use Rattle.jc_decode.specs.Listing.{target}
use Rattle.jc_ops.specs.declared.operation.Width.{Width}
use Rattle.vm_store.specs.Cells.{tagged}
use Rattle.vm_step.specs.Act.{jumps}
use Rattle.vm_step.specs.Branching.{has_key, case_offset, switch_act}
use Rattle.vm_step.specs.Numbers.{number_on, number_width, dropped}
use Rattle.law_alike.proofs.Cells.{number-is}
use Rattle.law_alike.proofs.Twins.{Pair, first, second, Does}
use Rattle.law_alike.proofs.Acting.{leads-does}

-- where a switch leads: to the default, then by its cases
abbrev pub ways : ℕ → ℤ → List Case → List ℤ
ways p default cs = target p default ∷ map (λ (c : Case). target p c.offset) cs

-- the case of a key in the one switch and in the other: none, or those of one number
data Found (p q : ℕ) (cs ds : List Case) (a b : Option Case) : Type 0 where
  neither : a ≡ None → b ≡ None → Found p q cs ds a b
  both :
      (n : ℕ) (c d : Case) → a ≡ Some c → b ≡ Some d
      → slice_get (map (λ (e : Case). target p e.offset) cs) n ≡ Some (target p c.offset)
      → slice_get (map (λ (e : Case). target q e.offset) ds) n ≡ Some (target q d.offset)
      → Found p q cs ds a b

found-later :
    (p q : ℕ) (c d : Case) (cs ds : List Case) (a b : Option Case) → Found p q cs ds a b → Found p q (c ∷ cs) (d ∷ ds) a b
found-later p q c d cs ds a b (neither e g) = neither e g
found-later p q c d cs ds a b (both n x y e g h k) = both (suc n) x y e g h k

found-alike :
    (p q : ℕ) (key : ℤ) (cs ds : List Case) → map (λ (c : Case). c.key) cs ≡ map (λ (c : Case). c.key) ds
    → Found p q cs ds (find (has_key key) cs) (find (has_key key) ds)
found-alike p q key [] [] e = neither refl refl
found-alike p q key [] (d ∷ ds) e = absurd (cc)
found-alike p q key (c ∷ cs) [] e = absurd (cc)
found-alike p q key (c ∷ cs) (d ∷ ds) e =
    let head : c.key ≡ d.key = cc in
    let tail : map (λ (c : Case). c.key) cs ≡ map (λ (c : Case). c.key) ds = cc in
    let same : has_key key c ≡ has_key key d = cc in
    subst (λ r. Found p q (c ∷ cs) (d ∷ ds) (cond (has_key key c) (Some c) (find (has_key key) cs))
    (cond r (Some d) (find (has_key key) ds))) same
    (go (has_key key c) (found-alike p q key cs ds tail))
  where
    go : (r : Bool) → Found p q cs ds (find (has_key key) cs) (find (has_key key) ds)
        → Found p q (c ∷ cs) (d ∷ ds) (cond r (Some c) (find (has_key key) cs)) (cond r (Some d) (find (has_key key) ds))
    go true rest = both 0 c d refl refl refl refl
    go false rest = found-later p q c d cs ds (find (has_key key) cs) (find (has_key key) ds) rest

-- the way of one number that both take
record Leads (p q : ℕ) (x y : ℤ) (cs ds : List Case) (a b : Option Case) : Type 0 where
  number : ℕ
  here : slice_get (ways p x cs) number ≡ Some (target p (case_offset x a))
  there : slice_get (ways q y ds) number ≡ Some (target q (case_offset y b))

leads-alike : (p q : ℕ) (x y : ℤ) (cs ds : List Case) (a b : Option Case) → Found p q cs ds a b → Leads p q x y cs ds a b
leads-alike p q x y cs ds a b (neither e g) = grind (arith)
leads-alike p q x y cs ds a b (both n c d e g h k) = record {
  number = suc n;
  here = h ∙ ap (λ o. Some (target p (case_offset x o))) (sym e);
  there = k ∙ ap (λ o. Some (target q (case_offset y o))) (sym g);
}

module _ (x : Pair) where
  pub switch-does :
      (code other : List ℕ) (i j : Insn) (width : Width)
      → x.print.written ≡ 0
      → map (λ (c : Case). c.key) (cases code x.frame.place i) ≡ map (λ (c : Case). c.key) (cases other x.place j)
      → x.targets ≡ ways x.frame.place i.x (cases code x.frame.place i)
      → x.other_targets ≡ ways x.place j.x (cases other x.place j)
      → Does x (switch_act tagged code i width (first x)) (switch_act tagged other j width (second x))
  switch-does code other i j width none keys led also =
      let n : ℤ = number_on tagged width x.frame.stack in
      let cs = cases code x.frame.place i in
      let ds = cases other x.place j in
      let way = leads-alike x.frame.place x.place i.x j.x cs ds (find (has_key n) cs) (find (has_key n) ds)
      (found-alike x.frame.place x.place n cs ds keys) in
      subst
      (λ k. Does x (switch_act tagged code i width (first x))
      (jumps (target x.place (case_offset j.x (find (has_key k) ds))) (dropped (second x) (number_width width))))
      (sym (number-is x.rename width x.frame.stack))
      (leads-does x none true true way.number (number_width width) (target x.frame.place (case_offset i.x (find (has_key n) cs)))
      (target x.place (case_offset j.x (find (has_key n) ds))) refl (λ e. absurd (cc))
      (ap (λ ts. slice_get ts way.number) led ∙ way.here) (ap (λ ts. slice_get ts way.number) also ∙ way.there))
