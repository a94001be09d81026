-- The files of tags, one after another.
use Rattle.std.proofs.Common.{◌≡◌, ℕ, suc, ◌+◌, ◌-◌, ◌<◌, ◌≤◌, List, ◌++◌, sym, ap}
use Rattle.std.proofs.Common.{◌∙◌, arith, append_assoc}
use Rattle.std.proofs.lemmas.List.{append-nil}
use Rattle.std.specs.List.{flat_map}
use Rattle.cap_load.specs.Joining.{counted_from}

pub customs_step : (f : ℕ → List ℕ) (items new whole : List ℕ) (tag : ℕ) → tag < 256
    → items ++ flat_map f (counted_from tag (256 - tag)) ≡ whole → new ≡ items ++ f tag
    → new ++ flat_map f (counted_from (tag + 1) (256 - (tag + 1))) ≡ whole
unfolding counted_from
customs_step f items new whole tag h e n =
    let left : 256 - tag ≡ suc (256 - (tag + 1)) = omega arith in
    let next : suc tag ≡ tag + 1 = omega arith in
    let opened : flat_map f (counted_from tag (256 - tag)) ≡ f tag ++ flat_map f (counted_from (suc tag) (256 - (tag + 1))) =
    ap (λ (n : ℕ). flat_map f (counted_from tag n)) left in
    ap (λ (x : List ℕ). x ++ flat_map f (counted_from (tag + 1) (256 - (tag + 1)))) n
    ∙ append_assoc items (f tag) (flat_map f (counted_from (tag + 1) (256 - (tag + 1))))
    ∙ ap (λ (x : ℕ). items ++ (f tag ++ flat_map f (counted_from x (256 - (tag + 1))))) (sym next)
    ∙ ap (λ (x : List ℕ). items ++ x) (sym opened) ∙ e

pub customs_end : (f : ℕ → List ℕ) (items whole : List ℕ) (tag : ℕ) → 256 ≤ tag → items ++ flat_map f (counted_from tag (256 - tag))
    ≡ whole → items ≡ whole
unfolding counted_from
customs_end f items whole tag h e = grind (arith, append-nil)
