-- Where each package is checked with those before it, every method of the world that all make has a dataflow typing.
use Rattle.std.proofs.Common.{◌≡◌, ◌<◌, ◌≤◌, ◌+◌, ℕ, zero, suc, Bool, true, false, List, [], ◌∷◌, ◌++◌, length, take, drop, slice_get, Option, Some, None}
use Rattle.std.proofs.Common.{IfSome, refl, sym, ap, subst, ◌∙◌, arith, All}
use Rattle.std.specs.Prelude.{nat_lt}
use Rattle.std.proofs.lemmas.Bool.{ltb-true}
use Rattle.std.proofs.lemmas.Bool.Decides.{nat_tests}
use Rattle.std.proofs.lemmas.List.{take-append-drop, length-take, length-map}
use Rattle.cap_package.specs.PackageRecord.{PackageRecord}
use Rattle.jc_base.specs.declared.record.MethodRec.{MethodRec}
use Rattle.jc_base.specs.declared.ty.Ty.TheVariants.{Top}
use Rattle.jc_base.specs.Linked.{list_at}
use Rattle.jc_base.specs.World.{Linked}
use Rattle.jc_control.specs.Method.{Method, IsMethodOf}
use Rattle.jc_resolve.specs.Named.{IsAgreed}
use Rattle.jc_resolve.specs.NamedMethods.{named_methods, named_method}
use Rattle.jc_resolve.specs.Numbering.{NumberedMethod, numbered_methods}
use Rattle.jc_link.specs.World.{IsLinked}
use Rattle.law_sound.specs.Soundness.{AreTypedMethods, TypedCodeIsFaultFree}
use Rattle.law_added.specs.Added.{HasMore}
use Rattle.law_added.specs.Checked.{AreCheckedOneByOne, CheckedPackagesNeverFault}
use Rattle.law_added.proofs.Numbers.{methods_until, each_mapped}
use Rattle.law_added.proofs.Worlds.{begun_list, worlds-begin}
use Rattle.law_added.proofs.Stay.{typings-stay}
use Rattle.jc_base.proofs.Lists.{slice_get-left}

-- a method of packages is of one of them
homes_within : (ps : List PackageRecord) (roles : List ℕ) (i : ℕ) → IfSome (slice_get (named_methods ps roles) i) (λ m. m.«package» < length ps)
unfolding named_methods named_method
homes_within ps roles =
    each_mapped (λ (m : MethodRec). m.«package» < length ps) (named_method ps roles) (numbered_methods ps)
    (λ i. by (slice_get (numbered_methods ps) i) (methods_until 0 ps i))
  where
    by : (o : Option NumberedMethod) → IfSome o (λ m. m.home < 0 + length ps) → IfSome o (λ m. (named_method ps roles m).«package» < length ps)
    by None h = tt
    by (Some m) h = omega (arith, h)

list_begins : (xs ys : List (List ℕ)) (k : ℕ) → k < length xs → list_at (xs ++ ys) k ≡ list_at xs k
list_begins [] ys k lt = absurd (omega (arith, lt))
list_begins (x ∷ xs) ys zero lt = refl
list_begins (x ∷ xs) ys (suc k) lt = list_begins xs ys k (omega (arith, lt))

-- a method of the larger world whose package is in the smaller one is a method of that
method_down : (v w : Linked) → HasMore v w → (m : Method) → IsMethodOf w m → m.rec.«package» < length v.infos → IsMethodOf v m
method_down v w more m is lt =
    let there = by (nat_lt m.number (length v.methods)) refl in
    let infos : list_at w.infos m.rec.«package» ≡ list_at v.infos m.rec.«package» =
    ap (λ xs. list_at xs m.rec.«package») (begun_list v.infos w.infos more.infos)
    ∙ list_begins v.infos (drop (length v.infos) w.infos) m.rec.«package» lt in
    record {
      rec = there;
      code = is.code ∙ ap (λ bytes. take m.rec.code_len (drop m.rec.code_at bytes)) infos;
      filled = is.filled;
    }
  where
    by : (b : Bool) → nat_lt m.number (length v.methods) ≡ b → slice_get v.methods m.number ≡ Some m.rec
    by true e =
        sym (slice_get-left v.methods (drop (length v.methods) w.methods) m.number (ltb-true m.number (length v.methods) e))
        ∙ sym (ap (λ ms. slice_get ms m.number) (begun_list v.methods w.methods more.methods)) ∙ is.rec
    by false e =
        let past = subst (λ o. IfSome o (λ x. length v.infos ≤ x.«package»)) is.rec (more.later m.number (grind (arith, nat_tests, e))) in
        absurd (omega (arith, past, lt))

typed-all : (ps : List PackageRecord) (roles : List ℕ) (w : Linked) → 0 < length roles → All IsAgreed ps → IsLinked ps roles w
    → AreCheckedOneByOne ps roles → AreTypedMethods w Top
typed-all ps roles w some agreed linked checked m is =
    let of_all = subst (λ ms. IfSome (slice_get ms m.number) (λ x. x.«package» < length ps)) (sym linked.lists.methods) (homes_within ps roles m.number) in
    let home : m.rec.«package» < length ps = subst (λ o. IfSome o (λ x. x.«package» < length ps)) is.rec of_all in
    let k = m.rec.«package» + 1 in
    let one = checked k (omega arith) (omega (arith, home)) in
    let parts : take k ps ++ drop k ps ≡ ps = take-append-drop k ps in
    let agreed_all = subst (All IsAgreed) (sym parts) agreed in
    let large = subst (λ qs. IsLinked qs roles w) (sym parts) linked in
    let more = worlds-begin (take k ps) (drop k ps) roles one.world w some agreed_all one.linked large in
    let keeps = typings-stay (take k ps) (drop k ps) roles one.world w some agreed_all one.linked large in
    let taken = length-take k ps in
    let size : length one.world.infos ≡ k = ap length one.linked.lists.infos ∙ length-map (take k ps) _
    ∙ (let e : length (take k ps) ≡ k = omega (arith, taken, home) in e) in
    grind (arith, more, keeps, size, length, method_down)

pub checked-never-fault : (w : Linked) → TypedCodeIsFaultFree w → CheckedPackagesNeverFault w
checked-never-fault w sound ps roles some agreed linked checked = sound Top (typed-all ps roles w some agreed linked checked)
