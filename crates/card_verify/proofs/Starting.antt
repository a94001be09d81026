-- The registers with which a method starts, one by one.
use Rattle.std.proofs.Common.{◌≡◌, ℕ, zero, suc, ◌+◌, ◌-◌, ◌<◌, ◌≤◌, ⊎_elim, Bool, true, false, if◌then◌else◌, List, []}
use Rattle.std.proofs.Common.{◌∷◌, ◌++◌, length, get_or, set, replicate, refl, arith}
use Rattle.std.proofs.lemmas.Bool.{cases_eq}
use Rattle.std.proofs.lemmas.List.{ext_get_or, get_or-set_same, get_or-set_other}
use Rattle.jc_base.specs.declared.ty.Ty.{Ty}
use Rattle.jc_base.specs.declared.ty.Ty.TheVariants.{Bottom, Class}
use Rattle.jc_base.specs.declared.record.MethodRec.{MethodRec}
use Rattle.jc_base.specs.Linked.{receiver_words}
use Rattle.jc_rules.specs.Flow.{start_frame}

no-value : (k n : ℕ) → get_or (replicate k Bottom) n Bottom ≡ Bottom
no-value zero n = refl
no-value (suc k) zero = refl
no-value (suc k) (suc n) = no-value k n

argument-or : (args : List Ty) (k n : ℕ) → get_or (args ++ replicate k Bottom) n Bottom ≡ get_or args n Bottom
argument-or [] k n = no-value k n
argument-or (ty ∷ tys) k zero = refl
argument-or (ty ∷ tys) k (suc n) = argument-or tys k n

-- the register of a static method
pub start-static : (r : MethodRec) (x : ℕ) → r.is_static ≡ true → get_or (start_frame r Bottom).regs x Bottom ≡ get_or r.sig.args x Bottom
start-static r x e = grind (arith, get_or, replicate, argument-or)

pub start-argument : (r : MethodRec) (x : ℕ) → r.is_static ≡ false → ¬ (x ≡ 0) → get_or (start_frame r Bottom).regs x Bottom
    ≡ get_or r.sig.args (x - 1) Bottom
start-argument r zero e other = absurd (other refl)
start-argument r (suc n) e other = grind (arith, suc, get_or, replicate, argument-or)

-- one more register is as it starts
pub started-more : (start regs : List Ty) (x : ℕ) (ty : Ty) → x < length regs → ty ≡ get_or start x Bottom
    → ((k : ℕ) → k < x → get_or regs k Bottom ≡ get_or start k Bottom)
    → (k : ℕ) → k < x + 1 → get_or (set regs x ty) k Bottom ≡ get_or start k Bottom
started-more start regs x ty inside is so_far k lt = grind (arith, ⊎_elim, get_or, set, get_or-set_same, get_or-set_other, cases_eq)

pub started-all : (start regs : List Ty) (x : ℕ) → length regs ≡ length start → length regs ≤ x
    → ((k : ℕ) → k < x → get_or regs k Bottom ≡ get_or start k Bottom) → regs ≡ start
started-all start regs x count all so_far = ext_get_or Bottom regs start count (λ k lt. so_far k (omega arith))

pub receiver-length : (b : Bool) (c : ℕ) → length (if b then [] else Class c ∷ []) ≡ receiver_words b
receiver-length x c = grind (arith)
