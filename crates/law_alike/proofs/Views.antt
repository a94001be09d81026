-- Operations that are alike, one case for each way in which they differ.
use Rattle.std.proofs.Common.{ℕ, ap, ◌≡◌, List, arith}
use Rattle.std.specs.Prelude.{ℤ, ⊤}
use Rattle.jc_base.specs.declared.record.MethodRec.{MethodRec}
use Rattle.jc_base.specs.World.{Linked}
use Rattle.jc_ops.specs.declared.operation.Sort.{Sort}
use Rattle.jc_ops.specs.declared.operation.Width.{Width}
use Rattle.jc_ops.specs.declared.operation.Operation.{Operation}
use Rattle.jc_ops.specs.declared.operation.Operation.TheVariants as ops
use Rattle.jc_ops.specs.Alike.{IsAlike, equal, loads, stores, increments}
use Rattle.jc_ops.specs.Sound.{IsSound}
use Rattle.jc_ops.specs.Next.{falls_from}
use Rattle.jc_rules.specs.Rule.{demands}
use Rattle.law_laid.proofs.Operations.{operation_renamed}
use Rattle.law_alike.specs.Alike.{renamed_new}
use Rattle.law_alike.specs.Running.{HaveKeys}

abbrev pub IsNoNew : Operation → Type 0
IsNoNew (ops.New p class) = ⊥
IsNoNew op = ⊤

pub data View (f : ℕ → ℕ) : Operation → Operation → Type 0 where
  same_op : (op : Operation) → IsNoNew op → View f op op
  new_ops : (p class : ℕ) → View f (ops.New p class) (ops.New (f p) class)
  load_ops : (sort : Sort) (x y : ℕ) → View f (ops.Load sort x) (ops.Load sort y)
  store_ops : (sort : Sort) (x y : ℕ) → View f (ops.Store sort x) (ops.Store sort y)
  increment_ops : (width : Width) (x y : ℕ) (amount : ℤ) → View f (ops.Increment width x amount) (ops.Increment width y amount)

pub view : (f : ℕ → ℕ) (a b : Operation) → IsAlike (renamed_new f a) b → View f a b
view f (ops.Load sort x) _ equal = load_ops sort x x
view f (ops.Load sort x) _ (loads {y = y}) = load_ops sort x y
view f (ops.Store sort x) _ equal = store_ops sort x x
view f (ops.Store sort x) _ (stores {y = y}) = store_ops sort x y
view f (ops.Increment width x amount) _ equal = increment_ops width x x amount
view f (ops.Increment width x amount) _ (increments {y = y}) = increment_ops width x y amount
view f (ops.New p class) _ equal = new_ops p class
view f (ops.Constant c) _ equal = same_op (ops.Constant c) tt
view f (ops.Move move) _ equal = same_op (ops.Move move) tt
view f (ops.Arithmetic a) _ equal = same_op (ops.Arithmetic a) tt
view f (ops.ArrayRead kind) _ equal = same_op (ops.ArrayRead kind) tt
view f (ops.ArrayWrite kind) _ equal = same_op (ops.ArrayWrite kind) tt
view f ops.ArrayLength _ equal = same_op ops.ArrayLength tt
view f (ops.Branch branch) _ equal = same_op (ops.Branch branch) tt
view f (ops.Switch width) _ equal = same_op (ops.Switch width) tt
view f (ops.StaticRead field) _ equal = same_op (ops.StaticRead field) tt
view f (ops.StaticWrite field) _ equal = same_op (ops.StaticWrite field) tt
view f (ops.FieldRead field holder) _ equal = same_op (ops.FieldRead field holder) tt
view f (ops.FieldWrite field holder) _ equal = same_op (ops.FieldWrite field holder) tt
view f (ops.Call callee) _ equal = same_op (ops.Call callee) tt
view f (ops.NewArray ty) _ equal = same_op (ops.NewArray ty) tt
view f ops.Throw _ equal = same_op ops.Throw tt
view f (ops.TypeTest test ty) _ equal = same_op (ops.TypeTest test ty) tt
view f (ops.Return result) _ equal = same_op (ops.Return result) tt

pub sound-view :
    (w : Linked) (m : MethodRec) (f : ℕ → ℕ) (place : ℕ) (a b : Operation) → View f a b → IsSound w m place a
    → IsSound w m (f place) b
sound-view w m f place _ _ (same_op op n) h = grind (arith)
sound-view w m f place _ _ (new_ops p class) h = (ap f h.0, h.1)
sound-view w m f place _ _ (load_ops _ x y) h = tt
sound-view w m f place _ _ (store_ops _ x y) h = tt
sound-view w m f place _ _ (increment_ops width x y amount) h = tt

-- ---- an operation with its `new` at another place

pub same-new : (f : ℕ → ℕ) (op : Operation) → operation_renamed f op ≡ renamed_new f op
same-new f y = grind (arith)

pub demands-new : (v : Linked) (f : ℕ → ℕ) (op : Operation) → demands v (renamed_new f op) ≡ demands v op
demands-new v f z = grind (arith)

pub falls-new : (f : ℕ → ℕ) (op : Operation) → falls_from (renamed_new f op) ≡ falls_from op
falls-new f y = grind (arith)

pub have-keys : (op : Operation) (xs ys : List ℤ) → xs ≡ ys → HaveKeys op xs ys
have-keys x xs ys e = grind (arith)
