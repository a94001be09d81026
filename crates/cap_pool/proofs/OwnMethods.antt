-- The entries that name a static method of the package itself.
use Rattle.std.proofs.Common.{arith}
use Rattle.std.proofs.Common.{◌≡◌, ℕ, ◌+◌, ◌-◌, ◌*◌, Bool, cond, eqb, ltb, List, ◌∷◌, slice_index}
use Rattle.cap_pool.specs.PoolFormat.{Entry}
use Rattle.cap_pool.specs.declared.pool_record.PoolReference.{PoolReference}
use Rattle.cap_pool.specs.declared.pool_record.PoolReference.TheVariants.{Class, InstanceField, VirtualMethod, SuperMethod, StaticField, StaticMethod}
use Rattle.cap_pool.specs.declared.pool_record.StaticReference.{StaticReference}
use Rattle.cap_pool.specs.declared.pool_record.StaticReference.TheVariants.{Internal, External}
use Rattle.cap_pool.specs.PoolReference.{class_in, referred}

abbrev by_bit : Bool → List ℕ → StaticReference
by_bit low bytes =
    cond low (Internal (slice_index bytes 1 * 256 + slice_index bytes 2)) (External (slice_index bytes 0 - 128) (slice_index bytes 1) (slice_index bytes 2))

-- by the tests of the tag, and of the first byte's high bit
abbrev by_kind : (a b c d f low : Bool) → List ℕ → PoolReference
by_kind a b c d f low bytes =
    cond a (Class (class_in bytes))
    (cond b (InstanceField (class_in bytes) (slice_index bytes 2))
    (cond c (VirtualMethod (class_in bytes) (slice_index bytes 2))
    (cond d (SuperMethod (class_in bytes) (slice_index bytes 2)) (cond f (StaticField (by_bit low bytes)) (StaticMethod (by_bit low bytes))))))

-- the offset that such an entry tells, and the one that it tells with other bytes after the first
pub record IsOwn (e : Entry) (o : ℕ) (others : List ℕ) : Type 0 where
  pub told : o ≡ slice_index e.bytes 1 * 256 + slice_index e.bytes 2
  pub renewed : referred (record { tag = e.tag; bytes = slice_index e.bytes 0 ∷ others })
      ≡ StaticMethod (Internal (slice_index others 0 * 256 + slice_index others 1))

abbrev AreTold : List ℕ → ℕ → PoolReference → List ℕ → Type 0
AreTold bytes o new others =
    (o ≡ slice_index bytes 1 * 256 + slice_index bytes 2) × (new ≡ StaticMethod (Internal (slice_index others 0 * 256 + slice_index others 1)))

own_by : (a b c d f low : Bool) (bytes : List ℕ) (o x : ℕ) (others : List ℕ) → by_kind a b c d f low bytes ≡ StaticMethod (Internal o)
    → AreTold bytes o (by_kind a b c d f low (x ∷ others)) others
own_by x b c d f low bytes o x2 others h = grind (arith)

pub own-told : (e : Entry) (o : ℕ) (others : List ℕ) → referred e ≡ StaticMethod (Internal o) → IsOwn e o others
unfolding referred
own-told e o others h = grind (arith, own_by, eqb, ltb, slice_index)
