-- Numbers that lead to others by steps, as a class leads to its superclass and an interface to those that it extends
-- (JCVM 2.2, sections 2.2.1 and 6.8).
use Rattle.std.specs.Prelude.{ℕ, zero, suc, Bool, ◌==◌, ◌||◌, ◌&&◌, List, Contains}
use Rattle.std.specs.List.{list_any}

-- a number leads to another by one step or by more
pub data Leads (next : ℕ → List ℕ) : ℕ → ℕ → Type 0 where
  at_once : {a b : ℕ} → Contains (next a) b → Leads next a b
  further : {a b c : ℕ} → Contains (next a) b → Leads next b c → Leads next a c

-- the same as it is computed: whether a number leads to another by steps over numbers below n alone
unfoldable pub leads_below : (ℕ → List ℕ) → ℕ → ℕ → ℕ → Bool
leads_below next zero a b = list_any (λ x. x == b) (next a)
leads_below next (suc n) a b = leads_below next n a b || (leads_below next n a n && leads_below next n n b)
