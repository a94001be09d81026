-- A frame, and the state, in which one part is another.
use Rattle.std.proofs.Common.{◌≡◌, ℕ, ◌+◌, ◌-◌, ◌<◌, List, ◌++◌, length, drop, set, get_or, sym, ◌∙◌, ap, arith}
use Rattle.std.proofs.lemmas.List.{take_at, length-set, set-append_left, set-append_right, get_or_default, get_or_append_left}
use Rattle.std.specs.List.{refill}
use Rattle.vm_store.specs.State.{Frame}

pub restacked :
    {A : Type 0} (m p : ℕ) (rs ss ts us : List A) (f : Frame A)
    → record { method = m; place = p; registers = rs; stack = ss } ≡ f → ts ≡ us
    → record { method = m; place = p; registers = rs; stack = ts } ≡ record f { stack = us }
restacked {A} m p rs ss ts us f e h = grind (arith)

-- a list whose elements were written through a slice of them all
pub refilled : {A : Type 0} (xs ws : List A) → length ws ≡ length xs → refill (length xs) xs ws ≡ ws
refilled xs ws e = take_at ws (drop (length ws) xs) (length xs) e

-- two neighbours are written in the two parts of a list that lie before and after them
pub set_neighbours :
    {A : Type 0} (xs before after : List A) (n : ℕ) (v w : A)
    → xs ≡ before ++ after → length before ≡ n + 1 → set before n v ++ set after 0 w ≡ set (set xs n v) (n + 1) w
set_neighbours xs before after n v w parts len =
    let lt : n < length before = omega (arith, len) in
    let len' : length (set before n v) ≡ n + 1 = length-set before n v ∙ len in
    let none : n + 1 - (n + 1) ≡ 0 = omega arith in
    sym
    (ap (λ ys. set (set ys n v) (n + 1) w) parts
    ∙ (ap (λ ys. set ys (n + 1) w) (set-append_left before after n v lt)
    ∙ (set-append_right (set before n v) after (n + 1) (n + 1) w len' (omega arith) ∙ ap (λ k. set before n v ++ set after k w) none)))

-- a read from the first of two parts
pub read_before :
    {A : Type 0} (xs before after : List A) (n : ℕ) (x d : A)
    → xs ≡ before ++ after → n < length before → get_or before n x ≡ get_or xs n d
read_before xs before after n x d parts lt = grind (arith, get_or_default, get_or_append_left, get_or)
