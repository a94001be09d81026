-- A frame in its words, and what a write to them does to it.
use Rattle.std.proofs.Common.{◌≡◌, ◌≢◌, ℕ, ◌+◌, ◌-◌, ◌<◌, ◌≤◌, List, [], ◌∷◌, ◌++◌, length, take, drop, reverse}
use Rattle.std.proofs.Common.{replicate, set, get_or, sym, ◌∙◌, ap, inl, inr, refl, arith, length-drop, length-take, length-set}
use Rattle.std.proofs.lemmas.List.{take_more, take_more_set, take-set-le, take_all, take_at, take-append-le, take-append-drop, drop_at, drop-drop, drop-take}
use Rattle.std.proofs.lemmas.List.{drop-set-lt, drop-set-add, drop-append-le, get_or-set_other, get_or-set_same, get_or-reverse, get_or-take, get_or-drop}
use Rattle.std.proofs.lemmas.List.{get_or_append_left, get_or-append_right, get_or-replicate, get_or_past, reverse-append, reverse-reverse, length-reverse}
use Rattle.std.proofs.lemmas.List.{length-append, length-replicate, take-take}
use Rattle.std.proofs.lemmas.Bool.{cases_lt}
use borrow.Rule.Slice.PartMut.{put_mid}
use Rattle.jc_base.specs.declared.record.MethodRec.{MethodRec}
use Rattle.vm_store.proofs.Stacks.{take-reverse, drop-reverse}
use Rattle.vm_store.proofs.Heaps.{set-take}
use Rattle.vm_store.specs.Cells.{words}
use Rattle.vm_store.specs.State.{register_count, arguments, entered}
use Rattle.vm_offend.specs.Words.{frame_in, FitsWindow}

module _ (methods : List MethodRec) (ws : List ℕ) (len : length ws ≡ 513) (fits : FitsWindow methods ws) where
  depth : ℕ
  depth = get_or ws 2 0

  stack : List ℕ
  stack = take (get_or ws 2 0) (drop 258 ws)

  pub length-stack : length (take (get_or ws 2 0) (drop 258 ws)) ≡ get_or ws 2 0
  length-stack = let d : get_or ws 2 0 ≤ 255 = fits.stack in omega (arith, length-take (get_or ws 2 0) (drop 258 ws), length-drop 258 ws)

  pub depth_is : get_or ws 2 0 ≡ length (frame_in methods ws).stack
  depth_is = sym (length-reverse (take (get_or ws 2 0) (drop 258 ws)) ∙ length-stack)

  pub cell_is : (n : ℕ) → n < length (frame_in methods ws).stack → get_or ws (258 + get_or ws 2 0 - 1 - n) 0 ≡ get_or (frame_in methods ws).stack n 0
  cell_is n h =
      let d : get_or ws 2 0 ≤ 255 = fits.stack in
      let lt : n < get_or ws 2 0 = omega (arith, depth_is) in
      let xs = take (get_or ws 2 0) (drop 258 ws) in
      let within : n < length xs = omega (arith, length-stack) in
      let at : length xs - 1 - n ≡ get_or ws 2 0 - 1 - n = ap (λ k. k - 1 - n) length-stack in
      let last : get_or ws 2 0 - 1 - n < get_or ws 2 0 = omega arith in
      let place : 258 + (get_or ws 2 0 - 1 - n) ≡ 258 + get_or ws 2 0 - 1 - n = omega arith in
      sym
      (get_or-reverse xs n 0 within
      ∙ (ap (λ k. get_or xs k 0) at
      ∙ (get_or-take (get_or ws 2 0) (drop 258 ws) (get_or ws 2 0 - 1 - n) 0 last
      ∙ (get_or-drop 258 ws (get_or ws 2 0 - 1 - n) 0 ∙ ap (λ k. get_or ws k 0) place))))

  pub placed : (place : ℕ) → frame_in methods (set ws 1 place) ≡ record (frame_in methods ws) { place = place }
  placed place = grind (arith, get_or, set, get_or-set_other, get_or-set_same, drop, drop-set-lt)

  module _ (cell : ℕ) (room : length (frame_in methods ws).stack < 255) where
    pub below : get_or ws 2 0 < 255
    below = omega (arith, depth_is)

    kept : (k : ℕ) → k < 258 → k ≢ 2 → get_or (set (set ws (258 + get_or ws 2 0) cell) 2 (get_or ws 2 0 + 1)) k 0 ≡ get_or ws k 0
    kept k h ne = grind (arith, get_or, get_or-set_other, set)

    deeper : get_or (set (set ws (258 + get_or ws 2 0) cell) 2 (get_or ws 2 0 + 1)) 2 0 ≡ get_or ws 2 0 + 1
    deeper = grind (arith, length, set, get_or, length-set, get_or-set_same)

    registers_kept :
        (n : ℕ) → n ≤ 255 → take n (drop 3 (set (set ws (258 + get_or ws 2 0) cell) 2 (get_or ws 2 0 + 1))) ≡ take n (drop 3 ws)
    registers_kept n h = grind (arith, get_or, take, drop-set-lt, set, drop, drop-set-add, take-set-le)

    stack_is :
        reverse (take (get_or ws 2 0 + 1) (drop 258 (set (set ws (258 + get_or ws 2 0) cell) 2 (get_or ws 2 0 + 1))))
        ≡ cell ∷ reverse (take (get_or ws 2 0) (drop 258 ws))
    stack_is =
        let lt : get_or ws 2 0 < length (drop 258 ws) = omega (arith, length-drop 258 ws, below) in
        ap (λ xs. reverse (take (get_or ws 2 0 + 1) xs)) (drop-set-lt 258 (set ws (258 + get_or ws 2 0) cell) 2 (get_or ws 2 0 + 1) (omega arith))
        ∙ (ap (λ xs. reverse (take (get_or ws 2 0 + 1) xs)) (drop-set-add 258 ws (get_or ws 2 0) cell)
        ∙ (ap reverse (take_more_set (drop 258 ws) (get_or ws 2 0) cell lt)
        ∙ reverse-append (take (get_or ws 2 0) (drop 258 ws)) (cell ∷ [])))

    pub pushed :
        frame_in methods (set (set ws (258 + get_or ws 2 0) cell) 2 (get_or ws 2 0 + 1))
        ≡ record (frame_in methods ws) { stack = cell ∷ (frame_in methods ws).stack }
    pushed = grind (arith, set, get_or, kept, deeper, take, drop, registers_kept, stack_is)

    pub pushed_fits : FitsWindow methods (set (set ws (258 + get_or ws 2 0) cell) 2 (get_or ws 2 0 + 1))
    pushed_fits = grind (arith, get_or, set, kept, stack, deeper, below)

  -- ---- cells taken from the stack

  module _ (count : ℕ) (there : count ≤ length (frame_in methods ws).stack) where
    enough : count ≤ get_or ws 2 0
    enough = omega (arith, depth_is)

    pub dropped : frame_in methods (set ws 2 (get_or ws 2 0 - count)) ≡ record (frame_in methods ws) { stack = drop count (frame_in methods ws).stack }
    dropped =
        let d = get_or ws 2 0 in
        let m : get_or (set ws 2 (d - count)) 0 0 ≡ get_or ws 0 0 = get_or-set_other ws 2 0 (d - count) 0 (omega arith) in
        let p : get_or (set ws 2 (d - count)) 1 0 ≡ get_or ws 1 0 = get_or-set_other ws 2 1 (d - count) 0 (omega arith) in
        let n : get_or (set ws 2 (d - count)) 2 0 ≡ d - count = get_or-set_same ws 2 (d - count) 0 (omega arith) in
        let regs : drop 3 (set ws 2 (d - count)) ≡ drop 3 ws = drop-set-lt 3 ws 2 (d - count) (omega arith) in
        let cells : drop 258 (set ws 2 (d - count)) ≡ drop 258 ws = drop-set-lt 258 ws 2 (d - count) (omega arith) in
        let xs = take d (drop 258 ws) in
        let few : count ≤ length xs = omega (arith, length-stack, enough) in
        let cut : drop count (reverse xs) ≡ reverse (take (d - count) (drop 258 ws)) =
        drop-reverse xs count few
        ∙ (ap (λ k. reverse (take (k - count) xs)) length-stack ∙ ap reverse (take-take (d - count) d (drop 258 ws) (omega arith))) in
        cc

    pub dropped_fits : FitsWindow methods (set ws 2 (get_or ws 2 0 - count))
    dropped_fits = grind (arith, get_or, stack, set, get_or-set_other, get_or-set_same)

  -- ---- registers

  pub register_within : (x : ℕ) → x < length (frame_in methods ws).registers → x < 255
  register_within x h = grind (arith, get_or, length-take, drop)

  pub register_is : (x : ℕ) → x < length (frame_in methods ws).registers → get_or ws (3 + x) 0 ≡ get_or (frame_in methods ws).registers x 0
  register_is x h = grind (arith, get_or, length-take, drop, get_or-take, get_or-drop)

  module _ (x cell : ℕ) (there : x < length (frame_in methods ws).registers) where
    same_word : (k : ℕ) → k < 3 → get_or (set ws (3 + x) cell) k 0 ≡ get_or ws k 0
    same_word k h = get_or-set_other ws (3 + x) k cell 0 (omega arith)

    pub registered : frame_in methods (set ws (3 + x) cell) ≡ record (frame_in methods ws) { registers = set (frame_in methods ws).registers x cell }
    registered =
        let c = register_count methods (get_or ws 0 0) in
        let few : x < 255 = register_within x there in
        let m : get_or (set ws (3 + x) cell) 0 0 ≡ get_or ws 0 0 = same_word 0 (omega arith) in
        let p : get_or (set ws (3 + x) cell) 1 0 ≡ get_or ws 1 0 = same_word 1 (omega arith) in
        let d : get_or (set ws (3 + x) cell) 2 0 ≡ get_or ws 2 0 = same_word 2 (omega arith) in
        let cells : drop 258 (set ws (3 + x) cell) ≡ drop 258 ws = drop-set-lt 258 ws (3 + x) cell (omega arith) in
        let regs : take c (drop 3 (set ws (3 + x) cell)) ≡ set (take c (drop 3 ws)) x cell =
        ap (take c) (drop-set-add 3 ws x cell) ∙ set-take c (drop 3 ws) x cell in
        cc

    pub registered_fits : FitsWindow methods (set ws (3 + x) cell)
    registered_fits = grind (arith, same_word, stack)

  -- ---- the stack as a part of the words

  front : length (take 258 ws) ≡ 258
  front = omega (arith, length-take 258 ws)

  -- the words before the stack are the same, whatever follows them
  word_before : (rest : List ℕ) (k : ℕ) → k < 258 → get_or (take 258 ws ++ rest) k 0 ≡ get_or ws k 0
  word_before rest k h = get_or_append_left (take 258 ws) rest 0 k (omega (arith, front)) ∙ get_or-take 258 ws k 0 h

  registers_before : (rest : List ℕ) (c : ℕ) → c ≤ 255 → take c (drop 3 (take 258 ws ++ rest)) ≡ take c (drop 3 ws)
  registers_before rest c h =
      let least : 3 ≤ length (take 258 ws) = omega (arith, front) in
      let few : c ≤ length (drop 3 (take 258 ws)) = omega (arith, front, length-drop 3 (take 258 ws)) in
      let cut : (zs : List ℕ) → take c (drop 3 (take 258 ws ++ zs)) ≡ take c (drop 3 (take 258 ws)) =
      λ zs. ap (take c) (drop-append-le 3 (take 258 ws) zs least) ∙ take-append-le c (drop 3 (take 258 ws)) zs few in
      cut rest ∙ (sym (cut (drop 258 ws)) ∙ ap (λ zs. take c (drop 3 zs)) (take-append-drop 258 ws))

  module _ (ys : List ℕ) (n : ℕ) (size : length ys ≡ get_or ws 2 0) where
    pub restacked : frame_in methods (put_mid 258 n ws ys) ≡ record (frame_in methods ws) { stack = reverse ys }
    restacked =
        let rest = ys ++ drop n (drop 258 ws) in
        let ws' = take 258 ws ++ rest in
        let m : get_or ws' 0 0 ≡ get_or ws 0 0 = word_before rest 0 (omega arith) in
        let p : get_or ws' 1 0 ≡ get_or ws 1 0 = word_before rest 1 (omega arith) in
        let d : get_or ws' 2 0 ≡ get_or ws 2 0 = word_before rest 2 (omega arith) in
        let c = register_count methods (get_or ws 0 0) in
        let r : take c (drop 3 ws') ≡ take c (drop 3 ws) = registers_before rest c fits.registers in
        let s : take (get_or ws 2 0) (drop 258 ws') ≡ ys =
        ap (take (get_or ws 2 0)) (drop_at (take 258 ws) rest 258 front) ∙ take_at ys (drop n (drop 258 ws)) (get_or ws 2 0) size in
        cc

  -- the top cells of the stack, in the order in which they were pushed
  pub last_is :
      (count : ℕ) → count ≤ length (frame_in methods ws).stack
      → take (258 + get_or ws 2 0 - (258 + get_or ws 2 0 - count)) (drop (258 + get_or ws 2 0 - count) ws) ≡ arguments count (frame_in methods ws).stack
  last_is count h =
      let d = get_or ws 2 0 in
      let xs = take d (drop 258 ws) in
      let le : count ≤ d = omega (arith, depth_is, h) in
      let few : count ≤ length xs = omega (arith, length-stack, le) in
      let args : arguments count (reverse xs) ≡ drop (d - count) xs =
      ap reverse (take-reverse xs count few) ∙ (reverse-reverse (drop (length xs - count) xs) ∙ ap (λ k. drop (k - count) xs) length-stack) in
      let split : d - count + count ≡ d = omega (arith, le) in
      let size : 258 + d - (258 + d - count) ≡ count = omega (arith, le) in
      let from : 258 + d - count ≡ 258 + (d - count) = omega (arith, le) in
      ap (λ k. take k (drop (258 + d - count) ws)) size
      ∙ (ap (λ k. take count (drop k ws)) from
      ∙ (ap (take count) (sym (drop-drop (d - count) 258 ws))
      ∙ (sym (drop-take (d - count) count (drop 258 ws))
      ∙ (ap (λ k. drop (d - count) (take k (drop 258 ws))) split ∙ sym args))))

-- ---- a frame that begins

-- the registers of a method, one by one: an argument, or 0
pub register_of : (args : List ℕ) (count x : ℕ) → length args ≤ count → x < count → get_or (args ++ replicate (count - length args) 0) x 0
    ≡ get_or args x 0
register_of args count x room lt =
    elim (cases_lt x (length args)) [
      | inl less ↦ get_or_append_left args (replicate (count - length args) 0) 0 x less
      | inr most ↦
          let in_rest : x - length args < count - length args = omega arith in
          get_or-append_right args (replicate (count - length args) 0) (length args) x 0 refl most
          ∙ (get_or-replicate (count - length args) (x - length args) 0 0 in_rest ∙ sym (get_or_past args x 0 most))
    ]

pub register-more :
    (ws args : List ℕ) (count x v : ℕ)
    → length ws ≡ 513 → count ≤ 255 → length args ≤ count → x < count → v ≡ get_or args x 0
    → take x (drop 3 ws) ≡ take x (args ++ replicate (count - length args) 0)
    → take (x + 1) (drop 3 (set ws (3 + x) v)) ≡ take (x + 1) (args ++ replicate (count - length args) 0)
register-more ws args count x v len few room lt is e =
    let want = args ++ replicate (count - length args) 0 in
    let all : length want ≡ count =
    length-append args (replicate (count - length args) 0)
    ∙ (ap (λ k. length args + k) (length-replicate (count - length args) 0) ∙ omega arith) in
    let within : x < length (drop 3 ws) = omega (arith, len, length-drop 3 ws) in
    let within' : x < length want = omega (arith, all) in
    ap (take (x + 1)) (drop-set-add 3 ws x v)
    ∙ (take_more_set (drop 3 ws) x v within
    ∙ (ap (λ ys. ys ++ v ∷ []) e
    ∙ (ap (λ w. take x want ++ w ∷ []) (is ∙ sym (register_of args count x room lt)) ∙ sym (take_more want x 0 within'))))

module _ (methods : List MethodRec) (ws args : List ℕ) (method : ℕ) (len : length ws ≡ 513) (few : register_count methods method ≤ 255)
    (room : length args ≤ register_count methods method)
    (written : take (register_count methods method) (drop 3 ws) ≡ take (register_count methods method)
    (args ++ replicate (register_count methods method - length args) 0))
  where
    begun_method : get_or (set (set (set ws 0 method) 1 0) 2 0) 0 0 ≡ method
    begun_method = grind (arith, get_or-set_other, set, get_or-set_same)

    begun_place : get_or (set (set (set ws 0 method) 1 0) 2 0) 1 0 ≡ 0
    begun_place = grind (arith, get_or-set_other, set, get_or-set_same, length-set)

    begun_depth : get_or (set (set (set ws 0 method) 1 0) 2 0) 2 0 ≡ 0
    begun_depth = get_or-set_same (set (set ws 0 method) 1 0) 2 0 0 (omega (arith, len, length-set (set ws 0 method) 1 0, length-set ws 0 method))

    begun_registers : drop 3 (set (set (set ws 0 method) 1 0) 2 0) ≡ drop 3 ws
    begun_registers = grind (arith, drop-set-lt, set)

    pub begun : frame_in methods (set (set (set ws 0 method) 1 0) 2 0) ≡ entered words methods method args
    begun =
        let count = register_count methods method in
        let ws' = set (set (set ws 0 method) 1 0) 2 0 in
        let want = args ++ replicate (count - length args) 0 in
        let all : length want ≡ count =
        length-append args (replicate (count - length args) 0)
        ∙ (ap (λ k. length args + k) (length-replicate (count - length args) 0) ∙ omega arith) in
        let m = begun_method in
        let p = begun_place in
        let d = begun_depth in
        let regs : take (register_count methods (get_or ws' 0 0)) (drop 3 ws') ≡ want =
        ap (λ k. take (register_count methods k) (drop 3 ws')) begun_method
        ∙ (ap (take count) begun_registers ∙ (written ∙ take_all count want (omega (arith, all)))) in
        let stack : reverse (take (get_or ws' 2 0) (drop 258 ws')) ≡ [] = ap (λ k. reverse (take k (drop 258 ws'))) begun_depth in
        cc

    pub begun_fits : FitsWindow methods (set (set (set ws 0 method) 1 0) 2 0)
    begun_fits = grind (arith, set, begun_method, stack, begun_depth)
