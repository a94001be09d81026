-- The frame on top is the last of the live ones in memory.
use Rattle.std.proofs.Common.{◌≡◌, ℕ, ◌+◌, ◌-◌, ◌<◌, ◌≤◌, List, [], ◌∷◌, length, take, reverse, set, get_or, sym, ◌∙◌, ap}
use Rattle.std.proofs.Common.{arith, length-take}
use Rattle.std.proofs.lemmas.List.{reverse-append, length-reverse, take_more, take_more_set}
use Rattle.vm_store.specs.State.{Frame, no_frame, first_frame, other_frames}

-- the live frames, of which there is one at least
live_frames : {A : Type 0} (xs : List (Frame A)) (n : ℕ) (d : Frame A) → 0 < n → n ≤ length xs
    → reverse (take n xs) ≡ get_or xs (n - 1) d ∷ reverse (take (n - 1) xs)
live_frames xs n d h l =
    let one : (n - 1) + 1 ≡ n = omega arith in
    let lt : n - 1 < length xs = omega arith in
    ap (λ k. reverse (take k xs)) (sym one)
    ∙ (ap reverse (take_more xs (n - 1) d lt) ∙ reverse-append (take (n - 1) xs) (get_or xs (n - 1) d ∷ []))

pub top_read : {A : Type 0} (xs : List (Frame A)) (n : ℕ) (d : Frame A) → 0 < n → n ≤ length xs
    → first_frame (reverse (take n xs)) ≡ get_or xs (n - 1) d
top_read xs n d h l = ap first_frame (live_frames xs n d h l)

pub top_written : {A : Type 0} (xs : List (Frame A)) (n : ℕ) (f : Frame A) → 0 < n → n ≤ length xs → reverse (take n (set xs (n - 1) f))
    ≡ f ∷ other_frames (reverse (take n xs))
top_written xs n f h l =
    let one : (n - 1) + 1 ≡ n = omega arith in
    let lt : n - 1 < length xs = omega arith in
    ap (λ k. reverse (take k (set xs (n - 1) f))) (sym one)
    ∙ (ap reverse (take_more_set xs (n - 1) f lt)
    ∙ (reverse-append (take (n - 1) xs) (f ∷ []) ∙ ap (λ fs. f ∷ other_frames fs) (sym (live_frames xs n f h l))))

pub frames_counted : {A : Type 0} (xs : List (Frame A)) (n : ℕ) → n ≤ length xs → length (reverse (take n xs)) ≡ n
frames_counted xs n l = length-reverse (take n xs) ∙ (length-take n xs ∙ omega arith)

-- one frame more, and one fewer
pub top_entered : {A : Type 0} (xs : List (Frame A)) (n : ℕ) (f : Frame A) → n < length xs → reverse (take (n + 1) (set xs n f))
    ≡ f ∷ reverse (take n xs)
top_entered xs n f lt = ap reverse (take_more_set xs n f lt) ∙ reverse-append (take n xs) (f ∷ [])

pub top_left : {A : Type 0} (xs : List (Frame A)) (n : ℕ) → 0 < n → n ≤ length xs → reverse (take (n - 1) xs) ≡ other_frames (reverse (take n xs))
top_left xs n h l = ap other_frames (sym (live_frames xs n no_frame h l))

pub ruleset tops = (top_read, top_written, frames_counted, top_entered, top_left)
