-- Copies of the top cells of a stack.
use Rattle.std.proofs.Common.{◌≡◌, ℕ, ◌+◌, ◌-◌, ◌<◌, ◌≤◌, List, [], ◌∷◌, ◌++◌, length, take, drop, get_or, sym, ap}
use Rattle.std.proofs.Common.{◌∙◌, arith, length-take, length-drop}
use Rattle.std.proofs.lemmas.List.{take_at, drop_at, drop-drop, drop-take, drop_more, length-take-le, get_or-append_right, get_or-take}
use Rattle.vm_store.specs.State.{Frame, first_frame, other_frames, rotated}

-- they are turned under others
pub copied_under :
    {A : Type 0} (cells : List A) (copied under : ℕ) → copied ≤ length cells
    → rotated (copied + under) copied (take copied cells ++ cells) ≡ take under cells ++ (take copied cells ++ drop under cells)
copied_under cells copied under h = grind (arith, take, length, length-take, drop, drop-take, drop_at, take_at, drop-drop)

pub front : {A : Type 0} (fs : List (Frame A)) → 0 < length fs → first_frame fs ∷ other_frames fs ≡ fs
front x h = grind (arith)

-- one copy more
pub copied_more :
    {A : Type 0} (cells : List A) (count n : ℕ) (d : A) → count ≤ length cells → n < count
    → get_or (drop (count - n) (take count cells) ++ cells) (count - 1) d ∷ (drop (count - n) (take count cells) ++ cells)
    ≡ drop (count - (n + 1)) (take count cells) ++ cells
copied_more cells count n d h lt =
    let m = count - (n + 1) in
    let all = take count cells in
    let next : count - n ≡ m + 1 = omega arith in
    let here : count - 1 - n ≡ m = omega arith in
    let whole : length all ≡ count = length-take-le count cells h in
    let split : drop m all ≡ get_or all m d ∷ drop (m + 1) all = drop_more all m d (omega (arith, whole)) in
    let len : length (drop (count - n) all) ≡ n = length-drop (count - n) all ∙ (omega (arith, whole)) in
    let read : get_or (drop (count - n) all ++ cells) (count - 1) d ≡ get_or cells m d =
    get_or-append_right (drop (count - n) all) cells n (count - 1) d len (omega arith) ∙ ap (λ i. get_or cells i d) here in
    let same : get_or all m d ≡ get_or cells m d = get_or-take count cells m d (omega arith) in
    ap (λ x. x ∷ (drop (count - n) all ++ cells)) (read ∙ sym same)
    ∙ (ap (λ i. get_or all m d ∷ (drop i all ++ cells)) next ∙ sym (ap (λ xs. xs ++ cells) split))
