-- The words of all frames, and what a write to those of the frame on top does.
use Rattle.std.proofs.Common.{◌≡◌, ℕ, zero, suc, ◌+◌, ◌-◌, ◌*◌, ◌<◌, ◌≤◌, List, ◌∷◌, ◌++◌, length, take, drop, refl}
use Rattle.std.proofs.Common.{sym, ◌∙◌, ap, subst, arith, length-drop, length-take}
use Rattle.std.proofs.lemmas.List.{take-take, take_at, drop_at, append_assoc, length-append, drop-take}
use borrow.Rule.Slice.PartMut.{put_mid}
use Rattle.jc_base.specs.declared.record.MethodRec.{MethodRec}
use Rattle.jc_base.specs.World.{Linked}
use Rattle.vm_offend.specs.declared.words.Counts.{Counts}
use Rattle.vm_store.specs.State.{Frame, State, first_frame, other_frames, with_top, without_top}
use Rattle.vm_offend.specs.Words.{window, frame_in, frames_in, FitsWindow, FitWindows, words_state, AreLaid}

pub length-frames_in : (methods : List MethodRec) (ram : List ℕ) (n : ℕ) → length (frames_in methods ram n) ≡ n
length-frames_in methods ram zero = refl
length-frames_in methods ram (suc n) = ap suc (length-frames_in methods ram n)

-- two memories with the same first words have the same windows there
window_below : (xs ys : List ℕ) (n k : ℕ) → n < k → take (513 * k) xs ≡ take (513 * k) ys → window xs n ≡ window ys n
window_below xs ys n k lt e =
    let fits : 513 * n + 513 ≤ 513 * k = omega arith in
    let cut : (zs : List ℕ) → window zs n ≡ drop (513 * n) (take (513 * n + 513) (take (513 * k) zs)) =
    λ zs. sym (drop-take (513 * n) 513 zs) ∙ ap (drop (513 * n)) (sym (take-take (513 * n + 513) (513 * k) zs fits)) in
    cut xs ∙ (ap (λ zs. drop (513 * n) (take (513 * n + 513) zs)) e ∙ sym (cut ys))

pub frames_below : (methods : List MethodRec) (xs ys : List ℕ) (n k : ℕ) → n ≤ k → take (513 * k) xs ≡ take (513 * k) ys
    → frames_in methods xs n ≡ frames_in methods ys n
frames_below methods xs ys zero k le e = refl
frames_below methods xs ys (suc n) k le e = grind (arith, window_below xs ys n k le e, frames_below methods xs ys n k (omega arith) e)

pub fits_below : (methods : List MethodRec) (xs ys : List ℕ) (n k : ℕ) → n ≤ k → take (513 * k) xs ≡ take (513 * k) ys
    → FitWindows methods xs n → FitWindows methods ys n
fits_below methods xs ys zero k le e fits = tt
fits_below methods xs ys (suc n) k le e (here, rest) =
    (subst (FitsWindow methods) (window_below xs ys n k le e) here, fits_below methods xs ys n k (omega arith) e rest)

-- the memory in which the words of frame n are others
module _ (methods : List MethodRec) (ram ws : List ℕ) (n : ℕ) (reach : 513 * n + 513 ≤ length ram) (len : length ws ≡ 513) where
  put : List ℕ
  put = put_mid (513 * n) 513 ram ws

  front : length (take (513 * n) ram) ≡ 513 * n
  front = omega (arith, length-take (513 * n) ram)

  pub put_window : window (put_mid (513 * n) 513 ram ws) n ≡ ws
  put_window =
      ap (take 513) (drop_at (take (513 * n) ram) (ws ++ drop 513 (drop (513 * n) ram)) (513 * n) front)
      ∙ take_at ws (drop 513 (drop (513 * n) ram)) 513 len

  pub put_below : take (513 * n) (put_mid (513 * n) 513 ram ws) ≡ take (513 * n) ram
  put_below = take_at (take (513 * n) ram) (ws ++ drop 513 (drop (513 * n) ram)) (513 * n) front

  pub put_length : length (put_mid (513 * n) 513 ram ws) ≡ length ram
  put_length =
      length-append (take (513 * n) ram) (ws ++ drop 513 (drop (513 * n) ram))
      ∙ omega (arith, front, len, length-append ws (drop 513 (drop (513 * n) ram)), length-drop 513 (drop (513 * n) ram), length-drop (513 * n) ram)

  pub put_frames : frames_in methods (put_mid (513 * n) 513 ram ws) (suc n) ≡ frame_in methods ws ∷ frames_in methods ram n
  put_frames = grind (arith, put_window, frames_below, put_below)

  pub put_fits : FitsWindow methods ws → FitWindows methods ram n → FitWindows methods (put_mid (513 * n) 513 ram ws) (suc n)
  put_fits here rest = grind (arith, put_window, fits_below, put_below)

pub frames_whole : (fs : List (Frame ℕ)) → 0 < length fs → first_frame fs ∷ other_frames fs ≡ fs
frames_whole x h = grind (arith)

-- ---- the frame on top, in the words that the code takes for it

module _ (w : Linked) (ram heap : List ℕ) (counts : Counts) (laid : AreLaid w ram heap counts)
    (running : 0 < length (frames_in w.methods ram counts.frames)) where
  pub some : 0 < counts.frames
  some = omega (arith, length-frames_in w.methods ram counts.frames)

  below : counts.frames ≤ 64
  below = laid.some_frames

  last : suc (counts.frames - 1) ≡ counts.frames
  last = omega (arith, some)

  pub within : 513 * (counts.frames - 1) + 513 ≤ length ram
  within = omega (arith, laid.ram_length, some, below)

  width : 513 * (counts.frames - 1) + 513 - 513 * (counts.frames - 1) ≡ 513
  width = omega arith

  -- the words that the code takes
  taken : take (513 * (counts.frames - 1) + 513 - 513 * (counts.frames - 1)) (drop (513 * (counts.frames - 1)) ram) ≡ window ram (counts.frames - 1)
  taken = ap (λ k. take k (drop (513 * (counts.frames - 1)) ram)) width

  pub taken_length : length (take (513 * (counts.frames - 1) + 513 - 513 * (counts.frames - 1)) (drop (513 * (counts.frames - 1)) ram)) ≡ 513
  taken_length = ap length taken ∙ omega (arith, within, length-take 513 (drop (513 * (counts.frames - 1)) ram), length-drop (513 * (counts.frames - 1)) ram)

  frames_are : frames_in w.methods ram counts.frames ≡ frame_in w.methods (window ram (counts.frames - 1)) ∷ frames_in w.methods ram (counts.frames - 1)
  frames_are = ap (frames_in w.methods ram) (sym last)

  -- they hold the frame on top
  pub taken_is :
      frame_in w.methods (take (513 * (counts.frames - 1) + 513 - 513 * (counts.frames - 1)) (drop (513 * (counts.frames - 1)) ram))
      ≡ first_frame (frames_in w.methods ram counts.frames)
  taken_is = ap (frame_in w.methods) taken ∙ ap first_frame (sym frames_are)

  fits_all : FitWindows w.methods ram (suc (counts.frames - 1))
  fits_all = subst (FitWindows w.methods ram) (sym last) laid.windows

  pub taken_fits : FitsWindow w.methods (take (513 * (counts.frames - 1) + 513 - 513 * (counts.frames - 1)) (drop (513 * (counts.frames - 1)) ram))
  taken_fits = subst (FitsWindow w.methods) (sym taken) fits_all.0

  whole : (ws : List ℕ)
      → length ws ≡ length (take (513 * (counts.frames - 1) + 513 - 513 * (counts.frames - 1)) (drop (513 * (counts.frames - 1)) ram))
      → length ws ≡ 513
  whole ws same = same ∙ taken_length

  -- the state once those words hold another frame
  pub put_top :
      (statics ws : List ℕ) (change : Frame ℕ → Frame ℕ)
      → length ws ≡ length (take (513 * (counts.frames - 1) + 513 - 513 * (counts.frames - 1)) (drop (513 * (counts.frames - 1)) ram))
      → frame_in w.methods ws
      ≡ change (frame_in w.methods (take (513 * (counts.frames - 1) + 513 - 513 * (counts.frames - 1)) (drop (513 * (counts.frames - 1)) ram)))
      → words_state w.methods (put_mid (513 * (counts.frames - 1)) (513 * (counts.frames - 1) + 513 - 513 * (counts.frames - 1)) ram ws) heap statics counts
      ≡ with_top (words_state w.methods ram heap statics counts) (change (first_frame (frames_in w.methods ram counts.frames)))
  put_top statics ws change same e = grind (arith, taken_is, width, suc, last, frames_are, put_frames, within, whole)

  pub put_laid :
      (ws : List ℕ) → length ws ≡ length (take (513 * (counts.frames - 1) + 513 - 513 * (counts.frames - 1)) (drop (513 * (counts.frames - 1)) ram))
      → FitsWindow w.methods ws
      → AreLaid w (put_mid (513 * (counts.frames - 1)) (513 * (counts.frames - 1) + 513 - 513 * (counts.frames - 1)) ram ws) heap counts
  put_laid ws same fits = grind (arith, whole, width, put_length, within, last, put_fits, fits_all)

  -- the state without the frame on top
  pub left_state : (statics : List ℕ) → words_state w.methods ram heap statics (record counts { frames = counts.frames - 1 })
      ≡ without_top (words_state w.methods ram heap statics counts)
  left_state statics = grind (arith, frames_are)

  pub left_laid : AreLaid w ram heap (record counts { frames = counts.frames - 1 })
  left_laid = grind (arith, below, fits_all)

  -- nothing is done to the frame on top
  pub same_state : (statics : List ℕ) → words_state w.methods ram heap statics counts ≡ with_top (words_state w.methods ram heap statics counts)
      (first_frame (frames_in w.methods ram counts.frames))
  same_state statics = grind (arith, frames_whole)

-- ---- one frame more, in the words after those of the frames that are there

module _ (w : Linked) (ram heap : List ℕ) (counts : Counts) (laid : AreLaid w ram heap counts)
    (room : length (frames_in w.methods ram counts.frames) < 64) where
  next_within : 513 * counts.frames + 513 ≤ length ram
  next_within = omega (arith, laid.ram_length, room, length-frames_in w.methods ram counts.frames)

  pub next_reach : 513 * counts.frames + 513 ≤ length ram
  next_reach = next_within

  next_width : 513 * counts.frames + 513 - 513 * counts.frames ≡ 513
  next_width = omega arith

  pub next_length : length (take (513 * counts.frames + 513 - 513 * counts.frames) (drop (513 * counts.frames) ram)) ≡ 513
  next_length = grind (arith, length, take, drop, next_width, next_within, length-take, length-drop)

  pub next_state :
      (statics ws : List ℕ) (f : Frame ℕ)
      → length ws ≡ length (take (513 * counts.frames + 513 - 513 * counts.frames) (drop (513 * counts.frames) ram)) → frame_in w.methods ws ≡ f
      → words_state w.methods (put_mid (513 * counts.frames) (513 * counts.frames + 513 - 513 * counts.frames) ram ws) heap statics
      (record counts { frames = counts.frames + 1 })
      ≡ record (words_state w.methods ram heap statics counts) { frames = f ∷ frames_in w.methods ram counts.frames }
  next_state statics ws f same e =
      let n = counts.frames in
      let framed : List (Frame ℕ) → State ℕ = λ fs. record (words_state w.methods ram heap statics counts) { frames = fs } in
      let one : n + 1 ≡ suc n = omega arith in
      ap framed
      (ap (λ k. frames_in w.methods (put_mid (513 * n) k ram ws) (n + 1)) next_width
      ∙ (ap (frames_in w.methods (put_mid (513 * n) 513 ram ws)) one
      ∙ (put_frames w.methods ram ws n next_within (same ∙ next_length) ∙ ap (λ g. g ∷ frames_in w.methods ram n) e)))

  pub next_laid :
      (ws : List ℕ) → length ws ≡ length (take (513 * counts.frames + 513 - 513 * counts.frames) (drop (513 * counts.frames) ram))
      → FitsWindow w.methods ws
      → AreLaid w (put_mid (513 * counts.frames) (513 * counts.frames + 513 - 513 * counts.frames) ram ws) heap (record counts { frames = counts.frames + 1 })
  next_laid ws same fits =
      let n = counts.frames in
      let len = same ∙ next_length in
      let one : suc n ≡ n + 1 = omega arith in
      let P : ℕ → Type 0 = λ k. AreLaid w (put_mid (513 * n) k ram ws) heap (record counts { frames = n + 1 }) in
      subst P (sym next_width)
      (record {
        ram_length = put_length w.methods ram ws n next_within len ∙ laid.ram_length;
        heap_length = laid.heap_length;
        some_frames = omega (arith, room, length-frames_in w.methods ram n);
        some_objects = laid.some_objects;
        some_cells = laid.some_cells;
        windows = subst (FitWindows w.methods (put_mid (513 * n) 513 ram ws)) one (put_fits w.methods ram ws n next_within len fits laid.windows);
        laid = laid.laid;
        kinds = laid.kinds;
      })

-- ---- a call: the words of the frame on top and those after them

window_at : (lower ws more : List ℕ) (n : ℕ) → length lower ≡ 513 * n → length ws ≡ 513 → window ((lower ++ ws) ++ more) n ≡ ws
window_at lower ws more n l s =
    ap (λ zs. take 513 (drop (513 * n) zs)) (append_assoc lower ws more)
    ∙ (ap (take 513) (drop_at lower (ws ++ more) (513 * n) l) ∙ take_at ws more 513 s)

below_at : (lower ws more : List ℕ) (n : ℕ) → length lower ≡ 513 * n → take (513 * n) ((lower ++ ws) ++ more) ≡ lower
below_at lower ws more n l = ap (take (513 * n)) (append_assoc lower ws more) ∙ take_at lower (ws ++ more) (513 * n) l

module _ (methods : List MethodRec) (ram below lower was above : List ℕ) (k : ℕ) (some : 0 < k)
    (whole : ram ≡ below ++ above) (front : length below ≡ 513 * k) (parts : below ≡ lower ++ was) (l : length lower ≡ 513 * (k - 1))
  where
    joined : ram ≡ (lower ++ was) ++ above
    joined = whole ∙ ap (λ zs. zs ++ above) parts

    pub top_length : length was ≡ 513
    top_length = omega (arith, some, front, l, ap length parts, length-append lower was)

    topmost : suc (k - 1) ≡ k
    topmost = omega (arith, some)

    top_window : window ram (k - 1) ≡ was
    top_window = ap (λ zs. window zs (k - 1)) joined ∙ window_at lower was above (k - 1) l top_length

    -- the words of the caller as they were
    pub called_top : frame_in methods was ≡ first_frame (frames_in methods ram k)
    called_top = ap (frame_in methods) (sym top_window) ∙ ap (λ i. first_frame (frames_in methods ram i)) topmost

    pub called_fits_top : FitWindows methods ram k → FitsWindow methods was
    called_fits_top fits = subst (FitsWindow methods) top_window (subst (FitWindows methods ram) (sym topmost) fits).0

    module _ (caller callee rest : List ℕ) (s₁ : length caller ≡ 513) (s₂ : length callee ≡ 513) where
      second : window ((lower ++ caller) ++ (callee ++ rest)) (suc (k - 1)) ≡ callee
      second =
          let len : length (lower ++ caller) ≡ 513 * suc (k - 1) = length-append lower caller ∙ (omega (arith, l, s₁)) in
          ap (take 513) (drop_at (lower ++ caller) (callee ++ rest) (513 * suc (k - 1)) len) ∙ take_at callee rest 513 s₂

      first : window ((lower ++ caller) ++ (callee ++ rest)) (k - 1) ≡ caller
      first = window_at lower caller (callee ++ rest) (k - 1) l s₁

      same_below : take (513 * (k - 1)) ((lower ++ caller) ++ (callee ++ rest)) ≡ take (513 * (k - 1)) ram
      same_below = below_at lower caller (callee ++ rest) (k - 1) l ∙ sym (ap (take (513 * (k - 1))) joined ∙ below_at lower was above (k - 1) l)

      called : frames_in methods ((lower ++ caller) ++ (callee ++ rest)) (suc (suc (k - 1)))
          ≡ frame_in methods callee ∷ (frame_in methods caller ∷ frames_in methods ram (k - 1))
      called = grind (arith, second, first, frames_below, same_below)

      fit : FitsWindow methods callee → FitsWindow methods caller → FitWindows methods ram (k - 1)
          → FitWindows methods ((lower ++ caller) ++ (callee ++ rest)) (suc (suc (k - 1)))
      fit two one others = grind (arith, second, first, fits_below, same_below)

      pub called_frames : frames_in methods ((lower ++ caller) ++ (callee ++ rest)) (k + 1)
          ≡ frame_in methods callee ∷ (frame_in methods caller ∷ other_frames (frames_in methods ram k))
      called_frames =
          let next : k + 1 ≡ suc (suc (k - 1)) = omega (arith, some) in
          ap (frames_in methods ((lower ++ caller) ++ (callee ++ rest))) next
          ∙ (called ∙ ap (λ i. frame_in methods callee ∷ (frame_in methods caller ∷ other_frames (frames_in methods ram i))) topmost)

      pub called_fits : FitsWindow methods callee → FitsWindow methods caller → FitWindows methods ram k
          → FitWindows methods ((lower ++ caller) ++ (callee ++ rest)) (k + 1)
      called_fits two one fits =
          let next : suc (suc (k - 1)) ≡ k + 1 = omega (arith, some) in
          subst (FitWindows methods ((lower ++ caller) ++ (callee ++ rest))) next (fit two one (subst (FitWindows methods ram) (sym topmost) fits).1)
