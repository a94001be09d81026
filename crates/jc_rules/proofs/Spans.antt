-- Frames that are held in one list of cells, each in a span of its own.
use Rattle.std.proofs.Common.{◌≡◌, ℕ, zero, suc, ◌+◌, ◌<◌, ◌≤◌, ◌⊎◌, inl, inr, List, [], ◌∷◌, ◌++◌, length, length-append}
use Rattle.std.proofs.Common.{map, replicate, reverse, take, drop, set, Option, Some, None, Result, refl, sym, ◌∙◌, ap, subst, arith}
use Rattle.std.specs.Prelude.{option_map, OnErr}
use Rattle.std.proofs.Math.Seq.{take-append_seam, drop-append_seam}
use Rattle.std.proofs.lemmas.List.{append_assoc, append-nil, length-take, length-drop}
use Rattle.jc_base.specs.declared.ty.Ty.{Ty}
use Rattle.jc_rules.specs.Demand.{Frame}
use Rattle.jc_rules.specs.declared.typing.Span.{Span}
use Rattle.jc_rules.specs.Held.{parted, span_end, frame_of_span, span_at, frames_at, AreApart, AreSpans}
use Rattle.jc_rules.specs.Typing.{state_at}

-- ---- windows of a list

window-more : (xs ys : List Ty) (b n : ℕ) → b + n ≤ length xs → take n (drop b (xs ++ ys)) ≡ take n (drop b xs)
window-more [] ys zero zero h = refl
window-more [] ys zero (suc n) h = absurd (omega arith)
window-more [] ys (suc b) n h = absurd (omega arith)
window-more (x ∷ xs) ys zero zero h = refl
window-more (x ∷ xs) ys zero (suc n) h = ap (λ (zs : List Ty). x ∷ zs) (window-more xs ys zero n (omega arith))
window-more (x ∷ xs) ys (suc b) n h = window-more xs ys b n (omega arith)

drop-after : (xs ys tail : List Ty) (b : ℕ) → length xs ≡ length ys → length xs ≤ b → drop b (xs ++ tail) ≡ drop b (ys ++ tail)
drop-after [] [] tail b e h = refl
drop-after [] (y ∷ ys) tail b e h = absurd (omega arith)
drop-after (x ∷ xs) [] tail b e h = absurd (omega arith)
drop-after (x ∷ xs) (y ∷ ys) tail zero e h = absurd (omega arith)
drop-after (x ∷ xs) (y ∷ ys) tail (suc b) e h = drop-after xs ys tail b (omega arith) (omega arith)

window-in : (front own tail : List Ty) → take (length own) (drop (length front) (front ++ (own ++ tail))) ≡ own
window-in [] own tail = take-append_seam own tail
window-in (x ∷ front) own tail = window-in front own tail

-- the cells of a part, which lies between others
pub window-there : (front own tail : List Ty) (b n : ℕ) → length front ≡ b → length own ≡ n → take n (drop b (front ++ (own ++ tail))) ≡ own
window-there front own tail b n eb en = grind (arith, window-in)

-- where that part changes, the cells before and after it stay
pub window-elsewhere : (front own new tail : List Ty) → length new ≡ length own → (b n : ℕ) → (b + n ≤ length front)
    ⊎ (length front + length own ≤ b) → take n (drop b (front ++ (new ++ tail))) ≡ take n (drop b (front ++ (own ++ tail)))
window-elsewhere front own new tail e b n (inl h) = window-more front (new ++ tail) b n h ∙ sym (window-more front (own ++ tail) b n h)
window-elsewhere front own new tail e b n (inr h) =
    grind (arith, length-append front new, length-append front own, append_assoc front new tail, append_assoc front own tail, drop-after)

module _ (cells front rest own tail : List Ty) (s : Span) (parts : cells ≡ front ++ rest) (after : rest ≡ own ++ tail) (before : length front ≡ s.at)
    (size : length own ≡ s.registers + s.depth) where
  private_parts : cells ≡ front ++ (own ++ tail)
  private_parts = parts ∙ ap (λ (xs : List Ty). front ++ xs) after

  -- the cells of a span are a part of its own
  pub own-part : take (s.registers + s.depth) (drop s.at cells) ≡ own
  own-part = grind (arith, private_parts, window-there)

  pub own-part_new : (new : List Ty) → length new ≡ length own → take (s.registers + s.depth) (drop s.at (front ++ (new ++ tail))) ≡ new
  own-part_new new e = window-there front new tail s.at (s.registers + s.depth) before (e ∙ size)

  pub other-parts : (new : List Ty) → length new ≡ length own → (b n : ℕ) → (b + n ≤ s.at) ⊎ (span_end s ≤ b)
      → take n (drop b (front ++ (new ++ tail))) ≡ take n (drop b cells)
  other-parts new e b n h = window-elsewhere front own new tail e b n (moved h) ∙ ap (λ (xs : List Ty). take n (drop b xs)) (sym private_parts)
    where
      moved : (b + n ≤ s.at) ⊎ (span_end s ≤ b) → (b + n ≤ length front) ⊎ (length front + length own ≤ b)
      moved (inl x) = inl (omega (arith, x, before))
      moved (inr x) = inr (omega (arith, x, before, size))

-- a frame stays where more cells come
frame-more : (cells more : List Ty) (s : Span) → span_end s ≤ length cells → frame_of_span (cells ++ more) s ≡ frame_of_span cells s
frame-more cells more s h = ap (parted s.registers) (window-more cells more s.at (s.registers + s.depth) h)

-- ---- spans by place

-- the state at a place is the frame of its span
pub state-span : (cells : List Ty) (spans : List (Option Span)) (p : ℕ) → state_at (frames_at cells spans) p ≡ option_map (frame_of_span cells)
    (span_at spans p)
unfolding state_at
state-span cells [] zero = refl
state-span cells [] (suc p) = refl
state-span cells (s ∷ spans) zero = refl
state-span cells (s ∷ spans) (suc p) = state-span cells spans p

pub frame-there : (cells : List Ty) (spans : List (Option Span)) (now : List (Option Frame)) (p : ℕ) (s : Span) → frames_at cells spans ≡ now
    → span_at spans p ≡ Some s → state_at now p ≡ Some (frame_of_span cells s)
frame-there cells spans now p s v e = grind (arith, state-span cells spans p)

pub none-there : (cells : List Ty) (spans : List (Option Span)) (now : List (Option Frame)) (p : ℕ) → frames_at cells spans ≡ now
    → span_at spans p ≡ None → state_at now p ≡ None
none-there cells spans now p v e = subst (λ xs. state_at xs p ≡ None) v (state-span cells spans p ∙ ap (option_map (frame_of_span cells)) e)

-- a frame of a span has its registers
pub frame-registers : (cells : List Ty) (s : Span) → span_end s ≤ length cells → length (frame_of_span cells s).regs ≡ s.registers
frame-registers cells s h = grind (arith, length-take, length-drop)

pub no_frames : (cells : List Ty) (n : ℕ) → frames_at cells (replicate n None) ≡ replicate n None
no_frames cells zero = refl
no_frames cells (suc n) = ap (λ (xs : List (Option Frame)). None ∷ xs) (no_frames cells n)

span-set : (spans : List (Option Span)) (p : ℕ) (s : Option Span) → p < length spans → span_at (set spans p s) p ≡ s
span-set [] p s lt = absurd (omega arith)
span-set (o ∷ spans) zero s lt = refl
span-set (o ∷ spans) (suc p) s lt = span-set spans p s (omega arith)

span-set_other : (spans : List (Option Span)) (p q : ℕ) (s : Option Span) → ¬ (q ≡ p) → span_at (set spans p s) q ≡ span_at spans q
span-set_other [] p q s n = refl
span-set_other (o ∷ spans) zero zero s n = absurd (n refl)
span-set_other (o ∷ spans) zero (suc q) s n = refl
span-set_other (o ∷ spans) (suc p) zero s n = refl
span-set_other (o ∷ spans) (suc p) (suc q) s n = span-set_other spans p q s (λ e. n (ap suc e))

option-same : (f g : Span → Frame) (o : Option Span) → ((s : Span) → o ≡ Some s → f s ≡ g s) → option_map f o ≡ option_map g o
option-same f g z h = grind (arith)

frames-same : (f g : Span → Frame) (spans : List (Option Span)) → ((q : ℕ) (s : Span) → span_at spans q ≡ Some s → f s ≡ g s)
    → map (option_map f) spans ≡ map (option_map g) spans
frames-same f g [] h = refl
frames-same f g (o ∷ spans) h =
    ap (λ (x : Option Frame). x ∷ map (option_map f) spans) (option-same f g o (h zero))
    ∙ ap (λ (xs : List (Option Frame)). option_map g o ∷ xs) (frames-same f g spans (λ q. h (suc q)))

-- where the frames of the other places stay, one place changes
frames-set : (f g : Span → Frame) (spans : List (Option Span)) (p : ℕ) (new : Option Span) → p < length spans
    → ((q : ℕ) (s : Span) → ¬ (q ≡ p) → span_at spans q ≡ Some s → f s ≡ g s)
    → map (option_map f) (set spans p new) ≡ set (map (option_map g) spans) p (option_map f new)
frames-set f g [] p new lt h = absurd (omega arith)
frames-set f g (o ∷ spans) zero new lt h =
    ap (λ (xs : List (Option Frame)). option_map f new ∷ xs) (frames-same f g spans (λ q s. h (suc q) s (λ e. absurd (omega (arith, e)))))
frames-set f g (o ∷ spans) (suc p) new lt h =
    ap (λ (x : Option Frame). x ∷ map (option_map f) (set spans p new)) (option-same f g o (λ s. h zero s (λ e. absurd (omega (arith, e)))))
    ∙ ap (λ (xs : List (Option Frame)). option_map g o ∷ xs)
    (frames-set f g spans p new (omega arith) (λ q s n. h (suc q) s (λ e. n (omega (arith, e)))))

set-there : (spans : List (Option Span)) (p : ℕ) (s : Span) → span_at spans p ≡ Some s → (p < length spans) × (set spans p (Some s) ≡ spans)
set-there [] zero s e = cc
set-there [] (suc p) s e = cc
set-there (o ∷ spans) zero s e = (omega arith, ap (λ (x : Option Span). x ∷ spans) (sym e))
set-there (o ∷ spans) (suc p) s e = grind (arith, set-there spans p s e)

same-or-other : (p q : ℕ) → (q ≡ p) ⊎ (¬ (q ≡ p))
same-or-other zero zero = inl refl
same-or-other zero (suc q) = inr (λ e. absurd (omega (arith, e)))
same-or-other (suc p) zero = inr (λ e. absurd (omega (arith, e)))
same-or-other (suc p) (suc q) = lifted (same-or-other p q)
  where
    lifted : (q ≡ p) ⊎ (¬ (q ≡ p)) → (suc q ≡ suc p) ⊎ (¬ (suc q ≡ suc p))
    lifted (inl e) = inl (ap suc e)
    lifted (inr n) = inr (λ e. n (omega (arith, e)))

-- ---- the spans of a list of cells

pub frames-more : (cells more : List Ty) (spans : List (Option Span)) → AreSpans cells spans → frames_at (cells ++ more) spans ≡ frames_at cells spans
frames-more cells more spans is = frames-same (frame_of_span (cells ++ more)) (frame_of_span cells) spans (λ q s e. frame-more cells more s (is.within q s e))

module _ (cells more : List Ty) (spans : List (Option Span)) (is : AreSpans cells spans) (p : ℕ) (lt : p < length spans) (new : Span)
    (at : new.at ≡ length cells) (size : length more ≡ new.registers + new.depth) (few : new.depth ≤ 255) where
  private_within : (q : ℕ) (s : Span) → (q ≡ p) ⊎ (¬ (q ≡ p)) → span_at (set spans p (Some new)) q ≡ Some s
      → (span_end s ≤ length (cells ++ more)) × (s.depth ≤ 255)
  private_within q s (inl here) e =
      let is_new : new ≡ s = some-same (sym (span-set spans p (Some new) lt) ∙ subst (λ k. span_at (set spans p (Some new)) k ≡ Some s) here e) in
      subst (λ (u : Span). (span_end u ≤ length (cells ++ more)) × (u.depth ≤ 255)) is_new (omega (arith, length-append cells more, at, size), few)
    where
      some-same : Some new ≡ Some s → new ≡ s
      some-same h = cc
  private_within q s (inr other) e = grind (arith, span-set_other, length-append)

  private_apart : (q k : ℕ) (s u : Span) → (q ≡ p) ⊎ (¬ (q ≡ p)) → (k ≡ p) ⊎ (¬ (k ≡ p)) → ¬ (q ≡ k)
      → span_at (set spans p (Some new)) q ≡ Some s → span_at (set spans p (Some new)) k ≡ Some u → AreApart s u
  private_apart q k s u (inl a) (inl b) n es eu = absurd (n (a ∙ sym b))
  private_apart q k s u (inl a) (inr b) n es eu =
      let is_new : new ≡ s = some-same (sym (span-set spans p (Some new) lt) ∙ subst (λ j. span_at (set spans p (Some new)) j ≡ Some s) a es) in
      let old = sym (span-set_other spans p k (Some new) b) ∙ eu in
      subst (λ (x : Span). AreApart x u) is_new (inr (omega (arith, is.within k u old, at)))
    where
      some-same : Some new ≡ Some s → new ≡ s
      some-same h = cc
  private_apart q k s u (inr a) (inl b) n es eu =
      let is_new : new ≡ u = some-same (sym (span-set spans p (Some new) lt) ∙ subst (λ j. span_at (set spans p (Some new)) j ≡ Some u) b eu) in
      let old = sym (span-set_other spans p q (Some new) a) ∙ es in
      subst (AreApart s) is_new (inl (omega (arith, is.within q s old, at)))
    where
      some-same : Some new ≡ Some u → new ≡ u
      some-same h = cc
  private_apart q k s u (inr a) (inr b) n es eu = grind (arith, span-set_other)

  -- a place takes a span of the cells that came
  pub spans-put : AreSpans (cells ++ more) (set spans p (Some new))
  spans-put = grind (arith, private_within, same-or-other, private_apart)

  -- the frame of that span is put at the place
  pub frames-put : (f : Frame) → frame_of_span (cells ++ more) new ≡ f → frames_at (cells ++ more) (set spans p (Some new))
      ≡ set (frames_at cells spans) p (Some f)
  frames-put f e =
      frames-set (frame_of_span (cells ++ more)) (frame_of_span cells) spans p (Some new) lt (λ q s n h. frame-more cells more s (is.within q s h))
      ∙ ap (λ (g : Frame). set (frames_at cells spans) p (Some g)) e

-- the frame of the cells that came
pub frame-put : (cells regs stack : List Ty) (s : Span) → s.at ≡ length cells → s.registers ≡ length regs → s.depth ≡ length stack
    → frame_of_span (cells ++ (regs ++ stack)) s ≡ record { regs = regs; stack = reverse stack }
frame-put cells regs stack s at registers depth =
    let own = regs ++ stack in
    let size : length own ≡ s.registers + s.depth = omega (arith, length-append regs stack, registers, depth) in
    let there : take (s.registers + s.depth) (drop s.at (cells ++ own)) ≡ own =
    ap (λ (xs : List Ty). take (s.registers + s.depth) (drop s.at (cells ++ xs))) (sym (append-nil own))
    ∙ window-there cells own [] s.at (s.registers + s.depth) (sym at) size in
    ap (parted s.registers) there
    ∙ ap (λ (n : ℕ). parted n own) registers
    ∙ ap (λ (xs : List Ty). record { regs = xs; stack = reverse (drop (length regs) own) }) (take-append_seam regs stack)
    ∙ ap (λ (xs : List Ty). record { regs = regs; stack = reverse xs }) (drop-append_seam regs stack)

-- the cells of one span change: the frames of the other places stay
pub frames-changed : (cells new : List Ty) (spans : List (Option Span)) (p : ℕ) (s : Span) → AreSpans cells spans → span_at spans p ≡ Some s
    → ((b n : ℕ) → (b + n ≤ s.at) ⊎ (span_end s ≤ b) → take n (drop b new) ≡ take n (drop b cells))
    → frames_at new spans ≡ set (frames_at cells spans) p (Some (frame_of_span new s))
frames-changed cells new spans p s is e stays =
    let there = set-there spans p s e in
    ap (frames_at new) (sym there.1)
    ∙ frames-set (frame_of_span new) (frame_of_span cells) spans p (Some s) there.0
    (λ q u n h. ap (parted u.registers) (stays u.at (u.registers + u.depth) (is.apart q p u s n h e)))

-- what holds holds after an error
pub holds-on-err : {A E : Type 0} (r : Result A E) (P : Type 0) → P → OnErr r P
holds-on-err x y h = grind (arith)
