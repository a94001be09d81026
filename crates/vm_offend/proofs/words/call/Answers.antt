use Rattle.std.proofs.Common.{◌≡◌, ℕ, ◌≤◌, ◌∷◌, length, drop, sym, ap, ◌∙◌, subst}
use Rattle.vm_store.specs.Cells.{words}
use Rattle.vm_store.specs.State.{Frame, first_frame, other_frames, arguments, entered}
use Rattle.vm_offend.specs.Words.{frame_in, frames_in}
use Rattle.vm_offend.proofs.Rams.{called_top, called_fits_top, called_frames, called_fits, top_length}
use Rattle.vm_offend.proofs.words.call.Goals as goal

pub last-requires-clause-fits : goal.last-requires-clause-fits
last-requires-clause-fits c =
    called_fits_top c.args.world.now.methods c.args.ram.now _ _ _ _ c.args.frames c.requires.running c.split_at_mut-below.ensures.value
    c.split_at_mut-below.ensures.front_len c.split_at_mut-lower.ensures.value c.split_at_mut-lower.ensures.front_len c.requires.fit

pub last-requires-clause-there : goal.last-requires-clause-there
last-requires-clause-there c =
    let top = called_top c.args.world.now.methods c.args.ram.now _ _ _ _ c.args.frames c.requires.running c.split_at_mut-below.ensures.value
    c.split_at_mut-below.ensures.front_len c.split_at_mut-lower.ensures.value c.split_at_mut-lower.ensures.front_len in
    subst (λ (f : Frame ℕ). c.args.count ≤ length f.stack) (sym top) c.requires.there

pub discard-requires-clause-fits : goal.discard-requires-clause-fits
discard-requires-clause-fits c =
    called_fits_top c.args.world.now.methods c.args.ram.now _ _ _ _ c.args.frames c.requires.running c.split_at_mut-below.ensures.value
    c.split_at_mut-below.ensures.front_len c.split_at_mut-lower.ensures.value c.split_at_mut-lower.ensures.front_len c.requires.fit

pub discard-requires-clause-there : goal.discard-requires-clause-there
discard-requires-clause-there c =
    let top = called_top c.args.world.now.methods c.args.ram.now _ _ _ _ c.args.frames c.requires.running c.split_at_mut-below.ensures.value
    c.split_at_mut-below.ensures.front_len c.split_at_mut-lower.ensures.value c.split_at_mut-lower.ensures.front_len in
    subst (λ (f : Frame ℕ). c.args.count ≤ length f.stack) (sym top) c.requires.there

pub returns-clause-frames : goal.returns-clause-frames
returns-clause-frames c =
    let methods = c.args.world.now.methods in
    let fs = frames_in methods c.args.ram.now c.args.frames in
    let top = called_top c.args.world.now.methods c.args.ram.now _ _ _ _ c.args.frames c.requires.running c.split_at_mut-below.ensures.value
    c.split_at_mut-below.ensures.front_len c.split_at_mut-lower.ensures.value c.split_at_mut-lower.ensures.front_len in
    let long = top_length c.args.world.now.methods c.args.ram.now _ _ _ _ c.args.frames c.requires.running c.split_at_mut-below.ensures.value
    c.split_at_mut-below.ensures.front_len c.split_at_mut-lower.ensures.value c.split_at_mut-lower.ensures.front_len in
    let count = c.args.count in
    let callee : frame_in methods c.enter.new.window ≡ entered words methods c.args.method (arguments count (first_frame fs).stack) =
    c.enter.ensures.frame ∙ ap (entered words methods c.args.method) (c.last.ensures ∙ ap (λ (f : Frame ℕ). arguments count f.stack) top) in
    let relieved : Frame ℕ → Frame ℕ = λ f. record f { stack = drop count f.stack } in
    called_frames c.args.world.now.methods c.args.ram.now _ _ _ _ c.args.frames c.requires.running c.split_at_mut-below.ensures.value
    c.split_at_mut-below.ensures.front_len c.split_at_mut-lower.ensures.value c.split_at_mut-lower.ensures.front_len
    _ _ _ (c.discard.auto.window ∙ long) (c.enter.auto.window ∙ c.split_at_mut-callee.ensures.front_len)
    ∙ (ap (λ f. f ∷ (frame_in methods c.discard.new.window ∷ other_frames fs)) callee
    ∙ ap (λ f. entered words methods c.args.method (arguments count (first_frame fs).stack) ∷ (f ∷ other_frames fs))
    (c.discard.ensures.frame ∙ ap relieved top))

pub returns-clause-fit : goal.returns-clause-fit
returns-clause-fit c =
    let long = top_length c.args.world.now.methods c.args.ram.now _ _ _ _ c.args.frames c.requires.running c.split_at_mut-below.ensures.value
    c.split_at_mut-below.ensures.front_len c.split_at_mut-lower.ensures.value c.split_at_mut-lower.ensures.front_len in
    called_fits c.args.world.now.methods c.args.ram.now _ _ _ _ c.args.frames c.requires.running c.split_at_mut-below.ensures.value
    c.split_at_mut-below.ensures.front_len c.split_at_mut-lower.ensures.value c.split_at_mut-lower.ensures.front_len
    _ _ _ (c.discard.auto.window ∙ long) (c.enter.auto.window ∙ c.split_at_mut-callee.ensures.front_len) c.enter.ensures.fits c.discard.ensures.fits
    c.requires.fit
