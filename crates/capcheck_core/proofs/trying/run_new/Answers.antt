-- nothing keeps the second run from beginning, and both are told
use Rattle.std.proofs.Common.{ap, subst, refl, inr, ◌*◌, ◌∙◌}
use Rattle.std.specs.Prelude.{string_bytes}
use Rattle.xf_share.specs.Ends.{HaveCardTypings}
use Rattle.cap_text.specs.Run.{run_request}
use Rattle.cap_text.specs.Trial.{trial_text}
use Rattle.capcheck_core.specs.declared.verdict.Verdict.TheVariants.{Done}
use Rattle.capcheck_core.specs.LentCard.{words_of}
use Rattle.capcheck_core.specs.Trial.{steps_each, IsUntriedKept, TriesIn}
use Rattle.capcheck_core.proofs.Trials.{begins, tried}
use Rattle.capcheck_core.proofs.Verdicts.{said}
use Rattle.capcheck_core.proofs.trying.run_new.Goals as goal

pub run_carded-requires-clause-carded : goal.run_carded-requires-clause-carded
run_carded-requires-clause-carded c = subst HaveCardTypings c.requires.made.1 c.requires.made.0.keeps.carded

pub run_carded-requires-clause-begins : goal.run_carded-requires-clause-begins
run_carded-requires-clause-begins c =
    let m = c.args.made.now in
    begins m.packages.now m.roles m.world.now c.requires.linked m.parts.now c.args.new.now c.requires.made
    c.starts_refuse_alike.ensures.refused c.starts_refuse_alike.ensures.numbered (run_request c.args.run.now) c.args.source.now
    c.requires.defended

pub returns-in-Ok-clause-tries : goal.returns-in-Ok-clause-tries
returns-in-Ok-clause-tries c =
    let source = c.args.source.now in
    let m = c.args.made.now in
    let r = run_request c.args.run.now in
    let left = words_of c.run_carded.new.card in
    said string_bytes Done (TriesIn m.packages.now m.roles m.world.now r left) c.tried.result
    (trial_text source c.as_str.result.now) c.done.result (tt {0})
    (λ t prints.
    tried m.packages.now m.roles m.world.now m.parts.now c.args.new.now r (steps_each * c.from-steps.result) left
    source (string_bytes c.in-Ok.target) (string_bytes t) c.requires.made (ap (λ n. steps_each * n) c.from-steps.ensures) c.requires.defended
    c.in-Ok.ensures.runs (prints ∙ ap (trial_text source) c.as_str.ensures.value))
    c.tried.ensures c.done.ensures

pub returns-in-Ok-clause-kept : goal.returns-in-Ok-clause-kept
returns-in-Ok-clause-kept c =
    let source = c.args.source.now in
    let m = c.args.made.now in
    let r = run_request c.args.run.now in
    let left = words_of c.run_carded.new.card in
    let target = string_bytes c.in-Ok.target in
    let both = tried m.packages.now m.roles m.world.now m.parts.now c.args.new.now r (steps_each * c.from-steps.result) left
    source target (trial_text source target) c.requires.made (ap (λ n. steps_each * n) c.from-steps.ensures) c.requires.defended c.in-Ok.ensures.runs
    refl in
    said string_bytes Done (IsUntriedKept m.packages.now m.roles m.world.now r (words_of c.args.card.now) left) c.tried.result
    (trial_text source c.as_str.result.now) c.done.result (inr (trial_text source target, both)) (λ t prints. tt {0})
    c.tried.ensures c.done.ensures
