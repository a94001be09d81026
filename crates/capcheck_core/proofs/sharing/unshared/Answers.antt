-- the method that is named is the first
use Rattle.std.proofs.Common.{subst, ap, ◌∙◌, inl}
use Rattle.std.specs.Prelude.{string_bytes}
use Rattle.cap_text.specs.Line.{refused_card_line}
use Rattle.cap_text.specs.Transformed.{code_limit_line}
use Rattle.xf_share.specs.Ends.{IsRefusedFirst, IsSharedTooLong, TellsOf}
use Rattle.capcheck_core.specs.declared.verdict.Verdict.TheVariants.{Refused, Limit}
use Rattle.capcheck_core.specs.Share.{StopsSharing}
use Rattle.capcheck_core.proofs.Transforms.{named}
use Rattle.capcheck_core.proofs.Verdicts.{said}
use Rattle.capcheck_core.proofs.sharing.unshared.Goals as goal

pub returns-in-Refused : goal.returns-in-Refused
returns-in-Refused c =
    let w = c.args.world.now in
    let is : IsRefusedFirst w c.in-Refused.method c.in-Refused.fault = subst (TellsOf c.args._packages.now w) c.in-Refused.is c.requires in
    let number = named w is.method c.in-Refused.method c.number_of.result is.first.asked is.numbered c.number_of.ensures in
    said string_bytes Refused (StopsSharing c.args._packages.now w) c.refused_card.result _ c.refused.result (tt {0})
    (λ t prints. record {
      method = is.method;
      first = is.first;
      fault = c.in-Refused.fault;
      kept = is.kept;
      tells = is.refused;
      prints = prints ∙ ap (λ k. refused_card_line k c.in-Refused.fault) number;
    })
    c.refused_card.ensures c.refused.ensures

pub returns-in-MethodLong : goal.returns-in-MethodLong
returns-in-MethodLong c =
    let w = c.args.world.now in
    let is : IsSharedTooLong w c.in-MethodLong.method c.in-MethodLong.n = subst (TellsOf c.args._packages.now w) c.in-MethodLong.is c.requires in
    let number = named w is.method c.in-MethodLong.method c.number_of-in-MethodLong.result is.of_last.method is.numbered c.number_of-in-MethodLong.ensures in
    said string_bytes Limit (StopsSharing c.args._packages.now w) c.limit_code.result _ c.limit.result (tt {0})
    (λ t prints. inl (record {
      number = c.in-MethodLong.method;
      size = c.in-MethodLong.n;
      is = is;
      prints = prints ∙ ap (λ k. code_limit_line k c.in-MethodLong.n) number;
    }))
    c.limit_code.ensures c.limit.ensures
