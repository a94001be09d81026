-- the method that is named is the first
use Rattle.std.proofs.Common.{subst, ap, ◌∙◌, inl, inr}
use Rattle.std.specs.Prelude.{string_bytes}
use Rattle.cap_text.specs.Line.{refused_card_line, refused_flow_line}
use Rattle.xf_pack.specs.Ends.{IsRefusedLibrary, IsUntypedLast, IsLimited, TellsOf}
use Rattle.capcheck_core.specs.declared.verdict.Verdict.TheVariants.{Refused, Limit}
use Rattle.capcheck_core.specs.Transform.{limit_line, StopsBefore}
use Rattle.capcheck_core.proofs.Transforms.{named}
use Rattle.capcheck_core.proofs.Verdicts.{said}
use Rattle.capcheck_core.proofs.transforming.untransformed.Goals as goal

pub returns-in-Library : goal.returns-in-Library
returns-in-Library c =
    let w = c.args.world.now in
    let is : IsRefusedLibrary w c.in-Library.method c.in-Library.fault = subst (TellsOf c.args._packages.now w) c.in-Library.is c.requires in
    let number = named w is.method c.in-Library.method c.number_of.result is.first.asked.method is.numbered c.number_of.ensures in
    said string_bytes Refused (StopsBefore c.args._packages.now w) c.refused_card.result _ c.refused.result (tt {0})
    (λ t prints. inl (record {
      number = c.in-Library.method;
      fault = c.in-Library.fault;
      is = is;
      prints = prints ∙ ap (λ k. refused_card_line k c.in-Library.fault) number;
    }))
    c.refused_card.ensures c.refused.ensures

pub returns-in-Typing : goal.returns-in-Typing
returns-in-Typing c =
    let w = c.args.world.now in
    let is : IsUntypedLast w c.in-Typing.method c.in-Typing.end = subst (TellsOf c.args._packages.now w) c.in-Typing.is c.requires in
    let number = named w is.method c.in-Typing.method c.number_of-in-Typing.result is.first.asked.method is.numbered c.number_of-in-Typing.ensures in
    said string_bytes Refused (StopsBefore c.args._packages.now w) c.refused_flow.result _ c.refused-in-Typing.result (tt {0})
    (λ t prints. inr (record {
      number = c.in-Typing.method;
      end = c.in-Typing.end;
      is = is;
      prints = prints ∙ ap (λ k. refused_flow_line k c.in-Typing.end) number;
    }))
    c.refused_flow.ensures c.refused-in-Typing.ensures

pub returns-in-Limit : goal.returns-in-Limit
returns-in-Limit c =
    let w = c.args.world.now in
    let is : IsLimited w c.in-Limit.method c.in-Limit.limit = subst (TellsOf c.args._packages.now w) c.in-Limit.is c.requires in
    let number = named w is.method c.in-Limit.method c.number_of-in-Limit.result is.of_last.method is.numbered c.number_of-in-Limit.ensures in
    said string_bytes Limit (StopsBefore c.args._packages.now w) c.limit_of.result _ c.limit.result (tt {0})
    (λ t prints. inl (record {
      number = c.in-Limit.method;
      limit = c.in-Limit.limit;
      is = is;
      prints = prints ∙ ap (λ k. limit_line k c.in-Limit.limit) number;
    }))
    c.limit_of.ensures c.limit.ensures
