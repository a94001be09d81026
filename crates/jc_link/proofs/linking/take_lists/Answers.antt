use Rattle.std.proofs.Common.{◌∙◌, ap}
use Rattle.jc_resolve.specs.Named.{infos_of}
use Rattle.cap_index.specs.Indexes.{indexes_of}
use Rattle.jc_link.specs.Arrays.{array_records}
use Rattle.jc_link.proofs.Steps.{homes-known}
use Rattle.jc_link.proofs.linking.take_lists.Goals as goal

pub indexes-requires-clause-homes : goal.indexes-requires-clause-homes
indexes-requires-clause-homes c =
    let n = c.args.names.now in
    rw (c.packages-packages.ensures.is, c.methods.ensures.is) (homes-known n.packages n.roles n c.requires)

pub returns : goal.returns
returns c =
    let n = c.args.names.now in
    let e = c.packages-packages.ensures.is in
    record {
      infos = c.in_ok-infos.ensures.are ∙ ap infos_of e;
      bytes = c.in_ok-infos.ensures.few;
      arrays = c.in_ok-arrays.ensures.is ∙ ap array_records e;
      elements = c.in_ok-arrays.ensures.elements;
      indexes = c.in_ok-indexes.ensures ∙ ap (λ ps. indexes_of ps c.methods.result.now) e ∙ ap (indexes_of n.packages) c.methods.ensures.is;
    }
