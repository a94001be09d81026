-- all is stored, and the text tells as many blocks as there are
use Rattle.std.proofs.Common.{◌∙◌, ap, length, subst}
use Rattle.cap_text.specs.Packed.{packed_line}
use Rattle.capcheck_core.specs.Stores.{AreStored}
use Rattle.capcheck_core.proofs.packing.store_packed.Goals as goal

pub returns-in-Ok-store_parts : goal.returns-in-Ok-store_parts
returns-in-Ok-store_parts g c =
    let packed = c.requires.packed in
    record {
      stream = c.args.stream.now;
      packed = packed;
      short = c.requires.short;
      stored = subst (λ stores. AreStored c.args.out.now stores (g.F.Folder.folders c.args.folder.now) (g.F.Folder.folders c.store_parts.new.folder))
          c.in-Ok.ensures c.in-Ok-store_parts.ensures;
      prints = c.in-Ok-packed.ensures
          ∙ ap (λ n. packed_line n (length c.args.stream.now)) (c.block_count.ensures packed.blocks packed.full packed.whole);
    }
