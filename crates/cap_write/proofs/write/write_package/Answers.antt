use Rattle.std.proofs.Common.{◌≤◌, length, sym, ap, subst, arith}
use Rattle.cap_write.specs.NewIndex.{index_seen}
use Rattle.cap_write.proofs.LaidWell.{laid_well}
use Rattle.cap_write.proofs.Longest.{info_long}
use Rattle.cap_write.proofs.Numbers.{short_codes}
use Rattle.cap_laying.specs.WrittenSeen.{IsWrittenAs}
use Rattle.cap_write.proofs.Gathered.{are_written, index_short, written_of}
use Rattle.cap_write.proofs.Spread.{references_short}
use Rattle.cap_write.proofs.Whole.{again}
use Rattle.cap_write.proofs.write.write_package.Goals as goal

pub all_parts-requires : goal.all_parts-requires
all_parts-requires c =
    let p = c.args.package.now in
    let w = c.in_ok-written.ensures.ok in
    let long = info_long (length p.methods.info) (length p.methods.handlers) c.deref.result.now in
    let same = ap length w.info in
    let short = w.short in
    record {
      methods = omega arith;
      references =
          subst (λ xs. length xs ≤ 65535) (sym w.references)
          (references_short (length p.methods.info) (length p.methods.handlers) c.deref.result.now w.short);
      index = index_short p c.args.laid.now (index_seen c.in_ok-index.index) c.in_ok-index.ensures;
    }

pub new_index-requires : goal.new_index-requires
new_index-requires c =
    let p = c.args.package.now in
    short_codes c.args.laid.now (laid_well p.parts p c.args.laid.now c.parts-parts.ensures.agree c.requires)

pub returns-clause-written : goal.returns-clause-written
returns-clause-written c =
    let p = c.args.package.now in
    let ms = c.in_ok-members.members.items in
    let w : IsWrittenAs (length p.methods.info) (length p.methods.handlers) ms c.in_ok-written.written = subst
    (λ xs. IsWrittenAs (length p.methods.info) (length p.methods.handlers) xs c.in_ok-written.written) c.deref.ensures.value
    c.in_ok-written.ensures.ok in
    written_of p c.args.laid.now ms c.in_ok-written.written (index_seen c.in_ok-index.index) c.in_ok-parts.parts c.in_ok-members.ensures.are w
    c.in_ok-index.ensures c.in_ok-parts.ensures

pub returns-clause-again : goal.returns-clause-again
returns-clause-again c =
    let p = c.args.package.now in
    let ls = c.args.laid.now in
    let ms = c.in_ok-members.members.items in
    let w : IsWrittenAs (length p.methods.info) (length p.methods.handlers) ms c.in_ok-written.written = subst
    (λ xs. IsWrittenAs (length p.methods.info) (length p.methods.handlers) xs c.in_ok-written.written) c.deref.ensures.value
    c.in_ok-written.ensures.ok in
    let whole = are_written p ls ms c.in_ok-written.written (index_seen c.in_ok-index.index) c.in_ok-parts.parts c.in_ok-members.ensures.are w
    c.in_ok-parts.ensures in
    again c.rewritten_is_a_package.ensures c.writing_rewrites.ensures p ls ms (index_seen c.in_ok-index.index) c.in_ok-parts.parts
    c.parts-parts.ensures.agree c.directory_fits.ensures c.requires c.in_ok-members.ensures.stacks c.in_ok-members.ensures.are c.in_ok-index.ensures whole
