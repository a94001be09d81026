use Rattle.std.proofs.Common.{◌≡◌, ◌+◌, refl, subst, rules}
use Rattle.cap_pool.specs.PoolFormat.{entry_info}
use Rattle.cap_pool.specs.Pool.{entry_seen, entries, entries_left}
use Rattle.cap_bytes.specs.Edit.{patched_all}
use Rattle.cap_renewal.specs.PoolEdits.{entry_edits, renewed_entry, entry_width, pool_edits}
use Rattle.cap_renewal.specs.NewMethods.{to}
use Rattle.cap_renewal.proofs.Items.{IsRenewing, IsNext, renewing_next, renewing_more}
use Rattle.cap_renewal.proofs.PoolItems.{entry_item, pool_begins, pool_inside, pool_fit, pool_renewed}
use Rattle.cap_bytes.specs.Renewal.{Renews}
use Rattle.cap_renewal.proofs.News.{keeps_small}
use Rattle.cap_renewal.proofs.pool.renew_pool.Goals as goal

pub entries-init : goal.entries-init
entries-init c =
    let f = to c.args.news.now in
    let e : entries c.args.pool.now ≡ entries_left c.into_iter-entry-iterator.result = cc in
    subst (λ xs. IsRenewing entry_info (entry_edits f) entry_width c.args.info.now (patched_all (pool_edits f (entries c.args.pool.now)) c.args.info.now) 2
    xs c.args.info.now)
    e (pool_begins f c.args.info.now (entries c.args.pool.now) c.requires)

pub write_entry-requires : goal.write_entry-requires
write_entry-requires c =
    let f = to c.args.news.now in
    let n : IsNext entry_info entry_width c.args.info.now c.entries.info c.entries.at (entry_seen c.in-Some.entry) =
    renewing_next entry_info (entry_edits f) entry_width (renewed_entry f) c.args.info.now
    (patched_all (pool_edits f (entries c.args.pool.now)) c.args.info.now) c.entries.at (entries_left c.entries.entry-iterator) c.entries.info
    (entry_seen c.in-Some.entry) (entries_left c.next.new.self) (entry_item f c.args.info.now) c.entries.invariant c.in-Some.ensures.steps in
    n.within

pub entries-preserved : goal.entries-preserved
entries-preserved c =
    let f = to c.args.news.now in
    renewing_more entry_info (entry_edits f) entry_width (renewed_entry f) c.args.info.now
    (patched_all (pool_edits f (entries c.args.pool.now)) c.args.info.now) c.entries.at (entries_left c.entries.entry-iterator) c.entries.info
    (entry_seen c.in-Some.entry) (entries_left c.next.new.self)
    (c.entries.at + 4) c.write_entry.new.info (entry_item f c.args.info.now) c.entries.invariant c.in-Some.ensures.steps refl c.write_entry.ensures.value
    c.write_entry.ensures.long

pub returns-clause-renewed : goal.returns-clause-renewed
returns-clause-renewed c =
    let f = to c.args.news.now in
    let es = entries c.args.pool.now in
    let v : c.entries.info ≡ patched_all (pool_edits f es) c.args.info.now = search rules in
    rw v
    (c.patches_renew.ensures (pool_edits f es) c.args.info.now (pool_inside f c.args.info.now es c.requires)
    (pool_fit f c.args.info.now es c.are_bytes.ensures (keeps_small c.args.news.now c.are_small.ensures) c.requires))

pub returns-clause-stands : goal.returns-clause-stands
returns-clause-stands c =
    let f = to c.args.news.now in
    let es = entries c.args.pool.now in
    let v : c.entries.info ≡ patched_all (pool_edits f es) c.args.info.now = search rules in
    let r : Renews (pool_edits f es) c.args.info.now c.entries.info =
    rw v
    (c.patches_renew.ensures (pool_edits f es) c.args.info.now (pool_inside f c.args.info.now es c.requires)
    (pool_fit f c.args.info.now es c.are_bytes.ensures (keeps_small c.args.news.now c.are_small.ensures) c.requires)) in
    pool_renewed f c.args.info.now c.entries.info es c.requires r
