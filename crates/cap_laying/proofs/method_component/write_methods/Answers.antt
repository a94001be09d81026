use Rattle.std.proofs.Common.{◌≡◌, ◌≤◌, ◌+◌, ◌*◌, ◌++◌, length, sym, ap, subst, ◌∙◌}
use Rattle.cap_laying.specs.Blocks.{blocks, entries_of_blocks, handler_indexes, total_handlers}
use Rattle.cap_laying.specs.HandlerTable.{table_bytes}
use Rattle.cap_laying.specs.Member.{bodies, by_offset, methods_end_from}
use Rattle.cap_laying.specs.MethodInfo.{AreSmallEntries}
use Rattle.cap_laying.specs.NewPlaces.{news_from}
use Rattle.cap_laying.specs.Members.{new_places, written_info, written_size}
use Rattle.cap_laying.specs.References.{references_info, written_references}
use Rattle.cap_laying.proofs.Owned.{blocks_placed, info_steps, length_table}
use Rattle.cap_laying.proofs.method_component.write_methods.Goals as goal

pub put_table-requires : goal.put_table-requires
put_table-requires c =
    let size = c.args.size in
    let room = c.args.room in
    let ms = c.args.members.now in
    let start = 1 + 8 * c.handler_total-total.result in
    let two : c.deref-2.result.now ≡ by_offset size ms = c.deref-2.ensures.value ∙ c.in_ok-table.ensures in
    let four : c.deref-4.result.now ≡ by_offset size ms = c.deref-4.ensures.value ∙ c.in_ok-table.ensures in
    let five : c.deref-5.result.now ≡ c.in_ok-indexes.indexes.items = c.deref-5.ensures.value in
    let six : c.deref-6.result.now ≡ blocks room ms = c.deref-6.ensures.value ∙ c.in_ok-blocks.ensures in
    let end : methods_end_from start (by_offset size ms) ≤ 65535 = subst (λ t. methods_end_from start t ≤ 65535) two
    (subst (λ e. e ≤ 65535) c.in-Some.ensures.0 c.in-Some.ensures.1) in
    let news : c.in_ok-news.news ≡ news_from c.deref-5.result.now start (by_offset size ms) = c.in_ok-news.ensures
    ∙ ap (news_from c.deref-5.result.now start) four in
    rw (news, six) (blocks_placed size room start c.deref-5.result.now ms c.requires.each c.requires.apart end)

pub returns : goal.returns
unfolding new_places written_info written_size written_references
returns c =
    let size = c.args.size in
    let room = c.args.room in
    let ms = c.args.members.now in
    let start = 1 + 8 * c.handler_total-total.result in
    let order : c.deref.result.now ≡ blocks room ms = c.deref.ensures.value ∙ c.in_ok-blocks.ensures in
    let total : c.handler_total-total.result ≡ total_handlers (blocks room ms) = c.handler_total-total.ensures ∙ ap total_handlers order in
    let begins : start ≡ 1 + 8 * total_handlers (blocks room ms) = ap (λ n. 1 + 8 * n) total in
    let two : c.deref-2.result.now ≡ by_offset size ms = c.deref-2.ensures.value ∙ c.in_ok-table.ensures in
    let three : c.deref-3.result.now ≡ blocks room ms = c.deref-3.ensures.value ∙ c.in_ok-blocks.ensures in
    let four : c.deref-4.result.now ≡ by_offset size ms = c.deref-4.ensures.value ∙ c.in_ok-table.ensures in
    let indexes : c.deref-5.result.now ≡ handler_indexes size (blocks room ms) = c.deref-5.ensures.value ∙ c.in_ok-indexes.ensures
    ∙ ap (handler_indexes size) three in
    let six : c.deref-6.result.now ≡ blocks room ms = c.deref-6.ensures.value ∙ c.in_ok-blocks.ensures in
    let seven : c.deref-7.result.now ≡ by_offset size ms = c.deref-7.ensures.value ∙ c.in_ok-table.ensures in
    let eight : c.deref-8.result.now ≡ by_offset size ms = c.deref-8.ensures.value ∙ c.in_ok-table.ensures in
    let nine : c.deref-9.result.now ≡ blocks room ms = c.deref-9.ensures.value ∙ c.in_ok-blocks.ensures in
    let news : c.in_ok-news.news ≡ news_from (handler_indexes size (blocks room ms)) (1 + 8 * total_handlers (blocks room ms)) (by_offset size ms) =
    c.in_ok-news.ensures ∙ ap (λ t. news_from c.deref-5.result.now start t) four ∙ ap (λ i. news_from i start (by_offset size ms)) indexes
    ∙ ap (λ k. news_from (handler_indexes size (blocks room ms)) k (by_offset size ms)) begins in
    let entries = entries_of_blocks (news_from (handler_indexes size (blocks room ms)) (1 + 8 * total_handlers (blocks room ms)) (by_offset size ms))
    (blocks room ms) in
    let third : c.put_table.new.out.items ≡ c.push.new.self.items ++ table_bytes entries =
    c.in_ok-put_table.ensures.bytes ∙ ap (λ n. c.push.new.self.items ++ table_bytes (entries_of_blocks n c.deref-6.result.now)) news
    ∙ ap
    (λ b. c.push.new.self.items ++ table_bytes
    (entries_of_blocks (news_from (handler_indexes size (blocks room ms)) (1 + 8 * total_handlers (blocks room ms)) (by_offset size ms)) b)) six in
    let fourth : c.put_bodies.new.out.items ≡ c.put_table.new.out.items ++ bodies (by_offset size ms) = c.in_ok-put_bodies.ensures
    ∙ ap (λ t. c.put_table.new.out.items ++ bodies t) seven in
    let count : c.handler_total-total.result ≡ length entries = total
    ∙ sym (length_table (news_from (handler_indexes size (blocks room ms)) (1 + 8 * total_handlers (blocks room ms)) (by_offset size ms))
    (blocks room ms)) in
    let small = subst (λ b. AreSmallEntries (entries_of_blocks
    (news_from (handler_indexes size (blocks room ms)) (1 + 8 * total_handlers (blocks room ms)) (by_offset size ms)) b)) six
    (subst (λ n. AreSmallEntries (entries_of_blocks n c.deref-6.result.now)) news c.in_ok-put_table.ensures.small) in
    record {
      info =
          info_steps c.handler_total-total.result c.in_ok-info.info.items c.push.new.self.items c.put_table.new.out.items c.put_bodies.new.out.items entries
          (by_offset size ms) c.in_ok-info.ensures.items c.in_ok-push.ensures.items third fourth count;
      references =
          c.in_ok-references.ensures ∙ ap (λ t. references_info start t c.deref-9.result.now) eight
          ∙ ap (λ b. references_info start (by_offset size ms) b) nine ∙ ap (λ k. references_info k (by_offset size ms) (blocks room ms)) begins;
      news = news;
      small = small;
      short =
          subst (λ k. methods_end_from k (by_offset size ms) ≤ 65535) begins
          (subst (λ t. methods_end_from start t ≤ 65535) two (subst (λ e. e ≤ 65535) c.in-Some.ensures.0 c.in-Some.ensures.1));
    }
