use Rattle.std.proofs.Common.{◌≡◌, ◌+◌, drop, map, [], ◌∷◌, ◌++◌, ap, ◌∙◌, rules}
use Rattle.std.proofs.lemmas.List.{take_all}
use Rattle.dcc_sqlite_rows.specs.Tallies.{tally_of}
use Rattle.dcc_sqlite_rows.specs.Pages.{IsOwn, book_entry_rows}
use Rattle.dcc_sqlite_rows.proofs.Judgements.{each_more, each_at, each_end, pages_next, tallies_next, page_stands, pages_end}
use Rattle.dcc_sqlite_rows.proofs.judging.judge_pages.Goals as goal

pub loop-i-preserved : goal.loop-i-preserved
loop-i-preserved c =
    let terms = c.args.terms.now in
    let pages = c.args.pages.now in
    let it = c.loop-i.invariant in
    let page = c.index-pages-i.result in
    let judged = c.in-Some.judged in
    let found = c.in_ok-judged.ensures in
    let pushed : c.push.new.self.items ≡ c.loop-i.tallies.items ++ judged.tally ∷ [] = search rules in
    let next = pages_next terms pages c.args.entries.now c.loop-i.i c.loop-i.at judged.rows page c.loop-i-test.true c.index-pages-i.is it.within it.rows (rw c.in-Some.is at found.within) (rw c.in-Some.is at found.rows) in
    record {
      own = each_more (IsOwn terms) pages c.loop-i.i page c.loop-i-test.true c.index-pages-i.is (rw c.in-Some.is at found.own) it.own;
      within = next.0;
      rows = next.1;
      tallies = rw pushed (tallies_next terms pages c.args.entries.now c.loop-i.i page c.loop-i.tallies.items judged.tally c.loop-i-test.true c.index-pages-i.is it.tallies (rw c.in-Some.is at found.tally));
    }

pub overflow_add-at : goal.overflow_add-at
overflow_add-at c =
    let it = c.loop-i.invariant in
    let found = c.in_ok-judged.ensures in
    let next = pages_next c.args.terms.now c.args.pages.now c.args.entries.now c.loop-i.i c.loop-i.at c.in-Some.judged.rows c.index-pages-i.result c.loop-i-test.true c.index-pages-i.is it.within it.rows (rw c.in-Some.is at found.within) (rw c.in-Some.is at found.rows) in
    search (rules, next.0)

pub returns-in_default : goal.returns-in_default
returns-in_default c = record {
  own = tt;
  entries = tt;
  tallies = tt;
  none = λ _ own same.
      let terms = c.args.terms.now in
      let pages = c.args.pages.now in
      let it = c.loop-i.invariant in
      let page = c.index-pages-i.result in
      absurd (c.in_ok-judged.ensures.none c.in_default.is (each_at (IsOwn terms) pages c.loop-i.i page c.loop-i-test.true c.index-pages-i.is own) (book_entry_rows terms (drop (c.loop-i.i + 1) pages))
      (page_stands terms pages c.args.entries.now c.loop-i.i c.loop-i.at page c.loop-i-test.true c.index-pages-i.is it.within it.rows same));
}

pub returns : goal.returns
returns c =
    let terms = c.args.terms.now in
    let pages = c.args.pages.now in
    let it = c.loop-i.invariant in
    record {
      own = each_end (IsOwn terms) pages c.loop-i.i c.loop-i-test.false it.own;
      entries = (pages_end terms pages c.args.entries.now c.loop-i.i c.loop-i.at c.loop-i-test.false it.within it.rows).0 c.if-at-entries.false;
      tallies = it.tallies ∙ ap (map (tally_of terms)) (take_all c.loop-i.i pages c.loop-i-test.false);
      none = λ e. absurd cc;
    }
