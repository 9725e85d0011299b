use Rattle.std.proofs.Common.{◌≡◌, ◌↔◌, ◌+◌, ◌++◌, ◌∷◌, pos, true, false, map, append_assoc, [], sym, ap, subst, ◌∙◌, rules}
use Rattle.std.proofs.lemmas.Iterator.Adapters.{YieldsList-from_vec}
use Rattle.std.proofs.lemmas.Iterator.Consumers.{YieldsList-end}
use Rattle.std.specs.Vec.Iter.{into_iter_items}
use mathlib.Core.List.{map-id}
use Rattle.dcc_store.specs.Books.{AreInOrder}
use Rattle.dcc_sqlite_rows.specs.Pages.{book_act_rows}
use Rattle.dcc_sqlite_rows.specs.Stored.{line_row}
use Rattle.dcc_sqlite_rows.specs.inner.Groups.{put_behind, before_it}
use Rattle.dcc_sqlite_rows.proofs.Groups.{grouped_next, next_valid, fits_more, only_book, found_only}
use Rattle.dcc_sqlite_rows.proofs.grouping.book_of.Goals as goal

pub loop-line-preserved : goal.loop-line-preserved
loop-line-preserved c =
    let lines = c.args.lines.items in
    let front = c.loop-line.yielded in
    let line = c.in-Some.line in
    let rest = into_iter_items c.next.new.self in
    let pages = c.loop-line.pages.items in
    let it = c.loop-line.invariant in
    let whole : front ++ line ∷ rest ≡ lines = ap (λ tail. front ++ tail) (sym c.in-Some.ensures.steps.0) ∙ it.all in
    let next : c.put_behind.new.pages.items ≡ put_behind line.sub line.act pages = search rules in
    let stands : c.stands_behind-fits.result ≡ true ↔ line.place ≡ pos (before_it line.sub pages + 1) = search rules in
    rw next (record {
      all = append_assoc front (line ∷ []) rest ∙ whole;
      pages = grouped_next front line pages it.pages;
      valid = next_valid lines front rest line pages whole c.requires.subs c.requires.fit it.valid;
      fits = fits_more c.same_subscribers_are_equal.ensures front line pages c.loop-line.fits c.stands_behind-fits.result it.fits stands;
    })

pub returns-then-not-fits-clause-none : goal.returns-then-not-fits-clause-none
returns-then-not-fits-clause-none c _ pages sorted valid rows =
    let lines = c.args.lines.items in
    let found = c.loop-line.pages.items in
    let it = c.loop-line.invariant in
    let gives = c.into_iter-line-iterator.ensures.into_iter_gives in
    let end = YieldsList-end (YieldsList-from_vec {s = c.into_iter-line-iterator.result} lines gives.0 (gives.1 ∙ c.args.lines.ok.0)) c.loop-line.yielded
    c.loop-line.line-iterator c.loop-line.yielded_by c.next.result c.next.new.self c.in-None.is c.next.ensures.steps in
    let done : c.loop-line.yielded ≡ lines = sym (map-id c.loop-line.yielded) ∙ end.0 in
    let is = rw done at it.pages in
    let same = only_book c.records_differ.ensures.one c.same_subscribers_are_equal.ensures lines found pages c.requires.fit is valid sorted rows in
    let good : c.loop-line.fits ≡ true = it.fits.1 (ap (map line_row) done ∙ rows ∙ ap book_act_rows (sym same)) in
    let bad : c.loop-line.fits ≡ false = search rules in
    absurd (let e = sym bad ∙ good in cc)

pub returns-clause-none : goal.returns-clause-none
returns-clause-none c none pages sorted valid rows =
    let lines = c.args.lines.items in
    let found = c.loop-line.pages.items in
    let it = c.loop-line.invariant in
    let gives = c.into_iter-line-iterator.ensures.into_iter_gives in
    let end = YieldsList-end (YieldsList-from_vec {s = c.into_iter-line-iterator.result} lines gives.0 (gives.1 ∙ c.args.lines.ok.0)) c.loop-line.yielded
    c.loop-line.line-iterator c.loop-line.yielded_by c.next.result c.next.new.self c.in-None.is c.next.ensures.steps in
    let done : c.loop-line.yielded ≡ lines = sym (map-id c.loop-line.yielded) ∙ end.0 in
    let is = rw done at it.pages in
    let same = only_book c.records_differ.ensures.one c.same_subscribers_are_equal.ensures lines found pages c.requires.fit is valid sorted rows in
    let some = c.from_vec.ensures.some.1 (subst AreInOrder (sym same) sorted) in
    absurd (let k : false ≡ true = rw none at some in cc)

pub returns-clause-only : goal.returns-clause-only
returns-clause-only c =
    let lines = c.args.lines.items in
    let gives = c.into_iter-line-iterator.ensures.into_iter_gives in
    let end = YieldsList-end (YieldsList-from_vec {s = c.into_iter-line-iterator.result} lines gives.0 (gives.1 ∙ c.args.lines.ok.0)) c.loop-line.yielded
    c.loop-line.line-iterator c.loop-line.yielded_by c.next.result c.next.new.self c.in-None.is c.next.ensures.steps in
    let done : c.loop-line.yielded ≡ lines = sym (map-id c.loop-line.yielded) ∙ end.0 in
    found_only c.records_differ.ensures.one c.same_subscribers_are_equal.ensures lines c.loop-line.pages.items c.from_vec.result c.requires.fit
    (rw done at c.loop-line.invariant.pages) c.from_vec.ensures.value
