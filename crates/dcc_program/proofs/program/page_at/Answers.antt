use Rattle.std.proofs.lemmas.Result.{on_ok_weaker}
use Rattle.dcc_program.proofs.StoreLemmas.{page_of_any, failed_of_any, page_begun_of_any}
use Rattle.dcc_program.proofs.program.page_at.Goals as goal

pub returns-clause-whole : goal.returns-clause-whole
returns-clause-whole g c =
    on_ok_weaker c.page.result (page_of_any c.args.shown (g.S.Stores.opens c.args.stores.now c.args.place.folder.now) g.S.Records.Records.may_leave
    (g.F.File.Read.remaining c.in_ok-file.file) c.args.sub _ _) c.page.ensures.whole

pub returns-clause-failure : goal.returns-clause-failure
returns-clause-failure g c = failed_of_any (g.F.File.Read.remaining c.in_ok-file.file) c.page.result c.page.ensures.failure

pub returns-clause-silent : goal.returns-clause-silent
returns-clause-silent g c = c.page.ensures.silent

pub returns-clause-part : goal.returns-clause-part
returns-clause-part g c =
    page_begun_of_any c.args.shown (g.F.File.Read.remaining c.in_ok-file.file) c.args.sub _ _ c.page.result c.page.ensures.part
