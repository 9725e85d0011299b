use Rattle.std.proofs.lemmas.Result.{on_ok_weaker}
use Rattle.dcc_program.proofs.StoreLemmas.{top_up_of_any, failed_of_any, top_up_begun_of_any}
use Rattle.dcc_program.proofs.program.top_up_at.Goals as goal

pub returns-clause-whole : goal.returns-clause-whole
returns-clause-whole g c =
    on_ok_weaker c.top_up.result (top_up_of_any (g.S.Stores.opens c.args.stores.now c.args.place.folder.now) g.S.Records.Records.may_leave
    (g.F.File.Read.remaining c.in_ok-file.file) c.args.ask _ _) c.top_up.ensures.whole

pub returns-clause-failure : goal.returns-clause-failure
returns-clause-failure g c = failed_of_any (g.F.File.Read.remaining c.in_ok-file.file) c.top_up.result c.top_up.ensures.failure

pub returns-clause-silent : goal.returns-clause-silent
returns-clause-silent g c = c.top_up.ensures.silent

pub returns-clause-part : goal.returns-clause-part
returns-clause-part g c =
    top_up_begun_of_any (g.F.File.Read.remaining c.in_ok-file.file) c.args.ask _ _ c.top_up.result c.top_up.ensures.part
