use Rattle.std.proofs.Common.{◌≡◌, [], ◌∷◌, ◌++◌, rules}
use Rattle.std.proofs.lemmas.List.Elements.{All-push}
use Rattle.dcc_sqlite_rows.specs.declared.line.Line.{Line}
use Rattle.dcc_sqlite_rows.specs.Pages.{IsSub}
use Rattle.dcc_sqlite_rows.specs.inner.Versions.{HasBody}
use Rattle.dcc_sqlite_rows.proofs.Lines.{lines_more}
use Rattle.dcc_sqlite_rows.proofs.line.lines_of.Goals as goal

pub loop-row-preserved : goal.loop-row-preserved
loop-row-preserved c =
    let version = c.args.version in
    let lines = c.loop-row.lines.items in
    let line = c.in_ok-line.line in
    let pushed : c.push.new.self.items ≡ lines ++ line ∷ [] = search rules in
    let it = c.loop-row.invariant in
    rw pushed (record {
      lines = lines_more version c.args.rows.now c.loop-row.row-index c.row-item.result lines line c.loop-row-test.true c.row-item.is it.lines c.in_ok-line.ensures.line;
      subs = All-push (λ (l : Line). IsSub l.sub) lines line it.subs c.in_ok-line.ensures.sub;
      fit = All-push (λ (l : Line). HasBody version l.act) lines line it.fit c.in_ok-line.ensures.fits;
    })
