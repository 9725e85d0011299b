use Rattle.std.proofs.Common.{◌∙◌, sym}
use Rattle.dcc_running.specs.inner.Told.{numbers}
use Rattle.dcc_running.proofs.Tops.{continued}
use Rattle.dcc_running.proofs.told.Told.is_continued.Goals as goal

pub returns-clause-yes : goal.returns-clause-yes
returns-clause-yes c = λ all sub.
    rw (← c.self.view_is)
    (sym (continued c.orders_agree.ensures c.self.inside.tops.entries (numbers c.self.inside.seats.items) c.self.inside.seen c.self.invariant.1 c.args.seat c.args.receipts.now sub c.requires.placed)
    ∙ c.in_ok-ordered.ensures.yes all sub)

pub returns-clause-no : goal.returns-clause-no
returns-clause-no c = λ some.
    let w = c.in_ok-ordered.ensures.no some in (
      w.0,
      rw (← c.self.view_is)
          (sym (continued c.orders_agree.ensures c.self.inside.tops.entries (numbers c.self.inside.seats.items) c.self.inside.seen c.self.invariant.1 c.args.seat c.args.receipts.now w.0 c.requires.placed)
          ∙ w.1),
    )
