use Rattle.std.proofs.Common.{rules, ◌≡◌, ◌++◌, List, ap, ◌∙◌, filter, reverse}
use Rattle.std.proofs.lemmas.Fn.{filter_same}
use Rattle.dcc_model.specs.Sessions.{Live, goes_on}
use Rattle.dcc_model.proofs.sessions.with_others.Goals as goal

pub returns : goal.returns
returns c =
    let goes = goes_on c.args.terms.now (reverse c.args.past.now) c.args.done.now in
    let kept : c.retain.new.self.items ≡ filter goes c.args.others.items = filter_same _ goes _ (λ x b f' k. search rules) _ _ c.retain.ensures.filtered in
    c.in_ok-append.ensures.items ∙ ap (λ (others : List Live). c.args.made.items ++ others) kept
