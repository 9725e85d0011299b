use Rattle.std.proofs.Common.{◌≡◌, ◌+◌, ◌++◌, ◌∷◌, [], ◌∙◌, ℕ, List, take, sym, ap, subst, arith}
use Rattle.std.specs.List.{FoldsTo}
use Rattle.std.proofs.lemmas.Fn.{FoldsTo-push}
use Rattle.std.proofs.lemmas.List.{take_more}
use Rattle.dcc_receipts.specs.declared.receipt.Receipt.{Receipt}
use Rattle.dcc_port.specs.Answers.{TopsUp}
use Rattle.dcc_port.specs.declared.call.Ask.{Ask}
use Rattle.dcc_port.proofs.top_ups.make_each.Goals as goal

pub loop-ask-preserved : goal.loop-ask-preserved
loop-ask-preserved g c =
    let items = c.args.asks.now in
    let i = c.loop-ask.ask-index in
    let ask = c.ask-item.result in
    let start : List Receipt × List ℕ = (c.args.seat.now, []) in
    let before : List Receipt × List ℕ = (c.loop-ask.seat, c.loop-ask.text.items) in
    let after : List Receipt × List ℕ = (c.top_up-answer.new.seat, c.put_line.new.text.items) in
    let more : take (i + 1) items ≡ take i items ++ ask ∷ [] =
    take_more items i ask c.loop-ask-test.true ∙ ap (λ s. take i items ++ s ∷ []) (sym c.ask-item.is) in
    record {
      made = subst (λ (asks : List Ask). FoldsTo (TopsUp c.args.moment) start asks after) (sym more)
          (FoldsTo-push (TopsUp c.args.moment) start (take i items) before ask after c.loop-ask.invariant.made
          (c.top_up-answer.result, c.top_up-answer.ensures.answer, c.top_up-answer.ensures.receipt, c.put_line.ensures.line));
      few = omega (arith, c.loop-ask.invariant.few, c.put_line.ensures.few);
      room = omega (arith, c.loop-ask.invariant.room, c.put_line.ensures.capacity);
    }
