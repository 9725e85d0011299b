use Rattle.std.proofs.Common.{map, string_bytes}
use Rattle.std.proofs.KnownBytes.{Keeps-refl}
use Rattle.std.proofs.lemmas.Result.{on_ok_weaker}
use Rattle.dcc_program.specs.declared.command_line.Task.TheVariants.{TopUp, Show, Help, Version}
use Rattle.dcc_program.proofs.TextLemmas.{text_failure, text_order, text_part, text_silent}
use Rattle.dcc_program.proofs.program.run.Goals as goal

pub returns-in-TopUp-clause-done : goal.returns-in-TopUp-clause-done
returns-in-TopUp-clause-done g c =
    let asks = c.in-Ok.ensures.task in
    on_ok_weaker c.top_up_at.result (λ it. (TopUp c.in-TopUp.place c.in-TopUp.ask, rw c.in-TopUp.is at asks, (Keeps-refl _, it))) c.top_up_at.ensures.whole

pub returns-in-Show-clause-done : goal.returns-in-Show-clause-done
returns-in-Show-clause-done g c =
    let asks = c.in-Ok.ensures.task in
    on_ok_weaker c.page_at.result (λ it. (Show c.in-Show.shown c.in-Show.place c.in-Show.sub, rw c.in-Show.is at asks, (Keeps-refl _, it))) c.page_at.ensures.whole

-- The goals of texts are answered by hand, since a search looks into the whole text.
pub returns-in-Help-clause-done : goal.returns-in-Help-clause-done
returns-in-Help-clause-done g c =
    let asks = c.in-Ok.ensures.task in
    on_ok_weaker c.print_text.result (λ it. (Help, rw c.in-Help.is at asks, (Keeps-refl _, it))) c.print_text.ensures.whole

pub returns-in-Help-clause-failure : goal.returns-in-Help-clause-failure
returns-in-Help-clause-failure g c =
    let asks = c.in-Ok.ensures.task in
    text_failure (map string_bytes c.args.words.now) (g.R.Read.remaining c.args.input.now) Help c.print_text.result (rw c.in-Help.is at asks) c.print_text.ensures.failure

pub returns-in-Help-clause-order : goal.returns-in-Help-clause-order
returns-in-Help-clause-order g c = text_order (g.R.Read.remaining c.args.input.now) c.print_text.result

pub returns-in-Help-clause-silent : goal.returns-in-Help-clause-silent
returns-in-Help-clause-silent g c =
    text_silent (g.W.Write.contents c.args.output.now) (g.W.Write.contents c.print_text.new.output) c.print_text.result c.print_text.ensures.failure

pub returns-in-Help-clause-part : goal.returns-in-Help-clause-part
returns-in-Help-clause-part g c =
    let asks = c.in-Ok.ensures.task in
    text_part (map string_bytes c.args.words.now) (g.R.Read.remaining c.args.input.now) (g.W.Write.contents c.args.output.now)
    (g.W.Write.contents c.print_text.new.output) Help c.print_text.result (rw c.in-Help.is at asks) c.print_text.ensures.part

pub returns-in-Version-clause-done : goal.returns-in-Version-clause-done
returns-in-Version-clause-done g c =
    let asks = c.in-Ok.ensures.task in
    on_ok_weaker c.print_text-in-Version.result (λ it. (Version, rw c.in-Version.is at asks, (Keeps-refl _, it))) c.print_text-in-Version.ensures.whole

pub returns-in-Version-clause-failure : goal.returns-in-Version-clause-failure
returns-in-Version-clause-failure g c =
    let asks = c.in-Ok.ensures.task in
    text_failure (map string_bytes c.args.words.now) (g.R.Read.remaining c.args.input.now) Version c.print_text-in-Version.result (rw c.in-Version.is at asks)
    c.print_text-in-Version.ensures.failure

pub returns-in-Version-clause-order : goal.returns-in-Version-clause-order
returns-in-Version-clause-order g c = text_order (g.R.Read.remaining c.args.input.now) c.print_text-in-Version.result

pub returns-in-Version-clause-silent : goal.returns-in-Version-clause-silent
returns-in-Version-clause-silent g c =
    text_silent (g.W.Write.contents c.args.output.now) (g.W.Write.contents c.print_text-in-Version.new.output) c.print_text-in-Version.result
    c.print_text-in-Version.ensures.failure

pub returns-in-Version-clause-part : goal.returns-in-Version-clause-part
returns-in-Version-clause-part g c =
    let asks = c.in-Ok.ensures.task in
    text_part (map string_bytes c.args.words.now) (g.R.Read.remaining c.args.input.now) (g.W.Write.contents c.args.output.now)
    (g.W.Write.contents c.print_text-in-Version.new.output) Version c.print_text-in-Version.result (rw c.in-Version.is at asks) c.print_text-in-Version.ensures.part
