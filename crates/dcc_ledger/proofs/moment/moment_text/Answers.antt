use Rattle.std.proofs.Common.{◌≡◌, ◌<◌, ◌^◌, ◌∙◌, arith, pos, ◌*ℤ◌, to_z, w64}
use Rattle.std.proofs.lemmas.Int.{ints}
use Rattle.std.proofs.lemmas.Result.{IfOk-weaker}
use Rattle.jiff.specs.Words.{civil_nanos}
use Rattle.jiff_core.proofs.SignedLemmas.{signed_arith}
use Rattle.dcc_ledger.proofs.Dates.{printed}
use Rattle.dcc_ledger.proofs.moment.moment_text.Goals as goal

pub returns : goal.returns
returns c =
    let small : c.seconds.result < 2 ^ 63 = omega arith in
    let early : c.args.moment < 4_200_000_000 = omega (arith, c.seconds.ensures.value) in
    let cast : to_z w64 c.seconds.result ≡ pos c.seconds.result = omega (arith, ints) in
    let instant = rw c.unwrap-instant.ensures at c.from_second.ensures.value in
    let nanos : civil_nanos c.to_datetime-utc.result ≡ pos c.args.moment *ℤ pos 1_000_000_000 =
    omega (arith, signed_arith, instant, c.seconds.ensures.value) in
    IfOk-weaker c.format.result _ _ (λ text e. e ∙ printed c.to_datetime-utc.result c.args.moment early nanos) c.format.ensures.ok
