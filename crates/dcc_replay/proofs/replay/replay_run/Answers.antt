use Rattle.std.proofs.Common.{◌≡◌}
use Rattle.dcc_replay.specs.declared.fault.ReplayFault.TheVariants.{Output}
use Rattle.dcc_replay.proofs.ReplayLemmas.{script_shown, faulty}
use Rattle.dcc_replay.proofs.replay.replay_run.Goals as goal

pub returns-in_err-write_all-clause-part : goal.returns-in_err-write_all-clause-part
returns-in_err-write_all-clause-part g c =
    faulty (λ fault. fault ≡ Output) _ c.from_residual-in_err-write_all.result (
      c.as_bytes.result.now,
      c.in_err-write_all.field-0.0.written,
      script_shown c.args.plan.now (g.R.Read.remaining c.args.input.now) c.in_ok-text.text.items c.in_ok-events.events.items
          c.in_ok-outs.outs.items c.as_bytes.result.now c.in_ok-text.ensures.whole (rw c.as_slice.ensures.value at c.in_ok-events.ensures.ok)
          (rw c.as_slice-2.ensures.value at c.in_ok-outs.ensures)
          (rw c.as_bytes.ensures.value (rw c.as_slice-3.ensures.value at c.in_ok-written.ensures)),
      c.in_err-write_all.ensures.part.1,
    )

pub returns-clause-whole : goal.returns-clause-whole
returns-clause-whole g c = (
  c.as_bytes.result.now,
  script_shown c.args.plan.now (g.R.Read.remaining c.args.input.now) c.in_ok-text.text.items c.in_ok-events.events.items
      c.in_ok-outs.outs.items c.as_bytes.result.now c.in_ok-text.ensures.whole (rw c.as_slice.ensures.value at c.in_ok-events.ensures.ok)
      (rw c.as_slice-2.ensures.value at c.in_ok-outs.ensures)
      (rw c.as_bytes.ensures.value (rw c.as_slice-3.ensures.value at c.in_ok-written.ensures)),
  c.in_ok-write_all.ensures.whole,
)
