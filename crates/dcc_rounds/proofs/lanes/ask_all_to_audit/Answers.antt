use Rattle.std.proofs.Common.{◌≡◌, suc, ◌+◌, ◌∙◌, ap, refl, arith}
use Rattle.std.proofs.Math.ListN.{length-map}
use Rattle.dcc_lane.specs.Ends.{put_of}
use Rattle.dcc_rounds.specs.Lanes.{all_put, put_into, put_first}
use Rattle.dcc_rounds.specs.declared.work.Work.TheVariants as work
use Rattle.dcc_rounds.proofs.Putting.{put_none, put_next, put_each}
use Rattle.dcc_rounds.proofs.lanes.ask_all_to_audit.Goals as goal

pub loop-index-init : goal.loop-index-init
loop-index-init g c = record { put = put_none (all_put c.args.workers.now.items) (work.Audit); lanes = refl }

pub loop-index-preserved : goal.loop-index-preserved
loop-index-preserved g c =
    let next : suc c.loop-index.index ≡ c.loop-index.index + 1 = omega arith in
    record {
      put = c.put_into.ensures.put ∙ ap (put_into c.loop-index.index (work.Audit)) c.loop-index.invariant.put
          ∙ put_next (all_put c.args.workers.now.items) c.loop-index.index (work.Audit)
          ∙ ap (λ k. put_first k (work.Audit) (all_put c.args.workers.now.items)) next;
      lanes = c.put_into.ensures.lanes ∙ c.loop-index.invariant.lanes;
    }

pub returns-clause-put : goal.returns-clause-put
returns-clause-put g c =
    c.loop-index.invariant.put
    ∙ put_each (all_put c.args.workers.now.items) c.loop-index.index (work.Audit) (omega (arith, length-map c.args.workers.now.items put_of))
