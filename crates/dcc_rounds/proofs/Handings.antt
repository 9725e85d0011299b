-- What a reader passes on.
use Rattle.std.proofs.Common.{◌≡◌, ℕ, List, length, refl, sym, ap, ◌∙◌}
use Rattle.dcc_connect.specs.declared.handing.Handed.TheVariants.{Stays}
use Rattle.dcc_dispatch.specs.declared.asked.Asked.{Asked as AskedView}
use Rattle.dcc_dispatch.specs.declared.settled.Settled.TheVariants.{Asked}
use Rattle.dcc_rounds.specs.Handing.{IsSameReader, Reading, Passes, job_of, one_more}
use Rattle.dcc_rounds.specs.Lanes.{put_into}
use Rattle.dcc_rounds.specs.declared.reader.Reader.{Reader}
use Rattle.dcc_rounds.specs.declared.work.Request.{Request}
use Rattle.dcc_rounds.specs.declared.work.Work.TheVariants as work
use Rattle.dcc_shard.specs.Routes.{shard_of}

pub passed_as : (gate n : ℕ) (old new : Reading) (asked : AskedView) (request : Request)
    → request.gate ≡ gate → request.job ≡ job_of asked → length old.asked ≡ n
    → new.asked ≡ put_into (shard_of asked.sub n) (work.Request request) old.asked → new.replied ≡ old.replied → new.requests ≡ one_more old.requests
    → new.sweeps ≡ old.sweeps → Passes gate (Asked asked) Stays old new
passed_as gate n old new asked request of_gate of_job count put replied requests sweeps =
    let all = put ∙ ap (λ k. put_into (shard_of asked.sub k) (work.Request request) old.asked) (sym count) in
    (refl, (request, of_gate, of_job, (λ i. record { asked = all i; replied = replied i; requests = requests i; sweeps = sweeps i })))

pub same_as : (r : Reader) → IsSameReader r r
same_as r = record { gate = refl; workers = refl; writer = refl }

pub same_on : (a b c : Reader) → IsSameReader a b → IsSameReader b c → IsSameReader a c
same_on a b c h k = record { gate = k.gate ∙ h.gate; workers = k.workers ∙ h.workers; writer = k.writer ∙ h.writer }
