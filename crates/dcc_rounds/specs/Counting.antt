-- The counts and the seats that the threads of a round leave.
use Rattle.std.specs.Prelude.{ℕ, ◌+◌, ◌-◌, ◌^◌, min, List, Option, Some, None, sum_by}
use Rattle.dcc_connect.specs.declared.writing.WriteEnd.{WriteEnd}
use Rattle.dcc_receipts.specs.declared.receipt.Receipt.{Receipt}
use Rattle.dcc_running.specs.Acts.{acts_of}
use Rattle.dcc_rounds.specs.declared.line.Counts.{Counts}
use Rattle.dcc_rounds.specs.declared.tasks.Task.{Task}
use Rattle.dcc_rounds.specs.declared.tasks.Task.TheVariants.{Work, Time, Place, Attend}

-- a count that stops at the most that is reported
abbrev pub at_most : ℕ → ℕ
at_most count = min count (2 ^ 64 - 1)

-- the counts of a round, with the acts of the receipts that were audited before its end
abbrev pub with_acts : Counts → ℕ → Counts
with_acts counts acts = record counts { acts = at_most (counts.acts + acts) }

-- the number of answers that went out whole, with those of one more gateway
abbrev pub with_answers : ℕ → WriteEnd → ℕ
with_answers count written = at_most (count + written.answers)

module _ {I O : Type 0} where
  -- the number of requests that a thread handed to shards
  abbrev pub requests_in : Task I O → ℕ
  requests_in (Work worker) = 0
  requests_in (Time timer) = 0
  requests_in (Place place) = place.reader.requests
  requests_in (Attend attendant) = 0

  -- the number of answers that a thread wrote whole
  abbrev pub answers_in : Task I O → ℕ
  answers_in (Work worker) = 0
  answers_in (Time timer) = 0
  answers_in (Place place) = place.answers
  answers_in (Attend attendant) = 0

  -- the number of acts of the receipts that a thread keeps
  abbrev pub acts_in : Task I O → ℕ
  acts_in (Work worker) = acts_of worker.seat
  acts_in (Time timer) = 0
  acts_in (Place place) = 0
  acts_in (Attend attendant) = acts_of attendant.seat

  -- the seat of a thread, if it is a worker or an attendant
  abbrev pub seat_in : Task I O → Option (List Receipt)
  seat_in (Work worker) = Some worker.seat
  seat_in (Time timer) = None
  seat_in (Place place) = None
  seat_in (Attend attendant) = Some attendant.seat

  -- the counts of the threads of a round: the sums over them
  abbrev pub counts_in : List (Task I O) → Counts
  counts_in tasks = record {
    requests = at_most (sum_by requests_in tasks);
    answers = at_most (sum_by answers_in tasks);
    acts = at_most (sum_by acts_in tasks);
  }
