use Rattle.std.proofs.Common.{◌≡◌, ℕ, ◌<◌, take}
use Rattle.dcc_act.specs.declared.sub.Sub.{Sub}
use Rattle.dcc_running.specs.Audited.{times_in}
use Rattle.dcc_running.specs.Books.{told_in}
use Rattle.dcc_running.specs.inner.Marked.{AreMarked}
use Rattle.dcc_running.proofs.audit.marked.Given as goal

abbrev pub invariant-loop-seat : goal.invariant-loop-seat
invariant-loop-seat l = record {
  marked : AreMarked l.marks (take l.seat-index l.seats);
  apart : (sub : Sub) (place : ℕ) → 0 < times_in sub place (take l.seat-index l.seats) → times_in sub place (told_in l.sides) ≡ 0;
}
