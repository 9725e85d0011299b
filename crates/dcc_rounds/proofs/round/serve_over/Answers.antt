use Rattle.std.proofs.Common.{◌≡◌, ℕ, List, length, map, refl, inl, inr, ◌++◌, take, ◌∙◌, sym, ap, ap₂, subst, arith}
use Rattle.std.proofs.Math.Seq.{take-append_seam}
use Rattle.std.specs.List.{filter_map}
use Rattle.dcc_receipts.specs.declared.receipt.Receipt.{Receipt}
use Rattle.dcc_receipts.specs.Faults.{fault_number}
use Rattle.dcc_running.specs.Audited.{AreCovered, AreOrdered, AreTrue, IsFault}
use Rattle.dcc_store.specs.Books.{Held}
use Rattle.dcc_running.specs.Books.{book}
use Rattle.dcc_rounds.specs.Counting.{seat_in, with_acts}
use Rattle.dcc_dispatch.specs.Settings.{Setting}
use Rattle.dcc_rounds.specs.Finishing.{AreFinished, AreTied, ends_in}
use Rattle.dcc_rounds.specs.Gathering.{AreGathered}
use Rattle.dcc_rounds.proofs.Ends.{of_compared, of_lanes}
use Rattle.dcc_rounds.proofs.LaneEnds.{ended_tied}
use Rattle.dcc_rounds.specs.Served.{EndsRound}
use Rattle.dcc_rounds.specs.Tasks.{AllRun}
use Rattle.dcc_rounds.specs.declared.tasks.Task.{Task}
use Rattle.dcc_rounds.proofs.round.serve_over.Goals as goal

-- what is said of lists and their count is said of their equals
said_of : {A : Type 0} (Said : ℕ → List A → List A → Type 0) (n m : ℕ) (a b c d : List A) → n ≡ m → a ≡ b → c ≡ d → Said n a c → Said m b d
said_of Said n m a b c d e f h said = subst (λ k. Said k b d) e (subst (λ x. Said n x d) f (subst (Said n a) h said))

front_is : {A : Type 0} (n : ℕ) (xs rest : List A) → n ≡ length xs → take n (xs ++ rest) ≡ xs
front_is n xs rest is = ap (λ k. take k (xs ++ rest)) is ∙ take-append_seam xs rest

pub returns-in-Ok-close-clause-round : goal.returns-in-Ok-close-clause-round
returns-in-Ok-close-clause-round g c =
    let rounds = c.args.rounds.now in
    let begun = c.in-Ok-gather.tasks.items in
    let ended = c.as_slice.result.now in
    let books = c.in-Ok-close.books in
    let count : c.len-count.result ≡ length c.args.shards.items = omega arith in
    let first : c.as_mut_slice.result.now ≡ begun = c.as_mut_slice.ensures.value in
    let same : length c.serve_all.new.tasks ≡ length begun = omega (arith, ap length first, c.serve_all.auto.tasks) in
    let long : c.in-Ok-gather.tasks.len ≡ length c.serve_all.new.tasks = omega (arith, same) in
    let last : c.serve_all.new.tasks ≡ ended = sym (c.as_slice.ensures.value ∙ front_is c.in-Ok-gather.tasks.len c.serve_all.new.tasks _ long) in
    let seats : c.in-Ok-finished.seats.items ≡ filter_map seat_in ended =
    c.in-Ok-finished.ensures.seats ∙ ap (λ (ts : List (Task g.row.I.Denot g.row.O.Denot)). filter_map seat_in ts) (sym c.as_slice.ensures.value) in
    record {
      begun = begun;
      ended = ended;
      books = books;
      gathered = subst (λ (n : ℕ). AreGathered n rounds begun) count c.in-Ok-gather.ensures.tasks;
      ran = said_of (AllRun g.I.Read.remaining g.O.Write.contents g.C.Clock.tells g.L.Listener.is_closed g.L.Listener.attends c.args.service.now.clock.now
          (record { plan = c.args.service.now.plan.now; identity = c.args.service.now.identity.now }) (book c.args.shards.items)) c.len-count.result (length c.args.shards.items)
          c.as_mut_slice.result.now begun c.serve_all.new.tasks ended count first last
          (subst (λ (opening : Held). AllRun g.I.Read.remaining g.O.Write.contents g.C.Clock.tells g.L.Listener.is_closed g.L.Listener.attends c.args.service.now.clock.now
          (record { plan = c.args.service.now.plan.now; identity = c.args.service.now.identity.now }) opening c.len-count.result c.as_mut_slice.result.now c.serve_all.new.tasks) c.requires.opening c.serve_all.ensures);
      all = sym (ap length last) ∙ same;
      finished = subst (λ (ts : List (Task g.row.I.Denot g.row.O.Denot)). AreFinished ts) (sym c.as_slice.ensures.value) c.in-Ok-finished.ensures.finished;
      counted = c.with_acts-counts.ensures ∙ ap₂ with_acts c.counted-counts.ensures c.acts_told.ensures;
      audited = subst (λ (opening : Held). AreTrue opening books (filter_map seat_in ended) × AreCovered opening books (filter_map seat_in ended)
          × AreOrdered books.sides (filter_map seat_in ended)) c.requires.opening
          (subst (λ (all : List (List Receipt)). AreTrue g.J.Naming.opening books all × AreCovered g.J.Naming.opening books all × AreOrdered books.sides all) seats
          (c.in-Ok-close.ensures.audited.0, c.in-Ok-close.ensures.audited.1, c.in-Ok-close.ensures.audited.2));
      own = c.in-Ok-close.ensures.audited.3;
      left = c.into_shards.ensures.parts;
      kept = c.into_shards.ensures.kept;
      held = c.into_shards.ensures.left;
    }

pub finished-requires : goal.finished-requires
finished-requires g c =
    let begun = c.in-Ok-gather.tasks.items in
    let ended = c.as_slice.result.now in
    let first : c.as_mut_slice.result.now ≡ begun = c.as_mut_slice.ensures.value in
    let same : length c.serve_all.new.tasks ≡ length begun = omega (arith, ap length first, c.serve_all.auto.tasks) in
    let long : c.in-Ok-gather.tasks.len ≡ length c.serve_all.new.tasks = omega (arith, same) in
    let last : c.serve_all.new.tasks ≡ ended = sym (c.as_slice.ensures.value ∙ front_is c.in-Ok-gather.tasks.len c.serve_all.new.tasks _ long) in
    let setting : Setting = record { plan = c.args.service.now.plan.now; identity = c.args.service.now.identity.now } in
    subst (λ (ts : List (Task g.row.I.Denot g.row.O.Denot)). AreTied (map ends_in ts)) c.as_slice.ensures.value
    (ended_tied g.I.Read.remaining g.O.Write.contents g.C.Clock.tells g.L.Listener.is_closed g.L.Listener.attends c.args.service.now.clock.now setting g.J.Naming.opening c.len-count.result c.args.rounds.now begun ended
    c.in-Ok-gather.ensures.tasks
    (said_of (AllRun g.I.Read.remaining g.O.Write.contents g.C.Clock.tells g.L.Listener.is_closed g.L.Listener.attends c.args.service.now.clock.now setting g.J.Naming.opening) c.len-count.result c.len-count.result c.as_mut_slice.result.now begun
    c.serve_all.new.tasks ended refl first last c.serve_all.ensures)
    (sym (ap length last) ∙ same))

pub returns-in-Err-finished-clause-ends : goal.returns-in-Err-finished-clause-ends
returns-in-Err-finished-clause-ends g c =
    let setting : Setting = record { plan = c.args.service.now.plan.now; identity = c.args.service.now.identity.now } in
    of_lanes (EndsRound g.I.Read.remaining g.O.Write.contents g.C.Clock.tells g.L.Listener.is_closed g.L.Listener.attends c.args.service.now.clock.now setting c.args.rounds.now c.args.shards.items)
    tt (inr refl) c.in-Err-finished.fault c.in-Err-finished.ensures.fault

pub returns-in-Err-close-clause-ends : goal.returns-in-Err-close-clause-ends
returns-in-Err-close-clause-ends g c =
    let rounds = c.args.rounds.now in
    let begun = c.in-Ok-gather.tasks.items in
    let ended = c.as_slice.result.now in
    let setting : Setting = record { plan = c.args.service.now.plan.now; identity = c.args.service.now.identity.now } in
    let count : c.len-count.result ≡ length c.args.shards.items = omega arith in
    let first : c.as_mut_slice.result.now ≡ begun = c.as_mut_slice.ensures.value in
    let same : length c.serve_all.new.tasks ≡ length begun = omega (arith, ap length first, c.serve_all.auto.tasks) in
    let long : c.in-Ok-gather.tasks.len ≡ length c.serve_all.new.tasks = omega (arith, same) in
    let last : c.serve_all.new.tasks ≡ ended = sym (c.as_slice.ensures.value ∙ front_is c.in-Ok-gather.tasks.len c.serve_all.new.tasks _ long) in
    let seats : c.in-Ok-finished.seats.items ≡ filter_map seat_in ended =
    c.in-Ok-finished.ensures.seats ∙ ap (λ (ts : List (Task g.row.I.Denot g.row.O.Denot)). filter_map seat_in ts) (sym c.as_slice.ensures.value) in
    rw c.of_close-fault.ensures.value
    (of_compared (EndsRound g.I.Read.remaining g.O.Write.contents g.C.Clock.tells g.L.Listener.is_closed g.L.Listener.attends c.args.service.now.clock.now setting rounds c.args.shards.items) tt
    (fault_number c.in-Err-close.unclosed.fault) (λ number told. inl (record {
      begun = begun;
      ended = ended;
      books = c.in-Err-close.unclosed.books;
      fault = c.in-Err-close.unclosed.fault;
      gathered = subst (λ (n : ℕ). AreGathered n rounds begun) count c.in-Ok-gather.ensures.tasks;
      ran = said_of (AllRun g.I.Read.remaining g.O.Write.contents g.C.Clock.tells g.L.Listener.is_closed g.L.Listener.attends c.args.service.now.clock.now setting (book c.args.shards.items)) c.len-count.result (length c.args.shards.items)
          c.as_mut_slice.result.now begun c.serve_all.new.tasks ended count first last
          (subst (λ (opening : Held). AllRun g.I.Read.remaining g.O.Write.contents g.C.Clock.tells g.L.Listener.is_closed g.L.Listener.attends c.args.service.now.clock.now
          setting opening c.len-count.result c.as_mut_slice.result.now c.serve_all.new.tasks) c.requires.opening c.serve_all.ensures);
      all = sym (ap length last) ∙ same;
      finished = subst (λ (ts : List (Task g.row.I.Denot g.row.O.Denot)). AreFinished ts) (sym c.as_slice.ensures.value) c.in-Ok-finished.ensures.finished;
      fails = subst (λ (opening : Held). IsFault c.in-Err-close.unclosed.fault opening c.in-Err-close.unclosed.books (filter_map seat_in ended)) c.requires.opening
          (subst (λ (all : List (List Receipt)). IsFault c.in-Err-close.unclosed.fault g.J.Naming.opening c.in-Err-close.unclosed.books all) seats
          c.in-Err-close.ensures.fault);
      numbered = told;
    })))
