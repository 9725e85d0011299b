-- What goes out of a round comes of what came in.
use Rattle.std.proofs.Common.{◌≡◌, ℕ, zero, suc, ◌+◌, ◌<◌, ◌≤◌, ◌⊎◌, inl, inr, Bool, List, [], ◌∷◌, ◌++◌, length, drop, Option, Some, None, refl, sym, ap, ◌∙◌, subst, append-nil, append_assoc, arith, take-append-drop}
use Rattle.std.specs.Global.{Vec}
use Rattle.std.specs.List.{AllByRecursion, FoldsTo, concat, cons_option, filter_map}
use Rattle.std.proofs.lemmas.Fn.{chained_keeps}
use mathlib.Core.List.{IsPrefix}
use Rattle.dcc_connect.specs.Writing.{GoesOut, items_of, octets_in as all_octets}
use Rattle.dcc_connect.specs.declared.fault.ConnectFault.{ConnectFault}
use Rattle.dcc_connect.specs.declared.fault.ConnectFault.TheVariants as fault
use Rattle.dcc_connect.specs.declared.writing.Item.{Item}
use Rattle.dcc_connect.specs.declared.writing.Item.TheVariants.{Octets}
use Rattle.dcc_dispatch.specs.Settings.{Setting}
use Rattle.dcc_dispatch.specs.declared.settled.Settled.TheVariants.{Asked}
use Rattle.dcc_running.specs.declared.job.Job.{Job}
use Rattle.dcc_lane.specs.Ends.{put_of, taken_of}
use Rattle.dcc_lane.specs.Rule.{IsIn}
use Rattle.dcc_lane.specs.declared.receiver.Receiver.{Receiver}
use Rattle.dcc_lane.specs.declared.rule.Tagged.{Tagged}
use Rattle.dcc_lane.specs.declared.sender.Sender.{Sender}
use Rattle.dcc_message.specs.Streams.{messages}
use Rattle.dcc_receipts.specs.declared.receipt.Receipt.{Receipt}
use Rattle.dcc_store.specs.Books.{Held}
use Rattle.dcc_running.specs.Calls.{IsAnswerTo}
use Rattle.dcc_rounds.specs.Answering.{AllAnswer, AmongVisits, AnswersAll, CameIn, CameTo, HasRead, IsAnswerOf, WritesAnswers}
use Rattle.dcc_rounds.specs.Finishing.{AreFinished, answers_of, asks_of, items_in, reply_of, work_in}
use Rattle.dcc_rounds.specs.Gathering.{AreGathered, attendants_of, places_from, timer_of, workers_from}
use Rattle.dcc_rounds.specs.Lanes.{AreAllHeard, AreDealt, IsHeard, IsNewReceiver, IsNewSender, all_put, firsts, lists_of, rests}
use Rattle.dcc_rounds.specs.Handing.{Reading, job_of, reading_of}
use Rattle.dcc_rounds.specs.Rounds.{RoundsView}
use Rattle.dcc_rounds.specs.Tasks.{AllRun, Runs}
use Rattle.dcc_rounds.specs.Timing.{AsksAll, Times}
use Rattle.dcc_rounds.specs.Visiting.{IsVisit, ServesEach, Visit, with_new_peer}
use Rattle.dcc_rounds.specs.Working.{counting, doing_of, works_in}
use Rattle.dcc_rounds.specs.Working as working
use Rattle.dcc_rounds.specs.declared.face.Connection.{Connection}
use Rattle.dcc_rounds.specs.declared.place.Place as places
use Rattle.dcc_rounds.specs.declared.tasks.Task.{Task}
use Rattle.dcc_rounds.specs.declared.tasks.Task.TheVariants.{Work, Time, Place, Attend}
use Rattle.dcc_rounds.specs.declared.timer.SweepTimer.{SweepTimer}
use Rattle.dcc_rounds.specs.declared.work.Request.{Request}
use Rattle.dcc_rounds.specs.declared.work.Work as work
use Rattle.dcc_rounds.specs.declared.work.Work.TheVariants as works
use Rattle.dcc_shard.specs.declared.answers.RequestAnswer.{RequestAnswer}
use Rattle.dcc_rounds.proofs.Coming.{Answered, AsksFor, Came, Comes, IsAmong, Known, among_all, done_answers, ends_on, in_left, in_right, leaves_on, read_came}

module _ {T : Type 0} where
  tagged_in : (x : T) (ts : List (Tagged T)) → IsIn x (items_of ts) → (t : Tagged T) × IsIn t ts × (t.item ≡ x)
  tagged_in x [] n = absurd n
  tagged_in x (t ∷ ts) (inl e) = (t, inl refl, e)
  tagged_in x (t ∷ ts) (inr i) = let u = tagged_in x ts i in (u.0, inr u.1, u.2)

  items_both : (a b : List (Tagged T)) → items_of (a ++ b) ≡ items_of a ++ items_of b
  items_both [] b = refl
  items_both (t ∷ a) b = ap (λ l. t.item ∷ l) (items_both a b)

  among_of : (x : T) (s : Sender T) (ss : List (Sender T)) → IsIn s ss → IsIn x (put_of s) → IsAmong x (all_put ss)
  among_of x s [] n i = absurd n
  among_of x s (y ∷ ss) (inl e) i = inl (subst (λ z. IsIn x (put_of z)) (sym e) i)
  among_of x s (y ∷ ss) (inr j) i = inr (among_of x s ss j i)

  -- what is taken of a lane was put by one of its senders
  heard_item : (r : Receiver T) (ss : List (Sender T)) → IsHeard r ss → (x : T) → IsIn x (items_of (taken_of r)) → IsAmong x (all_put ss)
  heard_item r ss h x i =
      let t = tagged_in x (taken_of r) i in
      let s = h.heard t.0 t.1 in
      among_of x s.0 ss s.1 (subst (λ y. IsIn y (put_of s.0)) t.2 s.3)

  -- some sender of these lists put it
  abbrev SomePut : T → List (List (Sender T)) → Type 0
  SomePut x [] = ⊥
  SomePut x (l ∷ ls) = IsAmong x (all_put l) ⊎ SomePut x ls

  firsts_put : (x : T) (lists : List (List (Sender T))) → IsAmong x (all_put (firsts lists)) → SomePut x lists
  firsts_put x [] n = absurd n
  firsts_put x ([] ∷ ls) i = inr (firsts_put x ls i)
  firsts_put x ((s ∷ ss) ∷ ls) (inl i) = inl (inl i)
  firsts_put x ((s ∷ ss) ∷ ls) (inr i) = inr (firsts_put x ls i)

  rests_put : (x : T) (lists : List (List (Sender T))) → SomePut x (rests lists) → SomePut x lists
  rests_put x [] n = absurd n
  rests_put x ([] ∷ ls) (inl n) = absurd n
  rests_put x ([] ∷ ls) (inr i) = inr (rests_put x ls i)
  rests_put x ((s ∷ ss) ∷ ls) (inl i) = inl (inr i)
  rests_put x ((s ∷ ss) ∷ ls) (inr i) = inr (rests_put x ls i)

  all_heard_put : (r : Receiver T) (rs : List (Receiver T)) (lists : List (List (Sender T))) → AreAllHeard rs lists → IsIn r rs → (x : T) → IsIn x (items_of (taken_of r))
      → SomePut x lists
  all_heard_put r [] lists h n x i = absurd n
  all_heard_put r (k ∷ rs) lists h (inl e) x i = firsts_put x lists (heard_item r (firsts lists) (subst (λ (q : Receiver T). IsHeard q (firsts lists)) e h.0) x i)
  all_heard_put r (k ∷ rs) lists h (inr j) x i = rests_put x lists (all_heard_put r rs (rests lists) h.1 j x i)

  -- a sender that put nothing did not put this
  none_put : (x : T) (ss : List (Sender T)) → AllByRecursion IsNewSender ss → IsAmong x (all_put ss) → ⊥
  none_put x [] new n = n
  none_put x (s ∷ ss) new (inl i) = subst (IsIn x) new.0 i
  none_put x (s ∷ ss) new (inr i) = none_put x ss new.1 i

module _ {I O : Type 0} where
  -- a thread that has done nothing; a worker's shard is there
  Fresh : ℕ → Task I O → Type 0
  Fresh count (Work worker) = (taken_of worker.from ≡ []) × AllByRecursion IsNewSender worker.writers.items × (worker.shard < count)
  Fresh count (Time timer) = AllByRecursion IsNewSender timer.workers.items
  Fresh count (Place place) = AllByRecursion IsNewSender place.reader.workers.items × (put_of place.reader.writer ≡ []) × (taken_of place.from ≡ [])
  Fresh count (Attend attendant) = Unit {0}

  both_fresh : (count : ℕ) (a b : List (Task I O)) → AllByRecursion (Fresh count) a → AllByRecursion (Fresh count) b → AllByRecursion (Fresh count) (a ++ b)
  both_fresh count [] b h k = k
  both_fresh count (t ∷ a) b h k = (h.0, both_fresh count a b h.1 k)

workers_fresh : (I O : Type 0) (count shard senders : ℕ) (rs : List (Receiver work.Work)) (ss : List (Vec (Sender Item))) (lanes : List (Receiver Item)) → AllByRecursion (IsNewReceiver senders) rs
    → AllByRecursion (AreDealt lanes) (lists_of ss) → shard + length rs ≤ count → AllByRecursion (Fresh count) (workers_from {I = I} {O = O} shard rs ss)
unfolding Fresh
workers_fresh I O count shard senders [] ss lanes new dealt few = tt
workers_fresh I O count shard senders (r ∷ rs) [] lanes new dealt few = tt
workers_fresh I O count shard senders (r ∷ rs) (s ∷ ss) lanes new dealt few =
    ((new.0.1, dealt.0.1, omega (arith, few)), workers_fresh I O count (shard + 1) senders rs ss lanes new.1 dealt.1 (omega (arith, few)))

timer_fresh : (I O : Type 0) (count : ℕ) (stays : Bool) (timers : Vec (Sender work.Work)) → AllByRecursion IsNewSender timers.items
    → AllByRecursion (Fresh count) (timer_of {I = I} {O = O} stays timers ∷ [])
unfolding Fresh
timer_fresh I O count stays timers new = (new, tt)

attendants_fresh : (I O : Type 0) (count n : ℕ) → AllByRecursion (Fresh count) (attendants_of {I = I} {O = O} n)
unfolding Fresh
attendants_fresh I O count zero = tt
attendants_fresh I O count (suc n) = (tt, attendants_fresh I O count n)

module _ {I O : Type 0} where
  places_fresh : (count : ℕ) (stays : Bool) (every gate senders : ℕ) (firsts : List (Option (Connection I O))) (rs : List (Receiver Item)) (ss : List (Vec (Sender work.Work)))
      (ps : List (Sender Item)) (lanes : List (Receiver work.Work)) → AllByRecursion (IsNewReceiver senders) rs → AllByRecursion (AreDealt lanes) (lists_of ss)
      → AllByRecursion IsNewSender ps → AllByRecursion (Fresh count) (places_from stays every gate firsts rs ss ps)
  unfolding Fresh
  places_fresh count stays every gate senders [] rs ss ps lanes new dealt none = tt
  places_fresh count stays every gate senders (x ∷ xs) [] ss ps lanes new dealt none = tt
  places_fresh count stays every gate senders (x ∷ xs) (r ∷ rs) [] ps lanes new dealt none = tt
  places_fresh count stays every gate senders (x ∷ xs) (r ∷ rs) (s ∷ ss) [] lanes new dealt none = tt
  places_fresh count stays every gate senders (x ∷ xs) (r ∷ rs) (s ∷ ss) (p ∷ ps) lanes new dealt none =
      ((dealt.0.1, none.0, new.0.1), places_fresh count stays every (gate + 1) senders xs rs ss ps lanes new.1 dealt.1 none.1)

  gathered_fresh : (count : ℕ) (rounds : RoundsView) (tasks : List (Task I O)) → AreGathered count rounds tasks → AllByRecursion (Fresh count) tasks
  gathered_fresh count rounds tasks g =
      let all : AllByRecursion (AreDealt g.items.receivers.items) (lists_of (g.replies ∷ g.answers)) =
      subst (λ (ls : List (Vec (Sender Item))). AllByRecursion (AreDealt g.items.receivers.items) (lists_of ls)) g.dealt g.items_are.dealt in
      let asked : AllByRecursion (AreDealt g.work.receivers.items) (lists_of (g.timers ∷ g.asks)) =
      subst (λ (ls : List (Vec (Sender work.Work))). AllByRecursion (AreDealt g.work.receivers.items) (lists_of ls)) g.asked g.work_are.dealt in
      let workers = workers_from {I = I} {O = O} 0 g.work.receivers.items g.answers in
      let placed : AllByRecursion (Fresh count) g.placed =
      subst (AllByRecursion (Fresh count)) (sym g.placed_are.3)
      (both_fresh count (workers ++ timer_of rounds.stays g.timers ∷ [])
      (places_from rounds.stays rounds.every 0 g.placed_are.0 g.items.receivers.items g.asks g.replies.items)
      (both_fresh count workers (timer_of rounds.stays g.timers ∷ [])
      (workers_fresh I O count 0 (rounds.gates + 1) g.work.receivers.items g.answers g.items.receivers.items g.work_are.new all.1 (omega (arith, g.work_are.receivers)))
      (timer_fresh I O count rounds.stays g.timers asked.0.1))
      (places_fresh count rounds.stays rounds.every 0 (count + 1) g.placed_are.0 g.items.receivers.items g.asks g.replies.items g.work.receivers.items g.items_are.new asked.1 all.0.1)) in
      subst (AllByRecursion (Fresh count)) (sym g.tasks_are) (both_fresh count g.placed (attendants_of rounds.attendants) placed (attendants_fresh I O count rounds.attendants))

-- a beginning of items' octets
goes_begun : (f : Option ConnectFault) (items : List Item) (out : List ℕ) → GoesOut f items out → IsPrefix out (all_octets items)
goes_begun None items out h = ([], append-nil out ∙ h)
goes_begun (Some (fault.Write written)) items out h =
    (drop written (all_octets items), ap (λ l. l ++ drop written (all_octets items)) h.1 ∙ take-append-drop written (all_octets items))
goes_begun (Some fault.TooManyTurns) items out h = h.0
goes_begun (Some fault.Read) items out h = absurd h
goes_begun (Some (fault.Header f)) items out h = absurd h
goes_begun (Some fault.Memory) items out h = absurd h

module _ {I O C : Type 0} (remaining : I → Option (List ℕ)) (contents : O → Option (List ℕ)) (tells : C → ℕ → C → Type 0) (closed : Type 0)
    (attends : List Receipt → List Receipt → Type 0) (clock : C) (setting : Setting) (opening : Held) (count : ℕ) where
  -- threads ran, one by one
  abbrev AllTwo : List (Task I O) → List (Task I O) → Type 0
  AllTwo [] news = news ≡ []
  AllTwo (t ∷ ts) [] = ⊥
  AllTwo (t ∷ ts) (u ∷ us) = Runs remaining contents tells closed attends clock setting opening count t u × AllTwo ts us

  all_two : (olds news : List (Task I O)) → AllRun remaining contents tells closed attends clock setting opening count olds news → length news ≡ length olds → AllTwo olds news
  all_two [] [] ran same = refl
  all_two [] (u ∷ us) ran same = absurd (omega arith)
  all_two (t ∷ ts) [] ran same = absurd (omega arith)
  all_two (t ∷ ts) (u ∷ us) ran same = (ran 0 t (omega arith), all_two ts us (λ i none l. ran (suc i) none (omega arith)) (omega arith))

  abbrev CameOf : Task I O → Task I O → List ℕ → Type 0
  CameOf old new message = CameTo remaining contents tells closed clock setting count old new message

  abbrev AnsweredBy : (List ℕ → Type 0) → List ℕ → Type 0
  AnsweredBy came octets = (message : List ℕ) × came message × IsAnswerOf setting count message octets

  abbrev AskedBy : (List ℕ → Type 0) → Request → Type 0
  AskedBy came request = (message : List ℕ) × came message × AsksFor setting count message request

  abbrev VisitOf : places.Place I O → Visit I O → places.Place I O → Type 0
  VisitOf old visit new = IsVisit remaining contents tells closed clock setting count old visit new

  abbrev Among : List (Visit I O) → List ℕ → Type 0
  Among visits message = AmongVisits remaining contents tells closed clock setting count visits message

  among_left : (vs ws : List (Visit I O)) (m : List ℕ) → Among vs m → Among (vs ++ ws) m
  among_left [] ws m n = absurd n
  among_left (v ∷ vs) ws m (inl h) = inl h
  among_left (v ∷ vs) ws m (inr i) = inr (among_left vs ws m i)

  among_last : (vs : List (Visit I O)) (v : Visit I O) (m : List ℕ) → HasRead remaining contents tells closed clock setting count v m → Among (vs ++ v ∷ []) m
  among_last [] v m h = inl h
  among_last (w ∷ vs) v m h = inr (among_last vs v m h)

  -- what a place put comes of messages that were read of its gateways so far
  record PutOf (came : List ℕ → Type 0) (reading : Reading) : Type 0 where
    replied : (octets : List ℕ) → IsIn (Octets octets) reading.replied → AnsweredBy came octets
    asked : (request : Request) → IsAmong (works.Request request) reading.asked → AskedBy came request

  put_begun : (came : List ℕ → Type 0) (reading : Reading) → PutOf came reading → Came setting count came [] reading
  put_begun came reading h = record {
    replied = λ octets i. (let t = h.replied octets i in (t.0, inl t.1, t.2));
    asked = λ request i. (let t = h.asked request i in (t.0, inl t.1, t.2));
  }

  known_then : (before came : List ℕ → Type 0) (ms : List (List ℕ)) → ((m : List ℕ) → before m → came m) → ((m : List ℕ) → IsIn m ms → came m) → (m : List ℕ)
      → Known setting count before ms m → came m
  known_then before came ms f g m (inl b) = f m b
  known_then before came ms f g m (inr i) = g m i

  put_then : (before came : List ℕ → Type 0) (ms : List (List ℕ)) (reading : Reading) → ((m : List ℕ) → before m → came m) → ((m : List ℕ) → IsIn m ms → came m)
      → Came setting count before ms reading → PutOf came reading
  put_then before came ms reading f g h = record {
    replied = λ octets i. (let t = h.replied octets i in (t.0, known_then before came ms f g t.0 t.1, t.2));
    asked = λ request i. (let t = h.asked request i in (t.0, known_then before came ms f g t.0 t.1, t.2));
  }

  -- one gateway more was read from
  visit_put : (vs : List (Visit I O)) (old : places.Place I O) (v : Visit I O) (new : places.Place I O) → PutOf (Among vs) (reading_of old.reader) → VisitOf old v new
      → PutOf (Among (vs ++ v ∷ [])) (reading_of new.reader)
  unfolding Comes
  visit_put vs old v new was h =
      let reads = h.reads in
      let handed = reads.2 in
      let c = read_came setting count (Among vs) tells v.read (concat handed.0) (with_new_peer old.reader, clock) (reads.0, reads.1) (put_begun (Among vs) (reading_of old.reader) was) handed.3 in
      let on = ends_on setting count (Among vs) old.reader.gate (messages c.0) (reading_of reads.0) (reading_of new.reader) c.3 reads.4 in
      put_then (Among vs) (Among (vs ++ v ∷ [])) (messages c.0) (reading_of new.reader) (λ m i. among_left vs (v ∷ []) m i)
      (λ m i. among_last vs v m (handed.0, c.0, c.1, handed.1, c.2, i)) on

  visits_put : (old last : places.Place I O) (visits : List (Visit I O)) → PutOf (Among []) (reading_of old.reader) → FoldsTo VisitOf old visits last → PutOf (Among visits) (reading_of last.reader)
  visits_put old last visits was all =
      chained_keeps VisitOf (λ (vs : List (Visit I O)) (p : places.Place I O). PutOf (Among vs) (reading_of p.reader)) (λ vs p v q h step. visit_put vs p v q h step) visits old last was all

  -- so the reader of a place, at its end
  place_put : (old new : places.Place I O) (visits : List (Visit I O)) → AllByRecursion IsNewSender old.reader.workers.items → put_of old.reader.writer ≡ []
      → ServesEach remaining contents tells closed clock setting count visits old new → PutOf (Among visits) (reading_of new.reader)
  place_put old new visits asks replies h =
      let none : PutOf (Among []) (reading_of old.reader) = record {
        replied = λ octets i. absurd (subst (IsIn (Octets octets)) replies i);
        asked = λ request i. absurd (none_put (works.Request request) old.reader.workers.items asks i);
      } in
      let put = put_begun (Among visits) (reading_of h.last.reader) (visits_put old h.last visits none h.visited) in
      put_then (Among visits) (Among visits) [] (reading_of new.reader) (λ m i. i) (λ m n. absurd n)
      (leaves_on setting count (Among visits) [] (reading_of h.last.reader) (reading_of new.reader) put h.left.0)

  -- a timer puts no request
  no_request_on : (request : Request) (s t : List (List work.Work) × C) (ask : Option ℕ) → (IsAmong (works.Request request) s.0 → ⊥) → AsksAll tells s ask t
      → IsAmong (works.Request request) t.0 → ⊥
  no_request_on request s t (Some m) h step i =
      elim (among_all (works.Request request) (works.Sweep m) s.0 (subst (IsAmong (works.Request request)) step.1 i)) [ inl j ↦ h j | inr e ↦ absurd (cc) ]
  no_request_on request s t None h step i =
      elim (among_all (works.Request request) works.Audit s.0 (subst (IsAmong (works.Request request)) step.1 i)) [ inl j ↦ h j | inr e ↦ absurd (cc) ]

  no_request : (request : Request) (old new : List (List work.Work) × C) (asks : List (Option ℕ)) → (IsAmong (works.Request request) old.0 → ⊥)
      → FoldsTo (AsksAll tells) old asks new → IsAmong (works.Request request) new.0 → ⊥
  no_request request old new asks none all =
      chained_keeps (AsksAll tells) (λ (ms : List (Option ℕ)) (s : List (List work.Work) × C). IsAmong (works.Request request) s.0 → ⊥)
      (λ ms s ask t h step. no_request_on request s t ask h step)
      asks old new none all

  timer_none : (old new : SweepTimer) (request : Request) → AllByRecursion IsNewSender old.workers.items → Times tells closed clock old new
      → IsAmong (works.Request request) (all_put new.workers.items) → ⊥
  timer_none old new request fresh h i =
      let none = no_request request (all_put old.workers.items, clock) (h.asked, h.later) h.asks (λ j. none_put (works.Request request) old.workers.items fresh j) h.all_asked in
      elim (among_all (works.Request request) works.Over h.asked (subst (IsAmong (works.Request request)) h.left i)) [ inl j ↦ none j | inr e ↦ absurd (cc) ]

  abbrev PutBy : Task I O → Task I O → Type 0
  PutBy t u =
      ((request : Request) → SomePut (works.Request request) (lists_of (filter_map asks_of (u ∷ []))) → AskedBy (CameOf t u) request)
      × ((octets : List ℕ) → IsAmong (Octets octets) (all_put (filter_map reply_of (u ∷ []))) → AnsweredBy (CameOf t u) octets)

  -- a thread put what comes of the messages that were read of its gateways
  task_came : (t u : Task I O) → Fresh count t → Runs remaining contents tells closed attends clock setting opening count t u → PutBy t u
  unfolding Fresh
  task_came (Work worker) u fresh h = subst (PutBy (Work worker)) (sym h.1) (λ request n. absurd n, λ octets n. absurd n)
  task_came (Time timer) u fresh h =
      subst (PutBy (Time timer)) (sym h.1) (
        λ request i. elim i [ inl j ↦ absurd (timer_none timer h.0 request fresh h.2 j) | inr n ↦ absurd n ],
        λ octets n. absurd n,
      )
  task_came (Place old) u fresh h =
      let left = h.0 in
      let visits = h.2.0 in
      let put = place_put old left visits fresh.0 fresh.1 h.2.1 in
      subst (PutBy (Place old)) (sym h.1) (
        λ request i. elim i [ inl j ↦ (let t = put.asked request j in (t.0, (visits, h.2.1, t.1), t.2)) | inr n ↦ absurd n ],
        λ octets i. elim i [ inl j ↦ (let t = put.replied octets j in (t.0, (visits, h.2.1, t.1), t.2)) | inr n ↦ absurd n ],
      )
  task_came (Attend attendant) u fresh h = subst (PutBy (Attend attendant)) (sym h.1) (λ request n. absurd n, λ octets n. absurd n)

  put_split : {T : Type 0} (x : T) (o : Option (Vec (Sender T))) (vs : List (Vec (Sender T))) → SomePut x (lists_of (cons_option o vs))
      → SomePut x (lists_of (cons_option o [])) ⊎ SomePut x (lists_of vs)
  put_split x None vs i = inr i
  put_split x (Some v) vs (inl i) = inl (inl i)
  put_split x (Some v) vs (inr i) = inr i

  among_split : {T : Type 0} (x : T) (o : Option (Sender T)) (ss : List (Sender T)) → IsAmong x (all_put (cons_option o ss))
      → IsAmong x (all_put (cons_option o [])) ⊎ IsAmong x (all_put ss)
  among_split x None ss i = inr i
  among_split x (Some s) ss (inl i) = inl (inl i)
  among_split x (Some s) ss (inr i) = inr i

  -- a request that was put asks for what a message does that came in
  request_came : (olds news : List (Task I O)) → AllByRecursion (Fresh count) olds → AllTwo olds news → (request : Request)
      → SomePut (works.Request request) (lists_of (filter_map asks_of news)) → (message : List ℕ) × CameIn remaining contents tells closed clock setting count olds news message × AsksFor setting count message request
  request_came [] [] fresh ran request n = absurd n
  request_came [] (u ∷ us) fresh ran request i = absurd (cc)
  request_came (t ∷ ts) [] fresh ran request i = absurd ran
  request_came (t ∷ ts) (u ∷ us) fresh ran request i = elim (put_split (works.Request request) (asks_of u) (filter_map asks_of us) i) [
    | inl j ↦ (let m = (task_came t u fresh.0 ran.0).0 request j in (m.0, inl m.1, m.2))
    | inr j ↦ (let m = request_came ts us fresh.1 ran.1 request j in (m.0, inr m.1, m.2))
  ]

  -- a reply that was put answers one
  reply_came : (olds news : List (Task I O)) → AllByRecursion (Fresh count) olds → AllTwo olds news → (octets : List ℕ)
      → IsAmong (Octets octets) (all_put (filter_map reply_of news)) → (message : List ℕ) × CameIn remaining contents tells closed clock setting count olds news message × IsAnswerOf setting count message octets
  reply_came [] [] fresh ran octets n = absurd n
  reply_came [] (u ∷ us) fresh ran octets i = absurd (cc)
  reply_came (t ∷ ts) [] fresh ran octets i = absurd ran
  reply_came (t ∷ ts) (u ∷ us) fresh ran octets i = elim (among_split (Octets octets) (reply_of u) (filter_map reply_of us) i) [
    | inl j ↦ (let m = (task_came t u fresh.0 ran.0).1 octets j in (m.0, inl m.1, m.2))
    | inr j ↦ (let m = reply_came ts us fresh.1 ran.1 octets j in (m.0, inr m.1, m.2))
  ]

  -- octets that a worker put are what some shard answers to a request that a worker of the round took
  record Taken (news : List (Task I O)) (octets : List ℕ) : Type 0 where
    request : Request
    from : Receiver work.Work
    stands : IsIn from (filter_map work_in news)
    taken : IsIn (works.Request request) (items_of (taken_of from))
    answer : RequestAnswer
    told : IsAnswerTo request.job answer
    is : working.octets_in answer ≡ Some octets

  later_work : (from : Receiver work.Work) (o : Option (Receiver work.Work)) (rs : List (Receiver work.Work)) → IsIn from rs → IsIn from (cons_option o rs)
  later_work from None rs i = i
  later_work from (Some r) rs i = inr i

  worker_took : (t u : Task I O) (us : List (Task I O)) (octets : List ℕ) → Fresh count t → Runs remaining contents tells closed attends clock setting opening count t u
      → SomePut (Octets octets) (lists_of (cons_option (answers_of u) [])) → Taken (u ∷ us) octets
  unfolding Fresh Answered
  worker_took (Time timer) u us octets fresh h i =
      absurd (subst (λ (v : Task I O). SomePut (Octets octets) (lists_of (cons_option (answers_of v) []))) h.1 i)
  worker_took (Place place) u us octets fresh h i =
      absurd (subst (λ (v : Task I O). SomePut (Octets octets) (lists_of (cons_option (answers_of v) []))) h.1 i)
  worker_took (Attend attendant) u us octets fresh h i =
      absurd (subst (λ (v : Task I O). SomePut (Octets octets) (lists_of (cons_option (answers_of v) []))) h.1 i)
  worker_took (Work worker) u us octets fresh h i =
      let done = h.0 in
      let d = h.2 fresh.2 in
      let steps = d.goes.steps in
      let all = done_answers opening worker.shard steps (doing_of (counting worker) d.first) (doing_of done d.last) (λ o j. absurd (none_put (Octets o) worker.writers.items fresh.1 j)) d.goes.done in
      let took : items_of (taken_of done.from) ≡ works_in steps = d.goes.taken ∙ ap (λ ts. items_of ts ++ works_in steps) fresh.0 in
      subst (λ (v : Task I O). Taken (v ∷ us) octets) (sym h.1)
      (elim (subst (λ (v : Task I O). SomePut (Octets octets) (lists_of (cons_option (answers_of v) []))) h.1 i) [
        | inl j ↦ (let a = all octets j in record {
          request = a.0;
          from = done.from;
          stands = inl refl;
          taken = subst (IsIn (works.Request a.0)) (sym took) a.1;
          answer = a.2.0;
          told = a.2.1;
          is = a.2.2;
        })
        | inr n ↦ absurd n
      ])

  all_took : (olds news : List (Task I O)) → AllByRecursion (Fresh count) olds → AllTwo olds news → (octets : List ℕ)
      → SomePut (Octets octets) (lists_of (filter_map answers_of news)) → Taken news octets
  all_took [] [] fresh ran octets n = absurd n
  all_took [] (u ∷ us) fresh ran octets i = absurd (cc)
  all_took (t ∷ ts) [] fresh ran octets i = absurd ran
  all_took (t ∷ ts) (u ∷ us) fresh ran octets i = elim (put_split (Octets octets) (answers_of u) (filter_map answers_of us) i) [
    | inl j ↦ worker_took t u us octets fresh.0 ran.0 j
    | inr j ↦ (let w = all_took ts us fresh.1 ran.1 octets j in record {
      request = w.request;
      from = w.from;
      stands = later_work w.from (work_in u) (filter_map work_in us) w.stands;
      taken = w.taken;
      answer = w.answer;
      told = w.told;
      is = w.is;
    })
  ]

  answer_of : (message octets : List ℕ) (request : Request) (answer : RequestAnswer) → AsksFor setting count message request → IsAnswerTo request.job answer
      → working.octets_in answer ≡ Some octets → IsAnswerOf setting count message octets
  unfolding AsksFor
  answer_of message octets request answer asks told is =
      let told_so : IsAnswerTo (job_of asks.4) answer = subst (λ (job : Job). IsAnswerTo job answer) asks.7 told in
      (asks.0, asks.1, asks.2, asks.3, Asked asks.4, asks.5, asks.6, (answer, told_so, is))

  -- octets that were put for a writer answer a message that came in
  octets_came : (olds news : List (Task I O)) → AllByRecursion (Fresh count) olds → AllTwo olds news → AreFinished news → (octets : List ℕ)
      → SomePut (Octets octets) (filter_map reply_of news ∷ lists_of (filter_map answers_of news))
      → (message : List ℕ) × CameIn remaining contents tells closed clock setting count olds news message × IsAnswerOf setting count message octets
  octets_came olds news fresh ran finished octets (inl i) = reply_came olds news fresh ran octets i
  octets_came olds news fresh ran finished octets (inr i) =
      let w = all_took olds news fresh ran octets i in
      let put = all_heard_put w.from (filter_map work_in news) (lists_of (filter_map asks_of news)) finished.asked w.stands (works.Request w.request) w.taken in
      let m = request_came olds news fresh ran w.request put in
      (m.0, m.1, answer_of m.0 octets w.request w.answer m.2 w.told w.is)

  later_items : (from : Receiver Item) (o : Option (Receiver Item)) (rs : List (Receiver Item)) → IsIn from rs → IsIn from (cons_option o rs)
  later_items from None rs i = i
  later_items from (Some r) rs i = inr i

  -- what was taken for a gateway was taken at the place
  taken_by_visit : (old : places.Place I O) (v : Visit I O) (new : places.Place I O) → VisitOf old v new
      → (more : List (Tagged Item)) × (taken_of new.from ≡ taken_of old.from ++ more)
  taken_by_visit old v new h =
      let w = h.writes in
      let written = w.2 in
      let rest = w.3 in
      (written.0 ++ rest.0, rest.1 ∙ ap (λ l. l ++ rest.0) written.2 ∙ append_assoc (taken_of old.from) written.0 rest.0)

  taken_by_all : (old last : places.Place I O) (visits : List (Visit I O)) → FoldsTo VisitOf old visits last → (x : Item) → IsIn x (items_of (taken_of old.from)) → IsIn x (items_of (taken_of last.from))
  taken_by_all old last [] h x i = subst (λ (p : places.Place I O). IsIn x (items_of (taken_of p.from))) h i
  taken_by_all old last (v ∷ vs) h x i =
      let t = taken_by_visit old v h.0 h.1 in
      let on : items_of (taken_of h.0.from) ≡ items_of (taken_of old.from) ++ items_of t.0 = ap items_of t.1 ∙ items_both (taken_of old.from) t.0 in
      taken_by_all h.0 last vs h.2 x (subst (IsIn x) (sym on) (in_left x (items_of (taken_of old.from)) (items_of t.0) i))

  -- what was written to a gateway answers messages that came in, if all that its place took answers such messages
  visit_answers : (came : List ℕ → Type 0) (old : places.Place I O) (v : Visit I O) (new : places.Place I O) → VisitOf old v new
      → ((octets : List ℕ) → IsIn (Octets octets) (items_of (taken_of new.from)) → AnsweredBy came octets)
      → WritesAnswers remaining contents tells closed clock setting count came v
  visit_answers came old v new h all =
      let w = h.writes in
      let written = w.2 in
      let rest = w.3 in
      let items = items_of written.0 in
      let took : items_of (taken_of new.from) ≡ (items_of (taken_of old.from) ++ items) ++ items_of rest.0 =
      ap items_of rest.1 ∙ items_both w.0 rest.0 ∙ ap (λ l. l ++ items_of rest.0) (ap items_of written.2 ∙ items_both (taken_of old.from) written.0) in (
        items,
        written.1,
        written.3,
        goes_begun v.written.fault items written.1 written.4.sent,
        λ octets i. all octets (subst (IsIn (Octets octets)) (sym took)
            (in_left (Octets octets) (items_of (taken_of old.from) ++ items) (items_of rest.0) (in_right (Octets octets) (items_of (taken_of old.from)) items i))),
      )

  visits_answer : (came : List ℕ → Type 0) (old last : places.Place I O) (visits : List (Visit I O)) → FoldsTo VisitOf old visits last
      → ((octets : List ℕ) → IsIn (Octets octets) (items_of (taken_of last.from)) → AnsweredBy came octets)
      → AllByRecursion (WritesAnswers remaining contents tells closed clock setting count came) visits
  visits_answer came old last [] h all = tt
  visits_answer came old last (v ∷ vs) h all = (
    visit_answers came old v h.0 h.1 (λ octets i. all octets (taken_by_all h.0 last vs h.2 (Octets octets) i)),
    visits_answer came h.0 last vs h.2 all,
  )

  abbrev TakenAnswers : (List ℕ → Type 0) → Task I O → Type 0
  TakenAnswers came u = (r : Receiver Item) → IsIn r (filter_map items_in (u ∷ [])) → (octets : List ℕ) → IsIn (Octets octets) (items_of (taken_of r)) → AnsweredBy came octets

  -- so it is of a thread
  task_answers : (came : List ℕ → Type 0) (t u : Task I O) → Runs remaining contents tells closed attends clock setting opening count t u → TakenAnswers came u
      → AnswersAll remaining contents tells closed clock setting count came t u
  task_answers came (Work worker) u h all = tt
  task_answers came (Time timer) u h all = tt
  task_answers came (Attend attendant) u h all = tt
  task_answers came (Place old) u h all =
      let left = h.0 in
      let serves = h.2.1 in
      let given : TakenAnswers came (Place left) = subst (TakenAnswers came) h.1 all in
      subst (AnswersAll remaining contents tells closed clock setting count came (Place old)) (sym h.1) (
        h.2.0,
        serves,
        visits_answer came old serves.last h.2.0 serves.visited
            (λ octets i. given left.from (inl refl) octets (subst (λ (r : Receiver Item). IsIn (Octets octets) (items_of (taken_of r))) (sym serves.from) i)),
      )

  later_of : (r : Receiver Item) (u : Task I O) (us : List (Task I O)) → IsIn r (filter_map items_in (u ∷ [])) → IsIn r (filter_map items_in (u ∷ us))
  later_of r (Work worker) us n = absurd n
  later_of r (Time timer) us n = absurd n
  later_of r (Attend attendant) us n = absurd n
  later_of r (Place place) us (inl e) = inl e
  later_of r (Place place) us (inr n) = absurd n

  all_write : (came : List ℕ → Type 0) (olds news : List (Task I O)) → AllTwo olds news
      → ((r : Receiver Item) → IsIn r (filter_map items_in news) → (octets : List ℕ) → IsIn (Octets octets) (items_of (taken_of r)) → AnsweredBy came octets)
      → AllAnswer remaining contents tells closed clock setting count came olds news
  all_write came [] news ran all = tt
  all_write came (t ∷ ts) [] ran all = absurd ran
  all_write came (t ∷ ts) (u ∷ us) ran all = (
    task_answers came t u ran.0 (λ r i. all r (later_of r u us i)),
    all_write came ts us ran.1 (λ r i. all r (later_items r (items_in u) (filter_map items_in us) i)),
  )

  -- what goes out of a round answers what came in
  pub round_answers : (rounds : RoundsView) (olds news : List (Task I O)) → AreGathered count rounds olds → AllRun remaining contents tells closed attends clock setting opening count olds news
      → length news ≡ length olds → AreFinished news
      → AllAnswer remaining contents tells closed clock setting count (CameIn remaining contents tells closed clock setting count olds news) olds news
  round_answers rounds olds news gathered ran same finished =
      let fresh = gathered_fresh count rounds olds gathered in
      let two = all_two olds news ran same in
      all_write (CameIn remaining contents tells closed clock setting count olds news) olds news two
      (λ r stands octets i. octets_came olds news fresh two finished octets
      (all_heard_put r (filter_map items_in news) (filter_map reply_of news ∷ lists_of (filter_map answers_of news)) finished.answered stands (Octets octets) i))
