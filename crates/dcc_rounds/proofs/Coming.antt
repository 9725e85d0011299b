-- What a reader put comes of the messages that it read, and what a worker put of what it took.
use Rattle.std.proofs.Common.{◌≡◌, ℕ, zero, suc, ◌⊎◌, inl, inr, Bool, true, false, if◌then◌else◌, List, [], ◌∷◌, ◌++◌, length, Option, Some, None, refl, sym, ap, subst, append-nil, ◌==◌, ◌∙◌}
use Rattle.std.proofs.lemmas.Fn.{chained_keeps}
use Rattle.std.specs.List.{FoldsTo}
use Rattle.dcc_base.specs.declared.peer.Peer.{Peer}
use Rattle.dcc_connect.specs.Clocks.{timed}
use Rattle.dcc_connect.specs.Reading.{Hands, HandsOn}
use Rattle.dcc_connect.specs.Streams.{before_fault, fault_of_message, heard}
use Rattle.dcc_connect.specs.declared.fault.ConnectFault.TheVariants as fault
use Rattle.dcc_connect.specs.declared.fault.ConnectionEnd.{ConnectionEnd}
use Rattle.dcc_connect.specs.declared.fault.ConnectionEnd.TheVariants as end
use Rattle.dcc_connect.specs.declared.handing.Handed.{Handed}
use Rattle.dcc_connect.specs.declared.handing.Handed.TheVariants.{Stays, Closes}
use Rattle.dcc_connect.specs.declared.writing.Item.{Item}
use Rattle.dcc_connect.specs.declared.writing.Item.TheVariants.{Octets, End}
use Rattle.dcc_dispatch.specs.Settings.{Setting}
use Rattle.dcc_dispatch.specs.declared.decide.Dispatched.{Dispatched}
use Rattle.dcc_dispatch.specs.Messages.{host_name}
use Rattle.dcc_dispatch.specs.declared.asked.Asked.{Asked as AskedView}
use Rattle.dcc_dispatch.specs.declared.settled.Settled.{Settled}
use Rattle.dcc_dispatch.specs.declared.settled.Settled.TheVariants.{Replied, Asked}
use Rattle.dcc_lane.specs.Rule.{IsIn}
use Rattle.dcc_message.specs.Streams.{messages}
use Rattle.dcc_message.specs.declared.header.HeaderFault.{HeaderFault}
use Rattle.dcc_running.specs.Calls.{IsAnswerTo}
use Rattle.dcc_running.specs.declared.job.Job.{Job}
use Rattle.dcc_store.specs.Books.{Held}
use Rattle.dcc_rounds.specs.Answering.{IsAnswerOf}
use Rattle.dcc_rounds.specs.Handing.{AsksSweep, Ends, HandsUnder, IsDispatched, IsSettledBy, job_of, Passes, Reading, is_due, reading_of, replies}
use Rattle.dcc_rounds.specs.Lanes.{put_all, put_into}
use Rattle.dcc_rounds.specs.Working.{DoesCounted, DoesItem, Doing, octets_in, put_answer, works_in}
use Rattle.dcc_rounds.specs.declared.reader.Reader.{Reader}
use Rattle.dcc_rounds.specs.declared.work.Request.{Request}
use Rattle.dcc_rounds.specs.declared.work.Work.{Work}
use Rattle.dcc_rounds.specs.declared.work.Work.TheVariants as work
use Rattle.dcc_shard.specs.Routes.{shard_of}
use Rattle.dcc_shard.specs.declared.answers.RequestAnswer.{RequestAnswer}
use Rattle.dcc_rounds.proofs.Doings.{works_both}

-- it stands in one of these lists
abbrev pub IsAmong : {X : Type 0} → X → List (List X) → Type 0
IsAmong x [] = ⊥
IsAmong x (l ∷ ls) = IsIn x l ⊎ IsAmong x ls

module _ {X : Type 0} where
  pub in_either : (x : X) (a b : List X) → IsIn x (a ++ b) → IsIn x a ⊎ IsIn x b
  in_either x [] b i = inr i
  in_either x (y ∷ a) b (inl e) = inl (inl e)
  in_either x (y ∷ a) b (inr i) = elim (in_either x a b i) [ inl j ↦ inl (inr j) | inr j ↦ inr j ]

  pub in_left : (x : X) (a b : List X) → IsIn x a → IsIn x (a ++ b)
  in_left x [] b n = absurd n
  in_left x (y ∷ a) b (inl e) = inl e
  in_left x (y ∷ a) b (inr i) = inr (in_left x a b i)

  pub in_right : (x : X) (a b : List X) → IsIn x b → IsIn x (a ++ b)
  in_right x [] b i = i
  in_right x (y ∷ a) b i = inr (in_right x a b i)

  among_into : (x item : X) (i : ℕ) (lanes : List (List X)) → IsAmong x (put_into i item lanes) → IsAmong x lanes ⊎ (item ≡ x)
  among_into x item i [] n = absurd n
  among_into x item zero (l ∷ ls) (inl j) = elim (in_either x l (item ∷ []) j) [ inl k ↦ inl (inl k) | inr k ↦ elim k [ inl e ↦ inr e | inr n ↦ absurd n ] ]
  among_into x item zero (l ∷ ls) (inr j) = inl (inr j)
  among_into x item (suc i) (l ∷ ls) (inl j) = inl (inl j)
  among_into x item (suc i) (l ∷ ls) (inr j) = elim (among_into x item i ls j) [ inl k ↦ inl (inr k) | inr e ↦ inr e ]

  pub among_all : (x item : X) (lanes : List (List X)) → IsAmong x (put_all item lanes) → IsAmong x lanes ⊎ (item ≡ x)
  among_all x item [] n = absurd n
  among_all x item (l ∷ ls) (inl j) = elim (in_either x l (item ∷ []) j) [ inl k ↦ inl (inl k) | inr k ↦ elim k [ inl e ↦ inr e | inr n ↦ absurd n ] ]
  among_all x item (l ∷ ls) (inr j) = elim (among_all x item ls j) [ inl k ↦ inl (inr k) | inr e ↦ inr e ]

-- what is heard of messages stands among them
heard_one : (m k : List ℕ) (ms : List (List ℕ)) (o : Option HeaderFault) → IsIn m (elim o [ Some f ↦ [] | None ↦ k ∷ before_fault ms ])
    → (IsIn m (before_fault ms) → IsIn m ms) → IsIn m (k ∷ ms)
heard_one m k ms (Some f) i later = absurd i
heard_one m k ms None (inl e) later = inl e
heard_one m k ms None (inr i) later = inr (later i)

heard_in : (m : List ℕ) (ms : List (List ℕ)) → IsIn m (before_fault ms) → IsIn m ms
heard_in m [] n = absurd n
heard_in m (k ∷ ms) i = heard_one m k ms (fault_of_message k) i (heard_in m ms)

reply_by : (b : Bool) (o octets : List ℕ) → IsIn (Octets o) (if b then [] else Octets octets ∷ []) → o ≡ octets
reply_by true o octets n = absurd n
reply_by false o octets (inl e) = let is : Octets octets ≡ Octets o = e in let same : o ≡ octets = cc in same
reply_by false o octets (inr n) = absurd n

module _ (setting : Setting) (count : ℕ) where
  -- a message asks for what a request is of
  unfoldable pub AsksFor : List ℕ → Request → Type 0
  AsksFor message request =
      (moment : ℕ) × (old : Peer) × (new : Peer) × (word : Dispatched) × (asked : AskedView) × IsDispatched setting moment message old new word
      × IsSettledBy setting count (host_name old) message word (Asked asked) × (request.job ≡ job_of asked)

-- `before` is of messages that were read of gateways before
module _ (setting : Setting) (count : ℕ) (before : List ℕ → Type 0) where
  -- a message is one of these, or came before
  abbrev pub Known : List (List ℕ) → List ℕ → Type 0
  Known ms message = before message ⊎ IsIn message ms

  -- what was put comes of these messages
  pub record Came (ms : List (List ℕ)) (reading : Reading) : Type 0 where
    pub replied : (octets : List ℕ) → IsIn (Octets octets) reading.replied → (message : List ℕ) × Known ms message × IsAnswerOf setting count message octets
    pub asked : (request : Request) → IsAmong (work.Request request) reading.asked → (message : List ℕ) × Known ms message × AsksFor setting count message request

  known_wider : (ms ns : List (List ℕ)) (m : List ℕ) → (IsIn m ms → IsIn m ns) → Known ms m → Known ns m
  known_wider ms ns m all (inl b) = inl b
  known_wider ms ns m all (inr i) = inr (all i)

  wider : (ms ns : List (List ℕ)) (reading : Reading) → ((m : List ℕ) → IsIn m ms → IsIn m ns) → Came ms reading → Came ns reading
  wider ms ns reading all h = record {
    replied = λ octets i. (let t = h.replied octets i in (t.0, known_wider ms ns t.0 (all t.0) t.1, t.2));
    asked = λ request i. (let t = h.asked request i in (t.0, known_wider ms ns t.0 (all t.0) t.1, t.2));
  }

  last_in : (m : List ℕ) (ms : List (List ℕ)) → Known (ms ++ m ∷ []) m
  last_in m ms = inr (in_right m ms (m ∷ []) (inl refl))

  passes_on : (gate moment : ℕ) (m : List ℕ) (ms : List (List ℕ)) (p q : Peer) (word : Dispatched) (settled : Settled) (handed : Handed) (old new : Reading) → Came ms old
      → IsDispatched setting moment m p q word → IsSettledBy setting count (host_name p) m word settled → Passes gate settled handed old new → Came (ms ++ m ∷ []) new
  unfolding AsksFor
  passes_on gate moment m ms p q word (Replied reply) handed old new was is by h =
      let on = wider ms (ms ++ m ∷ []) old (λ k i. in_left k ms (m ∷ []) i) was in
      subst (Came (ms ++ m ∷ [])) (sym h.1)
      (record {
        replied = λ octets i. elim (in_either (Octets octets) old.replied (replies reply.octets) i) [
          | inl j ↦ on.replied octets j
          | inr j ↦ (m, last_in m ms, (moment, p, q, word, Replied reply, is, by, reply_by (length reply.octets == 0) octets reply.octets j))
        ];
        asked = on.asked;
      })
  passes_on gate moment m ms p q word (Asked asked) handed old new was is by h =
      let on = wider ms (ms ++ m ∷ []) old (λ k i. in_left k ms (m ∷ []) i) was in
      let request = h.1.0 in
      subst (Came (ms ++ m ∷ [])) (sym h.1.3)
      (record {
        replied = on.replied;
        asked = λ r i. elim (among_into (work.Request r) (work.Request request) (shard_of asked.sub (length old.asked)) old.asked i) [
          | inl j ↦ on.asked r j
          | inr e ↦ (let same : request ≡ r = cc in (m, last_in m ms, subst (AsksFor setting count m) same (moment, p, q, word, asked, is, by, h.1.2)))
        ];
      })

  among_swept : (b : Bool) (request : Request) (moment : ℕ) (asked : List (List Work)) → IsAmong (work.Request request) (if b then put_all (work.Sweep moment) asked else asked)
      → IsAmong (work.Request request) asked
  among_swept true request moment asked i = elim (among_all (work.Request request) (work.Sweep moment) asked i) [ inl j ↦ j | inr e ↦ absurd (cc) ]
  among_swept false request moment asked i = i

  sweeps_on : (moment : ℕ) (ms : List (List ℕ)) (old new : Reading) → Came ms old → AsksSweep moment old new → Came ms new
  sweeps_on moment ms old new was h =
      subst (Came ms) (sym h) (record { replied = was.replied; asked = λ r i. was.asked r (among_swept (is_due old.sweeps) r moment old.asked i) })

  -- a reader that puts nothing more puts nothing of a message
  pub leaves_on : (ms : List (List ℕ)) (old new : Reading) → Came ms old → new ≡ record old { asked = put_all work.Over old.asked } → Came ms new
  leaves_on ms old new was h =
      subst (Came ms) (sym h)
      (record {
        replied = was.replied;
        asked = λ r i. elim (among_all (work.Request r) work.Over old.asked i) [ inl j ↦ was.asked r j | inr e ↦ absurd (cc) ];
      })

  pub ends_on : (gate : ℕ) (ms : List (List ℕ)) (old new : Reading) → Came ms old → Ends gate old new → Came ms new
  ends_on gate ms old new was h =
      subst (Came ms) (sym h)
      (record {
        replied = λ octets i. elim (in_either (Octets octets) old.replied (End ∷ []) i) [
          | inl j ↦ was.replied octets j
          | inr j ↦ elim j [ inl e ↦ absurd (cc) | inr n ↦ absurd n ]
        ];
        asked = λ r i. elim (among_all (work.Request r) (work.End gate) old.asked i) [ inl j ↦ was.asked r j | inr e ↦ absurd (cc) ];
      })

  module _ {C : Type 0} (tells : C → ℕ → C → Type 0) where
    came_one : (ms : List (List ℕ)) (q : Reader × C) (moment : ℕ) (m : List ℕ) (handed : Handed) (v : Reader × C) → Came ms (reading_of q.0)
        → timed tells (HandsUnder setting count) q moment m handed v → Came (ms ++ m ∷ []) (reading_of v.0)
    came_one ms q moment m handed v was h =
        let hands = h.1 in
        sweeps_on moment (ms ++ m ∷ []) hands.2 (reading_of v.0)
        (passes_on q.0.gate moment m ms q.0.peer v.0.peer hands.0 hands.1 handed (reading_of q.0) hands.2 was hands.3 hands.4 hands.5) hands.6

    came_all : (ms : List (List ℕ)) (p q : Reader × C) → Came [] (reading_of p.0) → FoldsTo (HandsOn (timed tells (HandsUnder setting count))) p ms q → Came ms (reading_of q.0)
    came_all ms p q was all =
        chained_keeps (HandsOn (timed tells (HandsUnder setting count))) (λ (xs : List (List ℕ)) (s : Reader × C). Came xs (reading_of s.0))
        (λ xs s m v h step. came_one xs s step.0 m Stays v h step.1) ms p q was all

    -- what a reader put comes of the messages of a beginning of what it read
    unfoldable pub Comes : List ℕ → Reader → Type 0
    Comes read r = (front : List ℕ) × (behind : List ℕ) × (read ≡ front ++ behind) × Came (messages front) (reading_of r)

    whole : (read : List ℕ) (r : Reader) → Came (messages read) (reading_of r) → Comes read r
    unfolding Comes
    whole read r h = (read, [], sym (append-nil read), h)

    pub read_came : (e : ConnectionEnd) (read : List ℕ) (p q : Reader × C) → Came [] (reading_of p.0) → Hands (timed tells (HandsUnder setting count)) e read p q → Comes read q.0
    unfolding Comes
    read_came end.End read p q was h = whole read q.0 (came_all (messages read) p q was h.1)
    read_came end.Closed read p q was h =
        let front = h.0 in
        let last = h.1 in
        let heard_is = h.4 in
        let on = came_one front h.3 h.6.0 last Closes q (came_all front p h.3 was h.5) h.6.1 in
        whole read q.0
        (wider (front ++ last ∷ []) (messages read) (reading_of q.0)
        (λ m i. heard_in m (messages read)
        (subst (IsIn m) (sym heard_is) (elim (in_either m front (last ∷ []) i) [
          | inl j ↦ in_left m front (last ∷ h.2) j
          | inr j ↦ in_right m front (last ∷ h.2) (elim j [ inl e ↦ inl e | inr n ↦ absurd n ])
        ])))
        on)
    read_came (end.Fault fault.Read) read p q was h = whole read q.0 (came_all (messages read) p q was h.1)
    read_came (end.Fault fault.TooManyTurns) read p q was h = whole read q.0 (came_all (messages read) p q was h.1)
    read_came (end.Fault (fault.Header f)) read p q was h =
        whole read q.0 (wider (heard read) (messages read) (reading_of q.0) (λ m i. heard_in m (messages read) i) (came_all (heard read) p q was h.1))
    read_came (end.Fault fault.Memory) read p q was h = (h.0, h.1, h.2, came_all (messages h.0) p q was h.3.1)
    read_came (end.Fault (fault.Write written)) read p q was h = absurd h

-- what a worker put for gateways answers requests that it took
unfoldable pub Answered : List Work → Doing → Type 0
Answered works doing =
    (octets : List ℕ) → IsAmong (Octets octets) doing.put
    → (request : Request) × IsIn (work.Request request) works × ((answer : RequestAnswer) × IsAnswerTo request.job answer × (octets_in answer ≡ Some octets))

answer_on : (octets : List ℕ) (gate : ℕ) (o : Option (List ℕ)) (put : List (List Item)) → IsAmong (Octets octets) (put_answer gate o put)
    → IsAmong (Octets octets) put ⊎ (o ≡ Some octets)
answer_on octets gate None put i = inl i
answer_on octets gate (Some told) put i = elim (among_into (Octets octets) (Octets told) gate put i) [ inl j ↦ inl j | inr e ↦ (let is : told ≡ octets = cc in inr (ap (λ x. Some x) is)) ]

does_on : (works : List Work) (q : Doing) (one : Work) (v : Doing) → Answered works q → DoesItem q one v → Answered (works ++ one ∷ []) v
unfolding Answered
does_on works q (work.Request request) v was h octets i =
    let answer = h.0.0 in
    elim (answer_on octets request.gate (octets_in answer) q.put (subst (IsAmong (Octets octets)) h.0.4 i)) [
      | inl j ↦ (let t = was octets j in (t.0, in_left (work.Request t.0) works (work.Request request ∷ []) t.1, t.2))
      | inr e ↦ (request, in_right (work.Request request) works (work.Request request ∷ []) (inl refl), (answer, h.0.1, e))
    ]
does_on works q (work.Sweep moment) v was h octets i =
    let t = was octets (subst (IsAmong (Octets octets)) h.1 i) in
    (t.0, in_left (work.Request t.0) works (work.Sweep moment ∷ []) t.1, t.2)
does_on works q work.Audit v was h octets i =
    let t = was octets (subst (IsAmong (Octets octets)) h.1 i) in
    (t.0, in_left (work.Request t.0) works (work.Audit ∷ []) t.1, t.2)
does_on works q (work.End gate) v was h octets i = elim (among_into (Octets octets) End gate q.put (subst (IsAmong (Octets octets)) h.1 i)) [
  | inl j ↦ (let t = was octets j in (t.0, in_left (work.Request t.0) works (work.End gate ∷ []) t.1, t.2))
  | inr e ↦ absurd (cc)
]
does_on works q work.Over v was h octets i =
    let t = was octets (subst (IsAmong (Octets octets)) h.1 i) in
    (t.0, in_left (work.Request t.0) works (work.Over ∷ []) t.1, t.2)

step_on : (opening : Held) (shard : ℕ) (steps : List (Option Work)) (q : Doing) (step : Option Work) (v : Doing) → Answered (works_in steps) q
    → DoesCounted opening shard q step v → Answered (works_in (steps ++ step ∷ [])) v
unfolding Answered
step_on opening shard steps q None v was h =
    let put : v.put ≡ q.put = elim h.0 [ inl piece ↦ piece.4 | inr audit ↦ audit.3 ] in
    subst (λ works. Answered works v) (sym (works_both steps (None ∷ []) ∙ append-nil (works_in steps))) (λ octets i. was octets (subst (IsAmong (Octets octets)) put i))
step_on opening shard steps q (Some one) v was h =
    subst (λ works. Answered works v) (sym (works_both steps (Some one ∷ []))) (does_on (works_in steps) q one v was h.0)

pub done_answers : (opening : Held) (shard : ℕ) (steps : List (Option Work)) (p q : Doing) → Answered [] p → FoldsTo (DoesCounted opening shard) p steps q
    → Answered (works_in steps) q
done_answers opening shard steps p q was all =
    chained_keeps (DoesCounted opening shard) (λ (xs : List (Option Work)) (d : Doing). Answered (works_in xs) d) (step_on opening shard) steps p q was all
