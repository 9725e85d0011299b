-- How the lanes of a round are ended.
use Rattle.std.proofs.Common.{◌≡◌, ℕ, zero, suc, ◌+◌, Bool, List, [], ◌∷◌, ◌++◌, map, length, Option, Some, None, refl, sym, ap, ap₂, ◌∙◌, subst, append_assoc, append-nil, arith, inl, inr}
use Rattle.std.proofs.lemmas.Bool.{cases_lt}
use Rattle.std.proofs.lemmas.List.{map-append}
use Rattle.std.proofs.lemmas.List.Elements.{All-nil, All-cons, filter_map-append}
use Rattle.std.proofs.Math.ListN.{length-map}
use Rattle.std.specs.Global.{Vec}
use Rattle.std.specs.List.{All, AllByRecursion, FoldsTo, cons_option, filter_map}
use Rattle.std.specs.Option.{option_map}
use Rattle.atomic_table.specs.Seated.{TableId}
use Rattle.dcc_connect.specs.declared.writing.Item.{Item}
use Rattle.dcc_dispatch.specs.Settings.{Setting}
use Rattle.dcc_lane.specs.Ends.{IsOfLane, lane_of, lane_of_sender}
use Rattle.dcc_lane.specs.declared.receiver.Receiver.{Receiver}
use Rattle.dcc_lane.specs.declared.sender.Sender.{Sender}
use Rattle.dcc_receipts.specs.declared.receipt.Receipt.{Receipt}
use Rattle.dcc_store.specs.Books.{Held}
use Rattle.dcc_rounds.specs.Counting.{seat_in}
use Rattle.dcc_rounds.specs.Finishing.{AddsTask, AreFinished, ArePartsOf, AreTied, Ends, answers_of, asks_of, ends_in, items_in, reply_of, with, work_in}
use Rattle.dcc_rounds.specs.Gathering.{AreGathered, attendants_of, places_from, timer_of, workers_from}
use Rattle.dcc_rounds.specs.Handing.{IsSameReader}
use Rattle.dcc_rounds.specs.Lanes.{AreAllHeard, AreDealt, AreOfLanes, firsts, lanes_of, lists_of, rests}
use Rattle.dcc_rounds.specs.Rounds.{RoundsView}
use Rattle.dcc_rounds.specs.Tasks.{AllRun, Runs}
use Rattle.dcc_rounds.specs.Visiting.{IsVisit, Visit}
use Rattle.dcc_rounds.specs.declared.face.Connection.{Connection}
use Rattle.dcc_rounds.specs.declared.finishing.Parts.{Parts}
use Rattle.dcc_rounds.specs.declared.place.Place as places
use Rattle.dcc_rounds.specs.declared.tasks.Task.{Task}
use Rattle.dcc_rounds.specs.declared.tasks.Task.TheVariants.{Work, Time, Place, Attend}
use Rattle.dcc_rounds.specs.declared.work.Work as work
use Rattle.dcc_rounds.proofs.Dealing.{lists_push}
use Rattle.dcc_rounds.proofs.Handings.{same_as, same_on}

module _ {T : Type 0} where
  -- one list more gave its first sender, or had none
  pub first_some : (done next : List (Sender T)) (lists left : List (Vec (Sender T))) (list : Vec (Sender T)) (s : Sender T) (rest all : List (Sender T))
      → lists ≡ list ∷ left → list.items ≡ s ∷ rest → next ≡ done ++ s ∷ [] → done ++ firsts (lists_of lists) ≡ all → next ++ firsts (lists_of left) ≡ all
  first_some done next lists left list s rest all one is more told =
      ap (λ (ds : List (Sender T)). ds ++ firsts (lists_of left)) more ∙ append_assoc done (s ∷ []) (firsts (lists_of left))
      ∙ sym (ap (λ (ls : List (Vec (Sender T))). done ++ firsts (lists_of ls)) one ∙ ap (λ (l : List (Sender T)). done ++ firsts (l ∷ lists_of left)) is) ∙ told

  pub first_none : (done : List (Sender T)) (lists left : List (Vec (Sender T))) (list : Vec (Sender T)) (all : List (Sender T))
      → lists ≡ list ∷ left → list.items ≡ [] → done ++ firsts (lists_of lists) ≡ all → done ++ firsts (lists_of left) ≡ all
  first_none done lists left list all one is told =
      sym (ap (λ (ls : List (Vec (Sender T))). done ++ firsts (lists_of ls)) one ∙ ap (λ (l : List (Sender T)). done ++ firsts (l ∷ lists_of left)) is) ∙ told

  -- and what is behind it
  pub rest_on : (done next lists left : List (Vec (Sender T))) (list one : Vec (Sender T)) (all : List (List (Sender T)))
      → lists ≡ list ∷ left → next ≡ done ++ one ∷ [] → rests (list.items ∷ []) ≡ one.items ∷ []
      → lists_of done ++ rests (lists_of lists) ≡ all → lists_of next ++ rests (lists_of left) ≡ all
  rest_on done next lists left list one all first more is told =
      ap (λ (ls : List (Vec (Sender T))). lists_of ls ++ rests (lists_of left)) more
      ∙ ap (λ (ls : List (List (Sender T))). ls ++ rests (lists_of left)) (lists_push done one)
      ∙ append_assoc (lists_of done) (one.items ∷ []) (rests (lists_of left))
      ∙ ap (λ (ls : List (List (Sender T))). lists_of done ++ (ls ++ rests (lists_of left))) (sym is)
      ∙ ap (λ (ls : List (List (Sender T))). lists_of done ++ ls) (rests_both list.items (lists_of left))
      ∙ sym (ap (λ (ls : List (Vec (Sender T))). lists_of done ++ rests (lists_of ls)) first) ∙ told
    where
      rests_both : (l : List (Sender T)) (ls : List (List (Sender T))) → rests (l ∷ []) ++ rests ls ≡ rests (l ∷ ls)
      rests_both [] ls = refl
      rests_both (s ∷ ss) ls = refl

  -- of each list the first sender is of the first lane, and those behind it are of the others
  pub of_first : (lane : TableId) (lanes : List TableId) (lists : List (List (Sender T))) → AreOfLanes (lane ∷ lanes) (map lanes_of lists)
      → All (IsOfLane lane) (firsts lists) × AreOfLanes lanes (map lanes_of (rests lists))
  of_first lane lanes [] h = (All-nil _, tt)
  of_first lane lanes ([] ∷ ls) h = let none = h.0 in absurd (cc)
  of_first lane lanes ((s ∷ ss) ∷ ls) h =
      let is = h.0 in
      let head : lane_of_sender s ≡ lane = cc in
      let tail : lanes_of ss ≡ lanes = cc in
      let later = of_first lane lanes ls h.1 in
      (All-cons (IsOfLane lane) s (firsts ls) head later.0, (tail, later.1))

-- what was kept of some items, with what one gives
with_is : {Y : Type 0} (ys : List Y) (o : Option Y) → with ys o ≡ ys ++ cons_option o []
with_is ys None = sym (append-nil ys)
with_is ys (Some y) = refl

kept_with : {X Y : Type 0} (h : X → Option Y) (xs : List X) (x : X) (old new : List Y) → old ≡ filter_map h xs → new ≡ with old (h x) → new ≡ filter_map h (xs ++ x ∷ [])
kept_with h xs x old new was more =
    more ∙ with_is old (h x) ∙ ap (λ ys. ys ++ cons_option (h x) []) was ∙ sym (filter_map-append h xs (x ∷ []))

pub parts_on : {I O : Type 0} (tasks : List (Task I O)) (one : Task I O) (old new : Parts) → ArePartsOf tasks old → AddsTask one old new → ArePartsOf (tasks ++ one ∷ []) new
parts_on tasks one old new was adds = record {
  seats = kept_with seat_in tasks one old.seats.items new.seats.items was.seats adds.seats;
  work = kept_with work_in tasks one old.work.items new.work.items was.work adds.work;
  asks = kept_with asks_of tasks one old.asks.items new.asks.items was.asks adds.asks;
  items = kept_with items_in tasks one old.items.items new.items.items was.items adds.items;
  replies = kept_with reply_of tasks one old.replies.items new.replies.items was.replies adds.replies;
  answers = kept_with answers_of tasks one old.answers.items new.answers.items was.answers adds.answers;
}

-- what is kept of some items, seen by another
cons_map : {Y Z : Type 0} (g : Y → Z) (o : Option Y) (ys : List Y) → map g (cons_option o ys) ≡ cons_option (option_map g o) (map g ys)
cons_map g None ys = refl
cons_map g (Some y) ys = refl

pub kept_as : {X Y Z : Type 0} (g : Y → Z) (f : X → Option Y) (h : X → Option Z) → ((x : X) → h x ≡ option_map g (f x)) → (xs : List X) → map g (filter_map f xs) ≡ filter_map h xs
kept_as g f h same [] = refl
kept_as g f h same (x ∷ xs) =
    cons_map g (f x) (filter_map f xs) ∙ ap (λ o. cons_option o (map g (filter_map f xs))) (sym (same x)) ∙ ap (λ zs. cons_option (h x) zs) (kept_as g f h same xs)

pub kept_of : {X Y Z : Type 0} (g : X → Y) (f : Y → Option Z) (xs : List X) → filter_map f (map g xs) ≡ filter_map (λ x. f (g x)) xs
kept_of g f [] = refl
kept_of g f (x ∷ xs) = ap (λ zs. cons_option (f (g x)) zs) (kept_of g f xs)

pub map_map : {X Y Z : Type 0} (g : Y → Z) (f : X → Y) (xs : List X) → map g (map f xs) ≡ map (λ x. g (f x)) xs
map_map g f [] = refl
map_map g f (x ∷ xs) = ap (λ zs. g (f x) ∷ zs) (map_map g f xs)

-- lanes and senders are tied if the lists of them are tied
pub tied_by : (ends : List Ends) (w i r : List TableId) (a n : List (List TableId)) → filter_map (λ (e : Ends). e.work) ends ≡ w → filter_map (λ (e : Ends). e.asks) ends ≡ a
    → filter_map (λ (e : Ends). e.items) ends ≡ i → filter_map (λ (e : Ends). e.reply) ends ≡ r → filter_map (λ (e : Ends). e.answers) ends ≡ n
    → AreOfLanes w a → AreOfLanes i (r ∷ n) → AreTied ends
tied_by ends w i r a n w_is a_is i_is r_is n_is asked answered = record {
  asked = subst (λ x. AreOfLanes x (filter_map (λ (e : Ends). e.asks) ends)) (sym w_is) (subst (AreOfLanes w) (sym a_is) asked);
  answered = subst (λ x. AreOfLanes x (filter_map (λ (e : Ends). e.reply) ends ∷ filter_map (λ (e : Ends). e.answers) ends)) (sym i_is)
      (subst (λ x. AreOfLanes i (x ∷ filter_map (λ (e : Ends). e.answers) ends)) (sym r_is) (subst (λ x. AreOfLanes i (r ∷ x)) (sym n_is) answered));
}

-- the lists of the lanes and senders of some threads
record Told (ends : List Ends) (w i r : List TableId) (a n : List (List TableId)) : Type 0 where
  work : filter_map (λ (e : Ends). e.work) ends ≡ w
  asks : filter_map (λ (e : Ends). e.asks) ends ≡ a
  items : filter_map (λ (e : Ends). e.items) ends ≡ i
  reply : filter_map (λ (e : Ends). e.reply) ends ≡ r
  answers : filter_map (λ (e : Ends). e.answers) ends ≡ n

both_kept : {X Z : Type 0} (f : X → Option Z) (a b : List X) (x y : List Z) → filter_map f a ≡ x → filter_map f b ≡ y → filter_map f (a ++ b) ≡ x ++ y
both_kept f a b x y p q = filter_map-append f a b ∙ ap₂ (λ u v. u ++ v) p q

abbrev lanes_in : {T : Type 0} → List (Vec (Sender T)) → List (List TableId)
lanes_in lists = map (λ list. lanes_of list.items) lists

of_workers : (I O : Type 0) (shard : ℕ) (receivers : List (Receiver work.Work)) (senders : List (Vec (Sender Item))) → length receivers ≡ length senders
    → Told (map ends_in (workers_from {I = I} {O = O} shard receivers senders)) (map lane_of receivers) [] [] [] (lanes_in senders)
of_workers I O shard [] [] same = record { work = refl; asks = refl; items = refl; reply = refl; answers = refl }
of_workers I O shard [] (s ∷ ss) same = absurd (omega arith)
of_workers I O shard (r ∷ rs) [] same = absurd (omega arith)
of_workers I O shard (r ∷ rs) (s ∷ ss) same =
    let t = of_workers I O (shard + 1) rs ss (omega arith) in
    record { work = ap (λ l. lane_of r ∷ l) t.work; asks = t.asks; items = t.items; reply = t.reply; answers = ap (λ l. lanes_of s.items ∷ l) t.answers }

of_attendants : (I O : Type 0) (count : ℕ) → Told (map ends_in (attendants_of {I = I} {O = O} count)) [] [] [] [] []
of_attendants I O zero = record { work = refl; asks = refl; items = refl; reply = refl; answers = refl }
of_attendants I O (suc count) =
    let t = of_attendants I O count in
    record { work = t.work; asks = t.asks; items = t.items; reply = t.reply; answers = t.answers }

of_places : {I O : Type 0} (stays : Bool) (every gate : ℕ) (firsts : List (Option (Connection I O))) (receivers : List (Receiver Item)) (senders : List (Vec (Sender work.Work)))
    (replies : List (Sender Item)) → length receivers ≡ length firsts → length senders ≡ length firsts → length replies ≡ length firsts
    → Told (map ends_in (places_from stays every gate firsts receivers senders replies)) [] (map lane_of receivers) (lanes_of replies) (lanes_in senders) []
of_places stays every gate [] [] [] [] a b c = record { work = refl; asks = refl; items = refl; reply = refl; answers = refl }
of_places stays every gate [] (r ∷ rs) ss ps a b c = absurd (omega arith)
of_places stays every gate [] [] (s ∷ ss) ps a b c = absurd (omega arith)
of_places stays every gate [] [] [] (p ∷ ps) a b c = absurd (omega arith)
of_places stays every gate (x ∷ xs) [] ss ps a b c = absurd (omega arith)
of_places stays every gate (x ∷ xs) (r ∷ rs) [] ps a b c = absurd (omega arith)
of_places stays every gate (x ∷ xs) (r ∷ rs) (s ∷ ss) [] a b c = absurd (omega arith)
of_places stays every gate (x ∷ xs) (r ∷ rs) (s ∷ ss) (p ∷ ps) a b c =
    let t = of_places stays every (gate + 1) xs rs ss ps (omega arith) (omega arith) (omega arith) in
    record {
      work = t.work;
      asks = ap (λ l. lanes_of s.items ∷ l) t.asks;
      items = ap (λ l. lane_of r ∷ l) t.items;
      reply = ap (λ l. lane_of_sender p ∷ l) t.reply;
      answers = t.answers;
    }

dealt_lanes : {T : Type 0} (receivers : List (Receiver T)) (lists : List (Vec (Sender T))) → AllByRecursion (AreDealt receivers) (lists_of lists)
    → AreOfLanes (map lane_of receivers) (lanes_in lists)
dealt_lanes receivers [] h = tt
dealt_lanes receivers (l ∷ ls) h = (h.0.0, dealt_lanes receivers ls h.1)

module _ {I O : Type 0} where
  -- what a round begins with is tied
  pub gathered_tied : (shards : ℕ) (rounds : RoundsView) (tasks : List (Task I O)) → AreGathered shards rounds tasks → AreTied (map ends_in tasks)
  gathered_tied shards rounds tasks g =
      let firsts = g.placed_are.0 in
      let workers = workers_from {I = I} {O = O} 0 g.work.receivers.items g.answers in
      let timer : List (Task I O) = timer_of rounds.stays g.timers ∷ [] in
      let others = places_from rounds.stays rounds.every 0 firsts g.items.receivers.items g.asks g.replies.items in
      let lists : length (g.replies ∷ g.answers) ≡ shards + 1 = ap length (sym g.dealt) ∙ g.items_are.lists in
      let askers : length (g.timers ∷ g.asks) ≡ rounds.gates + 1 = ap length (sym g.asked) ∙ g.work_are.lists in
      let all : AllByRecursion (AreDealt g.items.receivers.items) (lists_of (g.replies ∷ g.answers)) =
      subst (λ (ls : List (Vec (Sender Item))). AllByRecursion (AreDealt g.items.receivers.items) (lists_of ls)) g.dealt g.items_are.dealt in
      let asked : AllByRecursion (AreDealt g.work.receivers.items) (lists_of (g.timers ∷ g.asks)) =
      subst (λ (ls : List (Vec (Sender work.Work))). AllByRecursion (AreDealt g.work.receivers.items) (lists_of ls)) g.asked g.work_are.dealt in
      let replies : length g.replies.items ≡ length g.items.receivers.items =
      sym (length-map g.replies.items lane_of_sender) ∙ ap length all.0.0 ∙ length-map g.items.receivers.items lane_of in
      let w = of_workers I O 0 g.work.receivers.items g.answers (omega (arith, lists, g.work_are.receivers)) in
      let o = of_places rounds.stays rounds.every 0 firsts g.items.receivers.items g.asks g.replies.items (omega (arith, g.items_are.receivers, g.placed_are.1))
      (omega (arith, askers, g.placed_are.1)) (omega (arith, replies, g.items_are.receivers, g.placed_are.1)) in
      let p = of_attendants I O rounds.attendants in
      let a = map ends_in workers in
      let t = map ends_in timer in
      let b = map ends_in others in
      let d = map ends_in (attendants_of {I = I} {O = O} rounds.attendants) in
      let front : map ends_in g.placed ≡ a ++ (t ++ b) =
      ap (map ends_in) g.placed_are.3 ∙ map-append ends_in (workers ++ timer) others ∙ ap (λ l. l ++ b) (map-append ends_in workers timer) ∙ append_assoc a t b in
      let ends : map ends_in tasks ≡ (a ++ (t ++ b)) ++ d =
      ap (map ends_in) g.tasks_are ∙ map-append ends_in g.placed (attendants_of rounds.attendants) ∙ ap (λ l. l ++ d) front in
      let late : (X : Type 0) (f : Ends → Option X) (x y z : List X) → filter_map f a ≡ x → filter_map f t ≡ y → filter_map f b ≡ z → filter_map f d ≡ []
      → filter_map f ((a ++ (t ++ b)) ++ d) ≡ x ++ (y ++ z) =
      λ X f x y z p q r none.
      both_kept f (a ++ (t ++ b)) d (x ++ (y ++ z)) [] (both_kept f a (t ++ b) x (y ++ z) p (both_kept f t b y z q r)) none ∙ append-nil (x ++ (y ++ z)) in
      subst AreTied (sym ends)
      (tied_by ((a ++ (t ++ b)) ++ d) (map lane_of g.work.receivers.items ++ ([] ++ [])) ([] ++ ([] ++ map lane_of g.items.receivers.items)) ([] ++ ([] ++ lanes_of g.replies.items))
      ([] ++ ((lanes_of g.timers.items ∷ []) ++ lanes_in g.asks)) (lanes_in g.answers ++ ([] ++ []))
      (late TableId (λ (e : Ends). e.work) _ _ _ w.work refl o.work p.work) (late (List TableId) (λ (e : Ends). e.asks) _ _ _ w.asks refl o.asks p.asks)
      (late TableId (λ (e : Ends). e.items) _ _ _ w.items refl o.items p.items) (late TableId (λ (e : Ends). e.reply) _ _ _ w.reply refl o.reply p.reply)
      (late (List TableId) (λ (e : Ends). e.answers) _ _ _ w.answers refl o.answers p.answers)
      (subst (λ l. AreOfLanes l (lanes_of g.timers.items ∷ lanes_in g.asks)) (sym (append-nil (map lane_of g.work.receivers.items)))
      (dealt_lanes g.work.receivers.items (g.timers ∷ g.asks) asked))
      (subst (λ l. AreOfLanes (map lane_of g.items.receivers.items) (lanes_of g.replies.items ∷ l)) (sym (append-nil (lanes_in g.answers)))
      (dealt_lanes g.items.receivers.items (g.replies ∷ g.answers) all)))

module _ {I O C : Type 0} (remaining : I → Option (List ℕ)) (contents : O → Option (List ℕ)) (tells : C → ℕ → C → Type 0) (closed : Type 0)
    (attends : List Receipt → List Receipt → Type 0) (clock : C) (setting : Setting) (opening : Held) (count : ℕ) where
  -- the ends of lanes that a place has
  abbrev AtPlace : places.Place I O → places.Place I O → Type 0
  AtPlace old new = IsSameReader old.reader new.reader × (lane_of new.from ≡ lane_of old.from)

  visited_same : (old last : places.Place I O) (visits : List (Visit I O)) → FoldsTo (IsVisit remaining contents tells closed clock setting count) old visits last → AtPlace old last
  visited_same old last [] h = subst (AtPlace old) h (same_as old.reader, refl)
  visited_same old last (v ∷ vs) h =
      let mid = h.0 in
      let same = h.1.reads.5 in
      let more = visited_same mid last vs h.2 in
      let here : IsSameReader old.reader mid.reader = record { gate = same.gate; workers = same.workers; writer = same.writer } in
      (same_on old.reader mid.reader last.reader here more.0, more.1 ∙ h.1.writes.1.0)

  -- a thread keeps its lanes
  ends_same : (t u : Task I O) → Runs remaining contents tells closed attends clock setting opening count t u → ends_in u ≡ ends_in t
  ends_same (Work worker) u h = elim (cases_lt worker.shard count) [
    | inl there ↦ (let d = h.2 there in ap ends_in h.1 ∙ (λ i. record { work = Some (d.goes.same.0 i); asks = None; items = None; reply = None; answers = Some (d.goes.lanes i) }))
    | inr past ↦ ap ends_in h.1 ∙ ap (λ w. ends_in {I = I} {O = O} (Work w)) (h.3 past)
  ]
  ends_same (Time timer) u h = ap ends_in h.1 ∙ (λ i. record { work = None; asks = Some (h.2.lanes i); items = None; reply = None; answers = None })
  ends_same (Place old) u h =
      let s = h.2.1 in
      let v = visited_same old s.last h.2.0 s.visited in
      let reader = same_on old.reader s.last.reader h.0.reader v.0 s.left.1 in
      let from : lane_of h.0.from ≡ lane_of old.from = ap lane_of s.from ∙ v.1 in
      ap ends_in h.1 ∙ (λ i. record { work = None; asks = Some (reader.workers i); items = Some (from i); reply = Some (reader.writer i); answers = None })
  ends_same (Attend attendant) u h = ap ends_in h.1

  all_same : (old new : List (Task I O)) → AllRun remaining contents tells closed attends clock setting opening count old new → length new ≡ length old → map ends_in new ≡ map ends_in old
  all_same [] [] ran same = refl
  all_same [] (u ∷ us) ran same = absurd (omega arith)
  all_same (t ∷ ts) [] ran same = absurd (omega arith)
  all_same (t ∷ ts) (u ∷ us) ran same =
      ap₂ (λ e es. e ∷ es) (ends_same t u (ran 0 t (omega arith))) (all_same ts us (λ i none l. ran (suc i) none (omega arith)) (omega arith))

  -- so its threads are tied when they have ended
  pub ended_tied : (rounds : RoundsView) (begun ended : List (Task I O)) → AreGathered count rounds begun → AllRun remaining contents tells closed attends clock setting opening count begun ended
      → length ended ≡ length begun → AreTied (map ends_in ended)
  ended_tied rounds begun ended g ran same = subst AreTied (sym (all_same begun ended ran same)) (gathered_tied count rounds begun g)

-- the parts of threads that are tied are so too
module _ {I O : Type 0} where
  work_lane : (t : Task I O) → (ends_in t).work ≡ option_map lane_of (work_in t)
  work_lane (Work worker) = refl
  work_lane (Time timer) = refl
  work_lane (Place place) = refl
  work_lane (Attend attendant) = refl

  asks_lanes : (t : Task I O) → (ends_in t).asks ≡ option_map (λ (v : Vec (Sender work.Work)). lanes_of v.items) (asks_of t)
  asks_lanes (Work worker) = refl
  asks_lanes (Time timer) = refl
  asks_lanes (Place place) = refl
  asks_lanes (Attend attendant) = refl

  items_lane : (t : Task I O) → (ends_in t).items ≡ option_map lane_of (items_in t)
  items_lane (Work worker) = refl
  items_lane (Time timer) = refl
  items_lane (Place place) = refl
  items_lane (Attend attendant) = refl

  reply_lane : (t : Task I O) → (ends_in t).reply ≡ option_map lane_of_sender (reply_of t)
  reply_lane (Work worker) = refl
  reply_lane (Time timer) = refl
  reply_lane (Place place) = refl
  reply_lane (Attend attendant) = refl

  answers_lanes : (t : Task I O) → (ends_in t).answers ≡ option_map (λ (v : Vec (Sender Item)). lanes_of v.items) (answers_of t)
  answers_lanes (Work worker) = refl
  answers_lanes (Time timer) = refl
  answers_lanes (Place place) = refl
  answers_lanes (Attend attendant) = refl

  seen_as : {Y Z : Type 0} (g : Y → Z) (f : Task I O → Option Y) (h : Ends → Option Z) → ((t : Task I O) → h (ends_in t) ≡ option_map g (f t)) → (ts : List (Task I O)) (ys : List Y)
      → ys ≡ filter_map f ts → filter_map h (map ends_in ts) ≡ map g ys
  seen_as g f h same ts ys is = kept_of ends_in h ts ∙ sym (kept_as g f (λ t. h (ends_in t)) same ts) ∙ ap (map g) (sym is)

  pub asked_tied : (tasks : List (Task I O)) (parts : Parts) → ArePartsOf tasks parts → AreTied (map ends_in tasks)
      → AreOfLanes (map lane_of parts.work.items) (map lanes_of (lists_of parts.asks.items))
  asked_tied tasks parts p t =
      subst (λ l. AreOfLanes l (map lanes_of (lists_of parts.asks.items))) (seen_as lane_of work_in (λ (e : Ends). e.work) work_lane tasks parts.work.items p.work)
      (subst (AreOfLanes (filter_map (λ (e : Ends). e.work) (map ends_in tasks)))
      (seen_as (λ (v : Vec (Sender work.Work)). lanes_of v.items) asks_of (λ (e : Ends). e.asks) asks_lanes tasks parts.asks.items p.asks
      ∙ sym (map_map lanes_of (λ (v : Vec (Sender work.Work)). v.items) parts.asks.items))
      t.asked)

  pub answered_tied : (tasks : List (Task I O)) (parts : Parts) (putters : List (Vec (Sender Item))) → ArePartsOf tasks parts → AreTied (map ends_in tasks)
      → putters ≡ parts.replies ∷ parts.answers.items → AreOfLanes (map lane_of parts.items.items) (map lanes_of (lists_of putters))
  answered_tied tasks parts putters p t is =
      let first = seen_as lane_of_sender reply_of (λ (e : Ends). e.reply) reply_lane tasks parts.replies.items p.replies in
      let others = seen_as (λ (v : Vec (Sender Item)). lanes_of v.items) answers_of (λ (e : Ends). e.answers) answers_lanes tasks parts.answers.items p.answers
      ∙ sym (map_map lanes_of (λ (v : Vec (Sender Item)). v.items) parts.answers.items) in
      subst (λ (vs : List (Vec (Sender Item))). AreOfLanes (map lane_of parts.items.items) (map lanes_of (lists_of vs))) (sym is)
      (subst (λ l. AreOfLanes l (map lanes_of (lists_of (parts.replies ∷ parts.answers.items)))) (seen_as lane_of items_in (λ (e : Ends). e.items) items_lane tasks parts.items.items p.items)
      (subst (λ l. AreOfLanes (filter_map (λ (e : Ends). e.items) (map ends_in tasks)) (l ∷ map lanes_of (lists_of parts.answers.items))) first
      (subst (λ l. AreOfLanes (filter_map (λ (e : Ends). e.items) (map ends_in tasks)) (filter_map (λ (e : Ends). e.reply) (map ends_in tasks) ∷ l)) others t.answered)))

  -- what was heard of the parts was of the threads
  pub all_finished : (tasks : List (Task I O)) (parts : Parts) (putters : List (Vec (Sender Item))) → ArePartsOf tasks parts → putters ≡ parts.replies ∷ parts.answers.items
      → AreAllHeard parts.work.items (lists_of parts.asks.items) → AreAllHeard parts.items.items (lists_of putters) → AreFinished tasks
  all_finished tasks parts putters p is asked answered =
      let told : AreAllHeard parts.items.items (parts.replies.items ∷ lists_of parts.answers.items) =
      subst (λ (vs : List (Vec (Sender Item))). AreAllHeard parts.items.items (lists_of vs)) is answered in
      record {
        asked = subst (λ (rs : List (Receiver work.Work)). AreAllHeard rs (lists_of (filter_map asks_of tasks))) p.work
            (subst (λ (vs : List (Vec (Sender work.Work))). AreAllHeard parts.work.items (lists_of vs)) p.asks asked);
        answered = subst (λ (rs : List (Receiver Item)). AreAllHeard rs (filter_map reply_of tasks ∷ lists_of (filter_map answers_of tasks))) p.items
            (subst (λ (ss : List (Sender Item)). AreAllHeard parts.items.items (ss ∷ lists_of (filter_map answers_of tasks))) p.replies
            (subst (λ (vs : List (Vec (Sender Item))). AreAllHeard parts.items.items (parts.replies.items ∷ lists_of vs)) p.answers told));
      }
