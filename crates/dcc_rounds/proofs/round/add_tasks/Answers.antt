use Rattle.std.proofs.Common.{◌≡◌, ℕ, Bool, List, [], ◌∷◌, ◌++◌, ◌∙◌, ap, subst}
use Rattle.dcc_rounds.specs.Gathering.{AddsPlaces, attendants_of, timer_of, workers_from}
use Rattle.dcc_rounds.specs.Rounds.{RoundsView}
use Rattle.dcc_rounds.specs.declared.tasks.Task.{Task}
use Rattle.dcc_rounds.proofs.round.add_tasks.Goals as goal

pub returns-in_ok-add_attendants-in-Ok-add_places-clause-tasks : goal.returns-in_ok-add_attendants-in-Ok-add_places-clause-tasks
returns-in_ok-add_attendants-in-Ok-add_places-clause-tasks g c = λ shards work_are items_are none.
    let rounds = c.args.rounds.now in
    let work = c.args.work.now in
    let items = c.args.items.now in
    let timers = c.in-Some.timers in
    let replies = c.in-Some-first_of.replies in
    let asks = c.first_of.new.list.items in
    let answers = c.first_of-2.new.list.items in
    let stays : c.rounds.inside.stays ≡ rounds.stays = ap (λ (r : RoundsView). r.stays) c.rounds.view_is in
    let attendants : c.rounds.inside.attendants ≡ rounds.attendants = ap (λ (r : RoundsView). r.attendants) c.rounds.view_is in
    let workers : List (Task g.row.I.Denot g.row.O.Denot) = workers_from 0 work.receivers.items answers in
    let first : c.add_workers.new.tasks.items ≡ workers = c.in-Ok.ensures ∙ ap (λ (ts : List (Task g.row.I.Denot g.row.O.Denot)). ts ++ workers) none in
    let all : c.push.new.self.items ≡ workers ++ timer_of rounds.stays timers ∷ [] =
    c.in-Ok-push.ensures.items ∙ ap (λ (ts : List (Task g.row.I.Denot g.row.O.Denot)). ts ++ timer_of c.rounds.inside.stays timers ∷ []) first
    ∙ ap (λ (s : Bool). workers ++ timer_of s timers ∷ []) stays in
    record {
      work = work;
      items = items;
      timers = timers;
      asks = asks;
      replies = replies;
      answers = answers;
      work_are = work_are;
      items_are = items_are;
      asked = c.in-Some.ensures;
      dealt = c.in-Some-first_of.ensures;
      placed = c.add_places.new.tasks.items;
      placed_are = subst (λ (ts : List (Task g.row.I.Denot g.row.O.Denot)). AddsPlaces rounds items.receivers.items asks replies.items ts c.add_places.new.tasks.items) all
          c.in-Ok-add_places.ensures.places;
      tasks_are = c.in_ok-add_attendants-in-Ok-add_places.ensures ∙ ap (λ (n : ℕ). c.add_places.new.tasks.items ++ attendants_of n) attendants;
    }
