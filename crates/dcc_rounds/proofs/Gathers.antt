-- How the threads of a round are gathered.
use Rattle.std.proofs.Common.{◌≡◌, ℕ, zero, suc, ◌+◌, Bool, List, [], ◌∷◌, ◌++◌, Option, refl, sym, ap, ◌∙◌, append_assoc, arith}
use Rattle.std.specs.Global.{Vec}
use Rattle.std.specs.List.{AllByRecursion}
use Rattle.dcc_connect.specs.declared.writing.Item.{Item}
use Rattle.dcc_lane.specs.declared.receiver.Receiver.{Receiver}
use Rattle.dcc_lane.specs.declared.sender.Sender.{Sender}
use Rattle.dcc_rounds.specs.Gathering.{attendants_of, place_of, places_from}
use Rattle.dcc_rounds.specs.declared.face.Connection.{Connection}
use Rattle.dcc_rounds.specs.declared.tasks.Task.{Task}
use Rattle.dcc_rounds.specs.declared.tasks.Task.TheVariants as task
use Rattle.dcc_rounds.specs.declared.work.Work.{Work}

-- one place more
pub places_next : {I O : Type 0} (done next all : List (Task I O)) (stays : Bool) (every gate : ℕ) (first : Option (Connection I O)) (later : List (Option (Connection I O)))
    (receivers left : List (Receiver Item)) (from : Receiver Item) (senders rest : List (Vec (Sender Work))) (workers : Vec (Sender Work)) (replies others : List (Sender Item))
    (writer : Sender Item) (place : Task I O) → receivers ≡ from ∷ left → senders ≡ workers ∷ rest → replies ≡ writer ∷ others
    → place ≡ place_of stays every gate first from workers writer → next ≡ done ++ place ∷ []
    → done ++ places_from stays every gate (first ∷ later) receivers senders replies ≡ all → next ++ places_from stays every (gate + 1) later left rest others ≡ all
places_next {I = I} {O = O} done next all stays every gate first later receivers left from senders rest workers replies others writer place one two three is more told =
    let behind : List (Task I O) = places_from stays every (gate + 1) later left rest others in
    ap (λ (ts : List (Task I O)). ts ++ behind) more ∙ append_assoc done (place ∷ []) behind
    ∙ ap (λ (t : Task I O). done ++ (t ∷ behind)) is
    ∙ sym (ap (λ (rs : List (Receiver Item)). done ++ places_from stays every gate (first ∷ later) rs senders replies) one
    ∙ ap (λ (ss : List (Vec (Sender Work))). done ++ places_from stays every gate (first ∷ later) (from ∷ left) ss replies) two
    ∙ ap (λ (rs : List (Sender Item)). done ++ places_from stays every gate (first ∷ later) (from ∷ left) (workers ∷ rest) rs) three)
    ∙ told

attendants_push : (I O : Type 0) (count : ℕ) → attendants_of {I = I} {O = O} count ++ task.Attend (record { seat = [] }) ∷ [] ≡ attendants_of (suc count)
attendants_push I O zero = refl
attendants_push I O (suc count) = ap (λ (ts : List (Task I O)). task.Attend (record { seat = [] }) ∷ ts) (attendants_push I O count)

-- one attendant more
pub attendants_next : {I O : Type 0} (before done next : List (Task I O)) (count : ℕ) (attendant : Task I O) → done ≡ before ++ attendants_of count
    → attendant ≡ task.Attend (record { seat = [] }) → next ≡ done ++ attendant ∷ [] → next ≡ before ++ attendants_of (count + 1)
attendants_next {I = I} {O = O} before done next count attendant was is more =
    let one_more : suc count ≡ count + 1 = omega arith in
    more ∙ ap (λ (ts : List (Task I O)). ts ++ attendant ∷ []) was ∙ append_assoc before (attendants_of count) (attendant ∷ [])
    ∙ ap (λ (t : Task I O). before ++ (attendants_of count ++ t ∷ [])) is ∙ ap (λ (ts : List (Task I O)). before ++ ts) (attendants_push I O count)
    ∙ ap (λ (n : ℕ). before ++ attendants_of {I = I} {O = O} n) one_more

-- what is said of each item is said with one more
pub all_more : {X : Type 0} (P : X → Type 0) (xs : List X) (x : X) → AllByRecursion P xs → P x → AllByRecursion P (xs ++ x ∷ [])
all_more P [] x all p = (p, tt)
all_more P (y ∷ xs) x all p = (all.0, all_more P xs x all.1 p)
