-- How a writer drops what comes behind its last turn.
use Rattle.std.proofs.Common.{◌≡◌, ℕ, ◌+◌, List, [], ◌∷◌, ◌++◌, sym, ap, ◌∙◌, append_assoc, append-nil, zero-add, arith}
use Rattle.dcc_connect.specs.Writing.{ends_in, items_of}
use Rattle.dcc_connect.specs.declared.writing.Item.{Item}
use Rattle.dcc_connect.specs.declared.writing.Item.TheVariants.{Octets, End}
use Rattle.dcc_lane.specs.Ends.{taken_of, TakesOne}
use Rattle.dcc_lane.specs.declared.receiver.Receiver.{Receiver}
use Rattle.dcc_lane.specs.declared.rule.Tagged.{Tagged}
use Rattle.dcc_rounds.specs.Writing.{TakesRest}
use Rattle.dcc_rounds.proofs.Doings.{one_item}

ends_then : (items : List Item) (item : Item) → ends_in (items ++ item ∷ []) ≡ ends_in items + ends_in (item ∷ [])
ends_then [] item = sym (zero-add (ends_in (item ∷ [])))
ends_then (Octets o ∷ items) item = ends_then items item
ends_then (End ∷ items) item = let on = ends_then items item in omega arith

-- nothing was taken yet
pub no_rest : (ended : ℕ) (taken : List (Tagged Item)) → TakesRest ended ended taken taken
no_rest ended taken = ([], sym (append-nil taken), omega arith)

-- one item more was taken
pub rest_on : (ended n m : ℕ) (old : List (Tagged Item)) (mid new : Receiver Item) (item : Item) → TakesRest ended n old (taken_of mid) → TakesOne mid item new
    → m ≡ n + ends_in (item ∷ []) → TakesRest ended m old (taken_of new)
rest_on ended n m old mid new item h t is =
    let tagged : Tagged Item = record { from = t.0; item = item } in
    let items = ap ends_in (one_item h.0 t.0 item) in
    let ends = ends_then (items_of h.0) item in
    let all = h.2 in
    (h.0 ++ tagged ∷ [], t.2 ∙ ap (λ l. l ++ tagged ∷ []) h.1 ∙ append_assoc old h.0 (tagged ∷ []), omega arith)
