-- What looks at no host takes an act without its host as it takes the act.
use Rattle.std.proofs.Common.{◌≡◌, ℕ, List, [], ◌∷◌, length, map, Option, None, refl}
use Rattle.dcc_act.specs.declared.act.Kind.{Kind}
use Rattle.dcc_act.specs.declared.act.Kind.TheVariants as kind
use Rattle.dcc_act.specs.declared.outcome.Outcome.{Outcome}
use Rattle.dcc_act.specs.declared.session_limit.SessionLimit.{SessionLimit}
use Rattle.dcc_act.specs.declared.session_request.SessionRequest.{SessionRequest}
use Rattle.dcc_model.specs.declared.done.Done.{Done}
use Rattle.dcc_hosts.specs.Hosts.{unhosted_kind, unhosted}

-- what is blind to hosts sees the same in a kind without its host
pub blind_kind : {X : Type 0} (look : Kind → X)
    → ((opening : SessionRequest) (limit : SessionLimit) (host : Option (List ℕ)) → look (kind.Initial opening limit None) ≡ look (kind.Initial opening limit host))
    → (k : Kind) → look (unhosted_kind k) ≡ look k
blind_kind look same (kind.TopUp top_up) = refl
blind_kind look same (kind.Initial opening limit host) = same opening limit host
blind_kind look same (kind.Update report) = refl
blind_kind look same (kind.Termination report) = refl
blind_kind look same (kind.Event event) = refl
blind_kind look same kind.Expiry = refl

-- an act that was made, without its host
abbrev pub done_unhosted : Done → Done
done_unhosted done = record { act = unhosted done.act; outcome = done.outcome }

abbrev pub without : List Done → List Done
without past = map done_unhosted past

abbrev pub done_as : ℕ → Kind → Outcome → Done
done_as moment k outcome = record { act = record { moment = moment; kind = k }; outcome = outcome }

-- so in an act that was made
pub blind : {X : Type 0} (look : Done → X)
    → ((moment : ℕ) (outcome : Outcome) (opening : SessionRequest) (limit : SessionLimit) (host : Option (List ℕ))
    → look (done_as moment (kind.Initial opening limit None) outcome) ≡ look (done_as moment (kind.Initial opening limit host) outcome))
    → (done : Done) → look (done_unhosted done) ≡ look done
blind look same done = blind_kind (λ (k : Kind). look (done_as done.act.moment k done.outcome)) (same done.act.moment done.outcome) done.act.kind

pub length_without : (past : List Done) → length (without past) ≡ length past
length_without [] = refl
length_without (done ∷ past) = rw (length_without past) refl
