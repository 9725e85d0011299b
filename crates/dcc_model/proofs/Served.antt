-- A request of a session is served, or refused as a whole.
use Rattle.std.proofs.Common.{◌≡◌, arith, Bool, true, false, not, cond, List, length, refl, inl, inr, ◌⊎◌}
use Rattle.std.proofs.lemmas.Bool.Decides.{nat_tests}
use Rattle.std.specs.Prelude.{ℕ, nat_le}
use Rattle.dcc_tariff.specs.Terms.{TermsView}
use Rattle.dcc_act.specs.Limits.{most_sessions}
use Rattle.dcc_act.specs.Services.{ServiceView}
use Rattle.dcc_act.specs.declared.limits.TheConstants.{MAX_SESSIONS}
use Rattle.dcc_act.specs.declared.outcome.Outcome.{Outcome}
use Rattle.dcc_act.specs.declared.outcome.RequestType.{RequestType}
use Rattle.dcc_act.specs.declared.outcome.RequestType.TheVariants as request
use Rattle.dcc_act.specs.declared.outcome.ResultCode.TheVariants.{UnknownSession, ResourcesExceeded, UnableToComply}
use Rattle.dcc_act.specs.declared.request_key.RequestKey.{RequestKey}
use Rattle.dcc_act.specs.declared.session_limit.SessionLimit.{SessionLimit}
use Rattle.dcc_act.specs.declared.session_limit.SessionLimit.TheVariants.{Few, Many}
use Rattle.dcc_model.specs.declared.done.Done.{Done}
use Rattle.dcc_model.specs.Results.{succeeded, refused}
use Rattle.dcc_model.specs.Sessions.{Sid, is_open, was_opened, open_sessions}
use Rattle.dcc_model.specs.Money.{charges, funds_of}
use Rattle.dcc_model.specs.Outcomes.{bare, served, begun, reported, is_under}

-- a session may be opened that never was, while few are open
pub record MayOpen (terms : TermsView) (past : List Done) (sid : Sid) : Type 0 where
  pub new : was_opened past sid ≡ false
  pub few : nat_le MAX_SESSIONS (length (open_sessions terms past)) ≡ false

-- each limit of an act is at most the greatest
under_most : (limit : SessionLimit) (many : ℕ) → nat_le (most_sessions limit) many ≡ false → nat_le MAX_SESSIONS many ≡ false
under_most Few many h = grind (arith, nat_tests)
under_most Many many h = h

begun_by : (was full : Bool) (twice many served : Outcome) → succeeded twice ≡ false → succeeded many ≡ false
    → ((cond was twice (cond full many served) ≡ served) × ((was ≡ false) × (full ≡ false))) ⊎ (succeeded (cond was twice (cond full many served)) ≡ false)
begun_by true full twice many served a b = inr a
begun_by false true twice many served a b = inr b
begun_by false false twice many served a b = inl (refl, (refl, refl))

-- an initial request is served where its session may be opened, and else doesn't succeed
pub begun_cases : (terms : TermsView) (past : List Done) (key : RequestKey) (limit : SessionLimit) (services : List ServiceView)
    → ((begun terms past key limit services ≡ served terms past request.Initial key services) × MayOpen terms past key.sid) ⊎ (succeeded (begun terms past key limit services) ≡ false)
begun_cases terms past key limit services =
    elim (begun_by (was_opened past key.sid) (nat_le (most_sessions limit) (length (open_sessions terms past)))
    (bare request.Initial key UnableToComply) (bare request.Initial key ResourcesExceeded) (served terms past request.Initial key services) refl refl) [
      | inl parts ↦ inl (parts.0, record { new = parts.1.0; few = under_most limit (length (open_sessions terms past)) parts.1.1 })
      | inr f ↦ inr f
    ]

-- a report may be served while its session is open and the floor bears its charges
pub record MayReport (terms : TermsView) (past : List Done) (sid : Sid) (services : List ServiceView) : Type 0 where
  pub now : is_open terms past sid ≡ true
  pub borne : is_under (funds_of terms past) (charges terms past sid services) ≡ false

reported_by : (now under : Bool) (shut floor served : Outcome) → refused shut ≡ true → refused floor ≡ true
    → ((cond (not now) shut (cond under floor served) ≡ served) × ((now ≡ true) × (under ≡ false))) ⊎ (refused (cond (not now) shut (cond under floor served)) ≡ true)
reported_by false under shut floor served a b = inr a
reported_by true true shut floor served a b = inr b
reported_by true false shut floor served a b = inl (refl, (refl, refl))

-- so it is, and else refused as a whole
pub reported_cases : (terms : TermsView) (past : List Done) (type : RequestType) (key : RequestKey) (services : List ServiceView)
    → ((reported terms past type key services ≡ served terms past type key services) × MayReport terms past key.sid services) ⊎ (refused (reported terms past type key services) ≡ true)
reported_cases terms past type key services =
    elim (reported_by (is_open terms past key.sid) (is_under (funds_of terms past) (charges terms past key.sid services))
    (bare type key UnknownSession) (bare type key UnableToComply) (served terms past type key services) refl refl) [
      | inl parts ↦ inl (parts.0, record { now = parts.1.0; borne = parts.1.1 })
      | inr t ↦ inr t
    ]
