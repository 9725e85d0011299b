-- Sessions and their grants look at no host.
use Rattle.std.proofs.Common.{◌≡◌, ℕ, ◌+◌, Bool, not, ◌&&◌, ◌||◌, cond, List, [], ◌∷◌, ◌++◌, filter, Option, None, refl, ap, ◌∙◌}
use Rattle.std.specs.Prelude.{nat_le}
use Rattle.std.specs.List.{cons_option}
use Rattle.std.proofs.Math.Path.{fun_ext}
use Rattle.dcc_tariff.specs.Terms.{TermsView}
use Rattle.dcc_act.specs.declared.grant.Grant.{Grant}
use Rattle.dcc_act.specs.declared.service_key.ServiceKey.{ServiceKey}
use Rattle.dcc_model.specs.declared.done.Done.{Done}
use Rattle.dcc_model.specs.Keys.{is_expiry}
use Rattle.dcc_model.specs.Results.{succeeded}
use Rattle.dcc_model.specs.Sessions.{Sid, Live, opens_by, opens, updates, terminates, deadline, ends, is_open, was_opened, opened, open_sessions, names, made, last_grant, live, made_by, goes_on, lives}
use Rattle.dcc_hosts.proofs.Blind.{blind, without}

deadline_at : (terms : TermsView) (past : List Done) (sid : Sid) → deadline terms (without past) sid ≡ deadline terms past sid
deadline_at terms [] sid = refl
deadline_at terms (done ∷ past) sid =
    blind (λ (d : Done). deadline terms (d ∷ without past) sid) (λ moment outcome opening limit host. refl) done
    ∙ ap (λ (before : ℕ). cond (opens done sid || updates done sid) (done.act.moment + terms.hold) before) (deadline_at terms past sid)

pub deadline_same : (terms : TermsView) (past : List Done) → deadline terms (without past) ≡ deadline terms past
deadline_same terms past = fun_ext (deadline_at terms past)

-- whether an act ends a session, by the deadlines before it
abbrev ends_by : (Sid → ℕ) → Done → Sid → Bool
ends_by until done sid =
    terminates done sid || (updates done sid && not (succeeded done.outcome)) || (is_expiry done.act.kind && nat_le (until sid) done.act.moment)

is_open_at : (terms : TermsView) (past : List Done) (sid : Sid) → is_open terms (without past) sid ≡ is_open terms past sid
is_open_at terms [] sid = refl
is_open_at terms (done ∷ past) sid =
    blind (λ (d : Done). is_open terms (d ∷ without past) sid) (λ moment outcome opening limit host. refl) done
    ∙ ap (λ (until : Sid → ℕ). opens done sid || (is_open terms (without past) sid && not (ends_by until done sid))) (deadline_same terms past)
    ∙ ap (λ (before : Bool). opens done sid || (before && not (ends terms past done sid))) (is_open_at terms past sid)

pub is_open_same : (terms : TermsView) (past : List Done) → is_open terms (without past) ≡ is_open terms past
is_open_same terms past = fun_ext (is_open_at terms past)

pub was_opened_same : (past : List Done) (sid : Sid) → was_opened (without past) sid ≡ was_opened past sid
was_opened_same [] sid = refl
was_opened_same (done ∷ past) sid =
    blind (λ (d : Done). was_opened (d ∷ without past) sid) (λ moment outcome opening limit host. refl) done
    ∙ ap (λ (before : Bool). opens done sid || before) (was_opened_same past sid)

opened_same : (past : List Done) → opened (without past) ≡ opened past
opened_same [] = refl
opened_same (done ∷ past) =
    blind (λ (d : Done). opened (d ∷ without past)) (λ moment outcome opening limit host. refl) done
    ∙ ap (λ (before : List Sid). cons_option (opens_by done.act.kind done.outcome) before) (opened_same past)

pub open_sessions_same : (terms : TermsView) (past : List Done) → open_sessions terms (without past) ≡ open_sessions terms past
open_sessions_same terms past =
    ap (λ (test : Sid → Bool). filter test (opened (without past))) (is_open_same terms past) ∙ ap (λ (sids : List Sid). filter (is_open terms past) sids) (opened_same past)

last_grant_at : (past : List Done) (sid : Sid) (key : ServiceKey) → last_grant (without past) sid key ≡ last_grant past sid key
last_grant_at [] sid key = refl
last_grant_at (done ∷ past) sid key =
    blind (λ (d : Done). last_grant (d ∷ without past) sid key) (λ moment outcome opening limit host. refl) done
    ∙ ap (λ (before : Option Grant). cond (names done sid key) (made done key) (cond (opens done sid) None before)) (last_grant_at past sid key)

live_at : (terms : TermsView) (past : List Done) (sid : Sid) (key : ServiceKey) → live terms (without past) sid key ≡ live terms past sid key
live_at terms past sid key =
    ap (λ (now : Bool). cond now (last_grant (without past) sid key) None) (is_open_at terms past sid)
    ∙ ap (λ (grant : Option Grant). cond (is_open terms past sid) grant None) (last_grant_at past sid key)

pub live_same : (terms : TermsView) (past : List Done) → live terms (without past) ≡ live terms past
live_same terms past = fun_ext (λ sid. fun_ext (live_at terms past sid))

pub lives_same : (terms : TermsView) (past : List Done) → lives terms (without past) ≡ lives terms past
lives_same terms [] = refl
lives_same terms (done ∷ past) =
    blind (λ (d : Done). lives terms (d ∷ without past)) (λ moment outcome opening limit host. refl) done
    ∙ ap (λ (until : Sid → ℕ). made_by done ++ filter (λ (held : Live). not (ends_by until done held.sid || names done held.sid held.key)) (lives terms (without past))) (deadline_same terms past)
    ∙ ap (λ (helds : List Live). made_by done ++ filter (goes_on terms past done) helds) (lives_same terms past)
