use Rattle.std.proofs.Common.{◌≡◌, List, ℕ, Option, Some, refl, sym, ap, subst, ◌∙◌}
use Rattle.std.specs.Prelude.{option_map}
use Rattle.dcc_base.specs.Peers.{host_of_peer}
use Rattle.dcc_dispatch.specs.Dispatches.{IfCharging, IfSought, IsSought, IsSettled}
use Rattle.dcc_dispatch.specs.Messages.{host_name, message_view}
use Rattle.dcc_dispatch.specs.Verdicts.{found_or_refused}
use Rattle.dcc_message.specs.declared.identity.Identity.{Identity}
use Rattle.dcc_openers.specs.Found.{one_of}
use Rattle.dcc_running.specs.Calls.{IsResolved}
use Rattle.dcc_rounds.specs.Handing.{IsSettledBy}
use Rattle.dcc_rounds.proofs.Settling.{sought_by, settled_request}
use Rattle.dcc_rounds.proofs.reader.settle.Goals as goal

pub returns-in-Some-clause-settled : goal.returns-in-Some-clause-settled
returns-in-Some-clause-settled g c = λ setting message verdict identity_is sought_is.
    let sought = c.in-Sought.sought in
    let m = message_view sought.header message in
    let is : IsSought m (verdict m) sought = subst (λ word. IfSought word (λ s. IsSought (message_view s.header message) (verdict (message_view s.header message)) s)) c.in-Sought.is sought_is in
    let known : host_of_peer c.args.peer.now ≡ Some (host_name c.args.peer.now) =
    subst (λ word. IfCharging word (λ header. host_of_peer c.args.peer.now ≡ Some (host_name c.args.peer.now))) c.in-Sought.is c.requires in
    let there : Some c.in-Some.host.now ≡ Some (host_name c.args.peer.now) = ap (option_map (λ host. host.now)) (sym c.in-Some.is) ∙ c.name.ensures ∙ known in
    let host_is : c.in-Some.host.now ≡ host_name c.args.peer.now = cc in
    let by = sought_by c.args.identity.now m (verdict m) sought c.resolve-found.result c.one.result c.settle.result c.settle.ensures c.one.ensures is in
    subst (λ word. IsSettledBy setting c.args.shards.now.count (host_name c.args.peer.now) message word c.settle.result) (sym c.in-Sought.is) (
      c.session.result.now,
      c.resolve-found.result,
      c.session.ensures,
      subst (λ (host : List ℕ). IsResolved c.args.shards.now.count host c.session.result.now c.resolve-found.result) host_is c.resolve-found.ensures,
      subst (λ (identity : Identity). IsSettled identity m (found_or_refused identity m sought.act (one_of c.resolve-found.result)) c.settle.result) (sym identity_is) by,
    )

pub returns-in-Some-clause-request : goal.returns-in-Some-clause-request
returns-in-Some-clause-request g c = λ message verdict asked_is sought_is.
    let sought = c.in-Sought.sought in
    let m = message_view sought.header message in
    let is : IsSought m (verdict m) sought = subst (λ word. IfSought word (λ s. IsSought (message_view s.header message) (verdict (message_view s.header message)) s)) c.in-Sought.is sought_is in
    settled_request c.args.identity.now m (found_or_refused c.args.identity.now m sought.act (one_of c.resolve-found.result)) c.settle.result
    (sought_by c.args.identity.now m (verdict m) sought c.resolve-found.result c.one.result c.settle.result c.settle.ensures c.one.ensures is)
