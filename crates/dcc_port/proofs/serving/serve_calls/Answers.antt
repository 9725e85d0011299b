use Rattle.std.proofs.Common.{rules, ◌≡◌, ℕ, List, ◌++◌, sym, ap, subst, ◌∙◌, refl}
use Rattle.std.specs.Io.KnownBytes.{Appends, Consumes}
use Rattle.http_server.proofs.Theorems.{always_served}
use Rattle.http_server.specs.Connection.{config_of, history}
use Rattle.http_server.specs.Exchange.{Call, Chain}
use Rattle.http_server.specs.History.{History}
use Rattle.http_server.specs.declared.state.Config.{Config}
use Rattle.dcc_receipts.specs.declared.receipt.Receipt.{Receipt}
use Rattle.dcc_port.specs.Answers.{PortView, Serves}
use Rattle.dcc_port.specs.Requests.{call_for}
use Rattle.dcc_port.specs.declared.operator.Operator.{Operator}
use Rattle.dcc_port.proofs.Chains.{serving_all, to_port}
use Rattle.dcc_port.proofs.serving.serve_calls.Goals as goal

abbrev seen_as : {C S : Type 0} → C → List Receipt → S → PortView C S
seen_as clock seat server = record { clock = clock; seat = seat; server = server }

pub returns : goal.returns
returns g c =
    let conn = c.serve-served.new.connection in
    let fresh = c.new-connection.ensures.history in
    let read = c.serve-served.ensures.read in
    let written = c.serve-served.ensures.written in
    let called = c.serve-served.ensures.calls in
    let used : Config = record c.default.result { max_pending = 0 } in
    let config : config_of conn ≡ used = c.serve-served.ensures.config ∙ c.new-connection.ensures.config in
    let received : (history conn).received ≡ read.0 = read.2 ∙ ap (λ (h : History). h.received ++ read.0) fresh in
    let sent : (history conn).sent ≡ written.0 = written.2 ∙ ap (λ (h : History). h.sent ++ written.0) fresh in
    let made : (history conn).calls ≡ called.0 = called.1 ∙ ap (λ (h : History). h.calls ++ called.0) fresh in
    let last = c.serve-served.new.service in
    let all = serving_all (λ (o : Operator g.row.W.Denot g.row.R.Denot g.row.J.Denot g.row.C.Denot g.row.S.Denot g.R.Records g.J.Naming). seen_as o.clock.now o.seat.now o.server.now)
    (λ (o : Operator g.row.W.Denot g.row.R.Denot g.row.J.Denot g.row.C.Denot g.row.S.Denot g.R.Records g.J.Naming). o.port) (λ p. p.now.count)
    (λ (o : Operator g.row.W.Denot g.row.R.Denot g.row.J.Denot g.row.C.Denot g.row.S.Denot g.R.Records g.J.Naming). o.clock.ghost_name)
    (λ (o : Operator g.row.W.Denot g.row.R.Denot g.row.J.Denot g.row.C.Denot g.row.S.Denot g.R.Records g.J.Naming). o.server.ghost_name)
    (λ (o : Operator g.row.W.Denot g.row.R.Denot g.row.J.Denot g.row.C.Denot g.row.S.Denot g.R.Records g.J.Naming). o.seat.ghost_name)
    g.R.Records.is_stopped g.C.Clock.tells g.S.Server.rules g.J.Naming.opening c.args.count called.0 _ last refl called.2 in
    let clock = sym all.1 in
    let server = sym all.2 in
    let seat = sym all.3 in (
      history conn,
      c.serve-served.ensures.done,
      record {
        read = subst (λ (bytes : List ℕ). Consumes (g.I.Read.remaining c.args.reader.now) (g.I.Read.remaining c.serve-served.new.reader) bytes) (sym received) read.1;
        written = subst (λ (bytes : List ℕ). Appends (g.O.Write.contents c.args.writer.now) (g.O.Write.contents c.serve-served.new.writer) bytes) (sym sent) written.1;
        config = config_of conn;
        most = ap (λ (f : Config). f.max_body_len) config ∙ c.default.ensures.0;
        head = ap (λ (f : Config). f.limits.max_head_len) config ∙ c.default.ensures.3;
        served = always_served conn;
        calls = to_port (λ old request response new. Serves g.R.Records.is_stopped g.C.Clock.tells g.S.Server.rules c.args.count g.J.Naming.opening (call_for request) old response new)
            (seen_as c.args.clock.now c.args.seat.now c.args.server.now) (history conn).calls (search (rules, clock)) (search (rules, seat)) (search (rules, server))
            (subst (λ (calls : List Call). Chain (λ old request response new. Serves g.R.Records.is_stopped g.C.Clock.tells g.S.Server.rules c.args.count g.J.Naming.opening (call_for request) old response new)
            (seen_as c.args.clock.now c.args.seat.now c.args.server.now) calls (seen_as last.clock.now last.seat.now last.server.now)) (sym made) all.0);
      },
    )
