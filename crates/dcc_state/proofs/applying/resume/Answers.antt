use Rattle.std.proofs.Common.{ap, ◌∙◌, arith, sum_by}
use Rattle.dcc_session.specs.Grants.{prices}
use Rattle.dcc_session.specs.Sessions.{OpenView}
use Rattle.dcc_state.specs.Known.{prices_of}
use Rattle.dcc_state.proofs.Totals.{taken_out}
use Rattle.dcc_state.proofs.applying.resume.Goals as goal

pub returns-in-Some-clause-held : goal.returns-in-Some-clause-held
returns-in-Some-clause-held c =
    let out = taken_out c.args.sid.now c.args.sessions.now.items c.requires.apart in
    let left = ap (sum_by prices_of) c.take_out.ensures.items in
    let own = ap prices (ap (λ (session : OpenView). session.grants) c.resume.ensures ∙ c.in-Some.ensures.grants) in
    omega arith

pub returns-in-None-clause-held : goal.returns-in-None-clause-held
returns-in-None-clause-held c =
    let out = taken_out c.args.sid.now c.args.sessions.now.items c.requires.apart in
    let left = ap (sum_by prices_of) c.take_out.ensures.items in
    let own = ap prices (ap (λ (session : OpenView). session.grants) c.open.ensures ∙ c.in-None.ensures.grants) in
    omega arith
