-- The parts of a message that are kept while its subscriber is sought.
use Rattle.std.specs.Prelude.{ℕ, Bool, true, false, List}
use Rattle.dcc_message.specs.HeaderView.{HeaderView}
use Rattle.dcc_act.specs.declared.act.Act.{Act}
use Rattle.dcc_act.specs.declared.act.Kind.{Kind}
use Rattle.dcc_act.specs.declared.act.Kind.TheVariants as kind

-- a request of a session that was opened before
abbrev pub is_report : Kind → Bool
is_report (kind.TopUp top_up) = false
is_report (kind.Initial request limit host) = false
is_report (kind.Update request) = true
is_report (kind.Termination request) = true
is_report (kind.Event event) = false
is_report kind.Expiry = false

-- the act that is asked of the found subscriber, the header under which it is answered, and the proxies of the answer
pub record SoughtView : Type 0 where
  pub act : Act
  pub header : HeaderView
  pub proxies : List ℕ
