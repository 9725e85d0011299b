-- What is known of the parts of a written answer.
use Rattle.std.specs.Prelude.{◌≡◌, true}
use Rattle.dcc_octets.specs.Names.{is_short}
use Rattle.dcc_message.specs.declared.identity.Identity.{Identity}
use Rattle.dcc_act.specs.declared.outcome.Outcome.{Outcome}
use Rattle.dcc_act.specs.declared.outcome.Outcome.TheVariants.{Unknown, Answered, Added, Ceiling, Expired}
use Rattle.dcc_act.specs.Answers.{AreAnswers}
use Rattle.dcc_answer.specs.Answers.{IsServer}

-- the parts of an answer are within their limits; the outcome of a top-up or an expiry has none
abbrev pub IsAnswerable : Identity → Outcome → Type 0
IsAnswerable identity (Unknown type key) = IsServer identity × (is_short key.sid ≡ true)
IsAnswerable identity (Answered answer) = IsServer identity × (is_short answer.key.sid ≡ true) × AreAnswers answer.services
IsAnswerable identity Added = Unit {0}
IsAnswerable identity Ceiling = Unit {0}
IsAnswerable identity (Expired sessions) = Unit {0}
