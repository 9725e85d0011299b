-- Who opened a session from a host: nobody, one subscriber, or several.
use Rattle.std.specs.Prelude.{if◌then◌else◌, Option, Some, None}
use Rattle.dcc_act.specs.declared.sub.Sub.{Sub}
use Rattle.dcc_act.specs.Subs.{same_sub}
use Rattle.dcc_openers.specs.declared.found.Found.{Found}
use Rattle.dcc_openers.specs.declared.found.Found.TheVariants as found

-- the finding after this subscriber opened the session too
abbrev pub noted : Found → Sub → Found
noted found.None sub = found.One sub
noted (found.One first) sub = if same_sub first sub then found.One sub else found.Several
noted found.Several sub = found.Several

-- the finding of all subscribers, by two parts that have no subscriber in common: one in each part makes several
abbrev pub joined : Found → Found → Found
joined found.None other = other
joined one found.None = one
joined one other = found.Several

abbrev pub one_of : Found → Option Sub
one_of (found.One sub) = Some sub
one_of found.None = None
one_of found.Several = None
