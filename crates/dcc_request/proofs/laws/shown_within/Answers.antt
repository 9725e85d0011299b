use Rattle.dcc_request.proofs.Sizes.{refused_few, groups_few, list_few, unread_few, missing_is_few}
use Rattle.dcc_request.proofs.laws.shown_within.Goals as goal

pub returns : goal.returns
returns c = record { refused = refused_few; groups = groups_few; list = list_few; unread = unread_few; missing = missing_is_few }
