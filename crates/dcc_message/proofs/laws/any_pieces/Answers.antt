use Rattle.dcc_message.proofs.AnyCut.{messages_of_pieces, rest_of_pieces, messages_first, messages_none}
use Rattle.dcc_message.proofs.laws.any_pieces.Goals as goal

pub returns : goal.returns
returns c = record { messages = messages_of_pieces; left = rest_of_pieces; first = messages_first; none = messages_none }
