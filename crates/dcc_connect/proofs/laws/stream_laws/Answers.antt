use Rattle.std.proofs.Common.{[], ◌∷◌, ◌++◌, sym, ap, ◌∙◌}
use Rattle.std.proofs.lemmas.List.{append-nil}
use Rattle.dcc_message.specs.Streams.{messages, rest}
use Rattle.dcc_connect.proofs.Cuts.{rest_first, rest_none}
use Rattle.dcc_connect.proofs.laws.stream_laws.Goals as goal

pub returns : goal.returns
returns c = record {
  append = λ a b. ap (λ x. messages (a ++ x)) (sym (append-nil b)) ∙ sym (c.any_pieces.ensures.messages (a ∷ b ∷ [])) ∙ ap (λ x. messages a ++ x) (append-nil (messages (rest a ++ b)));
  append_rest = λ a b. ap (λ x. rest (a ++ x)) (sym (append-nil b)) ∙ sym (c.any_pieces.ensures.left (a ∷ b ∷ []));
  first = c.any_pieces.ensures.first;
  first_rest = rest_first;
  none = c.any_pieces.ensures.none;
  none_rest = rest_none;
}
