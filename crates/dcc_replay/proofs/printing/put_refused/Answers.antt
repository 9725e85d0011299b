use Rattle.std.proofs.Common.{Bool, ◌||◌, ◌==◌, ◌++◌, List, length, map, not, string_bytes, sym, ap, ◌∙◌}
use Rattle.dcc_act.specs.declared.sub.Sub.{Sub}
use Rattle.dcc_replay.specs.Printed.{refused_of, all_refused, numbered, refused}
use Rattle.dcc_replay.proofs.PrintingLemmas.{both_lines, some_refused}
use Rattle.dcc_replay.proofs.printing.put_refused.Goals as goal

pub returns-clause-line : goal.returns-clause-line
unfolding refused
returns-clause-line c =
    let out = c.args.out.now in
    let subs = c.in_ok-put_subs.ensures ∙ ap (λ (subs : List Sub). string_bytes c.args.text.now ++ numbered c.args.n (map refused_of subs)) c.as_slice-subs.ensures in
    both_lines c.args.n (map refused_of out.refused) (all_refused out) (string_bytes c.args.text.now) _ _ subs c.in_ok-put_all.ensures

pub returns-clause-some : goal.returns-clause-some
returns-clause-some c = c.is_either.ensures ∙ ap (λ (empty : Bool). not empty || c.args.out.now.refused_all) (c.is_empty.ensures ∙ ap (λ (subs : List Sub). length subs == 0) c.as_slice-subs.ensures) ∙ sym (some_refused c.args.out.now)
