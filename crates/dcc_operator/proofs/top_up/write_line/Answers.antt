use Rattle.std.proofs.Common.{◌≡◌, ◌∙◌, ◌++◌, ℕ, List, codes, subst}
use Rattle.dcc_shard.specs.Answers.{word_of}
use Rattle.dcc_operator.specs.Texts.{IsBegun}
use Rattle.dcc_operator.proofs.Begun.{begun_first, begun_behind, in_either, weaker}
use Rattle.dcc_operator.proofs.top_up.write_line.Goals as goal

pub returns-in_err-write_all-clause-part : goal.returns-in_err-write_all-clause-part
returns-in_err-write_all-clause-part g c =
    let word_is : c.as_bytes.result.now ≡ word_of c.args.answer = c.as_bytes.ensures.value ∙ c.word.ensures in
    let old = g.W.Write.contents c.args.output.now in
    let new = g.W.Write.contents c.write_all.new.output in
    let part = c.in_err-write_all.ensures.part in
    in_either c.from_residual.result
    (subst (λ (word : List ℕ). IsBegun (word ++ codes "\n") old new) word_is
    (begun_first old new c.as_bytes.result.now (codes "\n") _ part.0 part.1))

pub returns-clause-part : goal.returns-clause-part
returns-clause-part g c =
    let word_is : c.as_bytes.result.now ≡ word_of c.args.answer = c.as_bytes.ensures.value ∙ c.word.ensures in
    let old = g.W.Write.contents c.args.output.now in
    let mid = g.W.Write.contents c.write_all.new.output in
    let new = g.W.Write.contents c.write_all-2.new.output in
    weaker c.write_all-2.result
    (λ fault part. subst (λ (word : List ℕ). IsBegun (word ++ codes "\n") old new) word_is
    (begun_behind old mid new c.as_bytes.result.now (codes "\n") _ c.in_ok-write_all.ensures.whole part.1))
    c.write_all-2.ensures.part
