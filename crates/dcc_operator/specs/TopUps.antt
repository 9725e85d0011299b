-- The output of a top-up.
use Rattle.std.specs.Prelude.{ℕ, List, ◌++◌, codes}
use Rattle.dcc_shard.specs.declared.answers.TopUpAnswer.{TopUpAnswer}
use Rattle.dcc_shard.specs.Answers.{word_of}

-- the word of the answer to a top-up, on a line
abbrev pub line_of : TopUpAnswer → List ℕ
line_of answer = word_of answer ++ codes "\n"
