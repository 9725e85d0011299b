-- Whether a word of a script or of a command line is read as what its place asks for.
use Rattle.std.specs.Prelude.{◌≡◌, ℕ, Bool, false, is_some, List, Option, IfSome, slice_get}
use Rattle.dcc_words.specs.Words.{any_u64, hex_octets, host, moment, peer, sub, words_of}
use Rattle.dcc_explain.specs.declared.kind.Kind.{Kind}
use Rattle.dcc_explain.specs.declared.kind.Kind.TheVariants.{Peer, Host, Moment, Sub, Number, Amount, Message}
use Rattle.dcc_explain.specs.declared.line_note.Misfit.{Misfit}

-- whether a word is read as this
abbrev pub is_read : Kind → List ℕ → Bool
is_read Peer word = is_some (peer word)
is_read Host word = is_some (host word)
is_read Moment word = is_some (moment word)
is_read Sub word = is_some (sub word)
is_read Number word = is_some (any_u64 word)
is_read Amount word = is_some (any_u64 word)
is_read Message word = is_some (hex_octets word)

-- the word of a line that is named is not read as what its place asks for
abbrev pub IsMisfit : List ℕ → Misfit → Type 0
IsMisfit line misfit = IfSome (slice_get (words_of line) misfit.at) (λ word. is_read misfit.kind word ≡ false)
