use Rattle.std.proofs.Common.{◌≡◌, ◌∙◌, Some, length, refl, sym, string_bytes, slice_get}
use Rattle.std.proofs.lemmas.Option.{slice_get_read}
use Rattle.std.proofs.lemmas.Slice.Eq.{bytes_eq-Decides}
use Rattle.dcc_console.proofs.explain_word.is_word.Goals as goal

pub returns : goal.returns
returns c = λ equal.
    let placed : slice_get c.args.words.now c.args.at ≡ Some c.index-words-at.result =
    slice_get_read c.args.words.now (length c.args.words.now) c.args.at c.index-words-at.result refl c.requires c.index-words-at.is in
    let same : string_bytes c.index-words-at.result ≡ c.args.text.now =
    sym c.as_str.ensures.value ∙ (bytes_eq-Decides c.as_str.result.now c.args.text.now).0 (sym c.eq.ensures ∙ equal) in
    rw placed same
