-- The first line of a tree and its last one.
use Rattle.std.proofs.Common.{◌≡◌, ℕ, List, [], ◌∷◌, ◌++◌, None, codes, refl, sym, ◌∙◌, append_assoc}
use Rattle.std.specs.Fmt.{decimal}
use Rattle.dcc_message.specs.HeaderView.{HeaderView}
use Rattle.dcc_decode.specs.Texts.{Begins, EndsLine, IsTreeBelow, command_name, kind_of, title_of}

pub ends_below : (title below text : List ℕ) → text ≡ title ++ 10 ∷ (below ++ 10 ∷ []) → EndsLine text
ends_below title below text is = (title ++ 10 ∷ below, is ∙ sym (append_assoc title (10 ∷ below) (10 ∷ [])))

begins_below : (title below text : List ℕ) → text ≡ title ++ 10 ∷ (below ++ 10 ∷ []) → Begins (title ++ 10 ∷ []) text
begins_below title below text is = (below ++ 10 ∷ [], is ∙ sym (append_assoc title (10 ∷ []) (below ++ 10 ∷ [])))

pub tree_below : (title front below text : List ℕ) → front ≡ title → text ≡ front ++ 10 ∷ (below ++ 10 ∷ []) → IsTreeBelow title text
tree_below title front below text same is =
    record { ends = ends_below front below text is; begins = begins_below title below text (rw same at is) }

pub unnamed : (header : HeaderView) (kind : List ℕ) (code : ℕ) → kind ≡ kind_of header → code ≡ header.code → None ≡ command_name code
    → title_of header ≡ kind ++ (codes " of command " ++ decimal code)
unfolding title_of
unnamed header kind code kind_is code_is none = rw (kind_is, ← code_is, ← none) refl
