-- Steps along the shards whose indexes are listed.
use Rattle.std.proofs.Common.{◌≡◌, ℕ, ◌+◌, ◌<◌, ◌≤◌, Bool, false, List, [], ◌∷◌, length, drop, get_or, ◌++◌, cond, ap, add-one, append-nil, append_assoc, drop-cons, refl, sym, ◌∙◌}
use Rattle.std.proofs.lemmas.List.{drop_all}
use Rattle.dcc_port.specs.Sheets.{gauge_text, gauge_value, gauges, listed, with_index}

one_more : (i : ℕ) (b : Bool) (rest : List Bool) (text : List ℕ) → listed i (b ∷ rest) text ≡ listed (i + 1) rest (cond b (with_index text i) text)
unfolding listed
one_more i b rest text = refl

none_left : (i : ℕ) (text : List ℕ) → listed i [] text ≡ text
unfolding listed
none_left i text = refl

from_here : (told : List Bool) (i : ℕ) → i < length told → drop i told ≡ get_or told i false ∷ drop (i + 1) told
from_here told i h = rw (add-one, drop-cons told i false)

-- one shard further
pub listed_next : (told : List Bool) (i : ℕ) (text new : List ℕ) (b : Bool) → i < length told → get_or told i false ≡ b
    → new ≡ cond b (with_index text i) text → listed 0 told [] ≡ listed i (drop i told) text
    → listed 0 told [] ≡ listed (i + 1) (drop (i + 1) told) new
listed_next told i text new b h is e before =
    before ∙ ap (λ rest. listed i rest text) (from_here told i h)
    ∙ one_more i (get_or told i false) (drop (i + 1) told) text
    ∙ ap (λ b. listed (i + 1) (drop (i + 1) told) (cond b (with_index text i) text)) is
    ∙ ap (λ t. listed (i + 1) (drop (i + 1) told) t) (sym e)

-- behind the last shard
pub listed_end : (told : List Bool) (i : ℕ) (text : List ℕ) → length told ≤ i → listed 0 told [] ≡ listed i (drop i told) text
    → text ≡ listed 0 told []
listed_end told i text h before = sym (before ∙ ap (λ rest. listed i rest text) (drop_all i told h) ∙ none_left i text)

gauge_step : (i : ℕ) (b : Bool) (rest : List Bool) → gauges i (b ∷ rest) ≡ gauge_text i (gauge_value b) ++ gauges (i + 1) rest
unfolding gauges
gauge_step i b rest = refl

no_gauges : (i : ℕ) → gauges i [] ≡ []
unfolding gauges
no_gauges i = refl

-- one gauge further
pub gauges_next : (told : List Bool) (i : ℕ) (start text new : List ℕ) (b : Bool) → i < length told → get_or told i false ≡ b
    → new ≡ text ++ gauge_text i (gauge_value b) → start ++ gauges 0 told ≡ text ++ gauges i (drop i told)
    → start ++ gauges 0 told ≡ new ++ gauges (i + 1) (drop (i + 1) told)
gauges_next told i start text new b h is e before =
    let rest = drop (i + 1) told in
    before ∙ ap (λ lines. text ++ gauges i lines) (from_here told i h)
    ∙ ap (λ lines. text ++ lines) (gauge_step i (get_or told i false) rest)
    ∙ ap (λ b. text ++ (gauge_text i (gauge_value b) ++ gauges (i + 1) rest)) is
    ∙ sym (append_assoc text (gauge_text i (gauge_value b)) (gauges (i + 1) rest))
    ∙ ap (λ t. t ++ gauges (i + 1) rest) (sym e)

-- behind the last gauge
pub gauges_end : (told : List Bool) (i : ℕ) (start text : List ℕ) → length told ≤ i → start ++ gauges 0 told ≡ text ++ gauges i (drop i told)
    → text ≡ start ++ gauges 0 told
gauges_end told i start text h before =
    sym (before ∙ ap (λ rest. text ++ gauges i rest) (drop_all i told h) ∙ ap (λ lines. text ++ lines) (no_gauges i) ∙ append-nil text)
