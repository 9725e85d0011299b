-- Steps along the numbers of a family, and along buckets.
use Rattle.std.proofs.Common.{◌≡◌, ℕ, ◌+◌, ◌<◌, ◌≤◌, List, [], ◌∷◌, ◌++◌, length, drop, get_or, ap, add-one, append_assoc, append-nil, drop-cons, refl, sym, ◌∙◌}
use Rattle.std.proofs.lemmas.List.{drop_all}
use Rattle.std.specs.Fmt.{decimal}
use Rattle.dcc_metrics.specs.Families.{labels_of, tail_of}
use Rattle.dcc_metrics.specs.Hosts.{host_lines, host_text}
use Rattle.dcc_metrics.specs.Pages.{line_of, lines_of}
use Rattle.dcc_metrics.specs.Times.{add, cumulated}
use Rattle.dcc_metrics.specs.declared.family.Family.{Family}

from_here : (ns : List ℕ) (i : ℕ) → i < length ns → drop i ns ≡ get_or ns i 0 ∷ drop (i + 1) ns
from_here ns i h = rw (add-one, drop-cons ns i 0)

one_line : (family : Family) (i n : ℕ) (rest : List ℕ)
    → lines_of family i (n ∷ rest) ≡ line_of family (tail_of (labels_of family) i) (decimal n) ++ lines_of family (i + 1) rest
unfolding lines_of
one_line family i n rest = refl

no_line : (family : Family) (i : ℕ) → lines_of family i [] ≡ []
unfolding lines_of
no_line family i = refl

-- one number further
pub lines_next : (family : Family) (ns : List ℕ) (i : ℕ) (text new whole : List ℕ) → i < length ns
    → new ≡ text ++ line_of family (tail_of (labels_of family) i) (decimal (get_or ns i 0))
    → text ++ lines_of family i (drop i ns) ≡ whole → new ++ lines_of family (i + 1) (drop (i + 1) ns) ≡ whole
lines_next family ns i text new whole h e before =
    let rest = drop (i + 1) ns in
    ap (λ (t : List ℕ). t ++ lines_of family (i + 1) rest) e
    ∙ append_assoc text _ (lines_of family (i + 1) rest)
    ∙ ap (λ (t : List ℕ). text ++ t) (sym (one_line family i (get_or ns i 0) rest))
    ∙ ap (λ (t : List ℕ). text ++ lines_of family i t) (sym (from_here ns i h))
    ∙ before

-- behind the last number
pub lines_end : (family : Family) (ns : List ℕ) (i : ℕ) (text whole : List ℕ) → length ns ≤ i
    → text ++ lines_of family i (drop i ns) ≡ whole → text ≡ whole
lines_end family ns i text whole h before =
    sym (append-nil text) ∙ ap (λ (t : List ℕ). text ++ t) (sym (ap (lines_of family i) (drop_all i ns h) ∙ no_line family i)) ∙ before

one_bucket : (so_far n : ℕ) (rest : List ℕ) → cumulated so_far (n ∷ rest) ≡ add so_far n ∷ cumulated (add so_far n) rest
unfolding cumulated
one_bucket so_far n rest = refl

no_bucket : (so_far : ℕ) → cumulated so_far [] ≡ []
unfolding cumulated
no_bucket so_far = refl

-- one bucket further
pub buckets_next : (ns : List ℕ) (i so_far next : ℕ) (all new whole : List ℕ) → i < length ns → next ≡ add so_far (get_or ns i 0)
    → new ≡ all ++ next ∷ [] → all ++ cumulated so_far (drop i ns) ≡ whole → new ++ cumulated next (drop (i + 1) ns) ≡ whole
buckets_next ns i so_far next all new whole h is e before =
    let rest = drop (i + 1) ns in
    ap (λ (t : List ℕ). t ++ cumulated next rest) e
    ∙ append_assoc all (next ∷ []) (cumulated next rest)
    ∙ ap (λ (m : ℕ). all ++ m ∷ cumulated m rest) is
    ∙ ap (λ (t : List ℕ). all ++ t) (sym (one_bucket so_far (get_or ns i 0) rest))
    ∙ ap (λ (t : List ℕ). all ++ cumulated so_far t) (sym (from_here ns i h))
    ∙ before

-- behind the last bucket
pub buckets_end : (ns : List ℕ) (i so_far : ℕ) (all whole : List ℕ) → length ns ≤ i
    → all ++ cumulated so_far (drop i ns) ≡ whole → all ≡ whole
buckets_end ns i so_far all whole h before =
    sym (append-nil all) ∙ ap (λ (t : List ℕ). all ++ t) (sym (ap (cumulated so_far) (drop_all i ns h) ∙ no_bucket so_far)) ∙ before

host_here : (hosts : List (List ℕ)) (i : ℕ) → i < length hosts → drop i hosts ≡ get_or hosts i [] ∷ drop (i + 1) hosts
host_here hosts i h = rw (add-one, drop-cons hosts i [])

one_host : (i : ℕ) (host : List ℕ) (rest : List (List ℕ)) → host_lines i (host ∷ rest) ≡ host_text i host ++ host_lines (i + 1) rest
unfolding host_lines
one_host i host rest = refl

no_host : (i : ℕ) → host_lines i [] ≡ []
unfolding host_lines
no_host i = refl

-- one host further
pub hosts_next : (hosts : List (List ℕ)) (i : ℕ) (host text new whole : List ℕ) → i < length hosts → host ≡ get_or hosts i []
    → new ≡ text ++ host_text i host → text ++ host_lines i (drop i hosts) ≡ whole → new ++ host_lines (i + 1) (drop (i + 1) hosts) ≡ whole
hosts_next hosts i host text new whole h is e before =
    let rest = drop (i + 1) hosts in
    ap (λ (t : List ℕ). t ++ host_lines (i + 1) rest) e
    ∙ append_assoc text (host_text i host) (host_lines (i + 1) rest)
    ∙ ap (λ (t : List ℕ). text ++ (host_text i t ++ host_lines (i + 1) rest)) is
    ∙ ap (λ (t : List ℕ). text ++ t) (sym (one_host i (get_or hosts i []) rest))
    ∙ ap (λ (t : List (List ℕ)). text ++ host_lines i t) (sym (host_here hosts i h))
    ∙ before

-- behind the last host
pub hosts_end : (hosts : List (List ℕ)) (i : ℕ) (text whole : List ℕ) → length hosts ≤ i
    → text ++ host_lines i (drop i hosts) ≡ whole → text ≡ whole
hosts_end hosts i text whole h before =
    sym (append-nil text) ∙ ap (λ (t : List ℕ). text ++ t) (sym (ap (host_lines i) (drop_all i hosts h) ∙ no_host i)) ∙ before
