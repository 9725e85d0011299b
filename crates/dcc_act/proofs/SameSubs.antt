-- Whether two subscribers are one.
use Rattle.std.proofs.Common.{◌≡◌, ℕ, List, ◌==◌, true, ap, ◌∙◌}
use Rattle.std.specs.Prelude.{bytes_eq}
use Rattle.std.proofs.lemmas.Bool.{and_parts, and_from, eqb-true, eq-eqb}
use Rattle.std.proofs.lemmas.Slice.Eq.{bytes_eq-Decides}
use Rattle.dcc_act.specs.Subs.{SubView, same_sub, SameAreEqual}

equal_where_same : (a b : SubView) → same_sub a b ≡ true → a ≡ b
equal_where_same a b h =
    let both = and_parts (a.kind == b.kind) (bytes_eq a.name b.name) h in
    let kinds = eqb-true a.kind b.kind both.0 in
    let names = (bytes_eq-Decides a.name b.name).0 both.1 in
    let with_kind : ℕ → SubView = λ k. record { kind = k; name = a.name } in
    let with_name : List ℕ → SubView = λ n. record { kind = b.kind; name = n } in
    ap with_kind kinds ∙ ap with_name names

same_where_equal : (a b : SubView) → a ≡ b → same_sub a b ≡ true
same_where_equal a b e =
    let kinds = eq-eqb a.kind b.kind (ap (λ (s : SubView). s.kind) e) in
    let names = (bytes_eq-Decides a.name b.name).1 (ap (λ (s : SubView). s.name) e) in
    and_from (a.kind == b.kind) (bytes_eq a.name b.name) kinds names

pub same_are_equal : SameAreEqual
same_are_equal a b = (equal_where_same a b, same_where_equal a b)
