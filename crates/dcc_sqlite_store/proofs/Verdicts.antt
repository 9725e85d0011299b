-- Rows that are not damaged.
use Rattle.std.proofs.Common.{◌≡◌, inl, inr, zero, suc, All, List, [], ◌∷◌, map, refl, sym, subst, arith}
use Rattle.std.proofs.lemmas.List.Elements.{All-contains}
use Rattle.dcc_act_codec.specs.Limits.{IsAct}
use Rattle.dcc_act_codec.specs.OldRecords.{IsOldAct}
use Rattle.dcc_sqlite_rows.specs.declared.line.Line.{Line}
use Rattle.dcc_sqlite_rows.specs.Pages.{IsSub}
use Rattle.dcc_sqlite_rows.specs.Stored.{line_row, IsLine, IsOfSub, Rows, HasRowOfNobody, IsDamaged}
use Rattle.dcc_sqlite_rows.specs.OldRows.{old_line_row, IsOldLine, IsOldDamaged}

-- the rows of lines are those of acts
each_line : (lines : List Line) → All (λ line. IsSub line.sub) lines → All (λ line. IsAct line.act) lines → All IsLine (map line_row lines)
each_line [] subs fit k d below = absurd (omega (arith, below))
each_line (line ∷ lines) subs fit zero d below = (line, subs 0 line (omega arith), fit 0 line (omega arith), refl)
each_line (line ∷ lines) subs fit (suc k) d below =
    each_line lines (λ i x low. subs (suc i) x (omega (arith, low))) (λ i x low. fit (suc i) x (omega (arith, low))) k d (omega (arith, below))

each_old_line : (lines : List Line) → All (λ line. IsSub line.sub) lines → All (λ line. IsOldAct line.act) lines → All IsOldLine (map old_line_row lines)
each_old_line [] subs fit k d below = absurd (omega (arith, below))
each_old_line (line ∷ lines) subs fit zero d below = (line, subs 0 line (omega arith), fit 0 line (omega arith), refl)
each_old_line (line ∷ lines) subs fit (suc k) d below =
    each_old_line lines (λ i x low. subs (suc i) x (omega (arith, low))) (λ i x low. fit (suc i) x (omega (arith, low))) k d (omega (arith, below))

of_somebody : (rows : Rows) → All IsOfSub rows.entries → All IsOfSub rows.accounts → ¬ HasRowOfNobody rows
of_somebody rows entries accounts (inl h) = h.2 (All-contains IsOfSub rows.entries h.0 entries h.1)
of_somebody rows entries accounts (inr h) = h.2 (All-contains IsOfSub rows.accounts h.0 accounts h.1)

pub not_damaged : (rows : Rows) (lines : List Line) → rows.acts ≡ map line_row lines → All (λ line. IsSub line.sub) lines → All (λ line. IsAct line.act) lines → All IsOfSub rows.entries
    → All IsOfSub rows.accounts → ¬ IsDamaged rows
not_damaged rows lines are subs fit entries accounts (inl h) = h.2 (All-contains IsLine rows.acts h.0 (subst (All IsLine) (sym are) (each_line lines subs fit)) h.1)
not_damaged rows lines are subs fit entries accounts (inr h) = of_somebody rows entries accounts h

pub not_old_damaged : (rows : Rows) (lines : List Line) → rows.acts ≡ map old_line_row lines → All (λ line. IsSub line.sub) lines → All (λ line. IsOldAct line.act) lines → All IsOfSub rows.entries
    → All IsOfSub rows.accounts → ¬ IsOldDamaged rows
not_old_damaged rows lines are subs fit entries accounts (inl h) = h.2 (All-contains IsOldLine rows.acts h.0 (subst (All IsOldLine) (sym are) (each_old_line lines subs fit)) h.1)
not_old_damaged rows lines are subs fit entries accounts (inr h) = of_somebody rows entries accounts h
