-- Where all fits, there are neither too many nor too few.
use Rattle.std.proofs.Common.{◌≡◌, Bool, true, false, not, ◌&&◌, List, [], ◌∷◌, Option, None, find, refl}
use Rattle.std.specs.List.{list_all}
use Rattle.dcc_avp.specs.Spelling.{AvpView}
use Rattle.dcc_request.specs.declared.checks.Check.{Check}
use Rattle.dcc_request.specs.declared.checks.Check.TheVariants.{TooMany, Missing}
use Rattle.dcc_request.specs.Refusals.{first_some}
use Rattle.dcc_request.specs.Tables.{Table, table_of}
use Rattle.dcc_request.specs.Walk.{GroupView}
use Rattle.dcc_request.specs.Checks.{is_over, is_lacking, fault_in, fault_of, fault_in_group, fault_anywhere}
use Rattle.dcc_request.specs.inner.Fits.{row_fits, fits, list_fits, group_fits, all_fit}

both : (a b : Bool) → (a && b) ≡ true → (a ≡ true) × (b ≡ true)
both true true e = (refl, refl)
both true false e = absurd cc
both false b e = absurd cc

-- what passes no test isn't found
none_found : {X : Type 0} (test bad : X → Bool) (xs : List X) → ((x : X) → test x ≡ true → bad x ≡ false)
    → list_all test xs ≡ true → find bad xs ≡ None
none_found test bad [] good e = refl
none_found test bad (x ∷ xs) good e =
    let p = both (test x) (list_all test xs) e in
    rw (good x p.0) (none_found test bad xs good p.1)

none_of : {X Y : Type 0} (test : X → Bool) (f : X → Option Y) (xs : List X) → ((x : X) → test x ≡ true → f x ≡ None)
    → list_all test xs ≡ true → first_some f xs ≡ None
none_of test f [] good e = refl
none_of test f (x ∷ xs) good e =
    let p = both (test x) (list_all test xs) e in
    rw (good x p.0) (none_of test f xs good p.1)

is_false : (b : Bool) → not b ≡ true → b ≡ false
is_false true e = absurd cc
is_false false e = refl

-- the checks that count
data IsCount : Check → Type 0 where
  over : IsCount TooMany
  lacking : IsCount Missing

no_over : (table : Table) (avps : List AvpView) → fits table avps ≡ true → find (is_over avps) table ≡ None
unfolding fits
no_over table avps e = none_found (row_fits avps) (is_over avps) table
    (λ row fit. is_false (is_over avps row) (both (not (is_lacking avps row)) (not (is_over avps row)) fit).1) e

no_lacking : (table : Table) (avps : List AvpView) → fits table avps ≡ true → find (is_lacking avps) table ≡ None
unfolding fits
no_lacking table avps e = none_found (row_fits avps) (is_lacking avps) table
    (λ row fit. is_false (is_lacking avps row) (both (not (is_lacking avps row)) (not (is_over avps row)) fit).0) e

none_in : (check : Check) → IsCount check → (table : Table) (avps : List AvpView) → fits table avps ≡ true → fault_in check table avps ≡ None
unfolding fault_in
none_in check over table avps e = rw (no_over table avps e) refl
none_in check lacking table avps e = rw (no_lacking table avps e) refl

none_in_group : (check : Check) → IsCount check → (group : GroupView) → group_fits group ≡ true → fault_in_group check group ≡ None
unfolding group_fits
none_in_group check counts group e =
    let p = both (list_fits group.list) (list_all list_fits group.inside) e in
    rw (none_in check counts (table_of group.list.code) group.list.avps p.0)
    (none_of list_fits (fault_of check) group.inside (λ list fit. none_in check counts (table_of list.code) list.avps fit) p.1)

-- nor does a check that counts finds anything
none_anywhere : (check : Check) → IsCount check → (table : Table) (avps : List AvpView) (groups : List GroupView)
    → all_fit table avps groups ≡ true → fault_anywhere table avps groups check ≡ None
unfolding all_fit fault_anywhere
none_anywhere check counts table avps groups e =
    let p = both (fits table avps) (list_all group_fits groups) e in
    rw (none_in check counts table avps p.0)
    (none_of group_fits (fault_in_group check) groups (λ group fit. none_in_group check counts group fit) p.1)

-- where all fits, the checks that count find nothing
pub no_fault : (table : Table) (avps : List AvpView) (groups : List GroupView) → all_fit table avps groups ≡ true
    → first_some (fault_anywhere table avps groups) (TooMany ∷ Missing ∷ []) ≡ None
no_fault table avps groups e = rw (none_anywhere TooMany over table avps groups e, none_anywhere Missing lacking table avps groups e) refl
