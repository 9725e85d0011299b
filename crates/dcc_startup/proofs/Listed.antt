-- Results of openings, in order.
use Rattle.std.proofs.Common.{◌≡◌, ◌<◌, ◌∙◌, ℕ, List, [], ◌∷◌, ◌++◌, map, length, get_or, Result, Ok, Err, refl, sym, ap, subst, arith}
use Rattle.std.proofs.lemmas.List.{get_or-map, length-map}
use Rattle.dcc_startup.specs.inner.Results.{IsEither, IsFirstError}

-- the result behind results that are no error is the error
pub of_first : {A E : Type 0} (before : List A) (error : E) (behind : List (Result A E)) (none : Result A E)
    → get_or (map Ok before ++ Err error ∷ behind) (length before) none ≡ Err error
of_first [] error behind none = refl
of_first (one ∷ more) error behind none = of_first more error behind none

pub within_first : {A E : Type 0} (before : List A) (error : E) (behind : List (Result A E)) → length before < length (map Ok before ++ Err error ∷ behind)
within_first [] error behind = omega arith
within_first (one ∷ more) error behind = let e = within_first more error behind in omega (arith, e)

-- the result of each index has its fact, so that the value of each index has it if no result is an error
pub of_values : {A E : Type 0} (good : ℕ → A → Type 0) (bad : ℕ → E → Type 0) (n : ℕ) (opened : List (Result A E)) (values : List A) → opened ≡ map Ok values → length opened ≡ n
    → ((i : ℕ) (none : Result A E) → i < n → IsEither (good i) (bad i) (get_or opened i none))
    → (i : ℕ) (none : A) → i < length values → good i (get_or values i none)
of_values {A} {E} good bad n opened values all many each i none below =
    let within : i < n = subst (λ (k : ℕ). i < k) (sym (length-map values (λ (one : A). Ok one)) ∙ (sym (ap length all) ∙ many)) below in
    let at : get_or opened i (Ok none) ≡ Ok (get_or values i none) = subst (λ (list : List (Result A E)). get_or list i (Ok none) ≡ Ok (get_or values i none)) (sym all) (get_or-map Ok values i none (Ok none) below) in
    (subst (IsEither (good i) (bad i)) at (each i (Ok none) within)).0

-- the first error is that of its index
pub of_error : {A E : Type 0} (good : ℕ → A → Type 0) (bad : ℕ → E → Type 0) (n : ℕ) (opened : List (Result A E)) (error : E) → IsFirstError opened error → length opened ≡ n
    → ((i : ℕ) (none : Result A E) → i < n → IsEither (good i) (bad i) (get_or opened i none)) → (i : ℕ) × (i < n) × bad i error
of_error {A} {E} good bad n opened error first many each =
    let at = sym first.2 in
    let i = length first.0 in
    let within : i < n = subst (λ (k : ℕ). i < k) many (subst (λ (list : List (Result A E)). i < length list) at (within_first first.0 error first.1)) in
    let found : get_or opened i (Err error) ≡ Err error = subst (λ (list : List (Result A E)). get_or list i (Err error) ≡ Err error) at (of_first first.0 error first.1 (Err error)) in
    (i, within, (subst (IsEither (good i) (bad i)) found (each i (Err error) within)).1)
