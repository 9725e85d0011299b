-- Why a request is refused, the AVPs that its answer shows, and the first of several refusals (RFC 6733, section 7.1).
use Rattle.std.specs.Prelude.{ℕ, List, [], ◌∷◌, Option, Some, None, Result, Ok, Err}
use Rattle.dcc_avp.specs.Spelling.{AvpView}
use Rattle.dcc_request.specs.declared.cause.Cause.{Cause}
use Rattle.dcc_request.specs.declared.cause.Cause.TheVariants.{CommandUnsupported, ApplicationUnsupported, InvalidHeaderBits}
use Rattle.dcc_request.specs.declared.cause.Cause.TheVariants.{AvpUnsupported, InvalidAvpValue, MissingAvp, ContradictingAvps}
use Rattle.dcc_request.specs.declared.cause.Cause.TheVariants.{AvpOccursTooManyTimes, NoCommonApplication, InvalidAvpLength, NoCommonSecurity}
use Rattle.dcc_request.specs.declared.refused.Failed.{Failed}
use Rattle.dcc_request.specs.declared.refused.Failed.TheVariants.{Nothing, One, Two}

-- the cause of a refusal, and the AVPs in the Failed-AVP of its answer (section 7.5)
pub record Refusal : Type 0 where
  pub cause : Cause
  pub failed : List AvpView

-- the Result-Code of a cause (sections 7.1.3 and 7.1.5)
abbrev pub cause_number : Cause → ℕ
cause_number CommandUnsupported = 3001
cause_number ApplicationUnsupported = 3007
cause_number InvalidHeaderBits = 3008
cause_number AvpUnsupported = 5001
cause_number InvalidAvpValue = 5004
cause_number MissingAvp = 5005
cause_number ContradictingAvps = 5007
cause_number AvpOccursTooManyTimes = 5009
cause_number NoCommonApplication = 5010
cause_number InvalidAvpLength = 5014
cause_number NoCommonSecurity = 5017

-- a refusal that shows no AVP
abbrev pub bare : Cause → Refusal
bare cause = record { cause = cause; failed = [] }

-- a refusal that shows this AVP
abbrev pub refusal : Cause → AvpView → Refusal
refusal cause avp = record { cause = cause; failed = avp ∷ [] }

-- the AVPs in a Failed-AVP, as a list
abbrev pub failed_in : Failed → List AvpView
failed_in Nothing = []
failed_in (One avp) = avp ∷ []
failed_in (Two first second) = first ∷ second ∷ []

-- the first value, or else the second
abbrev pub or_else : {X : Type 0} → Option X → Option X → Option X
or_else (Some x) other = Some x
or_else None other = other

-- the finding of the first element that has any
abbrev pub first_some : {X Y : Type 0} → (X → Option Y) → List X → Option Y
first_some f [] = None
first_some f (x ∷ xs) = or_else (f x) (first_some f xs)

-- one step after another, up to the first refusal
infixl 10 ◌>>=◌
abbrev pub ◌>>=◌ : {A B : Type 0} → Result A Refusal → (A → Result B Refusal) → Result B Refusal
(Ok x) >>= f = f x
(Err refusal) >>= f = Err refusal

-- the results of all elements, or the first refusal
abbrev pub each : {A B : Type 0} → (A → Result B Refusal) → List A → Result (List B) Refusal
each f [] = Ok []
each f (x ∷ xs) = do
  first ← f x
  others ← each f xs
  Ok (first ∷ others)

-- `Ok` if no refusal was found, else the refusal as an error
abbrev pub clear : Option Refusal → Result (Unit {0}) Refusal
clear None = Ok tt
clear (Some refusal) = Err refusal
