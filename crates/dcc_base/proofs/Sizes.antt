-- What refusals show has few octets where the message has.
use Rattle.std.proofs.Common.{◌≡◌, ℕ, ◌≤◌, Bool, true, false, List, [], ◌∷◌, Option, Some, None, Result, Ok, Err, arith, inl, inr}
use Rattle.std.specs.Prelude.{find, option_map, ◌&&◌, nat_le, if◌then◌else◌, IfOk, IfErr}
use Rattle.std.specs.Int.{w32}
use Rattle.std.specs.Option.{ok_or}
use Rattle.std.specs.List.{AllByRecursion, sum_by}
use Rattle.std.proofs.lemmas.Bool.{cases_Bool}
use Rattle.dcc_octets.specs.Names.{is_short}
use Rattle.dcc_octets.specs.Numbers.{number_in}
use Rattle.dcc_avp.specs.Spelling.{AvpView, has_code, padded_len}
use Rattle.dcc_avp.specs.Reading.{FaultView}
use Rattle.dcc_avp.specs.declared.codes.TheConstants.{ORIGIN_HOST, AUTH_APPLICATION_ID, INBAND_SECURITY_ID, DISCONNECT_CAUSE}
use Rattle.dcc_message.specs.HeaderView.{HeaderView}
use Rattle.dcc_message.specs.declared.length.TheConstants.{MAX_LENGTH}
use Rattle.dcc_request.specs.declared.cause.Cause.{Cause}
use Rattle.dcc_request.specs.declared.cause.Cause.TheVariants.{InvalidAvpLength, InvalidAvpValue, MissingAvp, NoCommonApplication, NoCommonSecurity}
use Rattle.dcc_request.specs.declared.command.Command.{Command}
use Rattle.dcc_request.specs.declared.command.Command.TheVariants.{CapabilitiesExchange, DeviceWatchdog, DisconnectPeer, CreditControl}
use Rattle.dcc_request.specs.Refusals.{Refusal, refusal, bare, or_else, first_some, ◌>>=◌, clear}
use Rattle.dcc_request.specs.Commands.{command_of}
use Rattle.dcc_request.specs.Layout.{unread}
use Rattle.dcc_request.specs.Checks.{missing_avp, checked}
use Rattle.dcc_request.specs.Values.{required, name_octets, number, number_within}
use Rattle.dcc_request.specs.Walk.{GroupView}
use Rattle.dcc_request.specs.Sizes.{AreWithin, IsGroupWithin}
use Rattle.dcc_base.specs.declared.effect.Effect.{Effect}
use Rattle.dcc_base.specs.declared.requests.TheConstants.{LAST_DISCONNECT_CAUSE}
use Rattle.dcc_base.specs.Capabilities.{is_misshapen, misshapen_in, application_in, refused_if_misshapen, misshapen_inside, shares_application, shares_security, demand, host_of}
use Rattle.dcc_base.specs.Requests.{capabilities, watchdog, disconnect, accepted, named_by, named, judged}

-- a refusal shows at most the octets of a message
abbrev pub Shows : Refusal → Type 0
Shows refusal = sum_by padded_len refusal.failed ≤ MAX_LENGTH

abbrev pub IsFew : AvpView → Type 0
IsFew avp = padded_len avp ≤ MAX_LENGTH

abbrev pub MayShow : Option Refusal → Type 0
MayShow None = Unit {0}
MayShow (Some refusal) = Shows refusal

-- what is found satisfies P, or its refusal shows no more
abbrev pub Bounded : {X : Type 0} → (X → Type 0) → Result X Refusal → Type 0
Bounded P (Ok x) = P x
Bounded P (Err refusal) = Shows refusal

-- nothing is asked
abbrev pub Any : {X : Type 0} → X → Type 0
Any x = Unit {0}

bind : {X Y : Type 0} (P : X → Type 0) (Q : Y → Type 0) (r : Result X Refusal) (f : X → Result Y Refusal) → Bounded P r → ((x : X) → P x → Bounded Q (f x)) →
    Bounded Q (r >>= f)
bind P Q (Ok x) f here next = next x here
bind P Q (Err refusal) f here next = here

joined : {X : Type 0} (P : X → Type 0) (r : Result X Refusal) → IfOk r P → IfErr r Shows → Bounded P r
joined P (Ok x) ok err = ok
joined P (Err refusal) ok err = err

cleared : (found : Option Refusal) → MayShow found → Bounded Any (clear found)
cleared None h = tt
cleared (Some refusal) h = h

shows_one : (cause : Cause) (avp : AvpView) → IsFew avp → Shows (refusal cause avp)
shows_one cause avp h = omega arith

shows_none : (cause : Cause) → Shows (bare cause)
shows_none cause = omega arith

abbrev pub MayBeFew : Option AvpView → Type 0
MayBeFew None = Unit {0}
MayBeFew (Some avp) = IsFew avp

found_few : (test : AvpView → Bool) (avps : List AvpView) → AreWithin MAX_LENGTH avps → MayBeFew (find test avps)
found_few test [] h = tt
found_few test (avp ∷ avps) h =
    elim (cases_Bool (test avp)) [
      | inl here ↦ rw here h.0
      | inr other ↦ rw other (found_few test avps h.1)
    ]

-- what the law says of AVPs that stand for missing ones
abbrev pub AreMissingFew : Type 0
AreMissingFew = (code : ℕ) → padded_len (missing_avp code) ≤ 24

missing_few : AreMissingFew → (code : ℕ) → IsFew (missing_avp code)
missing_few law code = let few = law code in omega arith

given : (found : Option AvpView) (missing : Refusal) → MayBeFew found → Shows missing → Bounded IsFew (ok_or found missing)
given None missing few shows = shows
given (Some avp) missing few shows = few

required_few : AreMissingFew → (avps : List AvpView) (code : ℕ) → AreWithin MAX_LENGTH avps → Bounded IsFew (required avps code)
required_few law avps code h =
    given (find (has_code code) avps) (refusal MissingAvp (missing_avp code)) (found_few (has_code code) avps h)
    (shows_one MissingAvp (missing_avp code) (missing_few law code))

name_few : (avp : AvpView) → IsFew avp → Bounded Any (name_octets avp)
name_few avp few =
    elim (cases_Bool (is_short avp.value)) [
      | inl short ↦ rw short tt
      | inr other ↦ rw other (shows_one InvalidAvpLength avp few)
    ]

misshapen_few : (found : Option AvpView) → MayBeFew found → MayShow (option_map (refusal InvalidAvpLength) found)
misshapen_few None h = tt
misshapen_few (Some avp) h = shows_one InvalidAvpLength avp h

in_few : (code : ℕ) (avps : List AvpView) → AreWithin MAX_LENGTH avps → MayShow (misshapen_in code avps)
in_few code avps h =
    misshapen_few (find (λ avp. has_code code avp && is_misshapen avp) avps) (found_few (λ avp. has_code code avp && is_misshapen avp) avps h)

refused_few : (found : Option AvpView) → MayBeFew found → MayShow (refused_if_misshapen found)
refused_few None h = tt
refused_few (Some avp) h =
    elim (cases_Bool (is_misshapen avp)) [
      | inl bad ↦ rw bad (shows_one InvalidAvpLength avp h)
      | inr good ↦ rw good tt
    ]

or_few : (one other : Option Refusal) → MayShow one → MayShow other → MayShow (or_else one other)
or_few None other a b = b
or_few (Some refusal) other a b = a

inside_few : (groups : List GroupView) → AllByRecursion (IsGroupWithin MAX_LENGTH) groups → MayShow (first_some misshapen_inside groups)
inside_few [] h = tt
inside_few (group ∷ groups) h =
    or_few (misshapen_inside group) (first_some misshapen_inside groups)
    (refused_few (application_in group) (found_few (has_code AUTH_APPLICATION_ID) group.list.avps h.0.0)) (inside_few groups h.1)

demanded : (holds : Bool) (cause : Cause) → Bounded Any (demand holds cause)
demanded true cause = tt
demanded false cause = shows_none cause

host_few : AreMissingFew → (avps : List AvpView) (groups : List GroupView) → AreWithin MAX_LENGTH avps → AllByRecursion (IsGroupWithin MAX_LENGTH) groups →
    Bounded Any (host_of avps groups)
unfolding host_of
host_few law avps groups h inside =
    bind IsFew Any (required avps ORIGIN_HOST) _ (required_few law avps ORIGIN_HOST h) (λ origin few.
    bind Any Any (name_octets origin) _ (name_few origin few) (λ host a.
    bind Any Any (clear (misshapen_in AUTH_APPLICATION_ID avps)) _ (cleared (misshapen_in AUTH_APPLICATION_ID avps) (in_few AUTH_APPLICATION_ID avps h)) (λ x b.
    bind Any Any (clear (misshapen_in INBAND_SECURITY_ID avps)) _ (cleared (misshapen_in INBAND_SECURITY_ID avps) (in_few INBAND_SECURITY_ID avps h)) (λ y d.
    bind Any Any (clear (first_some misshapen_inside groups)) _ (cleared (first_some misshapen_inside groups) (inside_few groups inside)) (λ z e.
    bind Any Any (demand (shares_application avps groups) NoCommonApplication) _ (demanded (shares_application avps groups) NoCommonApplication) (λ v f.
    bind Any Any (demand (shares_security avps) NoCommonSecurity) _ (demanded (shares_security avps) NoCommonSecurity) (λ w g. tt)))))))

-- what the law says of the checks
abbrev pub AreRefusedFew : List AvpView → Type 0
AreRefusedFew avps = (command : Command) → IfErr (checked command avps) (λ refusal. sum_by padded_len refusal.failed ≤ MAX_LENGTH)

abbrev pub AreGroupsFew : List AvpView → Type 0
AreGroupsFew avps = (command : Command) → IfOk (checked command avps) (λ groups. AllByRecursion (IsGroupWithin MAX_LENGTH) groups)

checked_few : (avps : List AvpView) → AreRefusedFew avps → AreGroupsFew avps → (command : Command) →
    Bounded (AllByRecursion (IsGroupWithin MAX_LENGTH)) (checked command avps)
checked_few avps refused groups command = joined (AllByRecursion (IsGroupWithin MAX_LENGTH)) (checked command avps) (groups command) (refused command)

number_few : (avp : AvpView) → IsFew avp → (n : Option ℕ) → Bounded Any (ok_or n (refusal InvalidAvpLength avp))
number_few avp few None = shows_one InvalidAvpLength avp few
number_few avp few (Some n) = tt

range_few : (avp : AvpView) (n : ℕ) (fits : Bool) → IsFew avp → Bounded Any (if fits then Ok n else Err (refusal InvalidAvpValue avp))
range_few avp n true few = tt
range_few avp n false few = shows_one InvalidAvpValue avp few

within_few : (avp : AvpView) (low high : ℕ) → IsFew avp → Bounded Any (number_within avp low high)
unfolding number_within number
within_few avp low high few =
    bind Any Any (ok_or (number_in w32 avp.value) (refusal InvalidAvpLength avp)) _ (number_few avp few (number_in w32 avp.value))
    (λ n a. range_few avp n (nat_le low n && nat_le n high) few)

accepted_few : AreMissingFew → (command : Command) (avps : List AvpView) → AreWithin MAX_LENGTH avps → AreRefusedFew avps → AreGroupsFew avps →
    Bounded Any (accepted command avps)
unfolding capabilities watchdog disconnect
accepted_few law CapabilitiesExchange avps h refused groups =
    bind (AllByRecursion (IsGroupWithin MAX_LENGTH)) Any (checked CapabilitiesExchange avps) _ (checked_few avps refused groups CapabilitiesExchange)
    (λ inner inside. bind Any Any (host_of avps inner) _ (host_few law avps inner h inside) (λ host a. tt))
accepted_few law DeviceWatchdog avps h refused groups =
    bind (AllByRecursion (IsGroupWithin MAX_LENGTH)) Any (checked DeviceWatchdog avps) _ (checked_few avps refused groups DeviceWatchdog) (λ inner inside. tt)
accepted_few law DisconnectPeer avps h refused groups =
    bind (AllByRecursion (IsGroupWithin MAX_LENGTH)) Any (checked DisconnectPeer avps) _ (checked_few avps refused groups DisconnectPeer)
    (λ inner inside. bind IsFew Any (required avps DISCONNECT_CAUSE) _ (required_few law avps DISCONNECT_CAUSE h)
    (λ avp few. bind Any Any (number_within avp 0 LAST_DISCONNECT_CAUSE) _ (within_few avp 0 LAST_DISCONNECT_CAUSE few) (λ n a. tt)))
accepted_few law CreditControl avps h refused groups = tt

named_few : (command : Result Command Cause) → Bounded Any (named_by command)
named_few (Ok command) = tt
named_few (Err cause) = shows_none cause

judged_few : AreMissingFew → (header : HeaderView) (avps : List AvpView) → AreWithin MAX_LENGTH avps → AreRefusedFew avps → AreGroupsFew avps →
    Bounded Any (judged header (Ok avps))
unfolding judged
judged_few law header avps h refused groups =
    bind Any Any (named header) _ (named_few (command_of header)) (λ command a. accepted_few law command avps h refused groups)

-- the refusal of a request shows at most the octets of a message
pub shown_few : AreMissingFew → (header : HeaderView) (avps : List AvpView) (refusal : Refusal) → AreWithin MAX_LENGTH avps → AreRefusedFew avps → AreGroupsFew avps →
    judged header (Ok avps) ≡ Err refusal → sum_by padded_len refusal.failed ≤ MAX_LENGTH
shown_few law header avps refusal h refused groups is = rw is at (judged_few law header avps h refused groups)

-- and the same of the verdict on a list that was read
abbrev pub MayShowVerdict : Result Effect Refusal → Type 0
MayShowVerdict (Ok effect) = Unit {0}
MayShowVerdict (Err refusal) = Shows refusal

verdict_few : (verdict : Result Effect Refusal) → Bounded Any verdict → MayShowVerdict verdict
verdict_few (Ok effect) h = tt
verdict_few (Err refusal) h = h

pub shown_all : AreMissingFew → (header : HeaderView) (avps : List AvpView) → AreWithin MAX_LENGTH avps → AreRefusedFew avps → AreGroupsFew avps →
    MayShowVerdict (judged header (Ok avps))
shown_all law header avps h refused groups = verdict_few (judged header (Ok avps)) (judged_few law header avps h refused groups)

-- and on one that can't be
unread_few : ((fault : FaultView) → sum_by padded_len (unread fault).failed ≤ 24) → (header : HeaderView) (fault : FaultView) → Bounded Any (judged header (Err fault))
unfolding judged
unread_few law header fault =
    bind Any Any (named header) _ (named_few (command_of header)) (λ command a. let few = law fault in omega arith)

pub shown_unread : ((fault : FaultView) → sum_by padded_len (unread fault).failed ≤ 24) → (header : HeaderView) (fault : FaultView) → MayShowVerdict (judged header (Err fault))
shown_unread law header fault = verdict_few (judged header (Err fault)) (unread_few law header fault)
