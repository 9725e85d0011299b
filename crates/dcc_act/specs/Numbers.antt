-- The numbers that stand in messages.
use Rattle.std.specs.Prelude.{ℕ}
use Rattle.dcc_act.specs.declared.outcome.RequestType.{RequestType}
use Rattle.dcc_act.specs.declared.outcome.RequestType.TheVariants as request
use Rattle.dcc_act.specs.declared.outcome.Balance.{Balance}
use Rattle.dcc_act.specs.declared.outcome.Balance.TheVariants.{EnoughCredit, NoCredit}
use Rattle.dcc_act.specs.declared.outcome.ResultCode.{ResultCode}
use Rattle.dcc_act.specs.declared.outcome.ResultCode.TheVariants.{Success, CreditLimitReached, UnknownSession, ResourcesExceeded, UnableToComply, RatingFailed}

-- CC-Request-Type (RFC 8506, section 8.3)
abbrev pub request_type_number : RequestType → ℕ
request_type_number request.Initial = 1
request_type_number request.Update = 2
request_type_number request.Termination = 3
request_type_number request.Event = 4

-- Result-Code (RFC 6733, section 7.1, and RFC 8506, section 9)
abbrev pub result_number : ResultCode → ℕ
result_number Success = 2001
result_number CreditLimitReached = 4012
result_number UnknownSession = 5002
result_number ResourcesExceeded = 5006
result_number UnableToComply = 5012
result_number RatingFailed = 5031

-- Check-Balance-Result (RFC 8506, section 8.6)
abbrev pub balance_number : Balance → ℕ
balance_number EnoughCredit = 0
balance_number NoCredit = 1
