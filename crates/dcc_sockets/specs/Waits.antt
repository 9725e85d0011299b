-- For how long a gateway is waited for.
use Rattle.std.specs.Prelude.{ℕ, ◌-◌, Bool, nat_eq, nat_lt, min, if◌then◌else◌, Option, Some, None}

-- seconds for which a read waits, without an end if there are none: the gateway may be silent for so many seconds, and 0 is for ever
abbrev pub read_wait : ℕ → Option ℕ
read_wait silence = if nat_eq silence 0 then None else Some silence

-- the same before the gateway has exchanged capabilities, behind so many seconds: it has 10 in all, but without an end at a server that doesn't stay if
-- it may be silent for ever
abbrev pub first_wait : ℕ → Bool → ℕ → Option ℕ
first_wait silence stays waited =
    if nat_eq silence 0 then (if stays then Some (10 - waited) else None)
    else Some (min silence (10 - waited))

-- nanoseconds for which the answers that wait at one time wait to go out, at most: 5 seconds
abbrev pub write_wait : ℕ
write_wait = 5_000_000_000

-- the nanosecond since which the answers wait that wait at one time, and how many answers have gone out once these have
pub record WaitedView : Type 0 where
  pub since : ℕ
  pub goal : ℕ

-- the answers that wait as a write begins now, if so many were put: those that wait already, or all from now on
abbrev pub waiting_from : Option WaitedView → ℕ → ℕ → WaitedView
waiting_from None now put = record { since = now; goal = put }
waiting_from (Some waited) now put = waited

-- nanoseconds that are left of so many behind a wait of so many; none if nothing is left
abbrev pub left_of : ℕ → ℕ → Option ℕ
left_of all waited = if nat_lt waited all then Some (all - waited) else None

-- nanoseconds for which a write may wait whose answers have waited for so many; none if nothing is left
abbrev pub wait_left : ℕ → Option ℕ
wait_left = left_of write_wait

-- the answers that wait behind a write, if so many have gone out: the same until all of these are out, and then none until the next write
abbrev pub waiting_behind : Option WaitedView → ℕ → Option WaitedView
waiting_behind None written = None
waiting_behind (Some waited) written = if nat_lt written waited.goal then Some waited else None
