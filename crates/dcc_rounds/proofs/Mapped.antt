-- What is handed on to a state, stated of what is seen of it.
use Rattle.std.proofs.Common.{ℕ, List, [], ◌∷◌, Option, ap, subst}
use Rattle.std.specs.List.{FoldsTo, concat}
use Rattle.dcc_connect.specs.Reading.{HandsOn, Hands, ReadsAndHands}
use Rattle.dcc_connect.specs.Streams.{heard}
use Rattle.dcc_connect.specs.declared.fault.ConnectFault.TheVariants.{Read, Write, TooManyTurns, Header, Memory}
use Rattle.dcc_connect.specs.declared.fault.ConnectionEnd.{ConnectionEnd}
use Rattle.dcc_connect.specs.declared.fault.ConnectionEnd.TheVariants.{End, Closed, Fault}
use Rattle.dcc_connect.specs.declared.handing.Handed.{Handed}
use Rattle.dcc_connect.specs.declared.handing.Handed.TheVariants.{Stays, Closes}
use Rattle.dcc_message.specs.Streams.{messages}

-- `seen` is what is seen of a state, `kept` is a fact that each step keeps
module _ {S T : Type 0} (seen : S → T) (kept : S → Type 0) (hands : S → ℕ → List ℕ → Handed → S → Type 0) (gives : T → ℕ → List ℕ → Handed → T → Type 0)
    (step : (s : S) (moment : ℕ) (message : List ℕ) (handed : Handed) (t : S) → kept s → hands s moment message handed t
    → gives (seen s) moment message handed (seen t) × kept t) where
  folds : (s t : S) (ms : List (List ℕ)) → kept s → FoldsTo (HandsOn hands) s ms t → FoldsTo (HandsOn gives) (seen s) ms (seen t) × kept t
  folds s t [] k h = (ap seen h, subst kept h k)
  folds s t (m ∷ ms) k h =
      let one : gives (seen s) h.1.0 m Stays (seen h.0) × kept h.0 = step s h.1.0 m Stays h.0 k h.1.1 in
      let rest : FoldsTo (HandsOn gives) (seen h.0) ms (seen t) × kept t = folds h.0 t ms one.1 h.2 in
      ((seen h.0, (h.1.0, one.0), rest.0), rest.1)

  handed_on : (end : ConnectionEnd) (read : List ℕ) (s t : S) → kept s → Hands hands end read s t → Hands gives end read (seen s) (seen t) × kept t
  handed_on End read s t k h =
      let r = folds s t (messages read) k h.1 in
      ((h.0, r.0), r.1)
  handed_on Closed read s t k h =
      let r = folds s h.3 h.0 k h.5 in
      let last = step h.3 h.6.0 h.1 Closes t r.1 h.6.1 in
      ((h.0, h.1, h.2, seen h.3, h.4, r.0, (h.6.0, last.0)), last.1)
  handed_on (Fault Read) read s t k h =
      let r = folds s t (messages read) k h.1 in
      ((h.0, r.0), r.1)
  handed_on (Fault TooManyTurns) read s t k h =
      let r = folds s t (messages read) k h.1 in
      ((h.0, r.0), r.1)
  handed_on (Fault (Header fault)) read s t k h =
      let r = folds s t (heard read) k h.1 in
      ((h.0, r.0), r.1)
  handed_on (Fault Memory) read s t k h =
      let r = folds s t (messages h.0) k h.3.1 in
      ((h.0, h.1, h.2, (h.3.0, r.0)), r.1)
  handed_on (Fault (Write written)) read s t k h = absurd h

  pub read_on : (end : ConnectionEnd) (turns : ℕ) (before after : Option (List ℕ)) (s t : S) → kept s → ReadsAndHands hands end turns before after s t
      → ReadsAndHands gives end turns before after (seen s) (seen t) × kept t
  read_on end turns before after s t k h =
      let r = handed_on end (concat h.0) s t k h.3 in
      ((h.0, h.1, h.2, r.0), r.1)
