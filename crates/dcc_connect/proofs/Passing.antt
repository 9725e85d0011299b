-- How passing messages on goes on.
use Rattle.std.proofs.Common.{◌≡◌, ℕ, List, [], ◌∷◌, ◌++◌, refl, sym, ap, ◌∙◌, subst, append_assoc, None, Some, Option, ◌⊎◌, inl, inr, Result, Ok, Err}
use Rattle.std.specs.List.{FoldsTo}
use Rattle.std.specs.Option.{option_map}
use Rattle.dcc_message.specs.Streams.{messages, rest, fault_at}
use Rattle.dcc_message.specs.declared.header.HeaderFault.{HeaderFault}
use Rattle.dcc_message.specs.declared.header.HeaderFault.TheVariants.{Length}
use Rattle.dcc_connect.specs.Streams.{fault_of_message, before_fault, first_fault, heard, stream_fault, PassesAll, PassesBefore, PassesUpTo}
use Rattle.std.specs.Result.{IsErrAnd}
use Rattle.dcc_connect.specs.declared.fault.ConnectFault.{ConnectFault}
use Rattle.dcc_connect.specs.declared.fault.ConnectFault.TheVariants.{Read, Write, TooManyTurns, Header, Memory}
use Rattle.dcc_connect.specs.declared.fault.ConnectionEnd.{ConnectionEnd}
use Rattle.dcc_connect.specs.declared.fault.ConnectionEnd.TheVariants.{Fault}
use Rattle.dcc_connect.specs.inner.Steps.{StreamLaws, AreSound, HasPassed, Nexts, HandsReady}

-- behind messages that are read the others decide
sound_before : (front more : List (List ℕ)) → AreSound front → before_fault (front ++ more) ≡ front ++ before_fault more
sound_before [] more h = refl
sound_before (m ∷ front) more h = let fine = h.0 in rw (before_fault, fine) (ap (λ ms. m ∷ ms) (sound_before front more h.1))

sound_first : (front more : List (List ℕ)) (behind : Option HeaderFault) → AreSound front → first_fault (front ++ more) behind ≡ first_fault more behind
sound_first [] more behind h = refl
sound_first (m ∷ front) more behind h = let fine = h.0 in rw (first_fault, fine) (sound_first front more behind h.1)

cases_Option : (o : Option HeaderFault) → ((f : HeaderFault) × (o ≡ Some f)) ⊎ (o ≡ None)
cases_Option None = inr refl
cases_Option (Some f) = inl (f, refl)

sound_of : (ms : List (List ℕ)) (behind : Option HeaderFault) → first_fault ms behind ≡ None → AreSound ms
sound_of [] behind h = tt
sound_of (m ∷ ms) behind h = elim (cases_Option (fault_of_message m)) [
  | inl e ↦ (let is = e.1 in let bad : Some e.0 ≡ None = rw (first_fault, is) at h in absurd cc)
  | inr fine ↦ (let later : first_fault ms behind ≡ None = rw (first_fault, fine) at h in (fine, sound_of ms behind later))
]

both_sound : (a b : List (List ℕ)) → AreSound a → AreSound b → AreSound (a ++ b)
both_sound [] b h k = k
both_sound (m ∷ a) b h k = (h.0, both_sound a b h.1 k)

heard_all : (ms : List (List ℕ)) → AreSound ms → before_fault ms ≡ ms
heard_all [] h = refl
heard_all (m ∷ ms) h = let fine = h.0 in rw (before_fault, fine) (ap (λ x. m ∷ x) (heard_all ms h.1))

module _ {S : Type 0} (R : S → List ℕ → S → Type 0) where
  folds : (a b : List (List ℕ)) (s t u : S) → FoldsTo R s a t → FoldsTo R t b u → FoldsTo R s (a ++ b) u
  folds [] b s t u p q = subst (λ x. FoldsTo R x b u) (sym p) q
  folds (m ∷ a) b s t u p q = (p.0, p.1, folds a b p.0 t u p.2 q)

  heard_over : (stream held : List ℕ) (s t : S) → (h : HasPassed R stream held s t) → heard stream ≡ h.front ++ heard held
  heard_over stream held s t h = ap before_fault h.others ∙ sound_before h.front (messages held) h.sound

  fault_over : (stream held : List ℕ) (s t : S) → HasPassed R stream held s t → stream_fault stream ≡ stream_fault held
  fault_over stream held s t h =
      ap (λ ms. first_fault ms (option_map Length (fault_at (rest stream)))) h.others
      ∙ ap (λ r. first_fault (h.front ++ messages held) (option_map Length (fault_at r))) h.left
      ∙ sound_first h.front (messages held) (option_map Length (fault_at (rest held))) h.sound

  pub pass_all : (stream held : List ℕ) (s t u : S) → HasPassed R stream held s t → PassesAll R held t u → PassesAll R stream s u
  pass_all stream held s t u h p =
      (fault_over stream held s t h ∙ p.0, subst (λ ms. FoldsTo R s ms u) (sym h.others) (folds h.front (messages held) s t u h.passed p.1))

  pub pass_before : (f : HeaderFault) (stream held : List ℕ) (s t u : S) → HasPassed R stream held s t → PassesBefore R f held t u → PassesBefore R f stream s u
  pass_before f stream held s t u h p =
      (fault_over stream held s t h ∙ p.0, subst (λ ms. FoldsTo R s ms u) (sym (heard_over stream held s t h)) (folds h.front (heard held) s t u h.passed p.1))

  pub pass_up_to : (L : S → List ℕ → S → Type 0) (stream held : List ℕ) (s t u : S) → HasPassed R stream held s t → PassesUpTo R L held t u → PassesUpTo R L stream s u
  pass_up_to L stream held s t u h p = (
    h.front ++ p.0,
    p.1,
    p.2,
    p.3,
    heard_over stream held s t h ∙ ap (λ ms. h.front ++ ms) p.4 ∙ sym (append_assoc h.front p.0 (p.1 ∷ p.2)),
    folds h.front p.0 s t p.3 h.passed p.5,
    p.6,
  )

  pub pass_on : (stream held now : List ℕ) (s t u : S) → HasPassed R stream held s t → HasPassed R held now t u → HasPassed R stream now s u
  pass_on stream held now s t u h k = record {
    front = h.front ++ k.front;
    sound = both_sound h.front k.front h.sound k.sound;
    others = h.others ∙ ap (λ ms. h.front ++ ms) k.others ∙ sym (append_assoc h.front k.front (messages now));
    left = h.left ∙ k.left;
    passed = folds h.front k.front s t u h.passed k.passed;
  }

  pub pass_none : (held : List ℕ) (s : S) → HasPassed R held held s s
  pass_none held s = record { front = []; sound = tt; others = refl; left = refl; passed = refl }

  pub pass_one : (held now m : List ℕ) (s t : S) → (fault_of_message m ≡ None) × (messages held ≡ m ∷ messages now) × (rest held ≡ rest now) → R s m t → HasPassed R held now s t
  pass_one held now m s t h r = record { front = m ∷ []; sound = (h.0, tt); others = h.1; left = h.2; passed = (t, r, refl) }

  pub all_none : (held : List ℕ) (s : S) → messages held ≡ [] → rest held ≡ held → fault_at held ≡ None → PassesAll R held s s
  all_none held s none left fine = (
    ap (λ ms. first_fault ms (option_map Length (fault_at (rest held)))) none ∙ ap (λ r. option_map Length (fault_at r)) left ∙ ap (option_map Length) fine,
    subst (λ ms. FoldsTo R s ms s) (sym none) refl,
  )

  pub before_none : (f : HeaderFault) (held : List ℕ) (s : S) → (heard held ≡ []) × (stream_fault held ≡ Some f) → PassesBefore R f held s s
  before_none f held s h = (h.1, subst (λ ms. FoldsTo R s ms s) (sym h.0) refl)

  pub last_one : (L : S → List ℕ → S → Type 0) (held now m : List ℕ) (s t : S) → (fault_of_message m ≡ None) × (messages held ≡ m ∷ messages now) × (rest held ≡ rest now)
      → L s m t → PassesUpTo R L held s t
  last_one L held now m s t h l =
      let fine = h.0 in
      let one : before_fault (m ∷ messages now) ≡ m ∷ heard now = rw (before_fault, fine) refl in
      ([], m, heard now, s, ap before_fault h.1 ∙ one, refl, l)

  -- a stream of which all was passed on grows by a piece
  pub grows : StreamLaws → (read held piece : List ℕ) (s t : S) → PassesAll R read s t → held ≡ rest read → HasPassed R (read ++ piece) (held ++ piece) s t
  grows laws read held piece s t p e = record {
    front = messages read;
    sound = sound_of (messages read) (option_map Length (fault_at (rest read))) p.0;
    others = laws.append read piece ∙ ap (λ r. messages read ++ messages (r ++ piece)) (sym e);
    left = laws.append_rest read piece ∙ ap (λ r. rest (r ++ piece)) (sym e);
    passed = p.1;
  }

  -- an end that was made of the fault of what is held
  pub hands_err : (L : S → List ℕ → S → Type 0) (r : Result (Unit {0}) ConnectionEnd) (f : ConnectFault) (stream held now : List ℕ) (s t : S)
      → HasPassed R stream held s t → Nexts (Err f) held now → IsErrAnd r (λ e. e ≡ Fault f) → HandsReady R L r stream now s t
  hands_err L (Ok done) f stream held now s t h p k = absurd k
  hands_err L (Err e) (Header f) stream held now s t h p k = rw k (pass_before f stream held s t t h (before_none f held t p))
  hands_err L (Err e) Read stream held now s t h p k = absurd p
  hands_err L (Err e) Memory stream held now s t h p k = absurd p
  hands_err L (Err e) TooManyTurns stream held now s t h p k = absurd p
  hands_err L (Err e) (Write w) stream held now s t h p k = absurd p
