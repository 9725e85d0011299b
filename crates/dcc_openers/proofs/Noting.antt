-- What is found after a write.
use Rattle.std.proofs.Common.{◌≡◌, ◌≤◌, ◌+◌, ℕ, Bool, true, false, ◌&&◌, cond, List, Option, Some, None, Result, Ok, Err, OnOk, refl, sym, ap, subst, ◌∙◌, inl, inr, bytes_eq, arith}
use Rattle.std.specs.Prelude.{unwrap_or}
use Rattle.std.specs.Option.{option_map_or}
use Rattle.std.proofs.lemmas.Bool.{cases_Bool}
use Rattle.std.proofs.lemmas.Slice.Eq.{bytes_eq-Decides}
use Rattle.dcc_act.specs.declared.sub.Sub.{Sub}
use Rattle.dcc_openers.specs.Found.{noted}
use Rattle.dcc_openers.specs.Names.{found_in}
use Rattle.dcc_openers.specs.Openers.{OpenersView, names_of, found_at, HasRoomFor, KeepsRoom}
use Rattle.dcc_openers.specs.declared.names.Names.{Names}
use Rattle.dcc_openers.specs.declared.found.Found.{Found}
use Rattle.dcc_openers.specs.declared.found.Found.TheVariants as found

same_octets : (a b : List ℕ) → bytes_eq a b ≡ true → a ≡ b
same_octets a b h = (bytes_eq-Decides a b).0 h

-- the host has these names now, and each other what it had
abbrev pub IsWritten : OpenersView → OpenersView → List ℕ → Names → Type 0
IsWritten old new host names = (h : List ℕ) → names_of new h ≡ cond (bytes_eq host h) (Some names) (names_of old h)

abbrev pub within : List ℕ → Option Names → Found
within sid names_found = option_map_or (λ (names : Names). found_in names.names sid) names_found found.None

either_names : (here : Bool) (names : Names) (old : Option Names) (sid : List ℕ) → within sid (cond here (Some names) old) ≡ cond here (found_in names.names sid) (within sid old)
either_names true names old sid = refl
either_names false names old sid = refl

after_write : (old new : OpenersView) (host : List ℕ) (names : Names) → IsWritten old new host names
    → (h s : List ℕ) → found_at new h s ≡ cond (bytes_eq host h) (found_in names.names s) (found_at old h s)
after_write old new host names written h s = ap (within s) (written h) ∙ either_names (bytes_eq host h) names (names_of old h) s

-- of the host itself what was found before is what its names had
pub found_before : (old : OpenersView) (host : List ℕ) (was : Names) → names_of old host ≡ Some was → (s : List ℕ) → found_at old host s ≡ found_in was.names s
found_before old host was is s = ap (within s) is

-- where the names are what they were, so is what is found
pub found_still : (old new : OpenersView) (host : List ℕ) (was names : Names) → names_of old host ≡ Some was → IsWritten old new host names → names.names ≡ was.names
    → (h s : List ℕ) → found_at new h s ≡ found_at old h s
found_still old new host was names is written same h s =
    elim (cases_Bool (bytes_eq host h)) [
      | inl t ↦
          let e = same_octets host h t in
          after_write old new host names written h s ∙ rw t (ap (λ (all : List (List ℕ × Found)). found_in all s) same ∙ sym (found_before old host was is s) ∙ ap (λ (x : List ℕ). found_at old x s) e)
      | inr f ↦ after_write old new host names written h s ∙ rw f refl
    ]

-- where one name was noted, so it is found
pub found_noted : (old new : OpenersView) (host sid : List ℕ) (sub : Sub) (was names : Names) → names_of old host ≡ Some was → IsWritten old new host names
    → ((s : List ℕ) → found_in names.names s ≡ cond (bytes_eq sid s) (noted (found_in was.names sid) sub) (found_in was.names s))
    → (h s : List ℕ) → found_at new h s ≡ cond (bytes_eq host h && bytes_eq sid s) (noted (found_at old host sid) sub) (found_at old h s)
found_noted old new host sid sub was names is written note h s =
    elim (cases_Bool (bytes_eq host h)) [
      | inl t ↦
          let e = same_octets host h t in
          let there : found_in was.names s ≡ found_at old h s = sym (found_before old host was is s) ∙ ap (λ (x : List ℕ). found_at old x s) e in
          after_write old new host names written h s
          ∙ rw t (note s ∙ ap (λ (o : Found). cond (bytes_eq sid s) (noted o sub) (found_in was.names s)) (sym (found_before old host was is sid))
          ∙ ap (λ (o : Found). cond (bytes_eq sid s) (noted (found_at old host sid) sub) o) there)
      | inr f ↦ after_write old new host names written h s ∙ rw f refl
    ]

-- there is room where names with room were written
pub room_written : (old new : OpenersView) (host : List ℕ) (number : ℕ) (names : Names) → IsWritten old new host names → number ≤ names.room → HasRoomFor new host number
room_written old new host number names written room =
    let own : bytes_eq host host ≡ true = (bytes_eq-Decides host host).1 refl in
    record { names = names; is = written host ∙ rw own refl; room = room }

-- the host itself lost this much room at most, and each other host has what it had
pub room_after : (old new : OpenersView) (host : List ℕ) (was names : Names) (lost : ℕ) → names_of old host ≡ Some was → IsWritten old new host names → was.room ≤ names.room + lost
    → (h : List ℕ) (had number : ℕ) → number + lost ≤ had → HasRoomFor old h had → HasRoomFor new h number
room_after old new host was names lost is written still h had number less there =
    elim (cases_Bool (bytes_eq host h)) [
      | inl t ↦
          let e : host ≡ h = same_octets host h t in
          let own : Some there.names ≡ Some was = sym there.is ∙ ap (names_of old) (sym e) ∙ is in
          let one : there.names ≡ was = cc in
          let room_is : there.names.room ≡ was.room = ap (λ (n : Names). n.room) one in
          let room = there.room in
          record { names = names; is = written h ∙ rw t refl; room = omega (arith, room_is, room, still, less) }
      | inr f ↦ record { names = there.names; is = written h ∙ rw f there.is; room = (let room = there.room in omega (arith, room, less)) }
    ]

-- what holds on success, where that is known
pub on_success : {X E : Type 0} (result : Result X E) (x : X) (P : Type 0) → result ≡ Ok x → OnOk result P → P
on_success {X} {E} result x P is h = let Q : Result X E → Type 0 = λ r. OnOk r P in subst Q is h

pub on_ok : {X E : Type 0} (result : Result X E) (P Q : Type 0) → (P → Q) → OnOk result P → OnOk result Q
on_ok (Ok x) P Q so h = so h
on_ok (Err e) P Q so h = h

pub either_found : (here : Bool) (one : Found) (old : Option Found) → unwrap_or (cond here (Some one) old) found.None ≡ cond here one (unwrap_or old found.None)
either_found true one old = refl
either_found false one old = refl
