-- The gateways of a place.
use Rattle.std.specs.Prelude.{◌≡◌, ℕ, Bool, true, false, List, [], map, Option, None}
use Rattle.std.specs.List.{FoldsTo, cons_option}
use Rattle.dcc_base.specs.declared.peer.Peer.TheVariants.{Wait}
use Rattle.dcc_connect.specs.declared.fault.ConnectionEnd.{ConnectionEnd}
use Rattle.dcc_connect.specs.declared.writing.WriteEnd.{WriteEnd}
use Rattle.dcc_dispatch.specs.Settings.{Setting}
use Rattle.dcc_rounds.specs.Counting.{with_answers}
use Rattle.dcc_rounds.specs.Handing.{IsSameReader, ReadsOut, reading_of}
use Rattle.dcc_rounds.specs.Lanes.{put_all}
use Rattle.dcc_rounds.specs.Writing.{WritesOut}
use Rattle.dcc_rounds.specs.declared.face.Connection.{Connection}
use Rattle.dcc_rounds.specs.declared.place.Place.{Place}
use Rattle.dcc_rounds.specs.declared.reader.Reader.{Reader}
use Rattle.dcc_rounds.specs.declared.work.Work.TheVariants as work

-- one gateway at a place: its connection, the connection after it was served, and the ends of its two sides
pub record Visit (I O : Type 0) : Type 0 where
  pub came : Connection I O
  pub input : I
  pub output : O
  pub read : ConnectionEnd
  pub written : WriteEnd

-- a place's reader begins with a new peer for each gateway
abbrev pub with_new_peer : Reader → Reader
with_new_peer reader = record reader { peer = Wait }

-- after its last gateway a reader reports once to each worker that it puts nothing more
abbrev pub Leaves : Reader → Reader → Type 0
Leaves old new =
    (reading_of new ≡ record (reading_of old) { asked = put_all work.Over (reading_of old).asked }) × IsSameReader old new

-- the gateways of a place: first the gateway that came before the round began, if there is one; others only if the place is taken again
abbrev pub AreComing : {A : Type 0} → Option A → Bool → List A → Type 0
AreComing {A} first stays came = (later : List A) × (came ≡ cons_option first later) × (stays ≡ false → later ≡ [])

module _ {I O C : Type 0} (remaining : I → Option (List ℕ)) (contents : O → Option (List ℕ)) (tells : C → ℕ → C → Type 0) (closed : Type 0) (clock : C) (setting : Setting)
    (count : ℕ) where
  -- a gateway was read from, by a peer of its own, and written to, until all that answer it had ended
  pub record IsVisit (old : Place I O) (visit : Visit I O) (new : Place I O) : Type 0 where
    pub reads : ReadsOut tells clock setting count visit.read (remaining visit.came.input) (remaining visit.input) (with_new_peer old.reader) new.reader
    pub writes : WritesOut visit.written old.from new.from (contents visit.came.output) (contents visit.output)
    pub answered : new.answers ≡ with_answers old.answers visit.written

  -- These gateways came one after another, each when the gateway before had gone. A place that is taken again has had its last gateway only if no
  -- more connections are taken in.
  pub record ServesEach (visits : List (Visit I O)) (old new : Place I O) : Type 0 where
    pub last : Place I O
    pub came : AreComing old.first old.stays (map (λ (visit : Visit I O). visit.came) visits)
    pub visited : FoldsTo IsVisit old visits last
    pub left : Leaves last.reader new.reader
    pub from : new.from ≡ last.from
    pub answers : new.answers ≡ last.answers
    pub ended : old.stays ≡ true → closed

  abbrev pub Serves : Place I O → Place I O → Type 0
  Serves old new = (visits : List (Visit I O)) × ServesEach visits old new
