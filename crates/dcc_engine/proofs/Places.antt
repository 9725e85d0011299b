-- Where a peer stands among the rows.
use Rattle.std.proofs.Common.{◌≡◌, ℕ, zero, suc, ◌<◌, ◌≤◌, false, ◌==◌, cond, List, [], ◌∷◌, length, get_or, set, Option, Some, None, refl, sym, ap, ◌∙◌, arith}
use Rattle.std.proofs.lemmas.Bool.{eq-eqb}
use Rattle.std.proofs.lemmas.Bool.Decides.{nat_tests}
use Rattle.dcc_base.specs.declared.peer.Peer.{Peer}
use Rattle.dcc_engine.specs.declared.peers.PeerRow.{PeerRow}
use Rattle.dcc_engine.specs.Engines.{peer_in}
use Rattle.dcc_engine.specs.inner.Rows.{IsAt}

-- no row of this peer stands before row i
abbrev pub NoneBefore : List PeerRow → ℕ → ℕ → Type 0
NoneBefore rows id i = (k : ℕ) (none : PeerRow) → k < i → ((get_or rows k none).id == id) ≡ false

tail_none : (row : PeerRow) (rows : List PeerRow) (id i : ℕ) → NoneBefore (row ∷ rows) id (suc i) → NoneBefore rows id i
tail_none row rows id i h k none lt = h (suc k) none (omega arith)

found_none : (rows : List PeerRow) (id : ℕ) → NoneBefore rows id (length rows) → peer_in rows id ≡ None
found_none [] id h = refl
found_none (row ∷ rows) id h = rw (h 0 row (omega arith)) (found_none rows id (tail_none row rows id (length rows) h))

pub is_absent : (rows : List PeerRow) (id i : ℕ) → length rows ≤ i → NoneBefore rows id i → peer_in rows id ≡ None
is_absent rows id i len h = found_none rows id (λ k none lt. h k none (omega arith))

changed_here : (row : PeerRow) (rest : Option Peer) (id q : ℕ) (given : Peer) → row.id ≡ id → cond (id == q) (Some given) rest ≡ cond (id == q) (Some given) (cond (row.id == q) (Some row.peer) rest)
changed_here row rest id q given is = grind (arith, nat_tests)

changed_later : (row : PeerRow) (rest then : Option Peer) (id q : ℕ) (given : Peer) → (row.id == id) ≡ false → then ≡ cond (id == q) (Some given) rest
    → cond (row.id == q) (Some row.peer) then ≡ cond (id == q) (Some given) (cond (row.id == q) (Some row.peer) rest)
changed_later row rest then id q given apart is = grind (arith, nat_tests)

pub is_at : (rows : List PeerRow) (id i : ℕ) (none : PeerRow) → i < length rows → NoneBefore rows id i → (get_or rows i none).id ≡ id → IsAt rows id i
is_at [] id i none lt before here = absurd (omega arith)
is_at (row ∷ rows) id zero none lt before here = record {
  within = lt;
  here = λ n. rw (eq-eqb row.id id here) refl;
  named = λ n. here;
  changed = λ given q. changed_here row (peer_in rows q) id q given here;
}
is_at (row ∷ rows) id (suc i) none lt before here =
    let later = is_at rows id i none (omega arith) (tail_none row rows id i before) here in
    let apart : (row.id == id) ≡ false = before 0 row (omega arith) in
    record {
      within = lt;
      here = λ n. rw apart (later.here n);
      named = λ n. later.named n;
      changed = λ given q. changed_later row (peer_in rows q) (peer_in (set rows i (record { id = id; peer = given })) q) id q given apart (later.changed given q);
    }

-- what is read where a peer stands, and who is there once it is written
pub there : (rows : List PeerRow) (id i : ℕ) (row : PeerRow) → IsAt rows id i → row ≡ get_or rows i row → peer_in rows id ≡ Some row.peer
there rows id i row at reads = at.here row ∙ ap (λ (r : PeerRow). Some r.peer) (sym reads)

pub written : (rows : List PeerRow) (id i : ℕ) (row : PeerRow) (to : Peer) → IsAt rows id i → row ≡ get_or rows i row
    → (q : ℕ) → peer_in (set rows i (record { id = row.id; peer = to })) q ≡ cond (id == q) (Some to) (peer_in rows q)
written rows id i row to at reads q =
    let named : row.id ≡ id = ap (λ (r : PeerRow). r.id) reads ∙ at.named row in
    ap (λ (n : ℕ). peer_in (set rows i (record { id = n; peer = to })) q) named ∙ at.changed to q
