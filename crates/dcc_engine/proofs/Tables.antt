-- One more peer, or one less.
use Rattle.std.proofs.Common.{◌≡◌, ℕ, false, not, ◌==◌, cond, List, [], ◌∷◌, ◌++◌, Option, Some, None, refl, ap, ◌∙◌, arith, inl, inr}
use Rattle.std.specs.Prelude.{filter}
use Rattle.std.proofs.lemmas.Bool.{cases_Bool, eq-eqb}
use Rattle.std.proofs.lemmas.Bool.Decides.{nat_tests}
use Rattle.dcc_base.specs.declared.peer.Peer.{Peer}
use Rattle.dcc_engine.specs.declared.peers.PeerRow.{PeerRow}
use Rattle.dcc_engine.specs.Engines.{peer_in}

pub peer_in-filter : (rows : List PeerRow) (id q : ℕ) → peer_in (filter (λ row. not (row.id == id)) rows) q ≡ cond (id == q) None (peer_in rows q)
peer_in-filter [] id q = grind (arith, nat_tests)
peer_in-filter (row ∷ rows) id q = grind (arith, nat_tests, peer_in-filter rows id q)

head_apart : (row : PeerRow) (rows : List PeerRow) (id : ℕ) → peer_in (row ∷ rows) id ≡ None → ((row.id == id) ≡ false) × (peer_in rows id ≡ None)
head_apart row rows id none = grind (arith, nat_tests)

pub peer_in-push : (rows : List PeerRow) (id q : ℕ) (peer : Peer) → peer_in rows id ≡ None → peer_in (rows ++ record { id = id; peer = peer } ∷ []) q ≡ cond (id == q) (Some peer) (peer_in rows q)
peer_in-push [] id q peer none = refl
peer_in-push (row ∷ rows) id q peer none =
    let apart = head_apart row rows id none in
    grind (arith, nat_tests, apart.0, peer_in-push rows id q peer apart.1)

pub peer_in-set : (old removed new : List PeerRow) (id : ℕ) (peer : Peer) → ((q : ℕ) → peer_in removed q ≡ cond (id == q) None (peer_in old q)) → new ≡ removed ++ record { id = id; peer = peer } ∷ []
    → (q : ℕ) → peer_in new q ≡ cond (id == q) (Some peer) (peer_in old q)
peer_in-set old removed new id peer gone new_is q =
    let none : peer_in removed id ≡ None = gone id ∙ rw (eq-eqb id id refl) refl in
    ap (λ (rows : List PeerRow). peer_in rows q) new_is ∙ peer_in-push removed id q peer none ∙ elim (cases_Bool (id == q)) [
      | inl t ↦ rw t refl
      | inr f ↦ ap (λ (rest : Option Peer). cond (id == q) (Some peer) rest) (gone q) ∙ rw f refl
    ]
